-- Modes other than Configuration act alike, and RTREN has no effect.
-- Assumes nothing.
use Prim.Native.Nat.{ℕ}
use mathlib.Core.Path.{◌≡◌, refl, sym, ap, ap₂, subst, ◌∙◌}
use mathlib.Core.Bool.{Bool, true, false, ◌&&◌, ◌||◌}
use mathlib.Core.List.{List, [], ◌∷◌}
use native.Mathlib.Omega.{arith}
use borrow.Author.Tests.{eqb-true, ne_eqb}
use lib.Dec.{eqb}
use Rattle.laws.specs.All.{all}
use Rattle.std.specs.Prelude.{if◌then◌else◌}
use Rattle.laws.proofs.Table.{both}
use Rattle.field.specs.Field.{Field, place, read, write, digit, Fits, apart}
use Rattle.field.proofs.Laws.{field_lt, read_write, write_other}
use Rattle.configuration.specs.CanControl.{DNCNT, OPMOD, REQOP, TXQEN, STEF}
use Rattle.fifo.specs.Control.{RXTSEN, TXEN, UINC, TXREQ, FRESET, FSIZE, PLSIZE}
use Rattle.place.specs.declared.Register.{Register}
use Rattle.ring.specs.Registers.{frozen_fields, copied}
use Rattle.ring.specs.Laws.{Alike}
use Rattle.state.specs.declared.Model.{Model}
use Rattle.bank.specs.Registers.{mode_of, word_of, register_written}
use Rattle.bank.proofs.Laws.{mode_fits}
use Rattle.reach.specs.Twins.{IsCon, con_others, ButMode, ModeAsked, ModesAlike, IsControl, control_others, ButRtren, RtrenWritten, RtrenIdle}
use Rattle.reach.proofs.Same.{Blind, same_self, con_like, control_written_lem, control_read, outputs_like, queue_outputs, delivers_like, sorted_like, happens_like, exchanges_like}

-- ---- words that are alike in some fields

alike_self : (fs : List Field) (w : ℕ) → Alike fs w w
alike_self [] w = tt
alike_self (f ∷ fs) w = (refl, alike_self fs w)

abbrev equal : Field → Field → Bool
equal (place p k) (place q j) = eqb p q && eqb k j

equal_is : (f g : Field) → equal f g ≡ true → f ≡ g
equal_is (place p k) (place q j) e = let (a, b) = both (eqb p q) (eqb k j) e in ap₂ place (eqb-true p q a) (eqb-true k j b)

-- one of the fields
abbrev among : Field → List Field → Bool
among g [] = false
among g (f ∷ fs) = equal f g || among g fs

alike_at : (g : Field) (fs : List Field) (v w : ℕ) → among g fs ≡ true → Alike fs v w → read g v ≡ read g w
alike_at g [] v w e a = cc
alike_at g (f ∷ fs) v w e a = go (λ q. alike_at g fs v w q a.1) (equal f g) refl e
  where
    go : (among g fs ≡ true → read g v ≡ read g w) → (b : Bool) → equal f g ≡ b → (b || among g fs) ≡ true → read g v ≡ read g w
    go rest true s q = subst (λ (h : Field). read h v ≡ read h w) (equal_is f g s) a.0
    go rest false s q = rest q

-- a field that is one of them or shares no bit with any, set to the same
alike_set : (g : Field) (fs : List Field) (x y v w : ℕ) → all (λ f. equal f g || apart g f) fs ≡ true → x ≡ y → Fits g x → Alike fs v w
    → Alike fs (write g x v) (write g y w)
alike_set g [] x y v w e s h a = tt
alike_set g (f ∷ fs) x y v w e s h a =
    let (b, c) = both (equal f g || apart g f) (all (λ f. equal f g || apart g f) fs) e in
    (go (equal f g) refl b, alike_set g fs x y v w c s h a.1)
  where
    k : Fits g y
    k = subst (Fits g) s h

    go : (b : Bool) → equal f g ≡ b → (b || apart g f) ≡ true → read f (write g x v) ≡ read f (write g y w)
    go true q t = rw (equal_is f g q) (read_write g x v h ∙ s ∙ sym (read_write g y w k))
    go false q t = write_other g f x v h t ∙ a.0 ∙ sym (write_other g f y w k t)

-- a field that shares no bit with any of them, set to anything
alike_off : (g : Field) (fs : List Field) (x y v w : ℕ) → all (apart g) fs ≡ true → Fits g x → Fits g y → Alike fs v w → Alike fs (write g x v) (write g y w)
alike_off g [] x y v w e h k a = tt
alike_off g (f ∷ fs) x y v w e h k a =
    let (b, c) = both (apart g f) (all (apart g) fs) e in
    (write_other g f x v h b ∙ a.0 ∙ sym (write_other g f y w k b), alike_off g fs x y v w c h k a.1)

digit_fits : (b : Bool) → Fits TXQEN (digit b)
digit_fits true = omega arith
digit_fits false = omega arith

-- ---- the modes

words_blind : Blind (λ v w. v ≡ w)
words_blind = record {
  same = λ w. refl;
  rxtsen = λ v w. ap (read RXTSEN);
  txen = λ v w. ap (read TXEN);
  fsize = λ v w. ap (read FSIZE);
  plsize = λ v w. ap (read PLSIZE);
  uinc = λ v w. ap (read UINC);
  txreq = λ v w. ap (read TXREQ);
  freset = λ v w. ap (read FRESET);
  no_uinc = λ v w. ap (write UINC 0);
  no_txreq = λ v w. ap (write TXREQ 0);
  no_freset = λ v w. ap (write FRESET 0);
  control = λ v w x y. ap₂ (copied frozen_fields);
}

pub mode_asked_lem : ModeAsked
mode_asked_lem m v w e f a =
    let W : ℕ → ℕ → Type 0 = λ x y. x ≡ y in
    (con_like W words_blind (Alike con_others) (alike_self con_others) m m (same_self W words_blind (Alike con_others) (alike_self con_others) m) v w a
    (ne_eqb (read REQOP v) 4 e ∙ sym (ne_eqb (read REQOP w) 4 f))
    (ap (λ (x : ℕ). eqb x 1) (alike_at TXQEN con_others v w refl a)) (ap (λ (x : ℕ). eqb x 1) (alike_at STEF con_others v w refl a))).1

con_reads : (c d : Model) → ButMode c d → Alike con_others (word_of c Register.Con) (word_of d Register.Con)
unfolding word_of
con_reads c d b =
    alike_set TXQEN con_others _ _ _ _ refl (ap digit b.on) (digit_fits c.fixed.queue)
    (alike_off OPMOD con_others (mode_of c) (mode_of d) _ _ refl (mode_fits c) (mode_fits d) b.con)

pub modes_alike_lem : ModesAlike
modes_alike_lem c d b =
    let C : ℕ → ℕ → Type 0 = Alike con_others in
    let W : ℕ → ℕ → Type 0 = λ v w. v ≡ w in
    let k = alike_self con_others in
    record {
      exchanges = exchanges_like W words_blind C k c d b IsCon (λ n. absurd (n tt)) (λ n h. control_read W words_blind C k c d b n);
      words = λ r i. go r i;
      sends = outputs_like W words_blind C k c d b;
      sends_queue = queue_outputs W words_blind C k c d b;
      delivers = λ n header dlc time payload. (delivers_like W words_blind C k c d b n header dlc time payload).0;
      sorts = sorted_like W words_blind C k c d b (alike_at DNCNT con_others c.setup.con d.setup.con refl b.con);
      after = happens_like W words_blind C k c d b (alike_at DNCNT con_others c.setup.con d.setup.con refl b.con);
    }
  where
    go : (r : Register) → IsCon r → Alike con_others (word_of c r) (word_of d r)
    go Register.Con i = con_reads c d b
    go Register.Osc i = absurd i
    go (Register.Plain k) i = absurd i
    go (Register.Filter k) i = absurd i
    go (Register.Object k) i = absurd i
    go (Register.Mask k) i = absurd i
    go (Register.Control n) i = absurd i
    go (Register.Status n) i = absurd i
    go (Register.Address n) i = absurd i
    go Register.QueueControl i = absurd i
    go Register.QueueStatus i = absurd i
    go Register.QueueAddress i = absurd i

-- ---- RTREN

-- the fields that only Configuration changes, taken over from words that are alike
control_blind : (v w x y : ℕ) → Alike control_others v w → Alike control_others x y → Alike control_others (copied frozen_fields v x) (copied frozen_fields w y)
control_blind v w x y a b =
    alike_set PLSIZE control_others _ _ _ _ refl (alike_at PLSIZE control_others v w refl a) (field_lt v 29 3)
    (alike_set FSIZE control_others _ _ _ _ refl (alike_at FSIZE control_others v w refl a) (field_lt v 24 5)
    (alike_set TXEN control_others _ _ _ _ refl (alike_at TXEN control_others v w refl a) (field_lt v 7 1)
    (alike_set RXTSEN control_others _ _ x y refl (alike_at RXTSEN control_others v w refl a) (field_lt v 5 1) b)))

rtren_blind : Blind (Alike control_others)
rtren_blind = record {
  same = alike_self control_others;
  rxtsen = λ v w. alike_at RXTSEN control_others v w refl;
  txen = λ v w. alike_at TXEN control_others v w refl;
  fsize = λ v w. alike_at FSIZE control_others v w refl;
  plsize = λ v w. alike_at PLSIZE control_others v w refl;
  uinc = λ v w. alike_at UINC control_others v w refl;
  txreq = λ v w. alike_at TXREQ control_others v w refl;
  freset = λ v w. alike_at FRESET control_others v w refl;
  no_uinc = λ v w. alike_set UINC control_others 0 0 v w refl refl (omega arith);
  no_txreq = λ v w. alike_set TXREQ control_others 0 0 v w refl refl (omega arith);
  no_freset = λ v w. alike_set FRESET control_others 0 0 v w refl refl (omega arith);
  control = control_blind;
}

pub rtren_written_lem : RtrenWritten
unfolding register_written
rtren_written_lem m n v w a =
    let C : ℕ → ℕ → Type 0 = λ x y. x ≡ y in
    let k : (x : ℕ) → C x x = λ x. refl in
    control_written_lem (Alike control_others) rtren_blind C k m m (same_self (Alike control_others) rtren_blind C k m) n v w a

con_same : (c d : Model) → ButRtren c d → word_of c Register.Con ≡ word_of d Register.Con
unfolding word_of mode_of
con_same c d b =
    ap₂ (λ (q : Bool) (x : ℕ). write TXQEN (digit q) x) b.on
    (ap₂ (λ (i : Bool) (w : ℕ). write OPMOD (if i then 4 else read REQOP w) w) b.configuring b.con)

pub rtren_idle_lem : RtrenIdle
rtren_idle_lem c d b =
    let C : ℕ → ℕ → Type 0 = λ v w. v ≡ w in
    let W : ℕ → ℕ → Type 0 = Alike control_others in
    let k : (x : ℕ) → C x x = λ x. refl in
    record {
      exchanges = exchanges_like W rtren_blind C k c d b IsControl (λ n. con_same c d b) (λ n h. absurd (h tt));
      words = λ r i. go r i;
      sends = outputs_like W rtren_blind C k c d b;
      sends_queue = queue_outputs W rtren_blind C k c d b;
      delivers = λ n header dlc time payload. (delivers_like W rtren_blind C k c d b n header dlc time payload).0;
      sorts = sorted_like W rtren_blind C k c d b (ap (read DNCNT) b.con);
      after = happens_like W rtren_blind C k c d b (ap (read DNCNT) b.con);
    }
  where
    go : (r : Register) → IsControl r → Alike control_others (word_of c r) (word_of d r)
    go Register.Con i = absurd i
    go Register.Osc i = absurd i
    go (Register.Plain k) i = absurd i
    go (Register.Filter k) i = absurd i
    go (Register.Object k) i = absurd i
    go (Register.Mask k) i = absurd i
    go (Register.Control n) i = control_read (Alike control_others) rtren_blind (λ v w. v ≡ w) (λ x. refl) c d b n
    go (Register.Status n) i = absurd i
    go (Register.Address n) i = absurd i
    go Register.QueueControl i = absurd i
    go Register.QueueStatus i = absurd i
    go Register.QueueAddress i = absurd i
