-- What writing a register changes, and what it leaves.
-- Assumes nothing.
use mathlib.Core.Path.{◌≡◌, refl, sym, ap, subst, ◌∙◌}
use mathlib.Core.Bool.{true, false, not, ◌&&◌}
use mathlib.Core.List.{List, [], ◌∷◌}
use Prim.Native.Nat.{ℕ, zero, suc, ◌^◌, ◌≤◌, ◌<◌}
use native.Mathlib.Omega.{arith}
use lib.Dec.{eqb, leb}
use lib.ListN.{get_or, set}
use borrow.Author.Tests.{leb-true, eqb-true, not-false}
use Rattle.std.specs.Prelude.{if◌then◌else◌}
use Rattle.laws.proofs.Choice.{by_if}
use Rattle.laws.proofs.Table.{both}
use Rattle.field.specs.Field.{Field, read, flag, digit, write, apart}
use Rattle.field.proofs.Laws.{field_lt, read_write, write_other, digit_lt}
use Rattle.configuration.specs.CanControl.{OPMOD, REQOP, TXQEN, STEF}
use Rattle.chip.specs.OscillatorControl.{PLLEN, PLLRDY}
use Rattle.fifo.specs.Status.{RXOVIF}
use Rattle.place.specs.declared.Register.{Register}
use Rattle.ring.specs.Ring.{configured}
use Rattle.ring.specs.Layout.{end}
use Rattle.ring.proofs.Laws.{in_ram_lem, uinc_inside_lem as configured_ring}
use Rattle.state.specs.declared.Fixed.{Fixed}
use Rattle.state.specs.declared.Model.{Model}
use Rattle.state.specs.Model.{blank, fifo_at}
use Rattle.bank.specs.declared.writing.Written.{Written}
use Rattle.bank.specs.Registers.{mode_of, word_of, queue_after, granted, con_set, settled, denied, turned_all, con_written, control_written, status_written, queue_written, register_written}
use Rattle.bank.specs.Laws.{FrozenOutside, Laid, Leaving, OpmodShows, ModeTaken, Silent, UincInside, PllrdyFollows}

-- CiCON's write changes no control word, and takes TXQEN by the mode that it finds
pub con_fixed : (m : Model) (w : ℕ) → ((con_written m w).model.fixed.frozen ≡ m.fixed.frozen) × ((con_written m w).model.fixed.queue ≡ queue_after m.fixed w)
unfolding con_written
con_fixed m w =
    let P : Written → Type 0 = λ x. (x.model.fixed.frozen ≡ m.fixed.frozen) × (x.model.fixed.queue ≡ queue_after m.fixed w) in
    by_if P (m.fixed.configuring && not (eqb (read REQOP w) 4) && not (granted m.fixed w)) (λ d. (refl, refl))
    (λ d. by_if P (eqb (read REQOP w) 4) (λ e. by_if P m.fixed.configuring (λ c. (refl, refl)) (λ c. (refl, refl)))
    (λ e. by_if P m.fixed.configuring (λ c. (refl, refl)) (λ c. (refl, refl))))

-- outside Configuration no write changes either
pub fixed_outside : (m : Model) (r : Register) (w : ℕ) → m.fixed.configuring ≡ false
    → ((register_written m r w).model.fixed.frozen ≡ m.fixed.frozen) × ((register_written m r w).model.fixed.queue ≡ m.fixed.queue)
unfolding register_written control_written status_written queue_written
fixed_outside m Register.Con w c = ((con_fixed m w).0, (con_fixed m w).1 ∙ rw c)
fixed_outside m Register.Osc w c = (refl, refl)
fixed_outside m (Register.Plain k) w c = (refl, refl)
fixed_outside m (Register.Filter k) w c = (refl, refl)
fixed_outside m (Register.Object k) w c = (refl, refl)
fixed_outside m (Register.Mask k) w c = (refl, refl)
fixed_outside m (Register.Control n) w c = rw c (refl, refl)
fixed_outside m (Register.Status n) w c =
    by_if (λ (x : Model). (x.fixed.frozen ≡ m.fixed.frozen) × (x.fixed.queue ≡ m.fixed.queue)) (flag RXOVIF w) (λ e. (refl, refl)) (λ e. (refl, refl))
fixed_outside m (Register.Address n) w c = (refl, refl)
fixed_outside m Register.QueueControl w c = rw c (refl, refl)
fixed_outside m Register.QueueStatus w c = (refl, refl)
fixed_outside m Register.QueueAddress w c = (refl, refl)

pub frozen_outside_lem : FrozenOutside
frozen_outside_lem m r w c = (fixed_outside m r w c).0

-- what a grant tells
pub granted_fits : (x : Fixed) (w : ℕ) → granted x w ≡ true → end (flag TXQEN w) x.frozen 31 ≤ 2048
unfolding granted
granted_fits x w e = leb-true _ _ (both (not (flag STEF w)) (leb (end (flag TXQEN w) x.frozen 31) 2048) e).1

-- the write that leaves
left_is : (m : Model) (w : ℕ) → m.fixed.configuring ≡ true → eqb (read REQOP w) 4 ≡ false
    → con_written m w ≡ (if not (granted m.fixed w) then denied (con_set m w true) else settled (con_set (turned_all false m) w false))
unfolding con_written
left_is m w c e = rw (e, c)

pub leaving : Leaving
leaving m w c e =
    let P : Written → Type 0 = λ x.
    (x.granted ≡ true → x.model.fixed.configuring ≡ false) × (x.granted ≡ true → Laid x.model.fixed.queue x.model.fixed.frozen)
    × (x.granted ≡ false → x.model ≡ con_set m w true)
    in
    let p =
    subst P (sym (left_is m w c e))
    (by_if P (not (granted m.fixed w))
    (λ g. (λ t. cc, λ t n k. let z : ◌≡◌ {A = ℕ} 0 1 = cc in absurd (omega (arith, z)), λ t. refl))
    (λ g. (λ t. refl, λ t n k. rw c (in_ram_lem (flag TXQEN w) m.fixed.frozen n k (granted_fits m.fixed w (not-false (granted m.fixed w) g))), λ t. cc)))
    in
    record { outside = p.0; laid = p.1; denied = p.2 }

-- ---- the mode

-- a mode has three bits
pub mode_fits : (m : Model) → mode_of m < 2 ^ 3
unfolding mode_of
mode_fits m = by_if (λ (n : ℕ). n < 2 ^ 3) m.fixed.configuring (λ e. omega arith) (λ e. field_lt m.setup.con 24 3)

-- a field of CiCON that is not TXQEN reads as if this were not shown
txqen_off : (m : Model) (f : Field) → apart TXQEN f ≡ true → read f (word_of m Register.Con) ≡ read f (write OPMOD (mode_of m) m.setup.con)
unfolding word_of
txqen_off m f e = write_other TXQEN f (digit m.fixed.queue) (write OPMOD (mode_of m) m.setup.con) (digit_lt m.fixed.queue) e

pub opmod_is : (m : Model) → read OPMOD (word_of m Register.Con) ≡ mode_of m
opmod_is m = txqen_off m OPMOD refl ∙ read_write OPMOD (mode_of m) m.setup.con (mode_fits m)

pub opmod_shows_lem : OpmodShows
unfolding mode_of
opmod_shows_lem m =
    opmod_is m
    ∙ ap (λ (n : ℕ). if m.fixed.configuring then 4 else n)
    (sym (txqen_off m REQOP refl ∙ write_other OPMOD REQOP (mode_of m) m.setup.con (mode_fits m) refl))

-- the mode that a write of w leaves
abbrev Takes : ℕ → Written → Type 0
Takes w x = mode_of x.model ≡ (if x.granted then read REQOP w else 4)

takes : (m : Model) (w : ℕ) → Takes w (con_written m w)
unfolding con_written mode_of
takes m w =
    let P : Written → Type 0 = Takes w in
    by_if P (m.fixed.configuring && not (eqb (read REQOP w) 4) && not (granted m.fixed w)) (λ d. refl)
    (λ d. by_if P (eqb (read REQOP w) 4)
    (λ e. let f = sym (eqb-true (read REQOP w) 4 e) in by_if P m.fixed.configuring (λ c. f) (λ c. f))
    (λ e. by_if P m.fixed.configuring (λ c. refl) (λ c. refl)))

pub mode_taken_lem : ModeTaken
mode_taken_lem m w = opmod_is (con_written m w).model ∙ takes m w

pub silent : Silent
unfolding word_of
silent m c n = rw c (refl, refl)

-- one entry of a list becomes another that is like it
at_set_like : {A B : Type 0} (g : A → B) (l : List A) (n : ℕ) (x d : A) → g x ≡ g (get_or l n d) → (k : ℕ) → g (get_or (set l n x) k d) ≡ g (get_or l k d)
at_set_like g [] n x d e k = refl
at_set_like g (y ∷ l) zero x d e zero = e
at_set_like g (y ∷ l) zero x d e (suc k) = refl
at_set_like g (y ∷ l) (suc n) x d e zero = refl
at_set_like g (y ∷ l) (suc n) x d e (suc k) = at_set_like g l n x d e k

pub uinc_inside_lem : UincInside
unfolding register_written control_written
uinc_inside_lem m c n w k =
    let e = configured_ring w (fifo_at m n) in
    rw c (at_set_like (λ f. f.head) m.fifo n (configured w (fifo_at m n)) blank e.0 k, at_set_like (λ f. f.count) m.fifo n (configured w (fifo_at m n)) blank e.1 k)

-- ---- the oscillator

pub pllrdy_follows_lem : PllrdyFollows
unfolding word_of
pllrdy_follows_lem m =
    let o = m.setup.osc in
    read_write PLLRDY (read PLLEN o) o (field_lt o 0 1) ∙ sym (write_other PLLRDY PLLEN (read PLLEN o) o (field_lt o 0 1) refl)
