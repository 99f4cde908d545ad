-- The laws of a ring's places, of the layout, and of the control word as it reads.
-- Assumes nothing.
use Prim.Native.Nat.{ℕ, zero, suc, ◌+◌, ◌-◌, ◌*◌, ◌≤◌, ◌<◌}
use mathlib.Core.Path.{◌≡◌, refl, sym, ap, ◌∙◌}
use mathlib.Core.Logic.{⊎_elim}
use mathlib.Core.Bool.{Bool, true, false}
use mathlib.Core.List.{List, [], ◌∷◌}
use native.Mathlib.Nat.{le_refl, le_trans, le-add_right, add-zero, zero-add, eq-or-lt_of_le, le_of_suc-le-suc, mul-le-mul_right, suc-mul}
use native.Mathlib.Numerals.{add-one}
use native.Mathlib.Omega.{arith}
use borrow.Author.Tests.{ltb-true, ltb-false, eq-eqb, ne_eqb}
use lib.Dec.{ltb, leb, eqb}
use lib.ListN.{get_or}
use Rattle.laws.specs.All.{all}
use Rattle.std.specs.Prelude.{if◌then◌else◌}
use Rattle.laws.proofs.Choice.{by_if}
use Rattle.laws.proofs.Table.{both}
use Rattle.field.specs.Field.{Field, place as at, with_field, read, flag, digit, write, Fits, apart, all_apart}
use Rattle.field.specs.Settings.{◌:=◌, settings}
use Rattle.field.proofs.Laws.{field_lt, read_write, write_other, apart_sym}
use Rattle.field.proofs.Sets.{own}
use Rattle.fifo.specs.Control.{UINC, TXREQ, FRESET}
use Rattle.fifo.specs.Status.{TFNRFNIF, TFERFFIF, RXOVIF}
use Rattle.ring.specs.declared.ring.Fifo.{Fifo}
use Rattle.ring.specs.Ring.{sending, depth, place, claimed, taken, increased, controlled, emptied, fresh, sent, configured, commanded, turned}
use Rattle.ring.specs.Registers.{frozen_fields, copied, control, ready, edge, status}
use Rattle.ring.specs.Layout.{size, room, end, is_area, base, slot_at}
use Rattle.ring.specs.Laws.{slot_end, SlotsApart, FifosApart, InRam, Alike, Frozen, UincReads0, FresetReads0, SendTxreq, EnteringEmpties, UincInside, StatusBits}
use Rattle.ring.proofs.Quiet.{dropped, dropped_fit}

-- ---- the ring's places

pub by_place : (P : ℕ → Type 0) (d h k : ℕ) → (h + k < d → P (h + k)) → (d ≤ h + k → P (h + k - d)) → P (place d h k)
unfolding place
by_place P d h k f g = by_if P (ltb (h + k) d) (λ e. f (ltb-true _ _ e)) (λ e. g (ltb-false _ _ e))

-- a place is below every bound that the depth and the way there allow
pub place_below : (b d h k : ℕ) → d ≤ b → h + k < b + d → place d h k < b
place_below b d h k l s = by_place (λ p. p < b) d h k (λ a. omega arith) (λ a. omega arith)

module _ (d h : ℕ) (l : h < d) where
  pub place_lt : (k : ℕ) → k ≤ d → place d h k < d
  place_lt k m = place_below d d h k (le_refl d) (omega arith)

  -- going on from the next place is going one further
  pub place_next : (k : ℕ) → k < d → place d (place d h 1) k ≡ place d h (k + 1)
  place_next k m =
      by_place (λ r. place d (place d h 1) k ≡ r) d h (k + 1)
      (λ c. by_place (λ p. place d p k ≡ h + (k + 1)) d h 1
      (λ a. by_place (λ q. q ≡ h + (k + 1)) d (h + 1) k (λ b. omega arith) (λ b. omega arith))
      (λ a. by_place (λ q. q ≡ h + (k + 1)) d (h + 1 - d) k (λ b. omega arith) (λ b. omega arith)))
      (λ c. by_place (λ p. place d p k ≡ h + (k + 1) - d) d h 1
      (λ a. by_place (λ q. q ≡ h + (k + 1) - d) d (h + 1) k (λ b. omega arith) (λ b. omega arith))
      (λ a. by_place (λ q. q ≡ h + (k + 1) - d) d (h + 1 - d) k (λ b. omega arith) (λ b. omega arith)))

  -- no two of the ring's places are the same
  pub place_apart : (j k : ℕ) → j < d → k < d → (j ≡ k → ⊥) → place d h j ≡ place d h k → ⊥
  place_apart j k m n ne =
      by_place (λ p. p ≡ place d h k → ⊥) d h j
      (λ a. by_place (λ q. h + j ≡ q → ⊥) d h k (λ b e. omega arith) (λ b e. omega arith))
      (λ a. by_place (λ q. h + j - d ≡ q → ⊥) d h k (λ b e. omega arith) (λ b e. omega arith))

-- ---- the layout

module _ (q : Bool) (ws : List ℕ) where
  pub end_next : (n : ℕ) → end q ws (suc n) ≡ end q ws n + room (get_or ws (suc n) 0)
  unfolding end
  end_next n = refl

  pub end_plus : (n : ℕ) → end q ws (n + 1) ≡ end q ws n + room (get_or ws (n + 1) 0)
  end_plus n = rw add-one (end_next n)

  -- a FIFO's slots begin where those before it end
  base_fifo : (n : ℕ) → 1 ≤ n → base q ws n ≡ end q ws (n - 1)
  unfolding base
  base_fifo n h = rw (ne_eqb n 0 (λ e. omega arith))

  -- the slots of an area lie between its base and its end
  pub base_end : (n : ℕ) → is_area q n ≡ true → base q ws n + room (get_or ws n 0) ≡ end q ws n
  unfolding end base room
  base_end zero h = rw h (zero-add (room (get_or ws 0 0)))
  base_end (suc n) h =
      let e : suc n - 1 + 1 ≡ suc n = omega arith in
      rw (base_fifo (suc n) (omega arith)) (sym (rw e at (end_plus (suc n - 1))))

  pub end_mono : (i j : ℕ) → i ≤ j → end q ws i ≤ end q ws j
  unfolding end
  end_mono i zero h = let e : i ≡ 0 = omega arith in rw e (le_refl _)
  end_mono i (suc j) h =
      ⊎_elim (λ e. rw e (le_refl _)) (λ l. le_trans (end_mono i j (le_of_suc-le-suc l)) (le-add_right (end q ws j) _)) (eq-or-lt_of_le h)

  -- a slot ends where the next begins
  slot_next : (n k : ℕ) → slot_end q ws n k ≡ slot_at q ws n (k + 1)
  unfolding slot_at
  slot_next n k = let e : (k + 1) * size (get_or ws n 0) ≡ k * size (get_or ws n 0) + size (get_or ws n 0) = rw (add-one, suc-mul) in omega arith

  slot_mono : (n k l : ℕ) → k ≤ l → slot_at q ws n k ≤ slot_at q ws n l
  unfolding slot_at
  slot_mono n k l h = omega (arith, mul-le-mul_right (size (get_or ws n 0)) h)

  -- slot `depth` would begin where the FIFO ends
  slot_last : (n : ℕ) → is_area q n ≡ true → slot_at q ws n (depth (get_or ws n 0)) ≡ end q ws n
  unfolding slot_at room
  slot_last n h = base_end n h

pub slots_apart_lem : SlotsApart
slots_apart_lem q ws n k l h = rw (slot_next q ws n k) (slot_mono q ws n (k + 1) l (omega arith))

-- a slot ends within its FIFO
pub slot_within : (q : Bool) (ws : List ℕ) (n k : ℕ) → is_area q n ≡ true → k < depth (get_or ws n 0) → slot_end q ws n k ≤ end q ws n
slot_within q ws n k h l = rw (← slot_last q ws n h) (slots_apart_lem q ws n k (depth (get_or ws n 0)) l)

pub fifos_apart_lem : FifosApart
unfolding slot_at
fifos_apart_lem q ws i j k l h a b =
    rw (base_fifo q ws j (omega arith))
    (le_trans (slot_within q ws i k h b) (le_trans (end_mono q ws i (j - 1) (omega arith)) (le-add_right (end q ws (j - 1)) _)))

-- a FIFO's area is there
pub fifo_area : (q : Bool) (n : ℕ) → 1 ≤ n → is_area q n ≡ true
fifo_area q n h = rw (ne_eqb n 0 (λ e. omega arith))

pub in_ram_lem : InRam
in_ram_lem q ws n k fits h l b = le_trans (slot_within q ws n k h b) (le_trans (end_mono q ws n 31 l) fits)

-- ---- the control word as it reads

fit : (f : Field) (v : ℕ) → Fits f (read f v)
fit (at p k) v = field_lt v p k

-- a field that none of those copied touches reads as before
pub copied_off : (g : Field) (fs : List Field) (v w : ℕ) → all (apart g) fs ≡ true → read g (copied fs v w) ≡ read g w
copied_off g [] v w e = refl
copied_off g (f ∷ fs) v w e =
    let (a, b) = both (apart g f) (all (apart g) fs) e in
    copied_off g fs v (write f (read f v) w) b ∙ write_other f g (read f v) w (fit f v) (apart_sym g f a)

copied_alike : (fs : List Field) (v w : ℕ) → all_apart fs ≡ true → Alike fs (copied fs v w) v
copied_alike [] v w e = tt
copied_alike (f ∷ fs) v w e =
    let (a, b) = both (all (apart f) fs) (all_apart fs) e in
    (copied_off f fs v (write f (read f v) w) a ∙ read_write f (read f v) w (fit f v), copied_alike fs v (write f (read f v) w) b)

pub frozen_kept : Frozen
unfolding control
frozen_kept frozen f = copied_alike frozen_fields frozen f.control refl

-- a field that is not frozen reads as last written
pub control_off : (g : Field) (frozen : ℕ) (f : Fifo) → all (apart g) frozen_fields ≡ true → read g (control frozen f) ≡ read g f.control
unfolding control
control_off g frozen f e = copied_off g frozen_fields frozen f.control e

-- UINC's effect is on the ring alone
increased_control : (frozen : ℕ) (f : Fifo) → (increased frozen f).control ≡ f.control
unfolding increased claimed taken
increased_control frozen f =
    by_if (λ (g : Fifo). g.control ≡ f.control) (sending frozen)
    (λ e. by_if (λ (g : Fifo). g.control ≡ f.control) (ltb f.count (depth frozen)) (λ a. refl) (λ a. refl))
    (λ e. by_if (λ (g : Fifo). g.control ≡ f.control) (ltb 0 f.count) (λ a. refl) (λ a. refl))

-- after a write of w outside Configuration every field but TXREQ and those frozen reads so
commanded_off : (g : Field) (frozen w : ℕ) (f : Fifo) → all (apart g) frozen_fields ≡ true → apart TXREQ g ≡ true
    → read g (control frozen (commanded frozen w f)) ≡ read g (settings dropped w)
unfolding commanded emptied fresh controlled
commanded_off g frozen w f e d =
    let P : Fifo → Type 0 = λ x. read g x.control ≡ read g (settings dropped w) in
    let a : Fifo = controlled (settings dropped w) f in
    let b : P (if flag UINC w then increased frozen a else a) = by_if P (flag UINC w) (λ t. ap (read g) (increased_control frozen a)) (λ t. refl) in
    control_off g frozen (commanded frozen w f) e ∙ by_if P (flag FRESET w) (λ t. write_other TXREQ g 0 _ (omega arith) d ∙ b) (λ t. b)

pub uinc_reads_0 : UincReads0
unfolding configured controlled
uinc_reads_0 frozen w f = (
  control_off UINC frozen (configured w f) refl ∙ read_write UINC 0 w (omega arith),
  commanded_off UINC frozen w f refl refl ∙ own dropped w 0 refl dropped_fit (omega arith),
)

pub freset_reads_0 : FresetReads0
unfolding controlled
freset_reads_0 frozen w f = (
  commanded_off FRESET frozen w f refl refl ∙ own dropped w 1 refl dropped_fit (omega arith),
  control_off FRESET frozen (turned false f) refl ∙ read_write FRESET 0 f.control (omega arith),
)

-- ---- TXREQ and status bit 3

pub send_txreq_lem : SendTxreq
unfolding sent controlled taken
send_txreq_lem frozen f = record {
  last = λ e. rw (eq-eqb f.count 1 e) (control_off TXREQ frozen _ refl ∙ read_write TXREQ 0 f.control (omega arith));
  another = λ e. rw (ne_eqb f.count 1 e) (control_off TXREQ frozen _ refl ∙ sym (control_off TXREQ frozen f refl));
}

pub entering_empties_lem : EnteringEmpties
unfolding emptied fresh
entering_empties_lem frozen f = record {
  empty = refl;
  txreq = control_off TXREQ frozen (turned true f) refl ∙ read_write TXREQ 0 f.control (omega arith);
  overflow = refl;
}

pub uinc_inside_lem : UincInside
unfolding configured controlled
uinc_inside_lem w f = (refl, refl)

-- ---- the status word

-- three bits of a word that is 0 otherwise, by computing
three : (a b c : Bool) → settings (TFNRFNIF := digit a ∷ TFERFFIF := digit b ∷ RXOVIF := digit c ∷ []) 0 ≡ digit a + 4 * digit b + 8 * digit c
unfolding with_field
three true true true = refl
three true true false = refl
three true false true = refl
three true false false = refl
three false true true = refl
three false true false = refl
three false false true = refl
three false false false = refl

by_direction : (s a b c d o : Bool)
    → settings (TFNRFNIF := digit (if s then a else b) ∷ TFERFFIF := digit (if s then c else d) ∷ RXOVIF := digit (if s then false else o) ∷ []) 0
    ≡ (if s then digit a + 4 * digit c else digit b + 4 * digit d + 8 * digit o)
by_direction true a b c d o = three a c false ∙ add-zero (digit a + 4 * digit c)
by_direction false a b c d o = three b d o

pub status_bits_lem : StatusBits
unfolding status ready edge
status_bits_lem frozen f = by_direction (sending frozen) (ltb f.count (depth frozen)) (ltb 0 f.count) (eqb f.count 0) (leb (depth frozen) f.count) f.over
