-- The laws of the bus steps and of the messages held.
-- Assumes nothing.
use Prim.Native.Nat.{ℕ, zero, suc, ◌+◌, ◌-◌, ◌^◌, ◌≤◌, ◌<◌}
use mathlib.Core.Path.{◌≡◌, refl, sym, ap, ◌∙◌}
use mathlib.Core.Bool.{Bool, true, false, ◌&&◌, not}
use mathlib.Core.List.{List, [], ◌∷◌}
use native.Mathlib.Nat.{le_of_suc-le-suc, not-suc-le-zero}
use native.Mathlib.Omega.{arith}
use borrow.Author.Tests.{leb-true, ltb-true, ltb-false}
use lib.Dec.{leb, ltb, eqb}
use lib.ListN.{length, get_or, get_or-eq_default}
use lib.Seq.{get_or-set_same, ext_get_or}
use Rattle.std.specs.Prelude.{if◌then◌else◌}
use Rattle.laws.proofs.Choice.{by_if}
use Rattle.laws.proofs.Table.{both}
use Rattle.field.specs.Field.{flag}
use Rattle.fifo.specs.Control.{TXREQ, is_fifo}
use Rattle.spi.specs.declared.refusal.Refusal.{Refusal}
use Rattle.message.specs.Message.{Decoding, holds, short}
use Rattle.ring.specs.declared.ring.Fifo.{Fifo}
use Rattle.ring.specs.Ring.{sending, depth, place, taken, controlled, sent, fresh}
use Rattle.ring.proofs.Laws.{place_next}
use Rattle.state.specs.declared.Model.{Model}
use Rattle.state.specs.Model.{blank, fifo_at, frozen_at, with_fifo}
use Rattle.bus.specs.Held.{slot_of, item_at, row, held}
use Rattle.bus.specs.Bus.{nothing, refused, output_of, sends, send_output, send_model}
use Rattle.bus.specs.Numbers.{output_numbers}
use Rattle.bus.specs.Laws.{Quiet, NothingSent, OldestSent, taken_numbers, SendAnswers, RowLength, RowAt}

-- ---- rows

pub row_length_lem : RowLength
unfolding row
row_length_lem A f k zero = refl
row_length_lem A f k (suc n) = ap suc (row_length_lem A f (k + 1) n)

pub row_at_lem : RowAt
unfolding row
row_at_lem A f k zero i d h = absurd (not-suc-le-zero h)
row_at_lem A f k (suc n) zero d h = let e : k ≡ k + 0 = omega arith in ap f e
row_at_lem A f k (suc n) (suc i) d h = let e : k + 1 + i ≡ k + suc i = omega arith in row_at_lem A f (k + 1) n i d (le_of_suc-le-suc h) ∙ ap f e

-- the same entries, counted from one on
row_next : (A : Type 0) (f g : ℕ → A) (d : A) (n : ℕ) → ((i : ℕ) → i < n → g i ≡ f (i + 1)) → row f 0 (suc n) ≡ f 0 ∷ row g 0 n
unfolding row
row_next A f g d n h =
    ap (λ (l : List A). f 0 ∷ l)
    (ext_get_or d (row f 1 n) (row g 0 n) (row_length_lem A f 1 n ∙ sym (row_length_lem A g 0 n))
    (λ i b.
    let l : i < n = rw (row_length_lem A f 1 n) at b in
    let e : 1 + i ≡ i + 1 = omega arith in
    let z : i ≡ 0 + i = omega arith in
    row_at_lem A f 1 n i d l ∙ ap f e ∙ sym (h i l) ∙ ap g z ∙ sym (row_at_lem A g 0 n i d l)))

-- ---- send

-- a message taken is no quiet answer, whatever it was read as
pub quiet_if : (b : Bool) (x : Decoding) (y m : Model) → Quiet (if b then output_of x else nothing) → (if b then y else m) ≡ m
quiet_if true (holds x) y m q = absurd q
quiet_if true Decoding.no_frame y m q = absurd q
quiet_if true short y m q = absurd q
quiet_if false x y m q = refl

quiet : (a b : Bool) (x : Decoding) (y m : Model)
    → Quiet (if a then if b then output_of x else nothing else refused Refusal.BadNumber) → (if a && b then y else m) ≡ m
quiet true b x y m q = quiet_if b x y m q
quiet false b x y m q = refl

pub nothing_sent_lem : NothingSent
unfolding send_output send_model
nothing_sent_lem m n = quiet (is_fifo n) (sends m n) (item_at m n 0) _ m

pub taken_told : (x : Decoding) → output_numbers (output_of x) ≡ taken_numbers x
taken_told (holds x) = refl
taken_told Decoding.no_frame = refl
taken_told short = refl

answered : (a b : Bool) (x : Decoding)
    → output_numbers (if a then if b then output_of x else nothing else refused Refusal.BadNumber)
    ≡ (if not a then 20 ∷ [] else if not b then 0 ∷ 0 ∷ [] else taken_numbers x)
answered true true x = taken_told x
answered true false x = refl
answered false b x = refl

pub send_answers_lem : SendAnswers
unfolding send_output
send_answers_lem m n = answered (is_fifo n) (sends m n) (item_at m n 0)

pub sends_one : (m : Model) (n : ℕ) → sends m n ≡ true → 0 < (fifo_at m n).count
unfolding sends
sends_one m n e = ltb-true 0 (fifo_at m n).count (both (sending (frozen_at m n) && flag TXREQ (fifo_at m n).control) (ltb 0 (fifo_at m n).count) e).1

-- what both ways of a send do to the ring
sent_ring : (w : ℕ) (f : Fifo) → ((sent w f).head ≡ place (depth w) f.head 1) × ((sent w f).count ≡ f.count - 1)
unfolding sent controlled taken
sent_ring w f =
    by_if (λ (g : Fifo). (g.head ≡ place (depth w) f.head 1) × (g.count ≡ f.count - 1)) (eqb f.count 1) (λ e. (refl, refl)) (λ e. (refl, refl))

-- a FIFO that holds one is in the list
in_list : (m : Model) (n : ℕ) → 0 < (fifo_at m n).count → n < length m.fifo
unfolding fresh
in_list m n h = go (ltb n (length m.fifo)) refl
  where
    go : (b : Bool) → ltb n (length m.fifo) ≡ b → n < length m.fifo
    go true e = ltb-true n (length m.fifo) e
    go false e = absurd (not-suc-le-zero (rw (get_or-eq_default m.fifo blank {n = n} (ltb-false n (length m.fifo) e)) at h))

-- a FIFO's number has 8 bits
pub fifo_fits_lem : (n : ℕ) → is_fifo n ≡ true → n < 2 ^ 8
unfolding is_fifo
fifo_fits_lem n e = omega (arith, leb-true n 31 (both (leb 1 n) (leb n 31) e).1)

-- ---- the messages held

-- only a FIFO holds any
pub held_fifo : (m : Model) (n k : ℕ) → k < length (held m n) → is_fifo n ≡ true
unfolding held
held_fifo m n k = by_if (λ (l : List Decoding). k < length l → is_fifo n ≡ true) (is_fifo n) (λ e h. e) (λ e h. absurd (not-suc-le-zero h))

-- a FIFO holds as many as it counts
pub held_length : (m : Model) (n : ℕ) → is_fifo n ≡ true → length (held m n) ≡ (fifo_at m n).count
unfolding held
held_length m n i = rw i (row_length_lem Decoding (λ k. item_at m n k) 0 (fifo_at m n).count)

-- entry k of those held is what stands k places behind the oldest
pub held_at : (m : Model) (n k : ℕ) → k < length (held m n) → get_or (held m n) k short ≡ item_at m n k
unfolding held
held_at m n k =
    by_if (λ (l : List Decoding). k < length l → get_or l k short ≡ item_at m n k) (is_fifo n)
    (λ e h. row_at_lem Decoding (λ i. item_at m n i) 0 (fifo_at m n).count k short (rw (row_length_lem Decoding (λ i. item_at m n i) 0 (fifo_at m n).count) at h) ∙ ap (item_at m n) (omega arith))
    (λ e h. absurd (not-suc-le-zero h))

module _ (m : Model) (n : ℕ) (s : sends m n ≡ true) where
  abbrev f : Fifo
  f = fifo_at m n

  abbrev w : ℕ
  w = frozen_at m n

  abbrev next : Model
  next = with_fifo m n (sent w f)

  -- the FIFO after the send
  next_fifo : fifo_at next n ≡ sent w f
  next_fifo = get_or-set_same m.fifo n (sent w f) blank (in_list m n (sends_one m n s))

  next_item : (k : ℕ) → f.head < depth w → k < depth w → item_at next n k ≡ item_at m n (k + 1)
  unfolding item_at slot_of
  next_item k h l =
      let e : place (depth w) (fifo_at next n).head k ≡ place (depth w) f.head (k + 1)
      = rw (next_fifo, (sent_ring w f).0) (place_next (depth w) f.head h k l) in
      rw e

  next_held : is_fifo n ≡ true → f.head < depth w → f.count ≤ depth w → held m n ≡ item_at m n 0 ∷ held next n
  unfolding held
  next_held i h c =
      let p = sends_one m n s in
      let k : f.count ≡ suc (f.count - 1) = omega arith in
      let r = row_next Decoding (λ j. item_at m n j) (λ j. item_at next n j) short (f.count - 1) (λ j l. next_item j h (omega arith)) in
      let q : (fifo_at next n).count ≡ f.count - 1 = ap (λ (g : Fifo). g.count) next_fifo ∙ (sent_ring w f).1 in
      rw i (ap (row (λ j. item_at m n j) 0) k ∙ r ∙ ap (λ (x : ℕ). item_at m n 0 ∷ row (λ j. item_at next n j) 0 x) (sym q))

pub oldest_sent_lem : OldestSent
unfolding send_model
oldest_sent_lem m n i s h c = rw (i, s) (next_held m n s i h c)
