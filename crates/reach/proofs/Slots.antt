-- The slots of a chip in order: where they lie, and what each change of the chip does to the messages held.
-- Assumes nothing.
use Prim.Native.Nat.{ℕ, zero, suc, ◌+◌, ◌-◌, ◌≤◌, ◌<◌}
use mathlib.Core.Path.{◌≡◌, refl, sym, ap, ap₂, subst, ◌∙◌}
use mathlib.Core.Bool.{Bool, true, false}
use mathlib.Core.List.{List, [], ◌∷◌, ◌++◌, append-nil}
use native.Mathlib.Nat.{lt_of_not-le, add-zero, zero-add}
use native.Mathlib.Decide.{ℕ_discrete, dec_le}
use native.Mathlib.Omega.{arith}
use lib.ListN.{length, take}
use lib.Seq.{get_or-set_same, get_or-set_other}
use lib.Dec.{leb, eqb}
use borrow.Author.Tests.{leb-true, eq-eqb, ne_eqb}
use Rattle.std.specs.Prelude.{if◌then◌else◌}
use Rattle.laws.proofs.Table.{both}
use Rattle.parts.specs.Parts.{part, put}
use Rattle.field.specs.Field.{read}
use Rattle.fifo.specs.Control.{TXREQ, is_fifo}
use Rattle.message.specs.Message.{Message, Decoding, holds, decoding}
use Rattle.ring.specs.declared.ring.Fifo.{Fifo}
use Rattle.ring.specs.Ring.{sending, depth, place}
use Rattle.ring.specs.Layout.{stamped, size, is_area}
use Rattle.ring.proofs.Laws.{place_lt, place_next, place_apart, slots_apart_lem, fifo_area, fifos_apart_lem, in_ram_lem}
use Rattle.state.specs.declared.Setup.{Setup}
use Rattle.state.specs.declared.Model.{Model}
use Rattle.state.specs.Model.{blank, fifo_at, frozen_at, with_setup, with_fifo, written}
use Rattle.bus.specs.Held.{slot_of, item_at, row, held}
use Rattle.reach.proofs.Sound.{Sound, Asked}
use Rattle.reach.proofs.Bytes.{length_put, put_inside, part_before, part_behind, part_same}

-- ---- numbers

-- one order or the other
pub split {ℓ} : {X : Type ℓ} (a b : ℕ) → (a < b → X) → (b ≤ a → X) → X
split a b f g = elim (dec_le b a) [ yes h ↦ g h | no h ↦ f (lt_of_not-le h) ]

-- two numbers are equal or not
pub same? {ℓ} : {X : Type ℓ} (a b : ℕ) → (a ≡ b → X) → ((a ≡ b → ⊥) → X) → X
same? a b f g = elim (ℕ_discrete a b) [ yes e ↦ f e | no h ↦ g h ]

-- FIFO n is one of 1 to 31
pub fifo_told : (n : ℕ) → is_fifo n ≡ true → (1 ≤ n) × (n ≤ 31)
unfolding is_fifo
fifo_told n h = let (least, most) = both (leb 1 n) (leb n 31) h in (leb-true 1 n least, leb-true n 31 most)

-- and its area is there
pub area_told : (c : Model) (n : ℕ) → is_fifo n ≡ true → is_area c.fixed.queue n ≡ true
area_told c n h = fifo_area c.fixed.queue n (fifo_told n h).0

-- ---- rows

module _ (A : Type 0) where
  pub row_ext : (f g : ℕ → A) (k n : ℕ) → ((i : ℕ) → k ≤ i → i < k + n → f i ≡ g i) → row f k n ≡ row g k n
  unfolding row
  row_ext f g k zero h = refl
  row_ext f g k (suc n) h = ap₂ ◌∷◌ (h k (omega arith) (omega arith)) (row_ext f g (k + 1) n (λ i a b. h i (omega arith) (omega arith)))

  -- the same entries, counted from one on
  pub row_shift : (f : ℕ → A) (k n : ℕ) → row f (k + 1) n ≡ row (λ i. f (i + 1)) k n
  unfolding row
  row_shift f k zero = refl
  row_shift f k (suc n) = ap (λ (l : List A). f (k + 1) ∷ l) (row_shift f (k + 1) n)

  -- the last entry
  pub row_snoc : (f : ℕ → A) (k n : ℕ) → row f k (suc n) ≡ row f k n ++ (f (k + n) ∷ [])
  unfolding row
  row_snoc f k zero = rw (add-zero k)
  row_snoc f k (suc n) =
      let e : k + 1 + n ≡ k + suc n = omega arith in
      ap (λ (l : List A). f k ∷ l) (row_snoc f (k + 1) n ∙ ap (λ (x : ℕ). row f (k + 1) n ++ (f x ∷ [])) e)

-- ---- what the messages held depend on

-- the bytes that c has in the slot k places behind its oldest of FIFO j stand there in d too
abbrev pub SlotStays : (c d : Model) (j k : ℕ) → Type 0
SlotStays c d j k = part d.ram (slot_of c j k) (size (frozen_at c j)) ≡ part c.ram (slot_of c j k) (size (frozen_at c j))

module _ (c d : Model) (j : ℕ) (fixed : d.fixed ≡ c.fixed) where
  pub slot_like : (k : ℕ) → (fifo_at d j).head ≡ (fifo_at c j).head → slot_of d j k ≡ slot_of c j k
  unfolding slot_of
  slot_like k e = rw (fixed, e)

  -- slots at the same place with the same bytes
  pub item_like : (k l : ℕ) → slot_of d j l ≡ slot_of c j k → SlotStays c d j k → item_at d j l ≡ item_at c j k
  unfolding item_at
  item_like k l p e = rw (p, fixed, e)

  -- the layout, the ring and the bytes of the slots held
  pub held_like : (fifo_at d j).head ≡ (fifo_at c j).head → (fifo_at d j).count ≡ (fifo_at c j).count
      → (is_fifo j ≡ true → (k : ℕ) → k < (fifo_at c j).count → SlotStays c d j k) → held d j ≡ held c j
  unfolding held
  held_like eh ec b = go (is_fifo j) b
    where
      go : (i : Bool) → (i ≡ true → (k : ℕ) → k < (fifo_at c j).count → SlotStays c d j k)
          → (if i then row (λ k. item_at d j k) 0 (fifo_at d j).count else []) ≡ (if i then row (λ k. item_at c j k) 0 (fifo_at c j).count else [])
      go true b =
          ap (row (λ k. item_at d j k) 0) ec
          ∙ row_ext Decoding (λ k. item_at d j k) (λ k. item_at c j k) 0 (fifo_at c j).count
          (λ k x y. item_like k k (slot_like k eh) (b refl k (omega arith)))
      go false b = refl

-- what only holds as written does not matter
pub setup_held : (c : Model) (x : Setup) (j : ℕ) → held (with_setup c x) j ≡ held c j
setup_held c x j = held_like c (with_setup c x) j refl refl refl (λ i k l. refl)

-- ---- where slots lie

pub data Apart (a n b m : ℕ) : Type 0 where
  before : a + n ≤ b → Apart a n b m
  behind : b + m ≤ a → Apart a n b m

module _ (c : Model) (s : Sound c) where
  pub ram_long : length c.ram ≡ 2048
  ram_long = s.valid.ram

  -- the slot of the ring k places behind FIFO n's oldest
  abbrev ring : (n k : ℕ) → ℕ
  ring n k = place (depth (frozen_at c n)) (fifo_at c n).head k

  ring_lt : (n k : ℕ) → k ≤ depth (frozen_at c n) → ring n k < depth (frozen_at c n)
  ring_lt n k g = place_lt (depth (frozen_at c n)) (fifo_at c n).head (s.valid.fifo n).head k g

  pub slot_inside : (n k : ℕ) → is_fifo n ≡ true → k ≤ depth (frozen_at c n) → slot_of c n k + size (frozen_at c n) ≤ 2048
  unfolding slot_of
  slot_inside n k h g = in_ram_lem c.fixed.queue c.fixed.frozen n (ring n k) (s.valid.layout s.out) (area_told c n h) (fifo_told n h).1 (ring_lt n k g)

  other_fifo : (i j k l : ℕ) → is_fifo i ≡ true → is_fifo j ≡ true → (i ≡ j → ⊥) → k ≤ depth (frozen_at c i) → l ≤ depth (frozen_at c j)
      → Apart (slot_of c i k) (size (frozen_at c i)) (slot_of c j l) (size (frozen_at c j))
  unfolding slot_of
  other_fifo i j k l hi hj ne gk gl =
      split i j
      (λ lo. before (fifos_apart_lem c.fixed.queue c.fixed.frozen i j (ring i k) (ring j l) (area_told c i hi) lo (ring_lt i k gk)))
      (λ ge. behind (fifos_apart_lem c.fixed.queue c.fixed.frozen j i (ring j l) (ring i k) (area_told c j hj) (omega arith) (ring_lt j l gl)))

  same_fifo : (n k l : ℕ) → k < depth (frozen_at c n) → l < depth (frozen_at c n) → (k ≡ l → ⊥)
      → Apart (slot_of c n k) (size (frozen_at c n)) (slot_of c n l) (size (frozen_at c n))
  unfolding slot_of
  same_fifo n k l kd ld ne =
      let two : ring n k ≡ ring n l → ⊥ = place_apart (depth (frozen_at c n)) (fifo_at c n).head (s.valid.fifo n).head k l kd ld ne in
      split (ring n k) (ring n l)
      (λ lo. before (slots_apart_lem c.fixed.queue c.fixed.frozen n (ring n k) (ring n l) lo))
      (λ ge. behind (slots_apart_lem c.fixed.queue c.fixed.frozen n (ring n l) (ring n k) (omega arith)))

  -- two slots of the rings, not the same
  pub slots_off : (i j k l : ℕ) → is_fifo i ≡ true → is_fifo j ≡ true → k < depth (frozen_at c i) → l < depth (frozen_at c j) → (i ≡ j → k ≡ l → ⊥)
      → Apart (slot_of c i k) (size (frozen_at c i)) (slot_of c j l) (size (frozen_at c j))
  slots_off i j k l hi hj kd ld ne =
      same? i j
      (λ e. let kd' : k < depth (frozen_at c j) = rw e at kd in rw e (same_fifo j k l kd' ld (ne e)))
      (λ o. other_fifo i j k l hi hj o (omega arith) (omega arith))

-- a write inside one place leaves what is read at a place apart from it
pub frame : (l bs : List ℕ) (a m b n : ℕ) → Apart b n a m → length bs ≤ m → a + m ≤ length l → part (take (length l) (put l a bs)) b n ≡ part l b n
frame l bs a m b n o k j =
    let fits : a + length bs ≤ length l = omega arith in
    ap (λ (r : List ℕ). part r b n) (put_inside l a bs fits) ∙ go fits o
  where
    go : a + length bs ≤ length l → Apart b n a m → part (put l a bs) b n ≡ part l b n
    go f (before h) = part_before l a bs f b n h
    go f (behind h) = part_behind l a bs f b n (omega arith)

-- ---- a write into the free slot of FIFO n

abbrev pub filled : Model → ℕ → List ℕ → Model
filled c n bs = written c (slot_of c n (fifo_at c n).count) bs

module _ (c : Model) (s : Sound c) (n : ℕ) (h : is_fifo n ≡ true) (free : (fifo_at c n).count < depth (frozen_at c n)) (bs : List ℕ) (fits : length bs ≤ size (frozen_at c n)) where
  free_inside : slot_of c n (fifo_at c n).count + size (frozen_at c n) ≤ length c.ram
  free_inside = omega (arith, slot_inside c s n (fifo_at c n).count h (omega arith), ram_long c s)

  -- every other slot stays
  pub filled_part_lem : (j k : ℕ) → is_fifo j ≡ true → k < depth (frozen_at c j) → (j ≡ n → k ≡ (fifo_at c n).count → ⊥) → SlotStays c (filled c n bs) j k
  filled_part_lem j k hj kd ne =
      frame c.ram bs (slot_of c n (fifo_at c n).count) (size (frozen_at c n)) (slot_of c j k) (size (frozen_at c j))
      (slots_off c s j n k (fifo_at c n).count hj h kd free ne) fits free_inside

  pub filled_held : (j : ℕ) → held (filled c n bs) j ≡ held c j
  filled_held j =
      held_like c (filled c n bs) j refl refl refl
      (λ i k l. filled_part_lem j k i (omega (arith, (s.valid.fifo j).count)) (λ e g. let l' : k < (fifo_at c n).count = rw e at l in omega arith))

  -- what is written into the free slot is what it decodes to
  pub filled_item : (m : Message) → ((r : List ℕ) → decoding (sending (frozen_at c n)) (stamped (frozen_at c n)) (bs ++ r) ≡ holds m)
      → item_at (filled c n bs) n (fifo_at c n).count ≡ holds m
  unfolding item_at slot_of
  filled_item m back =
      let inside : slot_of c n (fifo_at c n).count + length bs ≤ length c.ram = omega (arith, free_inside) in
      ap (λ (r : List ℕ). decoding (sending (frozen_at c n)) (stamped (frozen_at c n)) (part r (slot_of c n (fifo_at c n).count) (size (frozen_at c n))))
      (put_inside c.ram (slot_of c n (fifo_at c n).count) bs inside)
      ∙ ap (decoding (sending (frozen_at c n)) (stamped (frozen_at c n))) (part_same c.ram (slot_of c n (fifo_at c n).count) bs inside (size (frozen_at c n)) fits)
      ∙ back _

  pub filled_sound : Sound (filled c n bs)
  filled_sound =
      let v = s.valid in
      let e : length (filled c n bs).ram ≡ length c.ram
      = ap length (put_inside c.ram (slot_of c n (fifo_at c n).count) bs (omega (arith, free_inside)))
      ∙ length_put c.ram (slot_of c n (fifo_at c n).count) bs (omega (arith, free_inside)) in
      record { valid = record { frozens = v.frozens; fifos = v.fifos; ram = e ∙ v.ram; setup = v.setup; fifo = v.fifo; layout = v.layout; queue = v.queue; mode = v.mode }; out = s.out }

-- ---- FIFO n becomes g

module _ (c : Model) (s : Sound c) (n : ℕ) (h : is_fifo n ≡ true) (g : Fifo) where
  abbrev next : Model
  next = with_fifo c n g

  pub next_fifo : fifo_at next n ≡ g
  next_fifo = get_or-set_same c.fifo n g blank (omega (arith, s.valid.fifos, (fifo_told n h).1))

  pub next_other : (j : ℕ) → (j ≡ n → ⊥) → fifo_at next j ≡ fifo_at c j
  next_other j ne = get_or-set_other c.fifo n j g blank ne

  pub next_head : (fifo_at next n).head ≡ g.head
  next_head = ap (λ (f : Fifo). f.head) next_fifo

  pub next_count : (fifo_at next n).count ≡ g.count
  next_count = ap (λ (f : Fifo). f.count) next_fifo

  pub other_head : (j : ℕ) → (j ≡ n → ⊥) → (fifo_at next j).head ≡ (fifo_at c j).head
  other_head j ne = ap (λ (f : Fifo). f.head) (next_other j ne)

  pub other_count : (j : ℕ) → (j ≡ n → ⊥) → (fifo_at next j).count ≡ (fifo_at c j).count
  other_count j ne = ap (λ (f : Fifo). f.count) (next_other j ne)

  pub next_asked : (X : ℕ → Type 0) → Asked X c → (X n → read TXREQ g.control ≡ 1) → Asked X next
  next_asked X a x j y =
      same? j n
      (λ e. ap (λ (k : ℕ). read TXREQ (fifo_at next k).control) e ∙ ap (λ (f : Fifo). read TXREQ f.control) next_fifo ∙ x (subst X e y))
      (λ ne. ap (λ (f : Fifo). read TXREQ f.control) (next_other j ne) ∙ a j y)

  -- another FIFO
  pub other_held : (j : ℕ) → (j ≡ n → ⊥) → held next j ≡ held c j
  other_held j ne =
      held_like c next j refl (other_head j ne) (other_count j ne) (λ i k l. refl)

  -- the ring stays
  module _ (eh : g.head ≡ (fifo_at c n).head) (ec : g.count ≡ (fifo_at c n).count) where
    pub kept_head : (j : ℕ) → (fifo_at next j).head ≡ (fifo_at c j).head
    kept_head j = same? j n (λ e. rw e (next_head ∙ eh)) (other_head j)

    pub kept_count : (j : ℕ) → (fifo_at next j).count ≡ (fifo_at c j).count
    kept_count j = same? j n (λ e. rw e (next_count ∙ ec)) (other_count j)

    pub kept_held : (j : ℕ) → held next j ≡ held c j
    kept_held j = held_like c next j refl (kept_head j) (kept_count j) (λ i k l. refl)

  -- one more is held
  module _ (eh : g.head ≡ (fifo_at c n).head) (ec : g.count ≡ (fifo_at c n).count + 1) where
    more_count : (fifo_at next n).count ≡ suc (fifo_at c n).count
    more_count = omega (arith, next_count, ec)

    more_own : held next n ≡ held c n ++ (item_at c n (fifo_at c n).count ∷ [])
    unfolding held
    more_own =
        let same : (k : ℕ) → item_at next n k ≡ item_at c n k
        = λ k. item_like c next n refl k k (slot_like c next n refl k (next_head ∙ eh)) refl in
        rw h (ap (row (λ k. item_at next n k) 0) more_count
        ∙ row_ext Decoding (λ k. item_at next n k) (λ k. item_at c n k) 0 (suc (fifo_at c n).count) (λ k a b. same k)
        ∙ row_snoc Decoding (λ k. item_at c n k) 0 (fifo_at c n).count
        ∙ ap (λ (x : ℕ). row (λ k. item_at c n k) 0 (fifo_at c n).count ++ (item_at c n x ∷ [])) (zero-add (fifo_at c n).count))

    pub more_held : (j : ℕ) → held c j ++ (if eqb n j then item_at c n (fifo_at c n).count ∷ [] else []) ≡ held next j
    more_held j =
        same? j n
        (λ e. rw (eq-eqb n j (sym e), e) (sym more_own))
        (λ ne. rw (ne_eqb n j (λ e. ne (sym e)), other_held j ne) (append-nil (held c j)))

  -- the oldest is taken
  module _ (eh : g.head ≡ place (depth (frozen_at c n)) (fifo_at c n).head 1) (ec : g.count ≡ (fifo_at c n).count - 1) where
    pub less_count : (fifo_at next n).count ≡ (fifo_at c n).count - 1
    less_count = next_count ∙ ec

    -- all places are one nearer
    pub less_slot : (k : ℕ) → k < depth (frozen_at c n) → slot_of next n k ≡ slot_of c n (k + 1)
    unfolding slot_of
    less_slot k l =
        let e : place (depth (frozen_at c n)) (fifo_at next n).head k ≡ place (depth (frozen_at c n)) (fifo_at c n).head (k + 1)
        = rw (next_head, eh) (place_next (depth (frozen_at c n)) (fifo_at c n).head (s.valid.fifo n).head k l) in
        rw e

    module _ (some : 0 < (fifo_at c n).count) where
      pub less_own : held c n ≡ item_at c n 0 ∷ held next n
      unfolding held row
      less_own =
          let more : (fifo_at c n).count ≡ suc ((fifo_at c n).count - 1) = omega arith in
          rw h (ap (row (λ k. item_at c n k) 0) more
          ∙ ap (λ (l : List Decoding). item_at c n 0 ∷ l)
          (row_shift Decoding (λ k. item_at c n k) 0 ((fifo_at c n).count - 1)
          ∙ row_ext Decoding (λ k. item_at c n (k + 1)) (λ k. item_at next n k) 0 ((fifo_at c n).count - 1)
          (λ k a b. sym (item_like c next n refl (k + 1) k (less_slot k (omega (arith, (s.valid.fifo n).count))) refl))
          ∙ ap (row (λ k. item_at next n k) 0) (sym less_count)))

      pub less_held : (j : ℕ) → held c j ≡ (if eqb n j then item_at c n 0 ∷ [] else []) ++ held next j
      less_held j =
          same? j n
          (λ e. rw (eq-eqb n j (sym e), e) less_own)
          (λ ne. rw (ne_eqb n j (λ e. ne (sym e))) (sym (other_held j ne)))
