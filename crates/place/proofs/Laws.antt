-- Where the registers stand.
-- Assumes nothing.
use mathlib.Core.Path.{◌≡◌, refl, ap, sym, subst, ◌∙◌}
use mathlib.Core.Bool.{Bool, true, false, not, ◌||◌, false≢true}
use mathlib.Core.List.{List, [], ◌∷◌}
use Prim.Native.Nat.{ℕ, ◌+◌, ◌-◌, ◌*◌, ◌/◌, ◌%◌, ◌^◌, ◌≤◌, ◌<◌}
use native.Mathlib.Omega.{arith}
use lib.Dec.{eqb, ltb}
use borrow.Author.Tests.{lt-ltb, le-ltb, ltb-true, ltb-false, eqb-true, ne_eqb}
use Rattle.std.specs.Prelude.{is_some, Option, Some}
use Rattle.laws.specs.All.{all}
use Rattle.laws.proofs.Table.{both, every, at}
use Rattle.laws.proofs.Choice.{by_if}
use Rattle.fifo.specs.Control.{CiFIFOCON}
use Rattle.fifo.specs.Status.{CiFIFOSTA}
use Rattle.fifo.specs.UserAddress.{CiFIFOUA}
use Rattle.filter.specs.Control.{CiFLTCON}
use Rattle.filter.specs.Object.{CiFLTOBJ}
use Rattle.filter.specs.Mask.{CiMASK}
use Rattle.registers.specs.Registers.{kinds, addresses_of}
use Rattle.place.specs.declared.Register.{Register}
use Rattle.place.specs.Place.{of_fifo, of_filter, single, register_at, is_carried}
use Rattle.place.specs.Laws.{Carried, among, Exactly, Short, Laws}

-- word k of FIFO n's registers
fifo_at_lem : (a n k : ℕ) → a ≡ 0x050 + 12 * n + 4 * k → 1 ≤ n → n ≤ 31 → k < 3 → register_at a ≡ Some (of_fifo n k)
unfolding register_at
fifo_at_lem a n k q l h j =
    let e : (a - 0x050) / 12 ≡ n = omega arith in
    let f : (a - 0x050) % 12 / 4 ≡ k = omega arith in
    simp (le-ltb 0 (a % 4) (omega arith), le-ltb a 0x05C (omega arith), lt-ltb a 0x1D0 (omega arith), e, f)

control_at_lem : (a k : ℕ) → a ≡ 0x1D0 + 4 * k → k ≤ 7 → register_at a ≡ Some (Register.Filter k)
unfolding register_at
control_at_lem a k q h =
    let e : (a - 0x1D0) / 4 ≡ k = omega arith in
    simp (le-ltb 0 (a % 4) (omega arith), le-ltb a 0x05C (omega arith), le-ltb a 0x1D0 (omega arith), lt-ltb a 0x1F0 (omega arith), e)

-- word k of filter m's registers
filter_at : (a m k : ℕ) → a ≡ 0x1F0 + 8 * m + 4 * k → m ≤ 31 → k < 2 → register_at a ≡ Some (of_filter m k)
unfolding register_at
filter_at a m k q h j =
    let e : (a - 0x1F0) / 8 ≡ m = omega arith in
    let f : (a - 0x1F0) % 8 / 4 ≡ k = omega arith in
    simp (le-ltb 0 (a % 4) (omega arith), le-ltb a 0x05C (omega arith), le-ltb a 0x1D0 (omega arith), le-ltb a 0x1F0 (omega arith), lt-ltb a 0x2F0 (omega arith), e, f)

pub all_carried_lem : Carried
unfolding register_at single
all_carried_lem = record {
  control = λ n l h. fifo_at_lem (CiFIFOCON.address n) n 0 (omega arith) l h (omega arith);
  status = λ n l h. fifo_at_lem (CiFIFOSTA.address n) n 1 (omega arith) l h (omega arith);
  user_address = λ n l h. fifo_at_lem (CiFIFOUA.address n) n 2 (omega arith) l h (omega arith);
  filter = λ k l h. control_at_lem (CiFLTCON.address k) k (omega arith) h;
  object = λ m l h. filter_at (CiFLTOBJ.address m) m 0 (omega arith) h (omega arith);
  mask = λ m l h. filter_at (CiMASK.address m) m 1 (omega arith) h (omega arith);
  con = refl;
  osc = refl;
  nominal = refl;
  data_phase = refl;
  delay = refl;
  stamp = refl;
  interrupt = refl;
  queue_control = refl;
  queue_status = refl;
  queue_address = refl;
  pins = refl;
}

abbrev listed : ℕ → Bool
listed k = not (is_some (register_at (4 * k))) || among (addresses_of kinds) (4 * k)

-- of the addresses that are multiples of 4, those carried are in the table, by computing
multiples : every listed 1024 ≡ true
unfolding kinds register_at single
multiples = refl

-- those in the table are carried, by computing
all_listed : all (λ x. is_some (register_at x)) (addresses_of kinds) ≡ true
unfolding kinds register_at single
all_listed = refl

of_all : (P : ℕ → Bool) (xs : List ℕ) → all P xs ≡ true → (a : ℕ) → among xs a ≡ true → P a ≡ true
of_all P [] e a h = cc
of_all P (x ∷ xs) e a h = go (of_all P xs (both (P x) (all P xs) e).1 a) (eqb a x) refl
  where
    go : (among xs a ≡ true → P a ≡ true) → (b : Bool) → eqb a x ≡ b → P a ≡ true
    go rest true q = subst (λ (y : ℕ). P y ≡ true) (sym (eqb-true a x q)) (both (P x) (all P xs) e).0
    go rest false q = rest (rw q at h)

meets : (b c : Bool) → (not b || c) ≡ true → (c ≡ true → b ≡ true) → b ≡ c
meets true c e f = sym e
meets false true e f = f refl
meets false false e f = refl

-- the table has no other addresses
aligned : all (λ x. eqb (x % 4) 0) (addresses_of kinds) ≡ true
unfolding kinds
aligned = refl

off : (xs : List ℕ) → all (λ x. eqb (x % 4) 0) xs ≡ true → (a : ℕ) → 0 < a % 4 → among xs a ≡ false
off [] e a h = refl
off (x ∷ xs) e a h =
    let (f, g) = both (eqb (x % 4) 0) (all (λ y. eqb (y % 4) 0) xs) e in
    let m = eqb-true (x % 4) 0 f in
    simp (ne_eqb a x (λ q. omega (arith, ap (λ (y : ℕ). y % 4) q)), off xs g a h)

-- below 0x1000
low : (a : ℕ) → a < 2 ^ 12 → is_some (register_at a) ≡ among (addresses_of kinds) a
unfolding register_at
low a h = go (ltb 0 (a % 4)) refl
  where
    go : (b : Bool) → ltb 0 (a % 4) ≡ b → is_some (register_at a) ≡ among (addresses_of kinds) a
    go true e = simp (e, off (addresses_of kinds) aligned a (ltb-true 0 (a % 4) e))
    go false e =
        let l = ltb-false 0 (a % 4) e in
        let q : 4 * (a / 4) ≡ a = omega arith in
        subst (λ (x : ℕ). is_some (register_at x) ≡ among (addresses_of kinds) x) q
        (meets (is_some (register_at (4 * (a / 4)))) (among (addresses_of kinds) (4 * (a / 4))) (at listed 1024 multiples (a / 4) (omega arith))
        (of_all (λ x. is_some (register_at x)) (addresses_of kinds) all_listed (4 * (a / 4))))

-- behind the filters only OSC and IOCON are
pub behind_filters : (a : ℕ) → 0x2F0 ≤ a → (a ≡ 0xE00 → ⊥) → (a ≡ 0xE04 → ⊥) → is_some (register_at a) ≡ false
unfolding register_at single
behind_filters a h m n =
    by_if (λ (p : Option Register). is_some p ≡ false) (ltb 0 (a % 4)) (λ e. refl)
    (λ e.
    simp (
      le-ltb a 0x05C (omega arith),
      le-ltb a 0x1D0 (omega arith),
      le-ltb a 0x1F0 (omega arith),
      le-ltb a 0x2F0 (omega arith),
      ne_eqb a 0x000 (λ q. omega arith),
      ne_eqb a 0x004 (λ q. omega arith),
      ne_eqb a 0x008 (λ q. omega arith),
      ne_eqb a 0x00C (λ q. omega arith),
      ne_eqb a 0x014 (λ q. omega arith),
      ne_eqb a 0x01C (λ q. omega arith),
      ne_eqb a 0x050 (λ q. omega arith),
      ne_eqb a 0x054 (λ q. omega arith),
      ne_eqb a 0x058 (λ q. omega arith),
      ne_eqb a 0xE00 m,
      ne_eqb a 0xE04 n,
    ))

-- so from 0x1000 on nothing is carried
above : (a : ℕ) → 2 ^ 12 ≤ a → is_some (register_at a) ≡ false
above a h = behind_filters a (omega arith) (λ q. omega arith) (λ q. omega arith)

-- nor is it in the table, by computing
narrow : all (λ x. ltb x 0x1000) (addresses_of kinds) ≡ true
unfolding kinds
narrow = refl

unlisted : (xs : List ℕ) → all (λ x. ltb x 0x1000) xs ≡ true → (a : ℕ) → 2 ^ 12 ≤ a → among xs a ≡ false
unlisted [] e a h = refl
unlisted (x ∷ xs) e a h =
    let (f, g) = both (ltb x 0x1000) (all (λ y. ltb y 0x1000) xs) e in
    let m = ltb-true x 0x1000 f in
    simp (ne_eqb a x (λ q. omega arith), unlisted xs g a h)

pub exactly : Exactly
unfolding is_carried
exactly a = go (ltb a 0x1000) refl
  where
    go : (b : Bool) → ltb a 0x1000 ≡ b → is_some (register_at a) ≡ among (addresses_of kinds) a
    go true e = low a (ltb-true a 0x1000 e)
    go false e = let h = ltb-false a 0x1000 e in above a h ∙ sym (unlisted (addresses_of kinds) narrow a h)

pub short : Short
unfolding is_carried
short a e = go (ltb a 0x1000) refl
  where
    go : (b : Bool) → ltb a 0x1000 ≡ b → a < 2 ^ 12
    go true q = ltb-true a 0x1000 q
    go false q = absurd (false≢true (sym (above a (ltb-false a 0x1000 q)) ∙ e))

pub laws : Laws
laws = record { carried = all_carried_lem; exactly = exactly; short = short }
