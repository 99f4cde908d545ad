-- How a loop steps through the digits of a number.
-- Assumes nothing.
use mathlib.Core.Path.{◌≡◌, ◌∙◌, sym}
use mathlib.Core.List.{List, ◌∷◌}
use Prim.Native.Nat.{ℕ, suc, ◌+◌, ◌*◌, ◌^◌, ◌≤◌, ◌<◌}
use native.Mathlib.Omega.{arith}
use native.Mathlib.Numerals.{add-one}
use native.Mathlib.Nat.{pow-zero, pow-suc, suc-mul, pow-le-pow_left, pow-le-pow_right, mul-le-mul_right, le_trans}
use borrow.Author.Tests.{lt-ltb, le-ltb, le-leb}
use lib.ListN.{length, get_or, drop}
use lib.Seq.{drop-cons, drop-length}
use Rattle.text.specs.Number.{value_of, read_from, number_of}
use Rattle.std.proofs.Common.{Option, Some, None}

good : (base v b : ℕ) (s : List ℕ) → value_of b < base → read_from base v (b ∷ s) ≡ read_from base (v * base + value_of b) s
unfolding read_from
good base v b s h = simp (lt-ltb _ _ h)

bad : (base v b : ℕ) (s : List ℕ) → base ≤ value_of b → read_from base v (b ∷ s) ≡ None
unfolding read_from
bad base v b s h = simp (le-ltb _ _ h)

-- one digit taken, d; r is the result
pub again : (base v i : ℕ) (s : List ℕ) {d : ℕ} {r : Option ℕ} → i < length s → d ≡ value_of (get_or s i 0) → d < base → read_from base v (drop i s) ≡ r → read_from base (v * base + d) (drop (i + 1) s) ≡ r
again base v i s h e k f =
    let g : value_of (get_or s i 0) < base = rw e at k in
    rw (e, add-one i) (sym (good base v (get_or s i 0) (drop (suc i) s) g) ∙ (rw (drop-cons s i 0 h) at f))

-- a character that is no digit
pub stopped : (base v i : ℕ) (s : List ℕ) {d : ℕ} {r : Option ℕ} → i < length s → d ≡ value_of (get_or s i 0) → base ≤ d → read_from base v (drop i s) ≡ r → None ≡ r
stopped base v i s h e k f =
    let g : base ≤ value_of (get_or s i 0) = rw e at k in
    sym (bad base v (get_or s i 0) (drop (suc i) s) g) ∙ (rw (drop-cons s i 0 h) at f)

pub at_end : (base v i : ℕ) (s : List ℕ) → i ≤ length s → length s ≤ i → read_from base v (drop i s) ≡ Some v
unfolding read_from
at_end base v i s h k = let e : i ≡ length s = omega arith in rw (e, drop-length s)

-- a digit more is a power more
pub below : (base v d i : ℕ) → v < base ^ i → d < base → v * base + d < base ^ (i + 1)
below base v d i h k =
    let m : suc v * base ≤ base ^ i * base = mul-le-mul_right base h in
    rw (add-one i, pow-suc base i) (omega (arith, suc-mul v base))

small : (base i : ℕ) → base ≤ 16 → i ≤ 12 → base ^ i ≤ 16 ^ 12
small base i h k = le_trans (pow-le-pow_left h i) (pow-le-pow_right (omega arith) k)

pub fits : (base v d i : ℕ) → base ≤ 16 → i < 12 → v < base ^ i → d < base → v * base + d < 2 ^ 64
fits base v d i b k h e = omega (arith, below base v d i h e, small base (i + 1) b (omega arith))

pub first : (base : ℕ) → 0 < base ^ 0
first base = rw (pow-zero base) (omega arith)

pub inside : (base most : ℕ) (s : List ℕ) → 1 ≤ length s → length s ≤ most → read_from base 0 s ≡ number_of base most s
unfolding number_of
inside base most s h k = simp (lt-ltb _ _ h, le-leb _ _ k)

-- what the check cites at each goal of the loop
pub ruleset digit_steps = (again, stopped, at_end, below, fits, first, inside)
