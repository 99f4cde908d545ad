-- The match word: bit by bit, and as the loop makes it.
-- Assumes nothing.
use mathlib.Core.Path.{◌≡◌, sym, ap, ◌∙◌}
use mathlib.Core.Bool.{Bool, true, false}
use Prim.Native.Nat.{ℕ, zero, suc, ◌+◌, ◌*◌, ◌/◌, ◌%◌, ◌^◌, ◌<◌}
use native.Mathlib.Nat.{add-zero, zero-add, add-suc, suc-add, mul_assoc, pow-suc}
use native.Mathlib.Numerals.{add-one}
use native.Mathlib.Omega.{arith}
use lib.Bits.{bit_or, or_shifted_r}
use lib.Dec.{lit<}
use lib.Pow.{shl_exact}
use Rattle.field.specs.Field.{bit, flag, digit}
use Rattle.field.proofs.Laws.{digit_lt, digit_back}
use Rattle.filters.specs.Filters.{tests, hits}
use Rattle.filters.specs.Laws.{MatchBits}
use Rattle.bits.proofs.Bits.{bit_zero, bit_suc}

tests_bit : (p : ℕ → Bool) (k n f : ℕ) → f < n → flag (bit f) (tests p k n) ≡ p (k + f)
unfolding tests
tests_bit p k zero f h = absurd (omega arith)
tests_bit p k (suc n) zero h =
    let e : (digit (p k) + 2 * tests p (suc k) n) % 2 ≡ digit (p k) = omega (arith, digit_lt (p k)) in
    rw (bit_zero, e, add-zero k) (digit_back (p k))
tests_bit p k (suc n) (suc f) h =
    let e : (digit (p k) + 2 * tests p (suc k) n) / 2 ≡ tests p (suc k) n = omega (arith, digit_lt (p k)) in
    rw (bit_suc, e, add-suc k f, ← suc-add k f) (tests_bit p (suc k) n f (omega arith))

pub match_bits_lem : MatchBits
match_bits_lem control object mask extended sid eid f h = rw (zero-add f) at (tests_bit (hits control object mask extended sid eid) 0 32 f h)

tests_lt : (p : ℕ → Bool) (k n : ℕ) → tests p k n < 2 ^ n
unfolding tests
tests_lt p k zero = omega arith
tests_lt p k (suc n) = omega (arith, digit_lt (p k), tests_lt p (suc k) n, pow-suc 2 n)

-- one test more is one bit more, above the others
tests_more : (p : ℕ → Bool) (k n : ℕ) → tests p k (suc n) ≡ tests p k n + digit (p (k + n)) * 2 ^ n
unfolding tests
tests_more p k zero = rw (add-zero k) (omega arith)
tests_more p k (suc n) =
    let e : digit (p (k + suc n)) * 2 ^ suc n ≡ digit (p (suc k + n)) * 2 ^ n * 2 = rw (add-suc, ← suc-add, pow-suc) (sym (mul_assoc _ _ 2)) in
    omega (arith, tests_more p (suc k) n, e)

-- the loop's two arms
module _ (p : ℕ → Bool) (f w : ℕ) (is : w ≡ tests p 0 f) where
  next : (b : Bool) → p f ≡ b → tests p 0 (f + 1) ≡ w + digit b * 2 ^ f
  next b e = rw (add-one f, tests_more p 0 f, zero-add f, e, is)

  pub bit_set : f < 32 → p f ≡ true → bit_or w ((1 * 2 ^ f) % 4294967296) ≡ tests p 0 (f + 1)
  bit_set h e =
      ap (bit_or w) (shl_exact 1 f 32 (lit< tt) (omega arith)) ∙ or_shifted_r 1 f w (rw is (tests_lt p 0 f)) ∙ omega (arith, next true e)

  pub bit_clear : p f ≡ false → w ≡ tests p 0 (f + 1)
  bit_clear e = omega (arith, next false e)
