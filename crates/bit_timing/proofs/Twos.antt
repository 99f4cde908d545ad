-- Seven bits and the number that they stand for.
-- Assumes nothing.
use mathlib.Core.Path.{◌≡◌, refl, sym, ap, ◌∙◌}
use Prim.Native.Nat.{ℕ, suc, ◌-◌, ◌^◌, ◌<◌}
use native.Mathlib.Omega.{arith}
use lib.Bits.{bit_and, and_mask}
use lib.IntN.{ℤ, pos, negsuc, ◌-ℤ◌}
use lib.Signed.{lt_z}
use mathlib.Core.Bool.{Bool, true, false, false≢true}
use lib.Dec.{ltb}
use borrow.Author.Tests.{lt-ltb, le-ltb, ltb-true, ltb-false}
use Rattle.std.specs.Prelude.{if◌then◌else◌}
use Rattle.laws.proofs.Choice.{by_if}
use mir.Syntax.{w32}
use mir.Val.{of_z, SFits}
use Rattle.bit_timing.specs.Signed.{seven_of, number_of, Small, is_small}

-- the test of the range, and what the code's two tests tell of it: a number below -64, and one not below
pub small_told : (t : ℤ) → is_small t ≡ true → Small t
small_told (pos n) e = ltb-true n 64 e
small_told (negsuc n) e = ltb-true n 64 e

pub told_small : (t : ℤ) → Small t → is_small t ≡ true
told_small (pos n) h = lt-ltb n 64 h
told_small (negsuc n) h = lt-ltb n 64 h

pub below : (t : ℤ) → lt_z t (negsuc 63) ≡ true → is_small t ≡ false
below (pos n) e = absurd (false≢true e)
below (negsuc n) e = le-ltb n 64 (omega (arith, ltb-true 63 n e))

pub not_below : (t : ℤ) → lt_z t (negsuc 63) ≡ false → lt_z t (pos 64) ≡ is_small t
not_below (pos n) e = refl
not_below (negsuc n) e = sym (lt-ltb n 64 (omega (arith, ltb-false 63 n e)))

pub seven_lt : (t : ℤ) → Small t → seven_of t < 128
seven_lt (pos n) h = omega arith
seven_lt (negsuc n) h = omega arith

-- the low seven bits of a small number's two's complement
pub masked : (t : ℤ) → Small t → bit_and (of_z w32 t) 127 ≡ seven_of t
masked (pos n) h = and_mask n 7 ∙ omega arith
masked (negsuc n) h = and_mask (2 ^ 32 - suc n) 7 ∙ omega arith

pub less : (x : ℕ) → x < 128 → pos x -ℤ pos 128 ≡ negsuc (127 - x)
less x h = rw (lt-ltb x 128 h) (ap negsuc (omega arith))

pub less_fits : (x : ℕ) → x < 128 → SFits w32 (pos x -ℤ pos 128)
less_fits x h = rw (less x h) (record { sfits = omega arith })

-- the laws: there and back
pub number_seven : (t : ℤ) → Small t → number_of (seven_of t) ≡ t
number_seven (pos n) h = rw (lt-ltb n 64 h)
number_seven (negsuc n) h = rw (le-ltb (127 - n) 64 (omega arith), less (127 - n) (omega arith)) (ap negsuc (omega arith))

pub seven_number : (x : ℕ) → x < 128 → seven_of (number_of x) ≡ x
seven_number x h = go (ltb x 64) refl
  where
    go : (b : Bool) → ltb x 64 ≡ b → seven_of (if b then pos x else pos x -ℤ pos 128) ≡ x
    go true e = refl
    go false e = rw (less x h) (omega (arith, ltb-false x 64 e))

-- seven bits stand for a small number
pub number_small : (x : ℕ) → x < 128 → Small (number_of x)
number_small x h =
    by_if Small (ltb x 64) (λ t. ltb-true x 64 t) (λ t. rw (less x h) (omega (arith, ltb-false x 64 t)))
