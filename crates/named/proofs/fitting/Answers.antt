-- `named::fitting` meets its contract: 32 bits and more hold every word.
-- Assumes nothing.
use Rattle.std.proofs.Common.{◌≡◌, ◌<◌, ◌≤◌, ◌^◌, ◌*◌, ◌%◌, ℕ, arith, IfSome, Bool, true, false}
use native.Mathlib.Nat.{lt_of_lt_of_le, pow-le-pow_right}
use mathlib.Core.Path.{◌∙◌, sym, refl}
use Rattle.std.specs.Bool.{then_some}
use Rattle.std.proofs.lemmas.Bool.{ltb-true}
use Rattle.std.proofs.Math.Nat.{mod-le}
use Rattle.named.proofs.fitting.Goals.{then-bits-ge32, else-bits-ge32}
use Rattle.named.proofs.fitting.Goals as goal

wide : (v bits : ℕ) → v < 2 ^ 32 → 32 ≤ bits → v < 2 ^ bits
wide v bits h k = lt_of_lt_of_le h (pow-le-pow_right (omega arith) k)

narrow : (v p : ℕ) → v < 1 * p % 4294967296 → v < p
narrow v p h = let k : 1 * p % 4294967296 ≤ 1 * p = mod-le (1 * p) 4294967296 in omega arith

held : (b : Bool) (v m : ℕ) → (b ≡ true → v < m) → IfSome (then_some b v) (λ x. x < m)
held true v m h = h refl
held false v m h = tt

pub returns : goal.returns
returns c =
    elim c.if-bits-ge32.branch [
      | then-bits-ge32 w ↦ rw (c.then_some.ensures) (held _ _ _ (λ e. wide _ _ c.ranges.v.fits w.if-bits-ge32.true))
      | else-bits-ge32 w ↦ rw (c.then_some.ensures) (held _ _ _ (λ e. narrow _ _ (ltb-true _ _ (sym w.then_some-is ∙ e))))
    ]
