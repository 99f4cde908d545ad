-- Identifiers that agree bit by bit.
-- Assumes nothing.
use mathlib.Core.Path.{◌≡◌, refl, sym, ap, ◌∙◌}
use Prim.Native.Nat.{ℕ, zero, suc, ◌<◌, min}
use native.Mathlib.Nat.{min-zero}
use native.Mathlib.Omega.{arith}
use lib.Bits.{bit_and, bit_xor, differ}
use borrow.Author.Tests.{eqb-true, eq-eqb}
use Rattle.field.specs.Field.{bit, read}
use Rattle.field.proofs.Laws.{field_lt}
use Rattle.bits.proofs.Bits.{zero_bit, no_bits, and_bit, xor_bit}
use Rattle.filters.specs.Filters.{agrees}
use Rattle.filters.specs.Laws.{AgreesBits}

differ_same : (x : ℕ) → differ x x ≡ 0
differ_same zero = refl
differ_same (suc x) = differ_same x

same : (x y : ℕ) → differ x y ≡ 0 → x ≡ y
same zero y e = sym e
same (suc x) zero e = e
same (suc x) (suc y) e = ap suc (same x y e)

masked : (x y m : ℕ) → m < 2 → (m ≡ 1 → x ≡ y) → min (differ x y) m ≡ 0
masked x y zero h f = min-zero (differ x y)
masked x y (suc zero) h f = rw (f refl, differ_same)
masked x y (suc (suc m)) h f = absurd (omega arith)

pub agrees_bits_lem : AgreesBits
unfolding agrees
agrees_bits_lem id object mask =
    let w = bit_and (bit_xor id object) mask in
    let at : (i : ℕ) → read (bit i) w ≡ min (differ (read (bit i) id) (read (bit i) object)) (read (bit i) mask) =
    λ i. and_bit i (bit_xor id object) mask ∙ ap (λ (x : ℕ). min x (read (bit i) mask)) (xor_bit i id object) in (
      λ e i h. same _ _ (omega (arith, at i, h, zero_bit i, ap (read (bit i)) (eqb-true w 0 e))),
      λ f. eq-eqb w 0 (no_bits w (λ i. at i ∙ masked _ _ _ (field_lt mask i 1) (f i))),
    )
