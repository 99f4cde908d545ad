-- Words bit by bit: agreement, and what is written.
-- Assumes nothing.
use Prim.Native.Nat.{ℕ, zero, suc, ◌-◌, ◌^◌, ◌<◌, min, max}
use mathlib.Core.Path.{◌≡◌, refl, sym, ap, ap₂, ◌∙◌}
use native.Mathlib.Omega.{arith}
use lib.Bits.{bit_and}
use lib.Dec.{eqb}
use borrow.Author.Tests.{eqb-true, eq-eqb}
use Rattle.std.specs.Prelude.{if◌then◌else◌}
use Rattle.field.specs.Field.{bit, read}
use Rattle.field.proofs.Laws.{field_lt}
use Rattle.bits.proofs.Bits.{same_bits, and_bit, or_bit, not_bit}
use Rattle.scrub.specs.Step.{agrees, rewritten}
use Rattle.scrub.specs.Laws.{AgreesBits, RewrittenBits}

masked : (x y m : ℕ) → x < 2 → y < 2 → m < 2 → (m ≡ 1 → x ≡ y) → min x m ≡ min y m
masked x y zero hx hy h f = omega arith
masked x y (suc zero) hx hy h f = rw (f refl)
masked x y (suc (suc m)) hx hy h f = absurd (omega arith)

pub agrees_bits_lem : AgreesBits
unfolding agrees
agrees_bits_lem word wanted care = (
  λ e i h.
      let q = ap (read (bit i)) (eqb-true (bit_and word care) (bit_and wanted care) e) in
      omega (arith, sym (and_bit i word care) ∙ q ∙ and_bit i wanted care, h, field_lt word i 1, field_lt wanted i 1),
  λ f.
      eq-eqb (bit_and word care) (bit_and wanted care)
      (same_bits (bit_and word care) (bit_and wanted care)
      (λ i.
      and_bit i word care ∙ masked _ _ _ (field_lt word i 1) (field_lt wanted i 1) (field_lt care i 1) (f i) ∙ sym (and_bit i wanted care))),
)

chosen : (x y m : ℕ) → x < 2 → y < 2 → m < 2 → max (min x (1 - m)) (min y m) ≡ (if eqb m 1 then y else x)
chosen x y zero hx hy h = omega arith
chosen x y (suc zero) hx hy h = omega arith
chosen x y (suc (suc m)) hx hy h = absurd (omega arith)

pub rewritten_bits_lem : RewrittenBits
unfolding rewritten
rewritten_bits_lem word wanted care h i l =
    or_bit i (bit_and word (2 ^ 32 - 1 - care)) (bit_and wanted care)
    ∙ ap₂ max (and_bit i word (2 ^ 32 - 1 - care) ∙ ap (min (read (bit i) word)) (not_bit 32 i care h l)) (and_bit i wanted care)
    ∙ chosen (read (bit i) word) (read (bit i) wanted) (read (bit i) care) (field_lt word i 1) (field_lt wanted i 1) (field_lt care i 1)
