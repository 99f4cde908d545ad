-- The lowest set bit is the first.
-- Assumes nothing.
use mathlib.Core.Path.{◌≡◌, sym, ◌∙◌}
use mathlib.Core.Bool.{Bool, true, false}
use Prim.Native.Nat.{ℕ, zero, suc, ◌/◌, ◌%◌, ◌<◌}
use native.Mathlib.Omega.{arith}
use lib.Count.{count_trailing_zeros, under}
use borrow.Author.Tests.{eq-eqb}
use Rattle.field.specs.Field.{bit, read, flag}
use Rattle.field.proofs.Laws.{field_lt}
use Rattle.filters.specs.Filters.{match_word}
use Rattle.filters.specs.Laws.{First, Lowest}
use Rattle.bits.proofs.Bits.{bit_zero, bit_suc}
use Rattle.filters.proofs.Word.{match_bits_lem}

first_now : (p : ℕ → Bool) (n : ℕ) → p 0 ≡ true → First p n 0
first_now p n e = record { most = omega arith; holds = λ h. e; before = λ j h. absurd (omega arith) }

first_later : (p q : ℕ → Bool) (n f : ℕ) → p 0 ≡ false → ((j : ℕ) → p (suc j) ≡ q j) → First q n f → First p (suc n) (suc f)
first_later p q n f e g r = record {
  most = omega (arith, r.most);
  holds = λ h. g f ∙ r.holds (omega arith);
  before = earlier;
}
  where
    earlier : (j : ℕ) → j < suc f → p j ≡ false
    earlier zero h = e
    earlier (suc j) h = g j ∙ r.before j (omega arith)

trailing : (n w : ℕ) → First (λ i. flag (bit i) w) n (count_trailing_zeros n w)
unfolding count_trailing_zeros
trailing zero w = record { most = omega arith; holds = λ h. absurd (omega arith); before = λ j h. absurd (omega arith) }
trailing (suc n) w = go (w % 2) (bit_zero w) (trailing n (w / 2))
  where
    go : (d : ℕ) → read (bit 0) w ≡ d → First (λ i. flag (bit i) (w / 2)) n (count_trailing_zeros n (w / 2)) → First (λ i. flag (bit i) w) (suc n) (under d (count_trailing_zeros n (w / 2)))
    go zero e r = first_later _ _ n _ (rw e) (λ j. rw (bit_suc w j)) r
    go (suc d) e r = first_now _ _ (eq-eqb (read (bit 0) w) 1 (omega (arith, field_lt w 0 1)))

pub lowest : Lowest
lowest control object mask extended sid eid =
    let r = trailing 32 (match_word control object mask extended sid eid) in
    let at = match_bits_lem control object mask extended sid eid in record {
      most = r.most;
      holds = λ h. sym (at _ h) ∙ r.holds h;
      before = λ j h. sym (at j (omega (arith, r.most))) ∙ r.before j h;
    }
