-- The rank of two header words is arbitration's order.
-- Assumes nothing.
use Prim.Native.Nat.{ℕ, ◌+◌, ◌*◌, ◌^◌, ◌≤◌, ◌<◌}
use mathlib.Core.Path.{◌≡◌, refl, sym, ◌∙◌}
use mathlib.Core.Bool.{Bool, true, false}
use native.Mathlib.Omega.{arith}
use Rattle.field.proofs.Laws.{field_lt}
use Rattle.header.specs.declared.Header.{Header}
use Rattle.header.specs.Header.{header_of}
use Rattle.ring.specs.Queue.{rank_of}
use Rattle.ring.specs.QueueLaws.{base_of, low_of, Before, base, kind, low, Ordered}
use Rattle.ring.proofs.Places.{split}

cases : {X : Type 0} (b : Bool) → (b ≡ true → X) → (b ≡ false → X) → X
cases true f g = f refl
cases false f g = g refl

-- a rank r of a header: the base, below it the kind, below it the low bits
record Ranked (h : Header) (r : ℕ) : Type 0 where
  small : low_of h < 2 ^ 18
  extended : h.extended ≡ true → r ≡ base_of h * 2 ^ 19 + (2 ^ 18 + low_of h)
  standard : h.extended ≡ false → r ≡ base_of h * 2 ^ 19

ranked : (w₀ w₁ : ℕ) → Ranked (header_of w₀ w₁) (rank_of w₀ w₁)
unfolding rank_of header_of
ranked w₀ w₁ =
    let l = field_lt w₀ 11 18 in
    record {
      small = cases (header_of w₀ w₁).extended (λ e. rw e (omega arith)) (λ e. rw e (omega arith));
      extended = λ e. rw e (omega arith);
      standard = λ e. rw e (omega arith);
    }

module _ (x y : Header) (r s : ℕ) (a : Ranked x r) (b : Ranked y s) where
  to : r ≤ s → Before x y
  to h =
      cases x.extended
      (λ e. let i = a.extended e in cases y.extended
      (λ f. let j = b.extended f in split (base_of x) (base_of y) base (λ ge. low (omega arith) (e ∙ sym f) (omega arith)))
      (λ f. let j = b.standard f in base (omega arith)))
      (λ e. let i = a.standard e in cases y.extended
      (λ f. let j = b.extended f in split (base_of x) (base_of y) base (λ ge. kind (omega arith) e f))
      (λ f. let j = b.standard f in split (base_of x) (base_of y) base (λ ge. low (omega arith) (e ∙ sym f) (rw (e, f) (omega arith)))))

  from : Before x y → r ≤ s
  from (base l) =
      cases x.extended
      (λ e. let i = a.extended e in cases y.extended (λ f. let j = b.extended f in omega (arith, a.small)) (λ f. let j = b.standard f in omega (arith, a.small)))
      (λ e. let i = a.standard e in cases y.extended (λ f. let j = b.extended f in omega arith) (λ f. let j = b.standard f in omega arith))
  from (kind g e f) = omega (arith, a.standard e, b.extended f)
  from (low g k l) =
      cases x.extended (λ e. omega (arith, a.extended e, b.extended (sym k ∙ e))) (λ e. omega (arith, a.standard e, b.standard (sym k ∙ e)))

pub ordered : Ordered
ordered v₀ v₁ w₀ w₁ =
    let v = ranked v₀ v₁ in
    let w = ranked w₀ w₁ in
    (to _ _ _ _ v w, from _ _ _ _ v w)
