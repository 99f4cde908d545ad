-- Places where a test holds: gathered, the first where it fails, and the best.
-- Assumes nothing.
use Prim.Native.Nat.{ℕ, zero, suc, ◌+◌, ◌≤◌, ◌<◌}
use mathlib.Core.Path.{◌≡◌, refl, sym, ap, ◌∙◌}
use mathlib.Core.Logic.{◌↔◌, ◌⊎◌, inl, inr, ⊎_elim}
use mathlib.Core.Bool.{Bool, true, false, false≢true}
use mathlib.Core.List.Perm
use mathlib.Core.List.{[], ◌∷◌, Perm}
use native.Mathlib.Nat.{add-zero, zero-add}
use native.Mathlib.Decide.{ℕ_discrete, dec_le}
use native.Mathlib.Omega.{arith}
use borrow.Author.Tests.{ltb-true, ltb-false, leb-true, le-leb, lt-ltb}
use lib.Dec.{ltb, leb}
use Rattle.std.specs.Prelude.{if◌then◌else◌}
use Rattle.laws.proofs.Choice.{by_if}
use Rattle.ring.specs.Queue.{gather, first_not, no_slot, better, best}
use Rattle.ring.specs.QueueLaws.{BestFound}

-- two numbers are equal or not
pub same? {ℓ} : {X : Type ℓ} (a b : ℕ) → (a ≡ b → X) → ((a ≡ b → ⊥) → X) → X
same? a b f g = elim (ℕ_discrete a b) [ yes e ↦ f e | no h ↦ g h ]

-- one order or the other
pub split {ℓ} : {X : Type ℓ} (a b : ℕ) → (a < b → X) → (b ≤ a → X) → X
split a b f g = elim (dec_le (a + 1) b) [ yes h ↦ f (omega arith) | no h ↦ g (omega arith) ]

pub clash : {X : Type 0} {b : Bool} → b ≡ false → b ≡ true → X
clash f t = absurd (false≢true (sym f ∙ t))

-- ---- the first place where a test fails

pub first_le : (p : ℕ → Bool) (k n : ℕ) → first_not p k n ≤ n
unfolding first_not
first_le p k zero = omega arith
first_le p k (suc n) = by_if (λ (f : ℕ). f ≤ suc n) (p k) (λ e. omega (arith, first_le p (k + 1) n)) (λ e. omega arith)

pub first_fails : (p : ℕ → Bool) (k n : ℕ) → first_not p k n < n → p (k + first_not p k n) ≡ false
unfolding first_not
first_fails p k zero = λ h. absurd (omega arith)
first_fails p k (suc n) =
    by_if (λ (f : ℕ). f < suc n → p (k + f) ≡ false) (p k)
    (λ e h. let i : k + suc (first_not p (k + 1) n) ≡ k + 1 + first_not p (k + 1) n = omega arith in rw i (first_fails p (k + 1) n (omega arith)))
    (λ e h. rw (add-zero k) e)

pub first_holds : (p : ℕ → Bool) (k n j : ℕ) → j < first_not p k n → p (k + j) ≡ true
unfolding first_not
first_holds p k zero j = λ h. absurd (omega arith)
first_holds p k (suc n) zero = by_if (λ (f : ℕ). 0 < f → p (k + 0) ≡ true) (p k) (λ e h. rw (add-zero k) e) (λ e h. absurd (omega arith))
first_holds p k (suc n) (suc j) =
    by_if (λ (f : ℕ). suc j < f → p (k + suc j) ≡ true) (p k)
    (λ e h. let i : k + suc j ≡ k + 1 + j = omega arith in rw i (first_holds p (k + 1) n j (omega arith)))
    (λ e h. absurd (omega arith))

module _ (p : ℕ → Bool) (n k : ℕ) (le : k ≤ n) (before : (j : ℕ) → j < k → p j ≡ true) (at : k < n → p k ≡ false) where
  -- the first place where the test fails, told by the places before it and by itself
  pub first_is : first_not p 0 n ≡ k
  first_is =
      same? (first_not p 0 n) k (λ e. e)
      (λ ne. split (first_not p 0 n) k
      (λ l. clash (rw zero-add at (first_fails p 0 n (omega arith))) (before (first_not p 0 n) l))
      (λ l. let m : k < first_not p 0 n = omega arith in clash (at (omega (arith, first_le p 0 n))) (rw zero-add at (first_holds p 0 n k m))))

-- all n places come before the first where the test fails exactly if it holds at each
pub holds_throughout : (p : ℕ → Bool) (n : ℕ) → (leb n (first_not p 0 n) ≡ true) ↔ ((k : ℕ) → k < n → p k ≡ true)
holds_throughout p n = (
  λ e k h. let le : n ≤ first_not p 0 n = leb-true _ _ e in rw zero-add at (first_holds p 0 n k (omega arith)),
  λ all. split (first_not p 0 n) n (λ l. clash (rw zero-add at (first_fails p 0 n l)) (all (first_not p 0 n) l)) (le-leb n (first_not p 0 n)),
)

-- ---- places gathered

module _ {A : Type 0} where
  pub gather_none : (p : ℕ → Bool) (f : ℕ → A) (k n : ℕ) → ((j : ℕ) → k ≤ j → j < k + n → p j ≡ false) → gather p f k n ≡ []
  unfolding gather
  gather_none p f k zero h = refl
  gather_none p f k (suc n) h = rw (h k (omega arith) (omega arith)) (gather_none p f (k + 1) n (λ j a b. h j (omega arith) (omega arith)))

  pub gather_same : (p p' : ℕ → Bool) (f f' : ℕ → A) (k n : ℕ) → ((j : ℕ) → k ≤ j → j < k + n → p' j ≡ p j)
      → ((j : ℕ) → k ≤ j → j < k + n → p j ≡ true → f' j ≡ f j) → gather p' f' k n ≡ gather p f k n
  unfolding gather
  gather_same p p' f f' k zero e g = refl
  gather_same p p' f f' k (suc n) e g =
      let ih = gather_same p p' f f' (k + 1) n (λ j a b. e j (omega arith) (omega arith)) (λ j a b. g j (omega arith) (omega arith)) in
      rw (e k (omega arith) (omega arith), ih) (go (p k) (g k (omega arith) (omega arith)))
    where
      go : (b : Bool) → (b ≡ true → f' k ≡ f k) → (if b then f' k ∷ gather p f (k + 1) n else gather p f (k + 1) n) ≡ (if b then f k ∷ gather p f (k + 1) n else gather p f (k + 1) n)
      go true h = ap (λ (x : A). x ∷ gather p f (k + 1) n) (h refl)
      go false h = refl

  -- one place more
  pub gather_more : (p p' : ℕ → Bool) (f : ℕ → A) (w k n : ℕ) → k ≤ w → w < k + n → p w ≡ false → p' w ≡ true
      → ((j : ℕ) → (j ≡ w → ⊥) → p' j ≡ p j) → Perm (gather p' f k n) (f w ∷ gather p f k n)
  unfolding gather
  gather_more p p' f w k zero lo hi e e' o = absurd (omega arith)
  gather_more p p' f w k (suc n) lo hi e e' o =
      same? k w
      (λ i.
      let rest : gather p' f (w + 1) n ≡ gather p f (w + 1) n = gather_same p p' f f (w + 1) n (λ j a b. o j (λ x. omega arith)) (λ j a b x. refl) in
      rw (i, e, e', rest) (Perm.refl _))
      (λ ne.
      let ih = gather_more p p' f w (k + 1) n (omega arith) (omega arith) e e' o in
      rw (o k ne) (go (p k) ih))
    where
      go : (b : Bool) → Perm (gather p' f (k + 1) n) (f w ∷ gather p f (k + 1) n)
          → Perm (if b then f k ∷ gather p' f (k + 1) n else gather p' f (k + 1) n) (f w ∷ (if b then f k ∷ gather p f (k + 1) n else gather p f (k + 1) n))
      go true ih = Perm.trans (Perm.cons (f k) ih) (Perm.swap (f w) (f k) (gather p f (k + 1) n))
      go false ih = ih

-- ---- the best place

-- of the n places from k on
record BestFrom (p : ℕ → Bool) (rank : ℕ → ℕ) (k n w : ℕ) : Type 0 where
  from : k ≤ w
  to : w < k + n
  is : p w ≡ true
  least : (j : ℕ) → k ≤ j → j < k + n → p j ≡ true → rank w ≤ rank j
  tie : (j : ℕ) → k ≤ j → j < w → p j ≡ true → rank w < rank j

abbrev Nowhere : (p : ℕ → Bool) (k n : ℕ) → Type 0
Nowhere p k n = (j : ℕ) → k ≤ j → j < k + n → p j ≡ false

-- the best, or no_slot where the test holds nowhere
abbrev Found : (p : ℕ → Bool) (rank : ℕ → ℕ) (k n w : ℕ) → Type 0
Found p rank k n w = BestFrom p rank k n w ⊎ ((w ≡ no_slot) × Nowhere p k n)

module _ (p : ℕ → Bool) (rank : ℕ → ℕ) (k n : ℕ) where
  skip : p k ≡ false → (w : ℕ) → Found p rank (k + 1) n w → Found p rank k (suc n) w
  skip e w (inl h) =
      inl
      record {
        from = omega (arith, h.from);
        to = omega (arith, h.to);
        is = h.is;
        least = λ j a b x. same? j k (λ i. clash e (rw i at x)) (λ ne. h.least j (omega arith) (omega arith) x);
        tie = λ j a b x. same? j k (λ i. clash e (rw i at x)) (λ ne. h.tie j (omega arith) b x);
      }
  skip e w (inr (i, h)) = inr (i, λ j a b. same? j k (λ x. rw x e) (λ ne. h j (omega arith) (omega arith)))

  -- place k itself, where no later one has a smaller rank
  own_best : p k ≡ true → ((j : ℕ) → k + 1 ≤ j → j < k + 1 + n → p j ≡ true → rank k ≤ rank j) → BestFrom p rank k (suc n) k
  own_best e h = record {
    from = omega arith;
    to = omega arith;
    is = e;
    least = λ j a b x. same? j k (λ i. rw i (omega arith)) (λ ne. h j (omega arith) (omega arith) x);
    tie = λ j a b x. absurd (omega arith);
  }

  here : k + suc n ≤ no_slot → p k ≡ true → (w : ℕ) → Found p rank (k + 1) n w → Found p rank k (suc n) (better rank k w)
  here le e w (inl h) =
      rw (lt-ltb w no_slot (omega (arith, h.to)))
      (by_if (Found p rank k (suc n)) (ltb (rank w) (rank k))
      (λ t.
      let lt : rank w < rank k = ltb-true _ _ t in
      inl
      record {
        from = omega (arith, h.from);
        to = omega (arith, h.to);
        is = h.is;
        least = λ j a b x. same? j k (λ i. rw i (omega arith)) (λ ne. h.least j (omega arith) (omega arith) x);
        tie = λ j a b x. same? j k (λ i. rw i lt) (λ ne. h.tie j (omega arith) b x);
      })
      (λ t.
      let ge : rank k ≤ rank w = ltb-false _ _ t in
      inl (own_best e (λ j a b x. let m : rank w ≤ rank j = h.least j a b x in omega arith))))
  here le e w (inr (i, h)) = rw i (inl (own_best e (λ j a b x. clash (h j a b) x)))

best_from : (p : ℕ → Bool) (rank : ℕ → ℕ) (k n : ℕ) → k + n ≤ no_slot → Found p rank k n (best p rank k n)
unfolding best
best_from p rank k zero le = inr (refl, λ j a b. absurd (omega arith))
best_from p rank k (suc n) le =
    let ih = best_from p rank (k + 1) n (omega arith) in
    by_if (Found p rank k (suc n)) (p k) (λ e. here p rank k n le e (best p rank (k + 1) n) ih) (λ e. skip p rank k n e (best p rank (k + 1) n) ih)

pub best_found_lem : BestFound
best_found_lem p rank n le =
    ⊎_elim
    (λ b. (
      λ ne. record {
        lt = omega (arith, b.to);
        is = b.is;
        least = λ j h x. b.least j (omega arith) (omega arith) x;
        tie = λ j h x. b.tie j (omega arith) h x;
      },
      λ e. absurd (omega (arith, b.to)),
    ))
    (λ (e, none). (λ ne. absurd (ne e), λ x j h. none j (omega arith) (omega arith)))
    (best_from p rank 0 n (omega arith))
