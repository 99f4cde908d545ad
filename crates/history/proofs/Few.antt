-- Lists of so many entries, and the last entry of a list.
-- Assumes nothing.
use Prim.Native.Nat.{ℕ, suc, ◌≤◌}
use native.Mathlib.Omega.{arith}
use mathlib.Core.Path.{◌≡◌}
use mathlib.Core.List.{List, [], ◌∷◌, ◌++◌}
use lib.ListN.{length}

module _ {A : Type 0} where
  -- the first entry
  first : (k : ℕ) (P : List A → Type 0) → ((a : A) (r : List A) → k ≤ length r → P (a ∷ r)) → (s : List A) → suc k ≤ length s → P s
  first k P f [] h = absurd (omega (arith, h))
  first k P f (a ∷ r) h = let l : suc k ≤ suc (length r) = h in f a r (omega (arith, l))

  pub two : (P : List A → Type 0) → ((a b : A) (r : List A) → P (a ∷ b ∷ r)) → (s : List A) → 2 ≤ length s → P s
  two P f = first 1 P (λ a. first 0 (λ r. P (a ∷ r)) (λ b r h. f a b r))

  pub just_two : (P : List A → Type 0) → ((a b : A) → P (a ∷ b ∷ [])) → (s : List A) → length s ≡ 2 → P s
  just_two P f s l = two (λ r. length r ≡ 2 → P r) go s (omega (arith, l)) l
    where
      go : (a b : A) (r : List A) → length (a ∷ b ∷ r) ≡ 2 → P (a ∷ b ∷ r)
      go a b [] h = f a b
      go a b (x ∷ r) h = let l : suc (suc (suc (length r))) ≡ 2 = h in absurd (omega (arith, l))

  pub five : (P : List A → Type 0) → ((a b c d e : A) (r : List A) → P (a ∷ b ∷ c ∷ d ∷ e ∷ r)) → (s : List A) → 5 ≤ length s → P s
  five P f =
      first 4 P (λ a. first 3 (λ r. P (a ∷ r)) (λ b. first 2 (λ r. P (a ∷ b ∷ r)) (λ c. first 1 (λ r. P (a ∷ b ∷ c ∷ r))
      (λ d. first 0 (λ r. P (a ∷ b ∷ c ∷ d ∷ r)) (λ e r h. f a b c d e r)))))

  pub just_six : (P : List A → Type 0) → ((a b c d e f : A) → P (a ∷ b ∷ c ∷ d ∷ e ∷ f ∷ [])) → (s : List A) → length s ≡ 6 → P s
  just_six P h s l = five (λ r. length r ≡ 6 → P r) go s (omega (arith, l)) l
    where
      go : (a b c d e : A) (r : List A) → length (a ∷ b ∷ c ∷ d ∷ e ∷ r) ≡ 6 → P (a ∷ b ∷ c ∷ d ∷ e ∷ r)
      go a b c d e [] m = let z : ◌≡◌ {A = ℕ} 5 6 = m in absurd (omega (arith, z))
      go a b c d e (f ∷ []) m = h a b c d e f
      go a b c d e (f ∷ x ∷ r) m = let z : suc (suc (suc (suc (suc (suc (suc (length r))))))) ≡ 6 = m in absurd (omega (arith, z))

  pub seven : (P : List A → Type 0) → ((a b c d e f g : A) → P (a ∷ b ∷ c ∷ d ∷ e ∷ f ∷ g ∷ [])) → (s : List A) → length s ≡ 7 → P s
  seven P h s l =
      five (λ r. length r ≡ 7 → P r) (λ a b c d e r m. just_two (λ q. P (a ∷ b ∷ c ∷ d ∷ e ∷ q)) (h a b c d e) r (omega (arith, m))) s (omega (arith, l)) l

  -- behind the same entries
  pub same_last : (s : List A) (x y : A) → s ++ (x ∷ []) ≡ s ++ (y ∷ []) → x ≡ y
  same_last [] x y e = cc
  same_last (a ∷ s) x y e = same_last s x y cc
