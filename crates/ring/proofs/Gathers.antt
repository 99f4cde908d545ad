-- More of places that are gathered, and of the best of them.
-- Assumes nothing.
use Prim.Native.Nat.{ℕ, zero, suc, ◌+◌, ◌≤◌, ◌<◌}
use mathlib.Core.Path.{◌≡◌, refl, ap, ◌∙◌}
use mathlib.Core.Bool.{Bool, true, false, ◌&&◌, false≢true}
use mathlib.Core.List.{List, [], ◌∷◌}
use native.Mathlib.Omega.{arith}
use lib.Dec.{ltb}
use lib.ListN.{length}
use Rattle.std.specs.Prelude.{if◌then◌else◌}
use Rattle.laws.proofs.Choice.{by_if}
use Rattle.ring.specs.declared.queue.Queue.{Queue}
use Rattle.ring.specs.Queue.{gather, empty, controlled, freed, sent, no_slot, better, best}
use Rattle.ring.proofs.Places.{same?, clash}

module _ {A : Type 0} where
  -- one place where p holds is enough
  pub gather_some : (p : ℕ → Bool) (f : ℕ → A) (k n w : ℕ) → k ≤ w → w < k + n → p w ≡ true → gather p f k n ≡ [] → ⊥
  unfolding gather
  gather_some p f k zero w a b h e = omega arith
  gather_some p f k (suc n) w a b h e = go (p k) refl (λ ne. gather_some p f (k + 1) n w (omega arith) (omega arith) h) e
    where
      go : (x : Bool) → p k ≡ x → ((k ≡ w → ⊥) → gather p f (k + 1) n ≡ [] → ⊥) → (if x then f k ∷ gather p f (k + 1) n else gather p f (k + 1) n) ≡ [] → ⊥
      go true q rest e = let z : ◌≡◌ {A = ℕ} 0 1 = cc in omega arith
      go false q rest e = same? k w (λ i. clash q (rw i h)) (λ ne. rest ne e)

  -- how many there are
  pub gather_all : (p : ℕ → Bool) (f : ℕ → A) (k n : ℕ) → ((j : ℕ) → k ≤ j → j < k + n → p j ≡ true) → length (gather p f k n) ≡ n
  unfolding gather
  gather_all p f k zero h = refl
  gather_all p f k (suc n) h = rw (h k (omega arith) (omega arith)) (ap suc (gather_all p f (k + 1) n (λ j a b. h j (omega arith) (omega arith))))

  pub gather_le : (p : ℕ → Bool) (f : ℕ → A) (k n : ℕ) → length (gather p f k n) ≤ n
  unfolding gather
  gather_le p f k zero = omega arith
  gather_le p f k (suc n) =
      let ih = gather_le p f (k + 1) n in
      by_if (λ (l : List A). length l ≤ suc n) (p k) (λ e. omega (arith, ih)) (λ e. omega (arith, ih))

  pub gather_less : (p : ℕ → Bool) (f : ℕ → A) (k n w : ℕ) → k ≤ w → w < k + n → p w ≡ false → length (gather p f k n) < n
  unfolding gather
  gather_less p f k zero w a b h = absurd (omega arith)
  gather_less p f k (suc n) w a b h =
      by_if (λ (l : List A). length l < suc n) (p k)
      (λ e. same? k w (λ i. clash h (rw i at e)) (λ ne. omega (arith, gather_less p f (k + 1) n w (omega arith) (omega arith) h)))
      (λ e. omega (arith, gather_le p f (k + 1) n))

-- ---- the best place

-- it is one of the places looked at, and p holds there
pub best_in : (p : ℕ → Bool) (r : ℕ → ℕ) (k n : ℕ) → ltb (best p r k n) no_slot ≡ true → (k ≤ best p r k n) × (best p r k n < k + n) × (p (best p r k n) ≡ true)
unfolding best
best_in p r k zero = λ e. absurd (false≢true e)
best_in p r k (suc n) =
    let P : ℕ → Type 0 = λ b. ltb b no_slot ≡ true → (k ≤ b) × (b < k + suc n) × (p b ≡ true) in
    let b : ℕ = best p r (k + 1) n in
    let there : P b = λ e. let (x, y, z) = best_in p r (k + 1) n e in (omega arith, omega arith, z) in
    by_if P (p k)
    (λ h. by_if P (ltb b no_slot && ltb (r b) (r k)) (λ x. there) (λ x e. (omega arith, omega arith, h)))
    (λ h. there)

-- it goes by the ranks of these places alone
pub best_same : (p : ℕ → Bool) (r s : ℕ → ℕ) (k n : ℕ) → ((j : ℕ) → k ≤ j → j < k + n → p j ≡ true → r j ≡ s j) → best p r k n ≡ best p s k n
unfolding best
best_same p r s k zero h = refl
best_same p r s k (suc n) h =
    ap (λ (b : ℕ). if p k then better r k b else b) (best_same p r s (k + 1) n (λ j x y. h j (omega arith) (omega arith)))
    ∙ go (p k) refl (best p s (k + 1) n) (best_in p s (k + 1) n) (ltb (best p s (k + 1) n) no_slot) refl
  where
    go : (x : Bool) → p k ≡ x → (b : ℕ) → (ltb b no_slot ≡ true → (k + 1 ≤ b) × (b < k + 1 + n) × (p b ≡ true)) → (y : Bool) → ltb b no_slot ≡ y
        → (if p k then better r k b else b) ≡ (if p k then better s k b else b)
    go false e b t y f = rw e
    go true e b t false f = rw (e, f)
    go true e b t true f = let (lo, hi, z) = t f in rw (e, f, h b (omega arith) (omega arith) z, h k (omega arith) (omega arith) e)

-- ---- a send

pub sent_shown : (frozen k : ℕ) (q : Queue) → (sent frozen k q).shown ≡ (freed frozen k q).shown
unfolding sent controlled
sent_shown frozen k q = by_if (λ (g : Queue). g.shown ≡ (freed frozen k q).shown) (empty frozen (freed frozen k q)) (λ e. refl) (λ e. refl)
