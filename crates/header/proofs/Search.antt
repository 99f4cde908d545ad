-- The search for a length in the table.
-- Assumes nothing.
use mathlib.Core.Path.{◌≡◌, refl}
use mathlib.Core.Bool.{Bool, true, false, cond}
use mathlib.Core.List.{List, [], ◌∷◌}
use Prim.Native.Nat.{ℕ, ◌+◌}
use lib.Dec.{eqb}
use Rattle.std.specs.List.{position_from}
use Rattle.std.specs.Prelude.{if◌then◌else◌, Some}
use Rattle.header.specs.Dlc.{seek}

choice : {A : Type 0} (b : Bool) (x y : A) → cond b x y ≡ (if b then x else y)
choice true x y = refl
choice false x y = refl

-- the place of a length is what a search finds
pub found : (n : ℕ) (xs : List ℕ) (k : ℕ) → position_from (λ x. eqb x n) k xs ≡ seek xs k n
found n [] k = refl
found n (x ∷ xs) k = rw (found n xs (k + 1)) (choice (eqb x n) (Some k) (seek xs (k + 1) n))
