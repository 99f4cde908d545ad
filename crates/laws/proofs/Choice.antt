-- Reasoning by the cases of a choice.
-- Assumes nothing.
use mathlib.Core.Path.{◌≡◌, refl}
use mathlib.Core.Bool.{Bool, true, false}
use Rattle.std.specs.Prelude.{if◌then◌else◌}
use Rattle.laws.specs.If.{choice}

-- the library's choice goes the two ways that the definition says
pub if_is_choice : {A : Type 0} (b : Bool) (x y : A) → (if b then x else y) ≡ choice b x y
if_is_choice true x y = refl
if_is_choice false x y = refl

-- what holds of both ways holds of the choice, and each way may use its test
pub by_if : {A : Type 0} (P : A → Type 0) (b : Bool) {x y : A} → (b ≡ true → P x) → (b ≡ false → P y) → P (if b then x else y)
by_if P true f g = f refl
by_if P false f g = g refl
