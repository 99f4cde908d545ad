-- A contract that is an equation has one solution.
-- Assumes nothing.
use mathlib.Core.Path.{◌≡◌, sym, ◌∙◌}

-- two answers that both equal a definition's value are equal
pub unique : {A : Type 0} {x y v : A} → x ≡ v → y ≡ v → x ≡ y
unique e d = e ∙ sym d
