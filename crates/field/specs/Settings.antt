-- Fields set one after the other.
-- Assumes nothing.
use Rattle.std.specs.Prelude.{ℕ, List, [], ◌∷◌}
use Rattle.field.specs.Field.{Field, write, Fits}

infix 69 ◌:=◌
pub data Setting : Type 0 where
  ◌:=◌ : Field → ℕ → Setting

-- the fields that are set
abbrev pub fields_of : List Setting → List Field
fields_of [] = []
fields_of (f := v ∷ ss) = f ∷ fields_of ss

-- a word with fields set, the first setting first
abbrev pub settings : List Setting → ℕ → ℕ
settings [] w = w
settings (f := v ∷ ss) w = settings ss (write f v w)

-- each value fits its field
abbrev pub AllFit : List Setting → Type 0
AllFit [] = Unit {0}
AllFit (f := v ∷ ss) = Fits f v × AllFit ss
