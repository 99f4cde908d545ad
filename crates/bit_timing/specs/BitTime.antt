-- A bit time, nominal or data: four fields, of which SJW and TSEG2 have n bits and TSEG1 one more.
-- Assumes nothing.
use Rattle.std.specs.Prelude.{ℕ, ◌+◌, ◌≤◌, ◌≡◌, [], ◌∷◌}
use Rattle.field.specs.Field.{Field, place}
use Rattle.field.specs.Register.{Register}

abbrev pub SJW : ℕ → Field
SJW n = place 0 n

abbrev pub TSEG2 : ℕ → Field
TSEG2 n = place 8 n

abbrev pub TSEG1 : ℕ → Field
TSEG1 n = place 16 (n + 1)

abbrev pub BRP : Field
BRP = place 24 8

-- a kind that is a bit time
pub record IsBitTime (kind : Register) (n : ℕ) : Type 0 where
  pub fields_are : kind.fields ≡ SJW n ∷ TSEG2 n ∷ TSEG1 n ∷ BRP ∷ []
  pub narrow : n ≤ 7
