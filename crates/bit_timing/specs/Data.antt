-- CiDBTCFG: data bit time. Fields by the data sheet's names and bits.
-- Assumes nothing.
use Rattle.std.specs.Prelude.{[], ◌∷◌}
use Rattle.field.specs.Field.{Field, ◌‥◌}
use Rattle.field.specs.Register.{Register}

abbrev pub SJW : Field
SJW = 3 ‥ 0

abbrev pub TSEG2 : Field
TSEG2 = 11 ‥ 8

abbrev pub TSEG1 : Field
TSEG1 = 20 ‥ 16

abbrev pub BRP : Field
BRP = 31 ‥ 24

abbrev pub CiDBTCFG : Register
CiDBTCFG = record {
  address = λ n. 0x008;
  reset = 0x000E0303;
  fields = SJW ∷ TSEG2 ∷ TSEG1 ∷ BRP ∷ [];
}
