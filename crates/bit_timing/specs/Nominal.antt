-- CiNBTCFG: nominal bit time. Fields by the data sheet's names and bits.
-- Assumes nothing.
use Rattle.std.specs.Prelude.{[], ◌∷◌}
use Rattle.field.specs.Field.{Field, ◌‥◌}
use Rattle.field.specs.Register.{Register}

abbrev pub SJW : Field
SJW = 6 ‥ 0

abbrev pub TSEG2 : Field
TSEG2 = 14 ‥ 8

abbrev pub TSEG1 : Field
TSEG1 = 23 ‥ 16

abbrev pub BRP : Field
BRP = 31 ‥ 24

abbrev pub CiNBTCFG : Register
CiNBTCFG = record {
  address = λ n. 0x004;
  reset = 0x003E0F0F;
  fields = SJW ∷ TSEG2 ∷ TSEG1 ∷ BRP ∷ [];
}
