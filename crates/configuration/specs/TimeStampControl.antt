-- CiTSCON: time stamp control. Fields by the data sheet's names and bits.
-- Assumes nothing.
use Rattle.std.specs.Prelude.{[], ◌∷◌}
use Rattle.field.specs.Field.{Field, ◌‥◌, bit}
use Rattle.field.specs.Register.{Register}

abbrev pub TBCPRE : Field
TBCPRE = 9 ‥ 0

abbrev pub TBCEN : Field
TBCEN = bit 16

abbrev pub TSEOF : Field
TSEOF = bit 17

abbrev pub TSRES : Field
TSRES = bit 18

abbrev pub CiTSCON : Register
CiTSCON = record {
  address = λ n. 0x014;
  reset = 0x00000000;
  fields = TBCPRE ∷ TBCEN ∷ TSEOF ∷ TSRES ∷ [];
}
