-- CiTDC: transmitter delay compensation. Fields by the data sheet's names and bits.
-- Assumes nothing.
use Rattle.std.specs.Prelude.{[], ◌∷◌}
use Rattle.field.specs.Field.{Field, ◌‥◌, bit}
use Rattle.field.specs.Register.{Register}

abbrev pub TDCV : Field
TDCV = 5 ‥ 0

abbrev pub TDCO : Field
TDCO = 14 ‥ 8

abbrev pub TDCMOD : Field
TDCMOD = 17 ‥ 16

abbrev pub SID11EN : Field
SID11EN = bit 24

abbrev pub EDGFLTEN : Field
EDGFLTEN = bit 25

abbrev pub CiTDC : Register
CiTDC = record {
  address = λ n. 0x00C;
  reset = 0x00021000;
  fields = TDCV ∷ TDCO ∷ TDCMOD ∷ SID11EN ∷ EDGFLTEN ∷ [];
}
