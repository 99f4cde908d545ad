-- CiMASKm: the mask of a filter. Fields by the data sheet's names and bits.
-- Assumes nothing.
use Rattle.std.specs.Prelude.{◌+◌, ◌*◌, [], ◌∷◌}
use Rattle.field.specs.Field.{Field, ◌‥◌, bit}
use Rattle.field.specs.Register.{Register}

abbrev pub MSID : Field
MSID = 10 ‥ 0

abbrev pub MEID : Field
MEID = 28 ‥ 11

abbrev pub MSID11 : Field
MSID11 = bit 29

abbrev pub MIDE : Field
MIDE = bit 30

-- filter m has its registers 8m above those of filter 0
abbrev pub CiMASK : Register
CiMASK = record {
  address = λ n. 0x1F4 + 8 * n;
  reset = 0x00000000;
  fields = MSID ∷ MEID ∷ MSID11 ∷ MIDE ∷ [];
}
