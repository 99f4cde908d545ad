-- CiFLTOBJm: the object of a filter. Fields by the data sheet's names and bits.
-- Assumes nothing.
use Rattle.std.specs.Prelude.{◌+◌, ◌*◌, [], ◌∷◌}
use Rattle.field.specs.Field.{Field, ◌‥◌, bit}
use Rattle.field.specs.Register.{Register}

abbrev pub SID : Field
SID = 10 ‥ 0

abbrev pub EID : Field
EID = 28 ‥ 11

abbrev pub SID11 : Field
SID11 = bit 29

abbrev pub EXIDE : Field
EXIDE = bit 30

-- filter m has its registers 8m above those of filter 0
abbrev pub CiFLTOBJ : Register
CiFLTOBJ = record {
  address = λ n. 0x1F0 + 8 * n;
  reset = 0x00000000;
  fields = SID ∷ EID ∷ SID11 ∷ EXIDE ∷ [];
}
