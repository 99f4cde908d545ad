-- CiFIFOUAn: the user address of a FIFO. Fields by the data sheet's names and bits.
-- Assumes nothing.
use Rattle.std.specs.Prelude.{◌+◌, ◌-◌, ◌*◌, [], ◌∷◌}
use Rattle.field.specs.Field.{Field, ◌‥◌}
use Rattle.field.specs.Register.{Register}

abbrev pub FIFOUA : Field
FIFOUA = 31 ‥ 0

-- FIFO n has its registers 12(n-1) above those of FIFO 1
abbrev pub CiFIFOUA : Register
CiFIFOUA = record {
  address = λ n. 0x064 + 12 * n - 12;
  reset = 0x00000000;
  fields = FIFOUA ∷ [];
}
