-- CiTXQCON: the control word of the transmit queue. Its other fields are those of a FIFO's control word.
-- Assumes nothing.
use Rattle.std.specs.Prelude.{[], ◌∷◌}
use Rattle.field.specs.Field.{Field, bit}
use Rattle.field.specs.Register.{Register}
use Rattle.fifo.specs.Control.{TXATIE, TXEN, UINC, TXREQ, FRESET, TXPRI, TXAT, FSIZE, PLSIZE}

abbrev pub TXQNIE : Field
TXQNIE = bit 0

abbrev pub TXQEIE : Field
TXQEIE = bit 2

abbrev pub CiTXQCON : Register
CiTXQCON = record {
  address = λ n. 0x050;
  reset = 0x00600480;
  fields = TXQNIE ∷ TXQEIE ∷ TXATIE ∷ TXEN ∷ UINC ∷ TXREQ ∷ FRESET ∷ TXPRI ∷ TXAT ∷ FSIZE ∷ PLSIZE ∷ [];
}
