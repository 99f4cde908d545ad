-- CiTXQSTA: the status word of the transmit queue. Its other fields are those of a FIFO's status word.
-- Assumes nothing.
use Rattle.std.specs.Prelude.{[], ◌∷◌}
use Rattle.field.specs.Field.{Field, ◌‥◌, bit}
use Rattle.field.specs.Register.{Register}
use Rattle.fifo.specs.Status.{TXATIF, TXERR, TXLARB, TXABT}

abbrev pub TXQNIF : Field
TXQNIF = bit 0

abbrev pub TXQEIF : Field
TXQEIF = bit 2

abbrev pub TXQCI : Field
TXQCI = 12 ‥ 8

abbrev pub CiTXQSTA : Register
CiTXQSTA = record {
  address = λ n. 0x054;
  reset = 0x00000000;
  fields = TXQNIF ∷ TXQEIF ∷ TXATIF ∷ TXERR ∷ TXLARB ∷ TXABT ∷ TXQCI ∷ [];
}
