-- CiFIFOSTAn: the status word of a FIFO. Fields by the data sheet's names and bits.
-- Assumes nothing.
use Rattle.std.specs.Prelude.{◌+◌, ◌-◌, ◌*◌, [], ◌∷◌}
use Rattle.field.specs.Field.{Field, ◌‥◌, bit}
use Rattle.field.specs.Register.{Register}

abbrev pub TFNRFNIF : Field
TFNRFNIF = bit 0

abbrev pub TFHRFHIF : Field
TFHRFHIF = bit 1

abbrev pub TFERFFIF : Field
TFERFFIF = bit 2

abbrev pub RXOVIF : Field
RXOVIF = bit 3

abbrev pub TXATIF : Field
TXATIF = bit 4

abbrev pub TXERR : Field
TXERR = bit 5

abbrev pub TXLARB : Field
TXLARB = bit 6

abbrev pub TXABT : Field
TXABT = bit 7

abbrev pub FIFOCI : Field
FIFOCI = 12 ‥ 8

-- FIFO n has its registers 12(n-1) above those of FIFO 1
abbrev pub CiFIFOSTA : Register
CiFIFOSTA = record {
  address = λ n. 0x060 + 12 * n - 12;
  reset = 0x00000000;
  fields = TFNRFNIF ∷ TFHRFHIF ∷ TFERFFIF ∷ RXOVIF ∷ TXATIF ∷ TXERR ∷ TXLARB ∷ TXABT ∷ FIFOCI ∷ [];
}
