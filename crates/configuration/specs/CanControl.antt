-- CiCON: CAN control. Fields by the data sheet's names and bits.
-- Assumes nothing.
use Rattle.std.specs.Prelude.{[], ◌∷◌}
use Rattle.field.specs.Field.{Field, ◌‥◌, bit}
use Rattle.field.specs.Register.{Register}

abbrev pub DNCNT : Field
DNCNT = 4 ‥ 0

abbrev pub ISOCRCEN : Field
ISOCRCEN = bit 5

abbrev pub PXEDIS : Field
PXEDIS = bit 6

abbrev pub WAKFIL : Field
WAKFIL = bit 8

abbrev pub WFT : Field
WFT = 10 ‥ 9

abbrev pub BUSY : Field
BUSY = bit 11

abbrev pub BRSDIS : Field
BRSDIS = bit 12

abbrev pub RTXAT : Field
RTXAT = bit 16

abbrev pub ESIGM : Field
ESIGM = bit 17

abbrev pub SERR2LOM : Field
SERR2LOM = bit 18

abbrev pub STEF : Field
STEF = bit 19

abbrev pub TXQEN : Field
TXQEN = bit 20

abbrev pub OPMOD : Field
OPMOD = 23 ‥ 21

abbrev pub REQOP : Field
REQOP = 26 ‥ 24

abbrev pub ABAT : Field
ABAT = bit 27

abbrev pub TXBWS : Field
TXBWS = 31 ‥ 28

abbrev pub CiCON : Register
CiCON = record {
  address = λ n. 0x000;
  reset = 0x04980760;
  fields = DNCNT ∷ ISOCRCEN ∷ PXEDIS ∷ WAKFIL ∷ WFT ∷ BUSY ∷ BRSDIS ∷ RTXAT ∷ ESIGM ∷ SERR2LOM ∷ STEF ∷ TXQEN ∷ OPMOD ∷ REQOP ∷ ABAT ∷ TXBWS ∷ [];
}
