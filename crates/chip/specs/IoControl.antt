-- IOCON: input and output control. Fields by the data sheet's names and bits.
-- Assumes nothing.
use Rattle.std.specs.Prelude.{ℕ, ◌+◌, [], ◌∷◌}
use Rattle.field.specs.Field.{Field, bit}
use Rattle.field.specs.Register.{Register}

-- of pin i, 0 or 1: TRIS0, TRIS1, ..
abbrev pub TRIS : ℕ → Field
TRIS i = bit i

abbrev pub LAT : ℕ → Field
LAT i = bit (8 + i)

abbrev pub GPIO : ℕ → Field
GPIO i = bit (16 + i)

abbrev pub PM : ℕ → Field
PM i = bit (24 + i)

abbrev pub XSTBYEN : Field
XSTBYEN = bit 6

abbrev pub TXCANOD : Field
TXCANOD = bit 28

abbrev pub SOF : Field
SOF = bit 29

abbrev pub INTOD : Field
INTOD = bit 30

abbrev pub IOCON : Register
IOCON = record {
  address = λ n. 0xE04;
  reset = 0x03000003;
  fields = TRIS 0 ∷ TRIS 1 ∷ XSTBYEN ∷ LAT 0 ∷ LAT 1 ∷ GPIO 0 ∷ GPIO 1 ∷ PM 0 ∷ PM 1 ∷ TXCANOD ∷ SOF ∷ INTOD ∷ [];
}
