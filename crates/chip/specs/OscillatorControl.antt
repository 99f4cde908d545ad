-- OSC: oscillator control. Fields by the data sheet's names and bits.
-- Assumes nothing.
use Rattle.std.specs.Prelude.{[], ◌∷◌}
use Rattle.field.specs.Field.{Field, ◌‥◌, bit}
use Rattle.field.specs.Register.{Register}

abbrev pub PLLEN : Field
PLLEN = bit 0

abbrev pub OSCDIS : Field
OSCDIS = bit 2

abbrev pub LPMEN : Field
LPMEN = bit 3

abbrev pub SCLKDIV : Field
SCLKDIV = bit 4

abbrev pub CLKODIV : Field
CLKODIV = 6 ‥ 5

abbrev pub PLLRDY : Field
PLLRDY = bit 8

abbrev pub OSCRDY : Field
OSCRDY = bit 10

abbrev pub SCLKRDY : Field
SCLKRDY = bit 12

abbrev pub OSC : Register
OSC = record {
  address = λ n. 0xE00;
  reset = 0x00000460;
  fields = PLLEN ∷ OSCDIS ∷ LPMEN ∷ SCLKDIV ∷ CLKODIV ∷ PLLRDY ∷ OSCRDY ∷ SCLKRDY ∷ [];
}
