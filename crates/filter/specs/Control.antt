-- CiFLTCONk: the control of filters 4k to 4k + 3, one byte a filter. Fields by the data sheet's names and bits.
-- Assumes nothing.
use Rattle.std.specs.Prelude.{ℕ, ◌+◌, ◌*◌, [], ◌∷◌}
use Rattle.field.specs.Field.{Field, place, bit}
use Rattle.field.specs.Register.{Register}

-- of byte i: the target FIFO in its bits 4..0, and the enable in its bit 7
abbrev pub FBP : ℕ → Field
FBP i = place (8 * i) 5

abbrev pub FLTEN : ℕ → Field
FLTEN i = bit (8 * i + 7)

abbrev pub CiFLTCON : Register
CiFLTCON = record {
  address = λ k. 0x1D0 + 4 * k;
  reset = 0x00000000;
  fields = FBP 0 ∷ FLTEN 0 ∷ FBP 1 ∷ FLTEN 1 ∷ FBP 2 ∷ FLTEN 2 ∷ FBP 3 ∷ FLTEN 3 ∷ [];
}
