-- CRC-16/CMS: width 16, polynomial 0x8005, start 0xFFFF, no reflection (the high bit comes first), no final xor.
-- Assumes nothing.
use Rattle.std.specs.Prelude.{ℕ, zero, suc, ◌*◌, ◌/◌, ◌%◌, ◌^◌, List, fold}
use Rattle.std.specs.Int.Bits.{bit_xor}

-- x^16 + x^15 + x^2 + 1, without its top term
abbrev pub polynomial : ℕ
polynomial = 0x8005

-- what the register holds before the first byte
abbrev pub start : ℕ
start = 0xFFFF

-- the register times x: doubled, and where a bit leaves at the top the polynomial is taken off
unfoldable pub shift1 : ℕ → ℕ
shift1 c = bit_xor (c * 2 % 2 ^ 16) (c / 2 ^ 15 * polynomial)

-- n times
unfoldable pub shifts : ℕ → ℕ → ℕ
shifts zero c = c
shifts (suc n) c = shifts n (shift1 c)

-- a byte enters at the top of the register, which then is shifted eight times
unfoldable pub crc_byte : ℕ → ℕ → ℕ
crc_byte c b = shifts 8 (bit_xor c (b * 2 ^ 8))

-- the register after bytes, c before them
unfoldable pub crc_from : ℕ → List ℕ → ℕ
crc_from c bs = fold crc_byte c bs

-- the CRC of bytes
unfoldable pub crc_of : List ℕ → ℕ
crc_of bs = crc_from start bs
