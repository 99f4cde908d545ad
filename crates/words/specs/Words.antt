-- Words as bytes on the wire.
-- Assumes nothing.
use Rattle.std.specs.Prelude.{ℕ, ◌+◌, ◌*◌, ◌/◌, ◌^◌, List, [], ◌∷◌, get_or}
use Rattle.field.specs.Field.{field_of}

-- byte k of a number, counted from the low end
abbrev pub byte_of : ℕ → ℕ → ℕ
byte_of w k = field_of w (8 * k) 8

-- a register or a RAM word: 4 bytes, little-endian
unfoldable pub le_bytes : ℕ → List ℕ
le_bytes w = byte_of w 0 ∷ byte_of w 1 ∷ byte_of w 2 ∷ byte_of w 3 ∷ []

-- a command or a CRC: 2 bytes, big-endian
unfoldable pub be_bytes : ℕ → List ℕ
be_bytes w = byte_of w 1 ∷ byte_of w 0 ∷ []

-- the number that the 4 bytes from place a on stand for, low byte first
unfoldable pub le_at : List ℕ → ℕ → ℕ
le_at s a = get_or s a 0 + 2 ^ 8 * get_or s (a + 1) 0 + 2 ^ 16 * get_or s (a + 2) 0 + 2 ^ 24 * get_or s (a + 3) 0

-- the number that the 2 bytes from place a on stand for, high byte first
unfoldable pub be_at : List ℕ → ℕ → ℕ
be_at s a = 2 ^ 8 * get_or s a 0 + get_or s (a + 1) 0

-- the least multiple of 4 that is not below n
abbrev pub round_up : ℕ → ℕ
round_up n = (n + 3) / 4 * 4
