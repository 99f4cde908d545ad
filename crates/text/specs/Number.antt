-- What a word of a transcript says as a number.
-- Assumes nothing.
use Rattle.std.specs.Prelude.{ℕ, ◌+◌, ◌-◌, ◌*◌, ◌&&◌, List, [], ◌∷◌, ltb, leb, length, if◌then◌else◌, Option, Some, None}

-- what a character is as a digit: '0' to '9', 'a' to 'f'; 16, a digit of no base, for any other
unfoldable pub value_of : ℕ → ℕ
value_of b = if ltb b 48 then 16 else if ltb b 58 then b - 48 else if ltb b 97 then 16 else if ltb b 103 then b - 87 else 16

-- digits of a base that follow the number v
unfoldable pub read_from : ℕ → ℕ → List ℕ → Option ℕ
read_from base v [] = Some v
read_from base v (b ∷ s) = if ltb (value_of b) base then read_from base (v * base + value_of b) s else None

-- one digit at least, and so many at most
unfoldable pub number_of : ℕ → ℕ → List ℕ → Option ℕ
number_of base most s = if ltb 0 (length s) && leb (length s) most then read_from base 0 s else None

unfoldable pub decimal_of : List ℕ → Option ℕ
decimal_of s = number_of 10 12 s

unfoldable pub hex_of : List ℕ → Option ℕ
hex_of s = number_of 16 8 s
