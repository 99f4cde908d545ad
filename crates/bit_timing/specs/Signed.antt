-- Numbers from -64 to 63 in seven bits, two's complement.
-- Assumes nothing.
use Rattle.std.specs.Prelude.{ℕ, ◌-◌, ◌<◌, Bool, ltb, ℤ, pos, negsuc, ◌-ℤ◌, if◌then◌else◌}

-- from -64 to 63; `negsuc n` is -(n + 1)
abbrev pub Small : ℤ → Type 0
Small (pos n) = n < 64
Small (negsuc n) = n < 64

-- the test of that
abbrev pub is_small : ℤ → Bool
is_small (pos n) = ltb n 64
is_small (negsuc n) = ltb n 64

-- the seven bits that stand for a number
abbrev pub seven_of : ℤ → ℕ
seven_of (pos n) = n
seven_of (negsuc n) = 127 - n

-- the number that seven bits stand for: from 64 on x stands for x - 128
abbrev pub number_of : ℕ → ℤ
number_of x = if ltb x 64 then pos x else pos x -ℤ pos 128
