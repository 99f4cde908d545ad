-- What makes a case lie outside: tests on the numbers of a transcript.
-- Assumes nothing.
use Rattle.std.specs.Prelude.{ℕ, ◌+◌, ◌/◌, ◌%◌, Bool, not, ◌&&◌, ltb, leb, eqb}
use Rattle.fifo.specs.Control.{payload_of}

-- 25: a user address word above 0xFBFF
unfoldable pub is_high : ℕ → Bool
is_high u = ltb 0xFBFF u

-- 35: a payload of n bytes is longer than PLSIZE of the control word w means
unfoldable pub is_long : (n w : ℕ) → Bool
is_long n w = ltb (payload_of w) n

-- D1: a part of n bytes at a, in RAM, that ends with it
unfoldable pub is_last : ℕ → ℕ → Bool
is_last a n = leb 0x400 a && eqb (a + n) 0xC00

-- D2: bit 14 of the CiTDC word is not bit 6 of TDCO
unfoldable pub is_cut : ℕ → ℕ → Bool
is_cut tdco w = not (eqb (w / 0x4000 % 2) (tdco / 64 % 2))

-- D3: a length that 32 bits do not hold beside its address
unfoldable pub is_beyond : ℕ → ℕ → Bool
is_beyond a n = leb 0x400 a && ltb 0xFFFFFFFF (a + n)
