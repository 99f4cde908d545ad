-- Which RAM an access may touch.
-- Assumes nothing.
use Rattle.std.specs.Prelude.{ℕ, ◌+◌, ◌%◌, Bool, ◌&&◌, leb, ltb, eqb, if◌then◌else◌, Result, Ok, Err}
use Rattle.spi.specs.declared.refusal.Refusal.{Refusal}

-- n bytes at a: a >= 0x400 and a + n <= 0xC00, worked without wrap
unfoldable pub in_range : ℕ → ℕ → Bool
in_range a n = leb 0x400 a && leb (a + n) 0xC00

-- where the n bytes that user address u means begin: it is tested before the range
unfoldable pub ram_address : ℕ → ℕ → Result ℕ Refusal
ram_address u n =
    if ltb 0xFBFF u then Err Refusal.BadUserAddress
    else if in_range (u + 0x400) n then Ok (u + 0x400)
    else Err (Refusal.InvalidRamAddress (u + 0x400))

-- the range is tested before the length, which is a multiple of 4
unfoldable pub access_of : ℕ → ℕ → Refusal → Result (Unit {0}) Refusal
access_of a n bad_length =
    if in_range a n then if eqb (n % 4) 0 then Ok tt else Err bad_length else Err (Refusal.InvalidRamAddress a)
