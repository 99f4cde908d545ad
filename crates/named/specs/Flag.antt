-- What one bit says.
-- Assumes nothing.
use Rattle.std.specs.Prelude.{ℕ, Bool, true, false, eqb, if◌then◌else◌, Option, Some, None}

-- 0 is no and 1 is yes; no other number fits
unfoldable pub flag_of : ℕ → Option Bool
flag_of v = if eqb v 0 then Some false else if eqb v 1 then Some true else None
