-- Message objects: two words, a timestamp word where there is one, the payload.
-- Assumes nothing.
use Rattle.std.specs.Prelude.{ℕ, ◌-◌, List, [], ◌++◌, length, replicate, Option, Some, None}
use Rattle.words.specs.Words.{le_bytes, round_up}

-- the bytes of a timestamp, where there is one
abbrev pub stamp_bytes : Option ℕ → List ℕ
stamp_bytes (Some t) = le_bytes t
stamp_bytes None = []

-- a payload with zeros up to a multiple of 4
unfoldable pub padded : List ℕ → List ℕ
padded p = p ++ replicate (round_up (length p) - length p) 0

-- two words, the timestamp, the payload
unfoldable pub object_bytes : (a b : ℕ) → Option ℕ → List ℕ → List ℕ
object_bytes a b stamp p = le_bytes a ++ le_bytes b ++ stamp_bytes stamp ++ padded p
