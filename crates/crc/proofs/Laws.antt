-- Bytes given in two parts.
-- Assumes nothing.
use mathlib.Core.Path.{◌≡◌, refl}
use mathlib.Core.List.{List, [], ◌∷◌, ◌++◌}
use Prim.Native.Nat.{ℕ}
use Rattle.crc.specs.Crc.{start, crc_byte, crc_from, crc_of}

pub in_parts : (c : ℕ) (s t : List ℕ) → crc_from c (s ++ t) ≡ crc_from (crc_from c s) t
unfolding crc_from
in_parts c [] t = refl
in_parts c (b ∷ s) t = in_parts (crc_byte c b) s t

-- the register starts with the first part and goes on with the second
pub of_parts : (s t : List ℕ) → crc_of (s ++ t) ≡ crc_from (crc_from start s) t
unfolding crc_of
of_parts s t = in_parts start s t
