-- Data length codes and payload lengths.
-- Assumes nothing.
use Rattle.std.specs.Prelude.{ℕ, ◌+◌, min, Bool, true, false, List, [], ◌∷◌, get_or, take, ltb, eqb, if◌then◌else◌, Option, Some, None}

-- the payload lengths that DLC 0 to 15 mean
abbrev pub lengths : List ℕ
lengths = 0 ∷ 1 ∷ 2 ∷ 3 ∷ 4 ∷ 5 ∷ 6 ∷ 7 ∷ 8 ∷ 12 ∷ 16 ∷ 20 ∷ 24 ∷ 32 ∷ 48 ∷ 64 ∷ []

-- an FD frame may have all of them, a classic frame DLC 0 to 8
abbrev pub dlcs : Bool → ℕ
dlcs true = 16
dlcs false = 9

-- what a DLC means in a frame to send, FD or classic
unfoldable pub length_of : Bool → ℕ → Option ℕ
length_of fdf d = if ltb d (dlcs fdf) then Some (get_or lengths d 0) else None

-- what it means in a frame received: one of the lengths always, and in a classic frame at most 8
unfoldable pub received_length : Bool → ℕ → ℕ
received_length fdf d = if fdf then get_or lengths d 0 else min (get_or lengths d 0) 8

-- where n stands in a list whose first place is k
abbrev pub seek : List ℕ → ℕ → ℕ → Option ℕ
seek [] k n = None
seek (x ∷ xs) k n = if eqb x n then Some k else seek xs (k + 1) n

-- the DLC of a payload of n bytes: where n stands among the frame's lengths
unfoldable pub dlc_of : Bool → ℕ → Option ℕ
dlc_of fdf n = seek (take (dlcs fdf) lengths) 0 n

-- the DLC, 0 where there is none
abbrev pub code_or0 : Option ℕ → ℕ
code_or0 (Some d) = d
code_or0 None = 0
