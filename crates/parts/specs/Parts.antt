-- Parts of a list of bytes: what is read, and what a write leaves.
-- Assumes nothing.
use Rattle.std.specs.Prelude.{ℕ, ◌+◌, ◌-◌, List, ◌++◌, length, take, drop, replicate}

-- the n bytes from place a on
unfoldable pub part : List ℕ → ℕ → ℕ → List ℕ
part l a n = take n (drop a l)

-- l with bs from place a on
unfoldable pub put : List ℕ → ℕ → List ℕ → List ℕ
put l a bs = take a l ++ (bs ++ drop (a + length bs) l)

-- an array of n bytes that begins with bs and is 0 behind
unfoldable pub zeroed : ℕ → List ℕ → List ℕ
zeroed n bs = bs ++ replicate (n - length bs) 0
