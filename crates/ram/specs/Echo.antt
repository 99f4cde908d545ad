-- The echo: what is written, and what has to come back.
-- Assumes nothing.
use Rattle.std.specs.Prelude.{ℕ, zero, suc, ◌^◌, Bool, true, false, ◌&&◌, List, [], ◌∷◌, ◌++◌, eqb}
use Rattle.words.specs.Words.{le_bytes}

-- the words 2 ^ 0 to 2 ^ (n - 1), little-endian, one after the other
unfoldable pub bit_words : ℕ → List ℕ
bit_words zero = []
bit_words (suc n) = bit_words n ++ le_bytes (2 ^ n)

-- the 32 words of an echo
unfoldable pub echo_bytes : List ℕ
echo_bytes = bit_words 32

-- two lists of bytes are the same
abbrev pub same : List ℕ → List ℕ → Bool
same [] [] = true
same [] (y ∷ ys) = false
same (x ∷ xs) [] = false
same (x ∷ xs) (y ∷ ys) = eqb x y && same xs ys
