-- A field of a word, by arithmetic alone: k bits from bit p on, bits numbered from 0, the least significant.
-- Assumes nothing.
use Rattle.std.specs.Prelude.{ℕ, ◌+◌, ◌-◌, ◌*◌, ◌/◌, ◌%◌, ◌^◌, ◌<◌, Bool, true, false, ◌&&◌, ◌||◌, List, [], ◌∷◌, eqb, leb}
use Rattle.laws.specs.All.{all}

-- what the field holds
abbrev pub field_of : (w p k : ℕ) → ℕ
field_of w p k = w / 2 ^ p % 2 ^ k

-- the word with v in the field: what lies above it, v, what lies below it
unfoldable pub with_field : (w p k v : ℕ) → ℕ
with_field w p k v = (w / 2 ^ p / 2 ^ k * 2 ^ k + v) * 2 ^ p + w % 2 ^ p

-- the place of a field: its lowest bit and its width
pub data Field : Type 0 where
  place : (low width : ℕ) → Field

-- as the data sheet writes it, `31 ‥ 29`: the highest bit, the lowest bit
infix 20 ◌‥◌
abbrev pub ◌‥◌ : ℕ → ℕ → Field
high ‥ low = place low (high + 1 - low)

-- a field of one bit
abbrev pub bit : ℕ → Field
bit p = place p 1

-- reading a field, and a field of one bit as a truth value
abbrev pub read : Field → ℕ → ℕ
read (place p k) w = field_of w p k

abbrev pub flag : Field → ℕ → Bool
flag f w = eqb (read f w) 1

-- setting a field of a word, and a field of one bit by a truth value
abbrev pub write : Field → ℕ → ℕ → ℕ
write (place p k) v w = with_field w p k v

abbrev pub digit : Bool → ℕ
digit true = 1
digit false = 0

abbrev pub mark : Field → Bool → ℕ → ℕ
mark f on w = write f (digit on) w

-- a value that is not wider than the field
abbrev pub Fits : Field → ℕ → Type 0
Fits (place p k) v = v < 2 ^ k

-- two fields that share no bit
abbrev pub apart : Field → Field → Bool
apart (place p k) (place q j) = leb (p + k) q || leb (q + j) p

-- no two fields of a list share a bit
abbrev pub all_apart : List Field → Bool
all_apart [] = true
all_apart (f ∷ fs) = all (apart f) fs && all_apart fs

-- a field whose bits all lie in a word of n bits
abbrev pub within : ℕ → Field → Bool
within n (place p k) = leb (p + k) n
