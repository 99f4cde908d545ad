-- Words to bytes and back, and lengths rounded up.
-- Assumes nothing.
use mathlib.Core.Path.{◌≡◌, refl, ap, ◌∙◌}
use mathlib.Core.List.{List, [], ◌∷◌, ◌++◌}
use Prim.Native.Nat.{ℕ, ◌+◌, ◌*◌, ◌/◌, ◌%◌, ◌^◌, ◌<◌, ◌≤◌}
use native.Mathlib.Nat.{add-zero}
use native.Mathlib.Omega.{arith}
use lib.ListN.{length, drop}
use lib.Seq.{get_or-drop}
use lib.Pow.{shr-shr, shr_mod}
use Rattle.field.specs.Field.{field_of}
use Rattle.words.specs.Words.{byte_of, le_bytes, be_bytes, le_at, be_at, round_up}

-- a byte and all above it
up : (w k : ℕ) → field_of w k 8 + 256 * (w / 2 ^ (k + 8)) ≡ w / 2 ^ k
up w k = omega (arith, shr-shr w k 8)

join : (a b c d p q w : ℕ) → a + 256 * p ≡ w → b + 256 * q ≡ p → c + 256 * d ≡ q → a + 256 * b + 65536 * c + 16777216 * d ≡ w
join a b c d p q w e f g = omega arith

-- a word's bytes stand for the word, whatever follows them
pub le_back : (w : ℕ) (r : List ℕ) → w < 2 ^ 32 → le_at (le_bytes w ++ r) 0 ≡ w
unfolding le_at le_bytes
le_back w r h =
    let top : byte_of w 2 + 256 * byte_of w 3 ≡ w / 2 ^ 16 = ap (λ (x : ℕ). byte_of w 2 + 256 * x) (shr_mod 8 24 h) ∙ up w 16 in
    join (byte_of w 0) (byte_of w 1) (byte_of w 2) (byte_of w 3) (w / 2 ^ 8) (w / 2 ^ 16) w (up w 0 ∙ omega arith) (up w 8) top

pub be_back : (w : ℕ) (r : List ℕ) → w < 2 ^ 16 → be_at (be_bytes w ++ r) 0 ≡ w
unfolding be_at be_bytes
be_back w r h = omega arith

-- four digits, low first
digits : (a b c d : ℕ) → a < 256 → b < 256 → c < 256 → d < 256
    → (let w : ℕ = a + 256 * b + 65536 * c + 16777216 * d in (w / 1 % 256 ≡ a) × (w / 256 % 256 ≡ b) × (w / 65536 % 256 ≡ c) × (w / 16777216 % 256 ≡ d))
digits a b c d ha hb hc hd = (omega arith, omega arith, omega arith, omega arith)

-- the bytes of the number that bytes stand for are those bytes
pub le_again : (a b c d : ℕ) (r : List ℕ) → a < 256 → b < 256 → c < 256 → d < 256 → le_bytes (le_at (a ∷ b ∷ c ∷ d ∷ r) 0) ≡ a ∷ b ∷ c ∷ d ∷ []
unfolding le_at le_bytes
le_again a b c d r ha hb hc hd =
    let (e₀, e₁, e₂, e₃) = digits a b c d ha hb hc hd in
    λ i. e₀ i ∷ e₁ i ∷ e₂ i ∷ e₃ i ∷ []

pub be_again : (a b : ℕ) (r : List ℕ) → a < 256 → b < 256 → be_bytes (be_at (a ∷ b ∷ r) 0) ≡ a ∷ b ∷ []
unfolding be_at be_bytes
be_again a b r ha hb =
    let w : ℕ = 256 * a + b in
    let e₁ : w / 256 % 256 ≡ a = omega arith in
    let e₀ : w / 1 % 256 ≡ b = omega arith in
    λ i. e₁ i ∷ e₀ i ∷ []

pub le_length : (w : ℕ) → length (le_bytes w) ≡ 4
unfolding le_bytes
le_length w = refl

-- a word further on is the first of what is left
pub le_drop : (s : List ℕ) (a : ℕ) → le_at s a ≡ le_at (drop a s) 0
unfolding le_at
le_drop s a = rw (get_or-drop, get_or-drop, get_or-drop, get_or-drop, add-zero a)

-- rounding up: not below, less than 4 above, a multiple of 4; what is a multiple stays
pub up_le : (n : ℕ) → n ≤ round_up n
up_le n = omega arith

pub up_lt : (n : ℕ) → round_up n < n + 4
up_lt n = omega arith

pub up_four : (n : ℕ) → round_up n % 4 ≡ 0
up_four n = omega arith

pub up_again : (n : ℕ) → n % 4 ≡ 0 → round_up n ≡ n
up_again n h = omega arith
