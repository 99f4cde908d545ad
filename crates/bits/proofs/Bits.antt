-- A word bit by bit, and what bitwise operations do to each bit.
-- Assumes nothing.
use mathlib.Core.Path.{◌≡◌, refl, sym, ap, ap₂, ◌∙◌}
use Prim.Native.Nat.{ℕ, zero, suc, ◌+◌, ◌-◌, ◌*◌, ◌/◌, ◌%◌, ◌^◌, ◌<◌, min, max}
use native.Mathlib.Nat.{div-one, div-eq_of_lt}
use native.Mathlib.Numerals.{one-add}
use native.Mathlib.Omega.{arith}
use lib.Arith.{bin_ind}
use lib.Pow.{pow_pos, shr-shr}
use lib.Bits.{bit_and, bit_or, bit_xor, differ, and_step, or_step, xor_step}
use Rattle.field.specs.Field.{bit, read}

-- bit 0 is the lowest digit, one above it is a bit of the half
pub bit_zero : (w : ℕ) → read (bit 0) w ≡ w % 2
bit_zero w = ap (λ (x : ℕ). x % 2) (div-one w)

pub bit_suc : (w i : ℕ) → read (bit (suc i)) w ≡ read (bit i) (w / 2)
bit_suc w i = rw (← one-add i, ← shr-shr w 1 i)

pub zero_bit : (i : ℕ) → read (bit i) 0 ≡ 0
zero_bit i = ap (λ (x : ℕ). x % 2) (div-eq_of_lt (pow_pos i))

-- a word without bits is 0, and words with the same bits are the same
pub no_bits : (w : ℕ) → ((i : ℕ) → read (bit i) w ≡ 0) → w ≡ 0
no_bits =
    bin_ind (λ (w : ℕ). ((i : ℕ) → read (bit i) w ≡ 0) → w ≡ 0) (λ f. refl)
    (λ w ih f. omega (arith, sym (bit_zero w) ∙ f 0, ih (λ i. sym (bit_suc w i) ∙ f (suc i))))

pub same_bits : (v w : ℕ) → ((i : ℕ) → read (bit i) v ≡ read (bit i) w) → v ≡ w
same_bits =
    bin_ind (λ (v : ℕ). (w : ℕ) → ((i : ℕ) → read (bit i) v ≡ read (bit i) w) → v ≡ w)
    (λ w f. sym (no_bits w (λ i. sym (f i) ∙ zero_bit i)))
    (λ v ih w f.
    omega (arith, sym (bit_zero v) ∙ f 0 ∙ bit_zero w, ih (w / 2) (λ i. sym (bit_suc v i) ∙ f (suc i) ∙ bit_suc w i)))

-- an operation that goes digit by digit
module _ (op f : ℕ → ℕ → ℕ)
    (step : (a b : ℕ) → op a b ≡ op (a / 2) (b / 2) * 2 + f (a % 2) (b % 2))
    (small : (x y : ℕ) → x < 2 → y < 2 → f x y < 2) where
  fits : (a b : ℕ) → f (a % 2) (b % 2) < 2
  fits a b = small (a % 2) (b % 2) (omega arith) (omega arith)

  bit_of : (i a b : ℕ) → read (bit i) (op a b) ≡ f (read (bit i) a) (read (bit i) b)
  bit_of zero a b = simp bit_zero (omega (arith, step a b, fits a b))
  bit_of (suc i) a b =
      let h : op a b / 2 ≡ op (a / 2) (b / 2) = omega (arith, step a b, fits a b) in
      bit_suc (op a b) i ∙ ap (read (bit i)) h ∙ bit_of i (a / 2) (b / 2) ∙ sym (ap₂ f (bit_suc a i) (bit_suc b i))

pub and_bit : (i a b : ℕ) → read (bit i) (bit_and a b) ≡ min (read (bit i) a) (read (bit i) b)
and_bit = bit_of bit_and min and_step (λ x y hx hy. omega arith)

pub or_bit : (i a b : ℕ) → read (bit i) (bit_or a b) ≡ max (read (bit i) a) (read (bit i) b)
or_bit = bit_of bit_or max or_step (λ x y hx hy. omega arith)

differ_lt : (x y : ℕ) → x < 2 → y < 2 → differ x y < 2
differ_lt zero y hx hy = hy
differ_lt (suc x) zero hx hy = hx
differ_lt (suc x) (suc y) hx hy = differ_lt x y (omega arith) (omega arith)

pub xor_bit : (i a b : ℕ) → read (bit i) (bit_xor a b) ≡ differ (read (bit i) a) (read (bit i) b)
xor_bit = bit_of bit_xor differ xor_step differ_lt

-- the complement in k bits
pub not_bit : (k i w : ℕ) → w < 2 ^ k → i < k → read (bit i) (2 ^ k - 1 - w) ≡ 1 - read (bit i) w
not_bit zero i w h l = absurd (omega arith)
not_bit (suc k) zero w h l = simp bit_zero (omega (arith, h))
not_bit (suc k) (suc i) w h l =
    let e : (2 ^ suc k - 1 - w) / 2 ≡ 2 ^ k - 1 - w / 2 = omega (arith, h) in
    bit_suc (2 ^ suc k - 1 - w) i ∙ ap (read (bit i)) e ∙ not_bit k i (w / 2) (omega (arith, h)) (omega arith) ∙ ap (λ (x : ℕ). 1 - x) (sym (bit_suc w i))
