-- `bit_xor` is associative, and takes doubled numbers to doubled numbers.
-- Assumes nothing.
use mathlib.Core.Path.{◌≡◌, refl, sym, ap, ap₂, ◌∙◌}
use Prim.Native.Nat.{ℕ, zero, suc, ◌+◌, ◌*◌, ◌/◌, ◌%◌, ◌^◌, ◌<◌}
use native.Mathlib.Nat.{mod-lt, add-zero}
use native.Mathlib.Omega.{arith}
use lib.Dec.{lit<}
use lib.Arith.{bin_ind, digits_mod}
use lib.Pow.{pow_pos}
use lib.Bits.{bit_xor, differ, xor_step, xor_comm, xor_shr, xor_block}

bits_assoc : (x y z : ℕ) → x < 2 → y < 2 → z < 2 → differ (differ x y) z ≡ differ x (differ y z)
bits_assoc zero y z hx hy hz = refl
bits_assoc (suc zero) zero z hx hy hz = refl
bits_assoc (suc zero) (suc zero) zero hx hy hz = refl
bits_assoc (suc zero) (suc zero) (suc zero) hx hy hz = refl
bits_assoc (suc zero) (suc zero) (suc (suc z)) hx hy hz = absurd (omega arith)
bits_assoc (suc zero) (suc (suc y)) z hx hy hz = absurd (omega arith)
bits_assoc (suc (suc x)) y z hx hy hz = absurd (omega arith)

bits_lt : (x y : ℕ) → x < 2 → y < 2 → differ x y < 2
bits_lt zero y hx hy = hy
bits_lt (suc x) zero hx hy = hx
bits_lt (suc zero) (suc zero) hx hy = lit< tt
bits_lt (suc zero) (suc (suc y)) hx hy = absurd (omega arith)
bits_lt (suc (suc x)) (suc y) hx hy = absurd (omega arith)

bit_lt : (n : ℕ) → n % 2 < 2
bit_lt n = mod-lt n (lit< tt)

half : (a b : ℕ) → bit_xor a b / 2 ≡ bit_xor (a / 2) (b / 2)
half a b = xor_shr a b 1

low : (a b : ℕ) → bit_xor a b % 2 ≡ differ (a % 2) (b % 2)
low a b = ap (λ (x : ℕ). x % 2) (xor_step a b) ∙ digits_mod (bit_xor (a / 2) (b / 2)) (bits_lt _ _ (bit_lt a) (bit_lt b))

-- by halves, from the low bit on
pub xor_assoc : (a b c : ℕ) → bit_xor (bit_xor a b) c ≡ bit_xor a (bit_xor b c)
xor_assoc a =
    bin_ind (λ (n : ℕ). (b c : ℕ) → bit_xor (bit_xor n b) c ≡ bit_xor n (bit_xor b c)) (λ b c. refl)
    (λ n ih b c.
    xor_step (bit_xor n b) c
    ∙ ap₂ (λ (x y : ℕ). x * 2 + y)
    (ap (λ (x : ℕ). bit_xor x (c / 2)) (half n b) ∙ ih (b / 2) (c / 2) ∙ ap (bit_xor (n / 2)) (sym (half b c)))
    (ap (λ (x : ℕ). differ x (c % 2)) (low n b) ∙ bits_assoc _ _ _ (bit_lt n) (bit_lt b) (bit_lt c) ∙ ap (differ (n % 2)) (sym (low b c)))
    ∙ sym (xor_step n (bit_xor b c)))
    a

pub xor_right_comm : (a b c : ℕ) → bit_xor (bit_xor a b) c ≡ bit_xor (bit_xor a c) b
xor_right_comm a b c = xor_assoc a b c ∙ ap (bit_xor a) (xor_comm b c) ∙ sym (xor_assoc a c b)

pub xor_shl : (a b k : ℕ) → bit_xor (a * 2 ^ k) (b * 2 ^ k) ≡ bit_xor a b * 2 ^ k
xor_shl a b k =
    ap₂ bit_xor (sym (add-zero (a * 2 ^ k))) (sym (add-zero (b * 2 ^ k))) ∙ xor_block k a b 0 0 (pow_pos k) (pow_pos k) ∙ add-zero (bit_xor a b * 2 ^ k)
