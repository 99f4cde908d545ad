-- Four shifts of the register are the table's word for its top four bits, joined to the other bits, shifted.
-- Assumes nothing.
use mathlib.Core.Path.{◌≡◌, refl, sym, ap, ap₂, ◌∙◌}
use Prim.Native.Nat.{ℕ, ◌*◌, ◌/◌, ◌%◌, ◌^◌, ◌<◌}
use native.Mathlib.Nat.{mod-lt, mod-eq_of_lt, mul-mod_left}
use native.Mathlib.Omega.{arith}
use lib.Pow.{pow_pos, split, shl-shr}
use lib.Bits.{bit_xor, xor_shr, xor_mod, xor_zero_r, xor_shifted, xor_comm}
use Rattle.crc.specs.Crc.{polynomial, shift1, shifts, crc_byte}
use Rattle.crc.proofs.Xor.{xor_assoc, xor_right_comm, xor_shl}

-- what lies below the top bit is doubled, and meets no polynomial
along : (a b : ℕ) → b < 2 ^ 15 → shift1 (bit_xor a b) ≡ bit_xor (shift1 a) (b * 2)
unfolding shift1
along a b h =
    let low : bit_xor a b * 2 % 2 ^ 16 ≡ bit_xor (a * 2 % 2 ^ 16) (b * 2)
    = ap (λ (x : ℕ). x % 2 ^ 16) (sym (xor_shl a b 1)) ∙ xor_mod (a * 2) (b * 2) 16 ∙ ap (bit_xor (a * 2 % 2 ^ 16)) (mod-eq_of_lt (omega arith)) in
    let none : b / 2 ^ 15 ≡ 0 = omega arith in
    let top : bit_xor a b / 2 ^ 15 ≡ a / 2 ^ 15 = xor_shr a b 15 ∙ ap (bit_xor (a / 2 ^ 15)) none ∙ xor_zero_r (a / 2 ^ 15) in
    ap₂ (λ (x y : ℕ). bit_xor x (y * polynomial)) low top ∙ xor_right_comm (a * 2 % 2 ^ 16) (b * 2) (a / 2 ^ 15 * polynomial)

-- and so, four times, what lies below the top four bits
four : (a b : ℕ) → b < 2 ^ 12 → shifts 4 (bit_xor a b) ≡ bit_xor (shifts 4 a) (b * 2 ^ 4)
unfolding shifts
four a b h =
    ap (λ (x : ℕ). shift1 (shift1 (shift1 x))) (along a b (omega arith))
    ∙ ap (λ (x : ℕ). shift1 (shift1 x)) (along _ (b * 2) (omega arith))
    ∙ ap shift1 (along _ (b * 2 * 2) (omega arith))
    ∙ along _ (b * 2 * 2 * 2) (omega arith)
    ∙ ap (bit_xor (shifts 4 a)) (omega arith)

-- the table's rule: n at the top of the register, and nothing below it, four bits on
abbrev pub entry : ℕ → ℕ
entry n = shifts 4 (n * 2 ^ 12)

by_table : (y : ℕ) → shifts 4 y ≡ bit_xor (entry (y / 2 ^ 12)) (y % 2 ^ 12 * 2 ^ 4)
by_table y =
    ap (shifts 4) (sym (split y 12) ∙ sym (xor_shifted (y / 2 ^ 12) 12 (y % 2 ^ 12) (mod-lt y (pow_pos 12))))
    ∙ four (y / 2 ^ 12 * 2 ^ 12) (y % 2 ^ 12) (mod-lt y (pow_pos 12))

-- four bits n enter at the top
pub entered : (c n : ℕ) → bit_xor (c * 2 ^ 4 % 2 ^ 16) (entry (bit_xor (c / 2 ^ 12) n)) ≡ shifts 4 (bit_xor c (n * 2 ^ 12))
entered c n =
    let top : bit_xor c (n * 2 ^ 12) / 2 ^ 12 ≡ bit_xor (c / 2 ^ 12) n = xor_shr c (n * 2 ^ 12) 12 ∙ ap (bit_xor (c / 2 ^ 12)) (shl-shr n 12) in
    let rest : bit_xor c (n * 2 ^ 12) % 2 ^ 12 ≡ c % 2 ^ 12
    = xor_mod c (n * 2 ^ 12) 12 ∙ ap (bit_xor (c % 2 ^ 12)) (mul-mod_left n (2 ^ 12)) ∙ xor_zero_r (c % 2 ^ 12) in
    let up : c % 2 ^ 12 * 2 ^ 4 ≡ c * 2 ^ 4 % 2 ^ 16 = omega arith in
    xor_comm (c * 2 ^ 4 % 2 ^ 16) (entry (bit_xor (c / 2 ^ 12) n))
    ∙ sym
    (by_table (bit_xor c (n * 2 ^ 12)) ∙ ap₂ (λ (x y : ℕ). bit_xor (entry x) (y * 2 ^ 4)) top rest ∙ ap (bit_xor (entry (bit_xor (c / 2 ^ 12) n))) up)

twice : (x : ℕ) → shifts 8 x ≡ shifts 4 (shifts 4 x)
unfolding shifts
twice x = refl

-- a byte is two times four bits, the high ones first
pub two_nibbles : (c b : ℕ) → shifts 4 (bit_xor (shifts 4 (bit_xor c (b / 2 ^ 4 * 2 ^ 12))) (b % 2 ^ 4 * 2 ^ 12)) ≡ crc_byte c b
unfolding crc_byte
two_nibbles c b =
    let l : b % 2 ^ 4 * 2 ^ 8 < 2 ^ 12 = omega arith in
    let parts : bit_xor (b / 2 ^ 4 * 2 ^ 12) (b % 2 ^ 4 * 2 ^ 8) ≡ b * 2 ^ 8 = xor_shifted (b / 2 ^ 4) 12 (b % 2 ^ 4 * 2 ^ 8) l ∙ omega arith in
    let eight : shifts 8 (bit_xor c (b * 2 ^ 8)) ≡ shifts 4 (shifts 4 (bit_xor (bit_xor c (b / 2 ^ 4 * 2 ^ 12)) (b % 2 ^ 4 * 2 ^ 8)))
    = twice (bit_xor c (b * 2 ^ 8)) ∙ ap (λ (x : ℕ). shifts 4 (shifts 4 x)) (ap (bit_xor c) (sym parts) ∙ sym (xor_assoc c (b / 2 ^ 4 * 2 ^ 12) (b % 2 ^ 4 * 2 ^ 8))) in
    sym (eight ∙ ap (shifts 4) (four (bit_xor c (b / 2 ^ 4 * 2 ^ 12)) (b % 2 ^ 4 * 2 ^ 8) l ∙ ap (bit_xor (shifts 4 (bit_xor c (b / 2 ^ 4 * 2 ^ 12)))) (omega arith)))
