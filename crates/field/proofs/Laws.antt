-- The laws of fields, over every position and width.
-- Assumes nothing.
use mathlib.Core.Path.{◌≡◌, refl, sym, ap, ap₂, ◌∙◌}
use mathlib.Core.Logic.{◌⊎◌, inl, inr, ⊎_elim}
use mathlib.Core.Bool.{Bool, true, false, ◌||◌, or_comm}
use Prim.Native.Nat.{ℕ, ◌+◌, ◌-◌, ◌*◌, ◌/◌, ◌%◌, ◌^◌, ◌≤◌, ◌<◌}
use native.Mathlib.Nat.{mod-lt, lt_of_le_of_lt}
use native.Mathlib.Omega.{arith}
use lib.Pow.{pow_pos, high, low, split, shr-shr, field, mod-mod-pow}
use lib.Bits.{or_lt, and_le_l}
use lib.Dec.{leb, eqb, lit<}
use borrow.Author.Tests.{leb-true}
use Rattle.field.specs.Field.{field_of, with_field, Field, place, read, write, digit, Fits, apart}
use Rattle.field.proofs.Masks.{set_is}

pub field_lt : (w p k : ℕ) → field_of w p k < 2 ^ k
field_lt w p k = mod-lt (w / 2 ^ p) (pow_pos k)

-- setting what is there changes nothing
pub set_get : (w p k : ℕ) → with_field w p k (field_of w p k) ≡ w
unfolding with_field
set_get w p k = ap (λ (x : ℕ). x * 2 ^ p + w % 2 ^ p) (split (w / 2 ^ p) k) ∙ split w p

module _ (w p k v : ℕ) (fits : v < 2 ^ k) where
  -- reading back what was set gives it
  pub get_set : field_of (with_field w p k v) p k ≡ v
  unfolding with_field
  get_set = ap (λ (x : ℕ). x % 2 ^ k) (high _ p (mod-lt w (pow_pos p))) ∙ low _ k fits

  -- what lies above and below the field stays
  top : with_field w p k v / 2 ^ (p + k) ≡ w / 2 ^ (p + k)
  unfolding with_field
  top =
      sym (shr-shr _ p k) ∙ ap (λ (x : ℕ). x / 2 ^ k) (high (w / 2 ^ p / 2 ^ k * 2 ^ k + v) p (mod-lt w (pow_pos p)))
      ∙ high (w / 2 ^ p / 2 ^ k) k fits ∙ shr-shr w p k

  bottom : with_field w p k v % 2 ^ p ≡ w % 2 ^ p
  unfolding with_field
  bottom = low (w / 2 ^ p / 2 ^ k * 2 ^ k + v) p (mod-lt w (pow_pos p))

-- a field above position m goes by what lies above m, one below m by what lies below
from_top : (x m q j : ℕ) → m ≤ q → field_of x q j ≡ x / 2 ^ m / 2 ^ (q - m) % 2 ^ j
from_top x m q j h =
    let e : m + (q - m) ≡ q = omega arith in
    ap (λ (y : ℕ). y % 2 ^ j) (ap (λ (n : ℕ). x / 2 ^ n) (sym e) ∙ sym (shr-shr x m (q - m)))

from_bottom : (x m q j : ℕ) → q + j ≤ m → field_of x q j ≡ x % 2 ^ m % 2 ^ (j + q) / 2 ^ q
from_bottom x m q j h =
    let e : m - (j + q) + (j + q) ≡ m = omega arith in
    sym (field x j q) ∙ ap (λ (y : ℕ). y / 2 ^ q) (sym (mod-mod-pow x (m - (j + q)) (j + q)) ∙ ap (λ (n : ℕ). x % 2 ^ n % 2 ^ (j + q)) e)

-- setting one field leaves the reading of every disjoint one
pub set_other : (w p k v q j : ℕ) → v < 2 ^ k → (p + k ≤ q) ⊎ (q + j ≤ p) → field_of (with_field w p k v) q j ≡ field_of w q j
set_other w p k v q j fits =
    ⊎_elim
    (λ h. from_top _ (p + k) q j h ∙ ap (λ (x : ℕ). x / 2 ^ (q - (p + k)) % 2 ^ j) (top w p k v fits) ∙ sym (from_top w (p + k) q j h))
    (λ h. from_bottom _ p q j h ∙ ap (λ (x : ℕ). x % 2 ^ (j + q) / 2 ^ q) (bottom w p k v fits) ∙ sym (from_bottom w p q j h))

-- a word of n bits stays one
pub set_lt : (n w p k v : ℕ) → w < 2 ^ n → p + k ≤ n → v < 2 ^ k → with_field w p k v < 2 ^ n
set_lt n w p k v hw hp hv = rw (← set_is n w p k v hw hp hv) (or_lt n _ _ (lt_of_le_of_lt (and_le_l w _) hw) (mod-lt _ (pow_pos n)))

-- what is set last stays
pub set_set : (w p k u v : ℕ) → u < 2 ^ k → with_field (with_field w p k u) p k v ≡ with_field w p k v
unfolding with_field
set_set w p k u v hu =
    ap₂ (λ (x y : ℕ). (x / 2 ^ k * 2 ^ k + v) * 2 ^ p + y) (high _ p (mod-lt w (pow_pos p))) (bottom w p k u hu)
    ∙ ap (λ (x : ℕ). (x * 2 ^ k + v) * 2 ^ p + w % 2 ^ p) (high (w / 2 ^ p / 2 ^ k) k hu)

-- ---- the same of a field by its place

pub read_write : (f : Field) (v w : ℕ) → Fits f v → read f (write f v w) ≡ v
read_write (place p k) v w = get_set w p k v

pub write_read : (f : Field) (w : ℕ) → write f (read f w) w ≡ w
write_read (place p k) w = set_get w p k

pub write_write : (f : Field) (u v w : ℕ) → Fits f u → write f v (write f u w) ≡ write f v w
write_write (place p k) u v w = set_set w p k u v

either : (a b : Bool) → (a || b) ≡ true → (a ≡ true) ⊎ (b ≡ true)
either true b e = inl refl
either false b e = inr e

pub write_other : (f g : Field) (v w : ℕ) → Fits f v → apart f g ≡ true → read g (write f v w) ≡ read g w
write_other (place p k) (place q j) v w h e =
    set_other w p k v q j h (⊎_elim (λ a. inl (leb-true (p + k) q a)) (λ b. inr (leb-true (q + j) p b)) (either (leb (p + k) q) (leb (q + j) p) e))

pub apart_sym : (f g : Field) → apart f g ≡ true → apart g f ≡ true
apart_sym (place p k) (place q j) e = or_comm (leb (q + j) p) (leb (p + k) q) ∙ e

-- ---- bits and truth values

pub digit_lt : (b : Bool) → digit b < 2
digit_lt true = lit< tt
digit_lt false = lit< tt

pub digit_back : (b : Bool) → eqb (digit b) 1 ≡ b
digit_back true = refl
digit_back false = refl
