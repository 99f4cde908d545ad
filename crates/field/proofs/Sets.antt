-- The laws of fields set one after the other.
-- Assumes nothing.
use mathlib.Core.Path.{◌≡◌, refl, sym, ap, ◌∙◌}
use mathlib.Core.Bool.{Bool, true, ◌&&◌}
use mathlib.Core.List.{List, [], ◌∷◌}
use Prim.Native.Nat.{ℕ, zero, suc, ◌+◌, ◌/◌, ◌%◌, ◌^◌, ◌<◌}
use native.Mathlib.Nat.{le_of_suc-le-suc, not-suc-le-zero, mod-lt, mod-eq_of_lt, div-eq_of_lt, zero-mul, zero-add, add_comm}
use lib.Dec.{eqb}
use lib.Pow.{pow_pos, mod-pow-add}
use lib.ListN.{length}
use borrow.Author.Tests.{leb-true, eqb-true}
use Rattle.laws.specs.All.{all}
use Rattle.laws.proofs.Table.{both}
use Rattle.field.specs.Field.{field_of, with_field, Field, place, read, write, Fits, apart, all_apart, within}
use Rattle.field.specs.Settings.{Setting, ◌:=◌, fields_of, settings, AllFit}
use Rattle.field.proofs.Laws.{read_write, write_other, set_lt, apart_sym}

-- ---- a field that none of them touches reads as before

pub off : (g : Field) (ss : List Setting) (w : ℕ) → all (apart g) (fields_of ss) ≡ true → AllFit ss → read g (settings ss w) ≡ read g w
off g [] w e h = refl
off g (f := v ∷ ss) w e h =
    let (a, b) = both (apart g f) (all (apart g) (fields_of ss)) e in
    off g ss (write f v w) b h.1 ∙ write_other f g v w h.0 (apart_sym g f a)

-- ---- each field reads what it was set to

abbrev pub field_at : List Setting → ℕ → Field
field_at [] i = place 0 0
field_at (f := v ∷ ss) zero = f
field_at (f := v ∷ ss) (suc i) = field_at ss i

abbrev pub value_at : List Setting → ℕ → ℕ
value_at [] i = 0
value_at (f := v ∷ ss) zero = v
value_at (f := v ∷ ss) (suc i) = value_at ss i

pub own : (ss : List Setting) (w i : ℕ) → all_apart (fields_of ss) ≡ true → AllFit ss → i < length ss → read (field_at ss i) (settings ss w) ≡ value_at ss i
own [] w i e h l = absurd (not-suc-le-zero l)
own (f := v ∷ ss) w zero e h l = off f ss (write f v w) (both (all (apart f) (fields_of ss)) (all_apart (fields_of ss)) e).0 h.1 ∙ read_write f v w h.0
own (f := v ∷ ss) w (suc i) e h l = own ss (write f v w) i (both (all (apart f) (fields_of ss)) (all_apart (fields_of ss)) e).1 h.1 (le_of_suc-le-suc l)

-- ---- a word of n bits stays one

write_lt : (n : ℕ) (f : Field) (v w : ℕ) → within n f ≡ true → Fits f v → w < 2 ^ n → write f v w < 2 ^ n
write_lt n (place p k) v w e h l = set_lt n w p k v l (leb-true (p + k) n e) h

pub settings_lt : (n : ℕ) (ss : List Setting) (w : ℕ) → all (within n) (fields_of ss) ≡ true → AllFit ss → w < 2 ^ n → settings ss w < 2 ^ n
settings_lt n [] w e h l = l
settings_lt n (f := v ∷ ss) w e h l =
    let (a, b) = both (within n f) (all (within n) (fields_of ss)) e in
    settings_lt n ss (write f v w) b h.1 (write_lt n f v w a h.0 l)

-- ---- fields that lie side by side from bit p to bit n, set to what they read of a word, give that part of the word

abbrev pub side_by_side : ℕ → List Field → ℕ → Bool
side_by_side p [] n = eqb p n
side_by_side p (place q k ∷ fs) n = eqb p q && side_by_side (p + k) fs n

abbrev pub readings : ℕ → List Field → List Setting
readings w [] = []
readings w (f ∷ fs) = f := read f w ∷ readings w fs

-- one more field
next : (w p k : ℕ) → with_field (w % 2 ^ p) p k (field_of w p k) ≡ w % 2 ^ (p + k)
unfolding with_field
next w p k =
    let small : w % 2 ^ p < 2 ^ p = mod-lt w (pow_pos p) in
    let above : w % 2 ^ p / 2 ^ p ≡ 0 = div-eq_of_lt small in
    let none : 0 / 2 ^ k ≡ 0 = div-eq_of_lt (pow_pos k) in
    rw (above, none, zero-mul (2 ^ k), zero-add (field_of w p k), mod-eq_of_lt small, add_comm p k) (sym (mod-pow-add w k p))

pub tiled : (w p n : ℕ) (fs : List Field) → side_by_side p fs n ≡ true → settings (readings w fs) (w % 2 ^ p) ≡ w % 2 ^ n
tiled w p n [] e = ap (λ (m : ℕ). w % 2 ^ m) (eqb-true p n e)
tiled w p n (place q k ∷ fs) e =
    let (a, b) = both (eqb p q) (side_by_side (p + k) fs n) e in
    let here : with_field (w % 2 ^ p) q k (field_of w q k) ≡ w % 2 ^ (p + k) = rw (← eqb-true p q a) (next w p k) in
    ap (settings (readings w fs)) here ∙ tiled w (p + k) n fs b
