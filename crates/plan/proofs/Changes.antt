-- What a change writes: the fields that it sets, one after the other, and every other bit as read.
-- Assumes nothing.
use Prim.Native.Nat.{ℕ, ◌+◌, ◌-◌, ◌*◌, ◌/◌, ◌%◌, ◌^◌, ◌<◌}
use mathlib.Core.Path.{◌≡◌, refl, sym, ap, ap₂, ◌∙◌}
use mathlib.Core.List.{List, [], ◌∷◌}
use native.Mathlib.Nat.{mod-lt, mod-eq_of_lt}
use lib.Pow.{pow_pos, split}
use lib.Bits.{bit_and, bit_or, and_block, or_block, and_shr, or_shr, and_mod, or_mod, and_lt, and_mask, and_zero_r, or_zero_l, or_zero_r}
use Rattle.field.specs.Field.{place, with_field}
use Rattle.field.specs.Settings.{Setting, ◌:=◌, fields_of, settings, AllFit}
use Rattle.plan.specs.declared.change.Change.{Change}
use Rattle.plan.specs.Change.{modified, setting, setting_all, change_of, cleared, change_to, ChangeSets, ChangeIs}

-- one field: above it, in it, below it
module _ (w m s p k v : ℕ) where
  low : ℕ → ℕ
  low x = x % 2 ^ p

  high : ℕ → ℕ
  high x = x / 2 ^ p / 2 ^ k

  kept : bit_and w (with_field m p k 0) ≡ (bit_and (high w) (high m) * 2 ^ k + 0) * 2 ^ p + bit_and (low w) (low m)
  unfolding with_field low high
  kept =
      ap (λ x. bit_and x ((m / 2 ^ p / 2 ^ k * 2 ^ k + 0) * 2 ^ p + m % 2 ^ p)) (sym (split w p))
      ∙ and_block p (w / 2 ^ p) (m / 2 ^ p / 2 ^ k * 2 ^ k + 0) (w % 2 ^ p) (m % 2 ^ p) (mod-lt w (pow_pos p)) (mod-lt m (pow_pos p))
      ∙ ap (λ x. x * 2 ^ p + bit_and (w % 2 ^ p) (m % 2 ^ p))
      (ap (λ x. bit_and x (m / 2 ^ p / 2 ^ k * 2 ^ k + 0)) (sym (split (w / 2 ^ p) k))
      ∙ and_block k (w / 2 ^ p / 2 ^ k) (m / 2 ^ p / 2 ^ k) (w / 2 ^ p % 2 ^ k) 0 (mod-lt (w / 2 ^ p) (pow_pos k)) (pow_pos k)
      ∙ ap (λ x. bit_and (w / 2 ^ p / 2 ^ k) (m / 2 ^ p / 2 ^ k) * 2 ^ k + x) (and_zero_r (w / 2 ^ p % 2 ^ k)))

  pub one_field : v < 2 ^ k → bit_or (bit_and w (with_field m p k 0)) (with_field s p k v) ≡ with_field (bit_or (bit_and w m) s) p k v
  unfolding with_field low high
  one_field h =
      ap (λ x. bit_or x ((s / 2 ^ p / 2 ^ k * 2 ^ k + v) * 2 ^ p + s % 2 ^ p)) kept
      ∙ or_block p (bit_and (high w) (high m) * 2 ^ k + 0) (high s * 2 ^ k + v) (bit_and (low w) (low m)) (low s)
      (and_lt p (low w) (low m) (mod-lt w (pow_pos p)) (mod-lt m (pow_pos p))) (mod-lt s (pow_pos p))
      ∙ ap₂ (λ x y. x * 2 ^ p + y)
      (or_block k (bit_and (high w) (high m)) (high s) 0 v (pow_pos k) h
      ∙ ap₂ (λ x y. x * 2 ^ k + y) (sym above) (or_zero_l v))
      (sym below)
    where
      above : bit_or (bit_and w m) s / 2 ^ p / 2 ^ k ≡ bit_or (bit_and (w / 2 ^ p / 2 ^ k) (m / 2 ^ p / 2 ^ k)) (s / 2 ^ p / 2 ^ k)
      above = rw (or_shr (bit_and w m) s p, or_shr (bit_and w m / 2 ^ p) (s / 2 ^ p) k, and_shr w m p, and_shr (w / 2 ^ p) (m / 2 ^ p) k)

      below : bit_or (bit_and w m) s % 2 ^ p ≡ bit_or (bit_and (w % 2 ^ p) (m % 2 ^ p)) (s % 2 ^ p)
      below = rw (or_mod (bit_and w m) s p, and_mod w m p)

-- all of them
sets_from : (c : Change) (ss : List Setting) (w : ℕ) → AllFit ss → modified (setting_all ss c) w ≡ settings ss (modified c w)
unfolding modified
sets_from c [] w h = refl
sets_from c (place p k := v ∷ ss) w h =
    sets_from (setting (place p k := v) c) ss w h.1
    ∙ ap (settings ss) (one_field w c.keep c.set p k v h.0)

pub change_sets_lem : ChangeSets
unfolding modified
change_sets_lem address ss w l h =
    sets_from (record { address = address; keep = 2 ^ 32 - 1; set = 0 }) ss w h
    ∙ ap (settings ss) (or_zero_r (bit_and w (2 ^ 32 - 1)) ∙ and_mask w 32 ∙ mod-eq_of_lt l)

-- the parts of a change: its fields are cleared in what is kept, and set in what is set
parts_from : (ss : List Setting) (c : Change) → setting_all ss c ≡ record { address = c.address; keep = cleared (fields_of ss) c.keep; set = settings ss c.set }
parts_from [] c = refl
parts_from (place p k := v ∷ ss) c = parts_from ss (setting (place p k := v) c)

pub change_parts : (address : ℕ) (ss : List Setting) → change_of address ss ≡ change_to address (fields_of ss) (settings ss 0)
change_parts address ss = parts_from ss (record { address = address; keep = 2 ^ 32 - 1; set = 0 })

pub change_is_lem : ChangeIs
change_is_lem address ss = ap (λ c. change_to address (fields_of ss) c.set) (change_parts address ss) ∙ sym (change_parts address ss)
