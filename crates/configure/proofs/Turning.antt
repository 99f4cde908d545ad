-- How often the items of a plan ask from a place on.
-- Assumes nothing.
use Prim.Native.Nat.{ℕ, zero, suc, ◌+◌, ◌-◌, ◌≤◌}
use mathlib.Core.Path.{◌≡◌, refl, ap, ◌∙◌}
use mathlib.Core.List.{List, [], ◌∷◌, ◌++◌}
use native.Mathlib.Nat.{zero-add}
use lib.ListN.{length, get_or, drop, replicate, drop_of_length-le}
use Rattle.plan.specs.declared.item.Item.{Item}
use Rattle.plan.specs.Step.{filled}
use Rattle.plan.specs.Talk.{asks_of, all_asks}

idle : (m i : ℕ) → all_asks (drop i (replicate m Item.Nothing)) ≡ 0
idle zero zero = refl
idle zero (suc i) = refl
idle (suc m) zero = zero-add _ ∙ idle m zero
idle (suc m) (suc i) = idle m i

-- behind the items there are none
array : (items : List Item) (m i : ℕ) → all_asks (drop i (items ++ replicate m Item.Nothing)) ≡ all_asks (drop i items)
array [] m zero = idle m zero
array [] m (suc i) = idle m (suc i)
array (x ∷ xs) m zero = ap (λ (n : ℕ). asks_of x + n) (array xs m zero)
array (x ∷ xs) m (suc i) = array xs m i

-- the item at a place, and those behind it
next : (items : List Item) (i : ℕ) → all_asks (drop i items) ≡ asks_of (get_or items i Item.Nothing) + all_asks (drop (suc i) items)
next [] zero = refl
next [] (suc i) = refl
next (x ∷ xs) zero = refl
next (x ∷ xs) (suc i) = next xs i

module _ (items : List Item) (i : ℕ) where
  -- how often those of a plan ask from place i on
  abbrev pub left : ℕ
  left = all_asks (drop i (filled items))

  pub left_end : length items ≤ i → left ≡ 0
  left_end l = array items (15 - length items) i ∙ ap all_asks (drop_of_length-le items l)
