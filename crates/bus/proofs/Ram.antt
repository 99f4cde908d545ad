-- Parts of a list, as far as it goes.
-- Assumes nothing.
use mathlib.Core.Path.{◌≡◌, ap, ◌∙◌}
use mathlib.Core.List.{List, [], ◌∷◌}
use Prim.Native.Nat.{ℕ, zero, suc, ◌+◌, ◌-◌, ◌≤◌, ◌<◌, min}
use native.Mathlib.Nat.{zero-min, suc-min-suc}
use native.Mathlib.Omega.{arith}
use lib.ListN.{length, get_or, take, drop, length-drop}
use lib.Seq.{take-nil, drop-nil, get_or-take, get_or-drop}
use Rattle.parts.specs.Parts.{part}
use Rattle.words.specs.Words.{le_at}

take_least : (n : ℕ) (l : List ℕ) → take (min n (length l)) l ≡ take n l
take_least zero l = rw (zero-min (length l))
take_least (suc n) [] = take-nil (min (suc n) 0)
take_least (suc n) (x ∷ l) = ap (λ (k : ℕ). take k (x ∷ l)) (suc-min-suc n (length l)) ∙ ap (λ (r : List ℕ). x ∷ r) (take_least n l)

drop_least : (a : ℕ) (l : List ℕ) → drop (min a (length l)) l ≡ drop a l
drop_least zero l = rw (zero-min (length l))
drop_least (suc a) [] = drop-nil (min (suc a) 0)
drop_least (suc a) (x ∷ l) = ap (λ (k : ℕ). drop k (x ∷ l)) (suc-min-suc a (length l)) ∙ drop_least a l

-- from a place to one n behind it, both brought within the list
pub part_within : (l : List ℕ) (a n : ℕ) → take (min (a + n) (length l) - min a (length l)) (drop (min a (length l)) l) ≡ part l a n
unfolding part
part_within l a n =
    let e : min (a + n) (length l) - min a (length l) ≡ min n (length (drop a l)) = rw (length-drop a l) (omega arith) in
    rw (drop_least a l, e) (take_least n (drop a l))

-- a word of a part is the list's
pub le_part : (l : List ℕ) (x z a j : ℕ) → a + 4 ≤ z → x + a ≡ j → le_at (part l x z) a ≡ le_at l j
unfolding part le_at
le_part l x z a j h f =
    let byte : (k i : ℕ) → k < z → x + k ≡ i → get_or (take z (drop x l)) k 0 ≡ get_or l i 0
    = λ k i s e. get_or-take z (drop x l) k 0 s ∙ get_or-drop x l k 0 ∙ ap (λ (i : ℕ). get_or l i 0) e in
    rw (
      byte a j (omega arith) f,
      byte (a + 1) (j + 1) (omega arith) (omega arith),
      byte (a + 2) (j + 2) (omega arith) (omega arith),
      byte (a + 3) (j + 3) (omega arith) (omega arith),
    )
