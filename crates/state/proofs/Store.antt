-- Bytes stored in RAM, those that would lie behind its end left out.
-- Assumes nothing.
use mathlib.Core.Path.{◌≡◌, refl, sym, ap, ◌∙◌}
use mathlib.Core.Bool.{Bool, true, false}
use mathlib.Core.List.{List, ◌++◌, append-nil}
use Prim.Native.Nat.{ℕ, ◌+◌, ◌-◌, ◌≤◌, min}
use native.Mathlib.Omega.{arith}
use lib.Dec.{leb}
use lib.ListN.{length, take, drop, length-append, length-drop, drop_of_length-le}
use lib.Seq.{take_all, take-append_seam, take-append-le, take-append-add, take-length, length-take-le}
use borrow.Author.Tests.{leb-true, leb-false}
use Rattle.parts.specs.Parts.{put}

-- none where the place lies behind the end
pub put_behind : (l bs : List ℕ) (a : ℕ) → length l ≤ a → take (length l) (put l a bs) ≡ l
unfolding put
put_behind l bs a h = rw (take_all a l h, take-append_seam l (bs ++ drop (a + length bs) l))

module _ (l bs : List ℕ) (a : ℕ) (h : a ≤ length l) where
  -- what lies from the place on
  cut : (xs : List ℕ) → take (length l) (take a l ++ xs) ≡ take a l ++ take (length l - a) xs
  cut xs =
      let e : length (take a l) + (length l - a) ≡ length l = omega (arith, length-take-le a l h) in
      ap (λ (n : ℕ). take n (take a l ++ xs)) (sym e) ∙ take-append-add (take a l) xs (length l - a)

  fits : length bs ≤ length l - a → put l a (take (length bs) bs) ≡ take (length l) (put l a bs)
  unfolding put
  fits k = rw (take-length bs, cut (bs ++ drop (a + length bs) l), take_all (length l - a) (bs ++ drop (a + length bs) l) (simp (length-append, length-drop) (omega arith)))

  over : length l - a ≤ length bs → put l a (take (length l - a) bs) ≡ take (length l) (put l a bs)
  unfolding put
  over k =
      let n : length (take (length l - a) bs) ≡ length l - a = length-take-le (length l - a) bs k in
      rw (cut (bs ++ drop (a + length bs) l), take-append-le (length l - a) bs (drop (a + length bs) l) k, n, drop_of_length-le l {i = a + (length l - a)} (omega arith), append-nil)

  by_room : (b : Bool) → leb (length bs) (length l - a) ≡ b → put l a (take (min (length bs) (length l - a)) bs) ≡ take (length l) (put l a bs)
  by_room true e =
      let k = leb-true (length bs) (length l - a) e in
      let m : min (length bs) (length l - a) ≡ length bs = omega arith in
      rw m (fits k)
  by_room false e =
      let k = leb-false (length bs) (length l - a) e in
      let m : min (length bs) (length l - a) ≡ length l - a = omega arith in
      rw m (over (omega arith))

  -- as many as there is room for
  pub put_front : put l a (take (min (length bs) (length l - a)) bs) ≡ take (length l) (put l a bs)
  put_front = by_room (leb (length bs) (length l - a)) refl
