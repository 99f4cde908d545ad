-- Bytes written inside a list: what is read there and elsewhere afterwards, as parts and one by one.
-- Assumes nothing.
use mathlib.Core.Path.{◌≡◌, ap, ◌∙◌}
use mathlib.Core.List.{List, ◌++◌}
use Prim.Native.Nat.{ℕ, ◌+◌, ◌-◌, ◌≤◌, ◌<◌}
use native.Mathlib.Omega.{arith}
use lib.ListN.{length, get_or, take, drop, length-append, length-take, length-drop, get_or-append}
use lib.Seq.{take-append-le, drop-append-le, drop_at, take-take, take-add, drop-drop, length-take-le, take_all, take-append-add, drop-append-add, get_or-append-add, get_or-take, get_or-drop}
use Rattle.parts.specs.Parts.{part, put}

-- ---- past the first of two lists

drop_past : (p q : List ℕ) (b : ℕ) → length p ≤ b → drop b (p ++ q) ≡ drop (b - length p) q
drop_past p q b h =
    let e : b ≡ length p + (b - length p) = omega arith in
    ap (λ (k : ℕ). drop k (p ++ q)) e ∙ drop-append-add p q (b - length p)

take_past : (p q : List ℕ) (b : ℕ) → length p ≤ b → take b (p ++ q) ≡ p ++ take (b - length p) q
take_past p q b h =
    let e : b ≡ length p + (b - length p) = omega arith in
    ap (λ (k : ℕ). take k (p ++ q)) e ∙ take-append-add p q (b - length p)

past : (p q : List ℕ) (x : ℕ) → length p ≤ x → get_or (p ++ q) x 0 ≡ get_or q (x - length p) 0
past p q x h =
    let e : x ≡ length p + (x - length p) = omega arith in
    ap (λ (y : ℕ). get_or (p ++ q) y 0) e ∙ get_or-append-add p q (x - length p) 0

-- drop and take change places
take_drop : (n b : ℕ) (l : List ℕ) → b ≤ length l → take n (drop b l) ≡ drop b (take (b + n) l)
take_drop n b l h = rw (take-add, drop_at (take b l) (take n (drop b l)) b (length-take-le b l h))

pub length_part : (l : List ℕ) (a n : ℕ) → a + n ≤ length l → length (part l a n) ≡ n
unfolding part
length_part l a n h = simp (length-take, length-drop) (omega arith)

-- ---- bytes bs put at place a, inside

module _ (l : List ℕ) (a : ℕ) (bs : List ℕ) (fits : a + length bs ≤ length l) where
  front_long : length (take a l) ≡ a
  front_long = length-take-le a l (omega arith)

  pub length_put : length (put l a bs) ≡ length l
  unfolding put
  length_put = simp (length-append, length-take, length-drop) (omega arith)

  -- nothing lies behind the end
  pub put_inside : take (length l) (put l a bs) ≡ put l a bs
  put_inside = take_all (length l) (put l a bs) (omega (arith, length_put))

  pub part_before : (b n : ℕ) → b + n ≤ a → part (put l a bs) b n ≡ part l b n
  unfolding part put
  part_before b n h =
      let e = front_long in
      let x : b ≤ length (take a l) = omega arith in
      let y : n ≤ length (drop b (take a l)) = simp length-drop (omega arith) in
      let z : b ≤ length l = omega arith in
      rw (drop-append-le, take-append-le, take_drop n b l, take_drop n b (take a l), take-take (b + n) a l h)

  pub part_behind : (b n : ℕ) → a + length bs ≤ b → part (put l a bs) b n ≡ part l b n
  unfolding part put
  part_behind b n h =
      let e = front_long in
      let f : a + length bs + (b - length (take a l) - length bs) ≡ b = omega arith in
      let d : drop (b - length (take a l) - length bs) (drop (a + length bs) l) ≡ drop b l = rw (drop-drop, f) in
      rw (
        drop_past (take a l) (bs ++ drop (a + length bs) l) b (omega arith),
        drop_past bs (drop (a + length bs) l) (b - length (take a l)) (omega arith),
        d,
      )

  -- the part written, and what stands behind it up to n bytes
  pub part_same : (n : ℕ) → length bs ≤ n → part (put l a bs) a n ≡ bs ++ take (n - length bs) (drop (a + length bs) l)
  unfolding part put
  part_same n h =
      rw (drop_at (take a l) (bs ++ drop (a + length bs) l) a front_long) (take_past bs (drop (a + length bs) l) n h)

  pub byte_before : (x : ℕ) → x < a → get_or (put l a bs) x 0 ≡ get_or l x 0
  unfolding put
  byte_before x h =
      let k : x < length (take a l) = omega (arith, front_long) in
      get_or-append (take a l) (bs ++ drop (a + length bs) l) 0 x k ∙ get_or-take a l x 0 h

  pub byte_within : (x : ℕ) → a ≤ x → x < a + length bs → get_or (put l a bs) x 0 ≡ get_or bs (x - a) 0
  unfolding put
  byte_within x h k =
      past (take a l) (bs ++ drop (a + length bs) l) x (omega (arith, front_long))
      ∙ rw front_long (get_or-append bs (drop (a + length bs) l) 0 (x - a) (omega arith))

  pub byte_behind : (x : ℕ) → a + length bs ≤ x → get_or (put l a bs) x 0 ≡ get_or l x 0
  unfolding put
  byte_behind x h =
      let e : a + length bs + (x - a - length bs) ≡ x = omega arith in
      past (take a l) (bs ++ drop (a + length bs) l) x (omega (arith, front_long))
      ∙ rw front_long (past bs (drop (a + length bs) l) (x - a) (omega arith) ∙ get_or-drop (a + length bs) l (x - a - length bs) 0 ∙ ap (λ (y : ℕ). get_or l y 0) e)
