-- Bytes stored one after the other, in any list and in an array of zeros.
-- Assumes nothing.
use mathlib.Core.Path.{◌≡◌, refl, sym, ap, ◌∙◌}
use mathlib.Core.List.{List, [], ◌++◌, append_assoc}
use Prim.Native.Nat.{ℕ, zero, suc, ◌-◌, ◌≤◌}
use native.Mathlib.Nat.{zero-add, sub-zero, zero-sub, suc-sub-suc}
use native.Mathlib.Omega.{arith}
use lib.ListN.{length, drop, replicate, length-append, length-replicate}
use lib.Seq.{take-append_seam, drop-append-add, drop-drop}
use Rattle.parts.specs.Parts.{put, zeroed}

drop_zeros : (k m : ℕ) → drop k (replicate {A = ℕ} m 0) ≡ replicate (m - k) 0
drop_zeros zero m = ap (λ (n : ℕ). replicate n 0) (sym (sub-zero m))
drop_zeros (suc k) zero = ap (λ (n : ℕ). replicate n 0) (sym (zero-sub (suc k)))
drop_zeros (suc k) (suc m) = drop_zeros k m ∙ ap (λ (n : ℕ). replicate n 0) (sym (suc-sub-suc m k))

pub length_zeroed : (n : ℕ) (bs : List ℕ) → length bs ≤ n → length (zeroed n bs) ≡ n
unfolding zeroed
length_zeroed n bs h = simp (length-append, length-replicate) (omega arith)

-- what is stored behind the bytes that are there goes on from them
pub put_next : (n : ℕ) (bs cs : List ℕ) → put (zeroed n bs) (length bs) cs ≡ zeroed n (bs ++ cs)
unfolding put zeroed
put_next n bs cs =
    let e : n - length bs - length cs ≡ n - length (bs ++ cs) = simp length-append (omega arith) in
    rw (take-append_seam, drop-append-add, drop_zeros, e, append_assoc)

-- what is put behind bytes at the front goes on from them
pub put_behind : (l bs cs : List ℕ) → put (put l 0 bs) (length bs) cs ≡ put l 0 (bs ++ cs)
unfolding put
put_behind l bs cs =
    rw (zero-add (length bs), zero-add (length (bs ++ cs)), length-append, take-append_seam, drop-append-add, drop-drop (length cs) (length bs) l, append_assoc)

pub put_none : (l : List ℕ) → put l 0 [] ≡ l
unfolding put
put_none l = refl
