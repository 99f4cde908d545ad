-- How an object is put together in bytes that are 0.
-- Assumes nothing.
use Rattle.std.specs.Prelude.{Option}
use mathlib.Core.Path.{◌≡◌, refl, sym, ap, ◌∙◌}
use mathlib.Core.List.{List, [], ◌++◌, append_assoc}
use Prim.Native.Nat.{ℕ, ◌+◌, ◌-◌, ◌≤◌}
use native.Mathlib.Nat.{add-zero}
use native.Mathlib.Omega.{arith}
use lib.ListN.{length, replicate, take-append-drop, length-append, length-replicate, replicate-append-replicate}
use Rattle.words.specs.Words.{le_bytes, round_up}
use Rattle.words.proofs.Laws.{le_length}
use Rattle.parts.specs.Parts.{put, zeroed}
use Rattle.parts.proofs.Laws.{put_next}
use Rattle.message.specs.Object.{stamp_bytes, padded, object_bytes}

-- zeros behind bytes are there in an array that is 0 behind
zeros_there : (n k : ℕ) (l : List ℕ) → length l + k ≤ n → zeroed n l ≡ zeroed n (l ++ replicate k 0)
unfolding zeroed
zeros_there n k l h =
    let e : k + (n - length (l ++ replicate k 0)) ≡ n - length l = simp (length-append, length-replicate) (omega arith) in
    rw (append_assoc, replicate-append-replicate, e)

-- nothing put
pub put_nothing : (l : List ℕ) (a : ℕ) → put l a [] ≡ l
unfolding put
put_nothing l a = rw (add-zero a) (take-append-drop a l)

-- bytes put behind the first n
next : (n : ℕ) (bs cs : List ℕ) → length bs ≡ n → put (zeroed 76 bs) n cs ≡ zeroed 76 (bs ++ cs)
next n bs cs e = ap (λ (k : ℕ). put (zeroed 76 bs) k cs) (sym e) ∙ put_next 76 bs cs

-- two words, a timestamp and a payload, put one behind the other
pub laid : (a b : ℕ) (s : Option ℕ) (p : List ℕ) → length (stamp_bytes s) ≤ 4 → length p ≤ 64
    → put (put (put (put (zeroed 76 []) 0 (le_bytes a)) 4 (le_bytes b)) 8 (stamp_bytes s)) (8 + length (stamp_bytes s)) p ≡ zeroed 76 (object_bytes a b s p)
unfolding object_bytes padded
laid a b s p f h =
    let words : List ℕ = le_bytes a ++ le_bytes b in
    let e : length words ≡ 8 = simp (length-append, le_length) in
    let g : length (words ++ stamp_bytes s) ≡ 8 + length (stamp_bytes s) = length-append words _ ∙ rw e in
    rw (next 0 [] (le_bytes a) refl, next 4 (le_bytes a) (le_bytes b) (le_length a), next 8 words (stamp_bytes s) e, next _ (words ++ stamp_bytes s) p g)
    (zeros_there 76 (round_up (length p) - length p) _ (simp (length-append, le_length) (omega arith)) ∙ simp append_assoc)
