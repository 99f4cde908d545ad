-- The first bytes of what was received, and of what is held.
-- Assumes nothing.
use mathlib.Core.Path.{◌≡◌, refl, sym, ap, ◌∙◌}
use mathlib.Core.List.{List, [], ◌∷◌, ◌++◌}
use Prim.Native.Nat.{ℕ, zero, suc, min, ◌≤◌}
use native.Mathlib.Nat.{zero-add, min-zero, suc-min-suc}
use native.Mathlib.Omega.{arith}
use lib.ListN.{length, take, drop, length-take}
use lib.Seq.{take-nil, drop-nil, length-take-le, take-append-le, take-take}
use Rattle.words.specs.Words.{round_up}
use Rattle.words.proofs.Laws.{up_le}
use Rattle.parts.specs.Parts.{put}
use Rattle.call.specs.declared.Found.{Found}
use Rattle.rx_fifo.specs.Step.{held_of}
use Rattle.rx_fifo.specs.Outcome.{message_of, found_of}

-- no more than there are
pub take_short : (n : ℕ) (l : List ℕ) → take (min (length l) n) l ≡ take n l
take_short n [] = take-nil (min 0 n) ∙ sym (take-nil n)
take_short zero (x ∷ xs) = ap (λ (k : ℕ). take k (x ∷ xs)) (min-zero (suc (length xs)))
take_short (suc n) (x ∷ xs) =
    ap (λ (k : ℕ). take k (x ∷ xs)) (suc-min-suc (length xs) n) ∙ ap (λ (l : List ℕ). x ∷ l) (take_short n xs)

front : (n : ℕ) (bs l : List ℕ) → length bs ≤ n → take n (bs ++ drop (length bs) l) ≡ bs ++ drop (length bs) (take n l)
front n [] l h = refl
front zero (b ∷ bs) l h = absurd (omega arith)
front (suc n) (b ∷ bs) [] h = ap (λ (l : List ℕ). b ∷ l) (simp (drop-nil, take-nil) at (front n bs [] (omega arith)))
front (suc n) (b ∷ bs) (x ∷ l) h = ap (λ (l : List ℕ). b ∷ l) (front n bs l (omega arith))

-- what is put at the front of a list is put at the front of its first n
put_front : (n : ℕ) (bs l : List ℕ) → length bs ≤ n → take n (put l 0 bs) ≡ put (take n l) 0 bs
unfolding put
put_front n bs l h = rw (zero-add (length bs)) (front n bs l h)

-- an answer held at the front of the body
pub held_front : (l rx : List ℕ) → take 64 (put l 0 (take 64 rx)) ≡ held_of (take 64 l) rx
unfolding held_of
held_front l rx = put_front 64 (take 64 rx) l (simp length-take (omega arith))

-- what is poured lies in the first 64 bytes of the body
pub poured : (n : ℕ) (l : List ℕ) → take (min n 64) (take 64 l) ≡ take (min n 64) l
poured n l = take-take (min n 64) 64 l (omega arith)

-- what is told of a message has the length of what is poured
pub found_is : (f : Found) (held : List ℕ) → length held ≡ 64 → found_of (message_of f held) ≡ record { header = f.header; dlc = f.dlc; filter = f.filter; stamp = f.stamp; len = min f.len 64 }
unfolding message_of
found_is f held e =
    let l = length-take-le (min f.len 64) held (omega (arith, e)) in
    λ i. record { header = f.header; dlc = f.dlc; filter = f.filter; stamp = f.stamp; len = l i }

-- what is held of a payload's answer gives the message that the answer gives
pub held_message : (f : Found) (held rx : List ℕ) → length rx ≡ round_up f.len → message_of f (held_of held rx) ≡ message_of f rx
unfolding message_of held_of put
held_message f held rx e =
    let n : ℕ = min f.len 64 in
    let l : n ≤ length (take 64 rx) = rw (length-take 64 rx, e) (omega (arith, up_le f.len)) in
    let p = take-append-le n (take 64 rx) _ l ∙ take-take n 64 rx (omega arith) in
    λ i. record { header = f.header; dlc = f.dlc; filter = f.filter; seq = 0; stamp = f.stamp; payload = p i }
