-- What an echo sends, and what its comparison says.
-- Assumes nothing.
use Prim.Native.Nat.{ℕ}
use mathlib.Core.Path.{◌≡◌, refl, ap}
use mathlib.Core.Bool.{true, false≢true}
use mathlib.Core.Logic.{◌↔◌}
use mathlib.Core.List.{List, [], ◌∷◌}
use native.Mathlib.Omega.{arith}
use lib.Seq.{take_all}
use lib.Dec.{eqb}
use borrow.Author.Tests.{eqb-true, eq-eqb}
use Rattle.laws.proofs.Table.{both}
use Rattle.words.specs.Words.{be_bytes}
use Rattle.spi.specs.Instruction.{command_of}
use Rattle.spi.specs.Ask.{sent}
use Rattle.ram.specs.RamCall.{RamCall}
use Rattle.ram.specs.Echo.{bit_words, echo_bytes, same}
use Rattle.ram.specs.Step.{ask_of}
use Rattle.ram.proofs.Pattern.{length_words}

told : (xs ys : List ℕ) → same xs ys ≡ true → xs ≡ ys
told [] [] e = refl
told [] (y ∷ ys) e = absurd (false≢true e)
told (x ∷ xs) [] e = absurd (false≢true e)
told (x ∷ xs) (y ∷ ys) e =
    let (h, t) = both (eqb x y) (same xs ys) e in
    λ i. eqb-true x y h i ∷ told xs ys t i

self : (xs : List ℕ) → same xs xs ≡ true
self [] = refl
self (x ∷ xs) = rw (eq-eqb x x refl) (self xs)

-- lists are the same exactly if they are equal
pub same_law : (xs ys : List ℕ) → (same xs ys ≡ true) ↔ (xs ≡ ys)
same_law xs ys = (told xs ys, λ e. rw e (self ys))

-- what an echo sends: WRITE 0x400 and the whole pattern
pub echo_sent : sent (ask_of RamCall.EchoWrite) echo_bytes ≡ 0x24 ∷ 0x00 ∷ echo_bytes
unfolding sent ask_of command_of be_bytes echo_bytes
echo_sent = ap (λ (bs : List ℕ). 0x24 ∷ 0x00 ∷ bs) (take_all 128 (bit_words 32) (omega (arith, length_words 32)))
