-- What a control word can say: bounds.
-- Assumes nothing.
use Prim.Native.Nat.{ℕ, zero, suc, ◌%◌, ◌≤◌, ◌<◌}
use mathlib.Core.Path.{◌≡◌, refl}
use native.Mathlib.Nat.{mod-lt}
use native.Mathlib.Omega.{arith}
use borrow.Author.Tests.{leb-true}
use lib.Dec.{leb, eqb}
use lib.ListN.{get_or}
use Rattle.laws.proofs.Table.{at}
use Rattle.field.specs.Field.{read, digit}
use Rattle.field.proofs.Laws.{field_lt}
use Rattle.fifo.specs.Control.{PLSIZE, payloads, payload_of}
use Rattle.ring.specs.Ring.{depth}

pub depth_least : (w : ℕ) → 1 ≤ depth w
unfolding depth
depth_least w = omega arith

pub depth_most : (w : ℕ) → depth w ≤ 32
unfolding depth
depth_most w = omega (arith, field_lt w 24 5)

pub payload_most : (w : ℕ) → payload_of w ≤ 64
unfolding payload_of
payload_most w = leb-true _ _ (at (λ n. leb (get_or payloads n 0) 64) 8 refl (read PLSIZE w) (field_lt w 29 3))

digit_of : (n : ℕ) → n < 2 → digit (eqb n 1) ≡ n
digit_of zero h = refl
digit_of (suc zero) h = refl
digit_of (suc (suc n)) h = absurd (omega arith)

-- a bit read as a truth value, as a digit again
pub digit_bit : (n : ℕ) → digit (eqb (n % 2) 1) ≡ n % 2
digit_bit n = digit_of (n % 2) (mod-lt n (omega arith))
