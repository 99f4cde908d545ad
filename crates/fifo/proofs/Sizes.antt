-- The payload sizes that PLSIZE means.
-- Assumes nothing.
use Prim.Native.Nat.{ℕ, ◌%◌}
use mathlib.Core.Path.{◌≡◌, refl}
use lib.ListN.{get_or}
use lib.Dec.{eqb}
use borrow.Author.Tests.{eqb-true}
use Rattle.laws.proofs.Table.{at}
use Rattle.field.specs.Field.{read}
use Rattle.field.proofs.Laws.{field_lt}
use Rattle.fifo.specs.Control.{PLSIZE, payloads, payload_of}

-- every payload size is whole words
pub payload_whole : (w : ℕ) → payload_of w % 4 ≡ 0
unfolding payload_of
payload_whole w = eqb-true _ _ (at (λ n. eqb (get_or payloads n 0 % 4) 0) 8 refl (read PLSIZE w) (field_lt w 29 3))
