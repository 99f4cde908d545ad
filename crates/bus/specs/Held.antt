-- The messages that a FIFO of the modelled chip holds, decoded from RAM.
-- Assumes nothing.
use Rattle.std.specs.Prelude.{ℕ, zero, suc, ◌+◌, List, [], ◌∷◌, if◌then◌else◌}
use Rattle.parts.specs.Parts.{part}
use Rattle.fifo.specs.Control.{is_fifo}
use Rattle.message.specs.Message.{Decoding, decoding}
use Rattle.ring.specs.Ring.{sending, depth, place}
use Rattle.ring.specs.Layout.{stamped, size, slot_at}
use Rattle.state.specs.declared.Model.{Model}
use Rattle.state.specs.Model.{fifo_at, frozen_at}

-- where the slot k places behind the oldest begins
unfoldable pub slot_of : Model → (n k : ℕ) → ℕ
slot_of m n k = slot_at m.fixed.queue m.fixed.frozen n (place (depth (frozen_at m n)) (fifo_at m n).head k)

-- what stands in that slot: a payload beyond PLSIZE is longer than the slot
unfoldable pub item_at : Model → (n k : ℕ) → Decoding
item_at m n k = decoding (sending (frozen_at m n)) (stamped (frozen_at m n)) (part m.ram (slot_of m n k) (size (frozen_at m n)))

-- f k, f (k + 1), .., n of them
unfoldable pub row : {A : Type 0} → (ℕ → A) → (k n : ℕ) → List A
row f k zero = []
row f k (suc n) = f k ∷ row f (k + 1) n

-- oldest first
unfoldable pub held : Model → ℕ → List Decoding
held m n = if is_fifo n then row (λ k. item_at m n k) 0 (fifo_at m n).count else []
