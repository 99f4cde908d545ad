-- Where the slots lie in RAM: from offset 0 those of the transmit queue where it is on (`q`), then those of FIFOs 1 to 31 in order. `ws` are
-- the control words as they were last written in Configuration, by FIFO number; entry 0 is the queue's.
-- Assumes nothing.
use Rattle.std.specs.Prelude.{ℕ, zero, suc, ◌+◌, ◌-◌, ◌*◌, Bool, true, false, List, get_or, eqb, if◌then◌else◌}
use Rattle.field.specs.Field.{flag}
use Rattle.fifo.specs.Control.{RXTSEN, payload_of}
use Rattle.ring.specs.Ring.{sending, depth}

-- its objects have a timestamp: receiving with RXTSEN
unfoldable pub stamped : ℕ → Bool
stamped frozen = if sending frozen then false else flag RXTSEN frozen

-- an object's size: 8, 4 with a timestamp, the payload
unfoldable pub size : ℕ → ℕ
size frozen = 8 + (if stamped frozen then 4 else 0) + payload_of frozen

-- depth x size
unfoldable pub room : ℕ → ℕ
room frozen = depth frozen * size frozen

-- where the slots of FIFO n end, which is where those of FIFO n + 1 begin; those of the queue stand before FIFO 1's
unfoldable pub end : Bool → List ℕ → ℕ → ℕ
end q ws zero = if q then room (get_or ws 0 0) else 0
end q ws (suc n) = end q ws n + room (get_or ws (suc n) 0)

-- the areas that there are: that of each FIFO, and of the queue, 0, where it is on
abbrev pub is_area : Bool → ℕ → Bool
is_area q n = if eqb n 0 then q else true

-- where FIFO n's slots begin; the queue's begin at offset 0
unfoldable pub base : Bool → List ℕ → ℕ → ℕ
base q ws n = if eqb n 0 then 0 else end q ws (n - 1)

-- where slot k of FIFO n begins
unfoldable pub slot_at : Bool → List ℕ → (n k : ℕ) → ℕ
slot_at q ws n k = base q ws n + k * size (get_or ws n 0)
