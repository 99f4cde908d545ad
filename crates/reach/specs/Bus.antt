-- A step of the bus as one thing, and what it does to the chip.
-- Assumes nothing.
use Rattle.std.specs.Prelude.{ℕ, ◌%◌, ◌^◌, List}
use Rattle.header.specs.declared.Header.{Header}
use Rattle.state.specs.declared.Model.{Model}
use Rattle.bus.specs.Bus.{send_model, deliver_of}
use Rattle.bus.specs.Sort.{sort_of}
use Rattle.bus.specs.Queue.{queue_model}

-- the chip sends from a FIFO, or from the transmit queue; a frame arrives for a FIFO, with its DLC and a timestamp; a frame arrives and the
-- filters sort it
pub data Bus : Type 0 where
  Send : ℕ → Bus
  SendQueue : Bus
  Deliver : ℕ → Header → (dlc time : ℕ) → List ℕ → Bus
  Sort : Header → (dlc time : ℕ) → List ℕ → Bus

-- a timestamp has 32 bits
unfoldable pub stepped : Bus → Model → Model
stepped (Send n) m = send_model m n
stepped SendQueue m = queue_model m
stepped (Deliver n header dlc time payload) m = (deliver_of m n header dlc (time % 2 ^ 32) payload).model
stepped (Sort header dlc time payload) m = (sort_of m header dlc (time % 2 ^ 32) payload).model
