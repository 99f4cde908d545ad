-- Document 02, request 6: the messages that the transmit queue of the modelled chip holds, and the bus step in which the chip sends one.
-- Assumes nothing.
use Rattle.std.specs.Prelude.{ℕ, ◌+◌, Bool, true, false, ◌&&◌, List, [], ltb, if◌then◌else◌}
use Rattle.parts.specs.Parts.{part}
use Rattle.words.specs.Words.{le_at}
use Rattle.field.specs.Field.{flag}
use Rattle.fifo.specs.Control.{TXREQ}
use Rattle.message.specs.Message.{Decoding, decoding}
use Rattle.ring.specs.Ring.{depth}
use Rattle.ring.specs.Layout.{size, slot_at}
use Rattle.ring.specs.Queue.{gather, is_held, sent, rank_of, no_slot, best}
use Rattle.state.specs.declared.Model.{Model}
use Rattle.state.specs.Model.{frozen_at, with_queue}
use Rattle.bus.specs.Bus.{Output, nothing, output_of}

-- ---- the messages held

-- how many slots the queue has
abbrev pub queue_depth : Model → ℕ
queue_depth m = depth (frozen_at m 0)

-- where its slot k begins
unfoldable pub queue_slot : Model → ℕ → ℕ
queue_slot m k = slot_at m.fixed.queue m.fixed.frozen 0 k

-- slot k is held: there is none with TXQEN at 0, nor beyond the depth
unfoldable pub queue_holds : Model → ℕ → Bool
queue_holds m k = m.fixed.queue && ltb k (queue_depth m) && is_held m.queue k

-- what stands in that slot, an object to send without a timestamp: a payload beyond PLSIZE is longer than the slot
unfoldable pub queue_item : Model → ℕ → Decoding
queue_item m k = decoding true false (part m.ram (queue_slot m k) (size (frozen_at m 0)))

-- lowest slot first; with TXQEN at 0 none is held
unfoldable pub held_queue : Model → List Decoding
held_queue m = if m.fixed.queue then gather (is_held m.queue) (queue_item m) 0 (queue_depth m) else []

-- ---- send

-- the rank in arbitration of the object at a place of RAM, by its identifier bits: one that is no frame takes part too
abbrev pub rank_at : List ℕ → ℕ → ℕ
rank_at ram a = rank_of (le_at ram a) (le_at ram (a + 4))

unfoldable pub queue_rank : Model → ℕ → ℕ
queue_rank m k = rank_at m.ram (queue_slot m k)

-- the slot held whose message wins arbitration
unfoldable pub winner : Model → ℕ
winner m = best (is_held m.queue) (queue_rank m) 0 (queue_depth m)

-- TXQEN and TXREQ are 1, and one is held
unfoldable pub queue_sends : Model → Bool
queue_sends m = m.fixed.queue && flag TXREQ m.queue.control && ltb (winner m) no_slot

-- what a send from the queue answers
unfoldable pub queue_output : Model → Output
queue_output m = if queue_sends m then output_of (queue_item m (winner m)) else nothing

-- the winner is taken
unfoldable pub queue_model : Model → Model
queue_model m = if queue_sends m then with_queue m (sent (frozen_at m 0) (winner m) m.queue) else m
