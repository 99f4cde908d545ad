-- The end of a call: its answer beside the buffer that is lent then, and whether the chip has the message.
-- Assumes nothing.
use Rattle.std.specs.Prelude.{ℕ, Bool, false}
use Rattle.call.specs.declared.Outcome.{Outcome}
use Rattle.ram.specs.Step as ram
use Rattle.rx_fifo.specs.Outcome as fetch
use Rattle.tx_fifo.specs.Step.{is_done}
use Rattle.driver.specs.CallAt.{CallAt}
use Rattle.driver.specs.Call.{Call}
use Rattle.driver.specs.Step.{outcome_of}

-- 28 for a buffer that is too small for what was received, 26 for a RAM read that is given another number of bytes than it received;
-- otherwise the call's own answer
abbrev pub finished_at : CallAt → Call → (got room : ℕ) → Outcome
finished_at (CallAt.Register r) s got room = outcome_of s
finished_at (CallAt.Ram r) s got room = ram.finished_as r got room
finished_at CallAt.Plan s got room = outcome_of s
finished_at CallAt.Push s got room = outcome_of s
finished_at CallAt.Transmit s got room = outcome_of s
finished_at CallAt.Fetch s got room = fetch.finished_as s.fetch room
finished_at (CallAt.Scrub x) s got room = outcome_of s

unfoldable pub finished_as : Call → (got room : ℕ) → Outcome
finished_as s got room = finished_at s.at s got room

-- whether the message of a push or a transmit is in the chip: then a transmit may still be refused, by its request
abbrev pub accepted_at : CallAt → Call → Bool
accepted_at (CallAt.Register r) s = false
accepted_at (CallAt.Ram r) s = false
accepted_at CallAt.Plan s = false
accepted_at CallAt.Push s = is_done s.push
accepted_at CallAt.Transmit s = is_done s.push
accepted_at CallAt.Fetch s = false
accepted_at (CallAt.Scrub x) s = false

unfoldable pub accepted_by : Call → Bool
accepted_by s = accepted_at s.at s

-- the place of a scrub step's scrubber; of a call of another kind that of a new one
abbrev pub place_at : CallAt → ℕ
place_at (CallAt.Register r) = 0
place_at (CallAt.Ram r) = 0
place_at CallAt.Plan = 0
place_at CallAt.Push = 0
place_at CallAt.Transmit = 0
place_at CallAt.Fetch = 0
place_at (CallAt.Scrub x) = x.place

unfoldable pub place_of : Call → ℕ
place_of s = place_at s.at
