-- The calls that a history may have: what is called, and where the driver starts. What ends a history is not among them.
-- Assumes nothing.
use Rattle.areas.specs.declared.settings.TxQueueConfiguration.{TxQueueConfiguration}
use Rattle.std.specs.Prelude.{ℕ, Bool, List, [], length, Option}
use Rattle.header.specs.declared.Header.{Header}
use Rattle.register.specs.RegisterCall.{RegisterCall}
use Rattle.register.specs.Step as register
use Rattle.ram.specs.Step as ram
use Rattle.plan.specs.Prepared.{Prepared, plan_for}
use Rattle.changes.specs.declared.settings.OscillatorConfiguration.{OscillatorConfiguration}
use Rattle.changes.specs.declared.settings.IoConfiguration.{IoConfiguration}
use Rattle.changes.specs.declared.settings.BitTimeConfiguration.{BitTimeConfiguration}
use Rattle.areas.specs.declared.settings.FifoConfiguration.{FifoConfiguration}
use Rattle.areas.specs.declared.settings.FilterConfiguration.{FilterConfiguration}
use Rattle.adjust.specs.Calls.{configure_osc, configure_io, configure_bit_timing, configure_fifo, configure_filter, disable_filter, configure_tx_queue}
use Rattle.tx_fifo.specs.Step.{start_of, queue_start, queue_unchecked_start}
use Rattle.transmit.specs.Transmit.{request_start, queue_request_start, transmit_start}
use Rattle.rx_fifo.specs.Step.{has_next_start, peek_start, get_start}
use Rattle.watch.specs.declared.Watch.{Watch}
use Rattle.scrub.specs.Step.{scrub_start}
use Rattle.driver.specs.Call.{Call}
use Rattle.driver.specs.Start.{of_register, of_ram, of_plan, of_push, of_transmit, of_fetch, of_scrub}

-- the calls that only read: a register, a register checked, the mode, RAM into a part of a lent buffer, a scrub step for as long as it has
-- not asked for its WRITE
pub data Look : Type 0 where
  Register Checked : (address : ℕ) → Look
  OpMode : Look
  Ram : (address place count : ℕ) → List ℕ → Look
  Scrub : (place : ℕ) → List Watch → (rewrite : Bool) → Look

-- the calls that set a part of the chip up
pub data Setting : Type 0 where
  Fifo : ℕ → FifoConfiguration → Setting
  Filter : ℕ → FilterConfiguration → Setting
  FilterOff : ℕ → Setting
  Osc : OscillatorConfiguration → Setting
  Io : IoConfiguration → Setting
  BitTiming : BitTimeConfiguration → Setting
  TxQueue : Option TxQueueConfiguration → Setting

-- `Peek` and `Get` with the buffer that is lent for the payload; the queue's pushes, checked and unchecked
pub data Command : Type 0 where
  Push Transmit : (fifo : ℕ) → Header → (seq : ℕ) → List ℕ → Command
  QueuePush QueueUnchecked : Header → (seq : ℕ) → List ℕ → Command
  QueueRequest : Command
  Request HasNext : (fifo : ℕ) → Command
  Peek Get : (fifo : ℕ) → List ℕ → Command
  Reading : Look → Command
  Configuring : Setting → Command

-- ---- where the driver starts

abbrev pub looks : Look → Call
looks (Register a) = of_register (register.read_start a)
looks (Checked a) = of_register (register.checked_start a)
looks OpMode = of_register RegisterCall.Mode
looks (Ram a place count buf) = of_ram (ram.read_start a (length buf) place count)
looks (Scrub place list rewrite) = of_scrub (scrub_start place list rewrite)

abbrev pub sets : Setting → Prepared
sets (Fifo n c) = configure_fifo n c
sets (Filter f c) = configure_filter f c
sets (FilterOff f) = disable_filter f
sets (Osc o) = configure_osc o
sets (Io c) = configure_io c
sets (BitTiming b) = configure_bit_timing b
sets (TxQueue q) = configure_tx_queue q

abbrev pub started : Command → Call
started (Push n header seq payload) = of_push (start_of n header seq payload)
started (Transmit n header seq payload) = of_transmit (transmit_start n header seq payload)
started (QueuePush header seq payload) = of_push (queue_start header seq payload)
started (QueueUnchecked header seq payload) = of_push (queue_unchecked_start header seq payload)
started QueueRequest = of_plan queue_request_start
started (Request n) = of_plan (request_start n)
started (HasNext n) = of_fetch (has_next_start n)
started (Peek n buf) = of_fetch (peek_start n (length buf))
started (Get n buf) = of_fetch (get_start n (length buf))
started (Reading x) = looks x
started (Configuring x) = of_plan (plan_for (sets x))

-- ---- the buffer that the caller lends

abbrev pub looked_into : Look → List ℕ
looked_into (Register a) = []
looked_into (Checked a) = []
looked_into OpMode = []
looked_into (Ram a place count buf) = buf
looked_into (Scrub place list rewrite) = []

abbrev pub lent : Command → List ℕ
lent (Push n header seq payload) = []
lent (Transmit n header seq payload) = []
lent (QueuePush header seq payload) = []
lent (QueueUnchecked header seq payload) = []
lent QueueRequest = []
lent (Request n) = []
lent (HasNext n) = []
lent (Peek n buf) = buf
lent (Get n buf) = buf
lent (Reading x) = looked_into x
lent (Configuring x) = []

-- ---- transmit is two calls, push then request: the one that it is now, and the one that it is when the message has been pushed

abbrev pub first_call : Command → Command
first_call (Push n header seq payload) = Push n header seq payload
first_call (Transmit n header seq payload) = Push n header seq payload
first_call (QueuePush header seq payload) = QueuePush header seq payload
first_call (QueueUnchecked header seq payload) = QueueUnchecked header seq payload
first_call QueueRequest = QueueRequest
first_call (Request n) = Request n
first_call (HasNext n) = HasNext n
first_call (Peek n buf) = Peek n buf
first_call (Get n buf) = Get n buf
first_call (Reading x) = Reading x
first_call (Configuring x) = Configuring x

abbrev pub second_call : Command → Command
second_call (Push n header seq payload) = Push n header seq payload
second_call (Transmit n header seq payload) = Request n
second_call (QueuePush header seq payload) = QueuePush header seq payload
second_call (QueueUnchecked header seq payload) = QueueUnchecked header seq payload
second_call QueueRequest = QueueRequest
second_call (Request n) = Request n
second_call (HasNext n) = HasNext n
second_call (Peek n buf) = Peek n buf
second_call (Get n buf) = Get n buf
second_call (Reading x) = Reading x
second_call (Configuring x) = Configuring x
