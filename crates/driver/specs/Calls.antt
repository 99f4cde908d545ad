-- Every call that a start makes: one case for each public start function, with what it is given.
-- Assumes nothing.
use Rattle.areas.specs.declared.settings.TxQueueConfiguration.{TxQueueConfiguration}
use Rattle.std.specs.Prelude.{ℕ, ◌%◌, ◌^◌, Bool, true, false, not, ◌&&◌, List, [], ◌∷◌, length, eqb, ltb, leb, if◌then◌else◌, Option, Some, None}
use Rattle.configuration.specs.CanControl.{REQOP, DNCNT}
use Rattle.fifo.specs.Control.{is_fifo}
use Rattle.header.specs.declared.Header.{Header}
use Rattle.header.specs.Dlc.{dlc_of}
use Rattle.header.specs.Header.{top_id}
use Rattle.spi.specs.Ram.{in_range}
use Rattle.spi.specs.Talk.{Talk}
use Rattle.call.specs.declared.Outcome.{Outcome}
use Rattle.register.specs.RegisterCall.{RegisterCall}
use Rattle.register.specs.Step as register
use Rattle.register.specs.Talk.{reset_talk, read_call, write_call, checked_call, op_mode_talk}
use Rattle.ram.specs.RamCall.{RamCall}
use Rattle.ram.specs.Step as ram
use Rattle.ram.specs.Talk.{read_ram_talk, write_ram_talk, verify_long_talk}
use Rattle.plan.specs.Prepared.{Prepared, plan_for, talk_for, modify, verify}
use Rattle.changes.specs.declared.settings.OscillatorConfiguration.{OscillatorConfiguration}
use Rattle.changes.specs.declared.settings.IoConfiguration.{IoConfiguration}
use Rattle.changes.specs.declared.settings.BitTimeConfiguration.{BitTimeConfiguration}
use Rattle.changes.specs.declared.settings.Settings.{Settings}
use Rattle.changes.specs.Changes.{fits, timing_fits}
use Rattle.areas.specs.declared.settings.FifoConfiguration.{FifoConfiguration}
use Rattle.areas.specs.declared.settings.FilterConfiguration.{FilterConfiguration}
use Rattle.areas.specs.Areas.{fifo_fits, setting_fits, is_identifier, is_filter}
use Rattle.adjust.specs.Calls.{set_op_mode, configure_osc, configure_io, configure_bit_timing, configure_fifo, configure_tx_queue, disable_filter, configure_filter}
use Rattle.configure.specs.Whole.{configure_all}
use Rattle.tx_fifo.specs.Step.{start_of, queue_start, queue_unchecked_start}
use Rattle.tx_fifo.specs.Talk.{push_call, queue_push_call, queue_unchecked_call}
use Rattle.transmit.specs.Transmit.{request_start, request_call, queue_request_start, queue_request_call, transmit_start, transmit_call}
use Rattle.rx_fifo.specs.Step.{has_next_start, peek_start, get_start}
use Rattle.rx_fifo.specs.Talk.{has_next_talk, peek_talk, get_talk}
use Rattle.watch.specs.declared.Watch.{Watch}
use Rattle.watch.specs.Watch.{all_carried}
use Rattle.scrub.specs.Step.{scrub_start}
use Rattle.scrub.specs.Talk.{scrub_call}
use Rattle.driver.specs.Call.{Call}
use Rattle.driver.specs.Talk.{told}
use Rattle.driver.specs.Start.{of_register, of_ram, of_plan, of_push, of_transmit, of_fetch, of_scrub}

-- the calls that set the chip up, and the two others that are lists of changes and echoes
pub data Plans : Type 0 where
  Modify : (address clear set : ℕ) → Plans
  Verify : Plans
  SetOpMode : (mode : ℕ) → Plans
  Osc : OscillatorConfiguration → Plans
  Io : IoConfiguration → Plans
  BitTiming : BitTimeConfiguration → Plans
  Fifo : (fifo : ℕ) → FifoConfiguration → Plans
  Queue : Option TxQueueConfiguration → Plans
  Filter : (filter : ℕ) → FilterConfiguration → Plans
  FilterOff : (filter : ℕ) → Plans
  Configure : Settings → Plans

-- `room` is how many bytes are lent for what is received
pub data Start : Type 0 where
  Reset OpMode VerifyLong : Start
  Read Checked : (address : ℕ) → Start
  Write : (address word : ℕ) → Start
  ReadRam : (address room place count : ℕ) → Start
  WriteRam : (address count : ℕ) → Start
  Planned : Plans → Start
  Push Transmit : (fifo : ℕ) → Header → (seq : ℕ) → List ℕ → Start
  Request HasNext : (fifo : ℕ) → Start
  QueuePush QueueUnchecked : Header → (seq : ℕ) → List ℕ → Start
  QueueRequest : Start
  Peek Get : (fifo room : ℕ) → Start
  Scrub : (place : ℕ) → List Watch → (rewrite : Bool) → Start

-- ---- where the driver starts, and the whole call as the line sees it

abbrev pub prepared : Plans → Prepared
prepared (Modify address clear set) = modify address clear set
prepared Verify = verify
prepared (SetOpMode mode) = set_op_mode mode
prepared (Osc o) = configure_osc o
prepared (Io c) = configure_io c
prepared (BitTiming b) = configure_bit_timing b
prepared (Fifo n c) = configure_fifo n c
prepared (Queue q) = configure_tx_queue q
prepared (Filter f c) = configure_filter f c
prepared (FilterOff f) = disable_filter f
prepared (Configure s) = configure_all s

-- a FIFO's number where a call keeps it: one that fits no byte is no FIFO's, like 0
abbrev pub fifo_number : ℕ → ℕ
fifo_number n = if ltb n 256 then n else 0

abbrev pub started : Start → Call
started Reset = of_register RegisterCall.Reset
started OpMode = of_register RegisterCall.Mode
started VerifyLong = of_ram RamCall.EchoWrite
started (Read address) = of_register (register.read_start address)
started (Checked address) = of_register (register.checked_start address)
started (Write address word) = of_register (register.write_start address word)
started (ReadRam address room place count) = of_ram (ram.read_start address room place count)
started (WriteRam address count) = of_ram (ram.write_start address count)
started (Planned x) = of_plan (plan_for (prepared x))
started (Push n header seq payload) = of_push (start_of (fifo_number n) header seq payload)
started (Transmit n header seq payload) = of_transmit (transmit_start (fifo_number n) header seq payload)
started (Request n) = of_plan (request_start n)
started (QueuePush header seq payload) = of_push (queue_start header seq payload)
started (QueueUnchecked header seq payload) = of_push (queue_unchecked_start header seq payload)
started QueueRequest = of_plan queue_request_start
started (HasNext n) = of_fetch (has_next_start (fifo_number n))
started (Peek n room) = of_fetch (peek_start (fifo_number n) room)
started (Get n room) = of_fetch (get_start (fifo_number n) room)
started (Scrub place list rewrite) = of_scrub (scrub_start place list rewrite)

abbrev pub whole_talk : Start → Talk Outcome
whole_talk Reset = reset_talk
whole_talk OpMode = op_mode_talk
whole_talk VerifyLong = verify_long_talk
whole_talk (Read address) = read_call address
whole_talk (Checked address) = checked_call address
whole_talk (Write address word) = write_call address word
whole_talk (ReadRam address room place count) = read_ram_talk address room place count
whole_talk (WriteRam address count) = write_ram_talk address count
whole_talk (Planned x) = talk_for (prepared x)
whole_talk (Push n header seq payload) = push_call n header seq payload
whole_talk (Transmit n header seq payload) = transmit_call n header seq payload
whole_talk (Request n) = request_call n
whole_talk (QueuePush header seq payload) = queue_push_call header seq payload
whole_talk (QueueUnchecked header seq payload) = queue_unchecked_call header seq payload
whole_talk QueueRequest = queue_request_call
whole_talk (HasNext n) = told (has_next_talk n)
whole_talk (Peek n room) = told (peek_talk n room)
whole_talk (Get n room) = told (get_talk n room)
whole_talk (Scrub place list rewrite) = scrub_call place list rewrite

-- ---- what is refused before any exchange: document 01's number, followed by the value that it carries, and when it is given

infix 69 ◌when◌
pub data Test : Type 0 where
  ◌when◌ : List ℕ → Bool → Test

-- the first that is given
abbrev pub first : List Test → List ℕ
first [] = []
first (number when bad ∷ ts) = if bad then number else first ts

-- a payload whose length no DLC means
abbrev pub unmeant : Option ℕ → Bool
unmeant (Some d) = false
unmeant None = true

-- an address of more than 12 bits
abbrev pub wide : ℕ → List Test
wide address = (24 ∷ []) when not (ltb address (2 ^ 12)) ∷ []

abbrev pub not_fifo : ℕ → Test
not_fifo n = (20 ∷ []) when not (is_fifo n)

-- RAM's range, then the length
abbrev pub access : (address count number : ℕ) → List Test
access address count number = (3 ∷ address ∷ []) when not (in_range address count) ∷ (number ∷ count ∷ []) when not (eqb (count % 4) 0) ∷ []

-- push to the queue: 21, 24, 22
abbrev pub writable : Header → ℕ → List ℕ → List Test
writable header seq payload =
    (21 ∷ []) when ltb (top_id header.extended) header.id
    ∷ (24 ∷ []) when leb (2 ^ 23) seq
    ∷ (22 ∷ []) when unmeant (dlc_of header.fdf (length payload))
    ∷ []

-- to a FIFO: 20, 21, 24, 22
abbrev pub sendable : ℕ → Header → ℕ → List ℕ → List Test
sendable n header seq payload = not_fifo n ∷ writable header seq payload

-- peek and get: 20, 28
abbrev pub roomy : (n room : ℕ) → List Test
roomy n room = not_fifo n ∷ (28 ∷ []) when ltb room 64 ∷ []

-- scrub: 32, 33
abbrev pub watchable : List Watch → List Test
watchable list = (32 ∷ []) when eqb (length list) 0 ∷ (33 ∷ []) when not (all_carried list) ∷ []

-- configuration calls: 20, 21, 24
abbrev pub plan_tests : Plans → List Test
plan_tests (Modify address clear set) = wide address
plan_tests Verify = []
plan_tests (SetOpMode mode) = (24 ∷ []) when not (fits REQOP mode) ∷ []
plan_tests (Osc o) = []
plan_tests (Io c) = []
plan_tests (BitTiming b) = (24 ∷ []) when not (timing_fits b) ∷ []
plan_tests (Fifo n c) = not_fifo n ∷ (24 ∷ []) when not (fifo_fits c) ∷ []
plan_tests (Queue q) = (24 ∷ []) when not (setting_fits q) ∷ []
plan_tests (Filter f c) =
    (20 ∷ []) when not (is_filter f && is_fifo c.fifo) ∷ (21 ∷ []) when not (is_identifier c.object && is_identifier c.mask) ∷ []
plan_tests (FilterOff f) = (20 ∷ []) when not (is_filter f) ∷ []
plan_tests (Configure s) = (24 ∷ []) when not (timing_fits s.bittime && fits DNCNT s.dncnt) ∷ []

abbrev pub tests : Start → List Test
tests Reset = []
tests OpMode = []
tests VerifyLong = []
tests (Read address) = wide address
tests (Checked address) = wide address
tests (Write address word) = wide address
tests (ReadRam address room place count) = (28 ∷ []) when not (ram.inside place count room) ∷ access address count 4
tests (WriteRam address count) = access address count 5
tests (Planned x) = plan_tests x
tests (Push n header seq payload) = sendable n header seq payload
tests (Transmit n header seq payload) = sendable n header seq payload
tests (Request n) = not_fifo n ∷ []
tests (QueuePush header seq payload) = writable header seq payload
tests (QueueUnchecked header seq payload) = writable header seq payload
tests QueueRequest = []
tests (HasNext n) = not_fifo n ∷ []
tests (Peek n room) = roomy n room
tests (Get n room) = roomy n room
tests (Scrub place list rewrite) = watchable list
