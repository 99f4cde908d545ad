-- The push calls as the line sees them. To a FIFO: control, status, user address, RAM write, control as first read written with UINC.
-- Assumes nothing.
use Rattle.std.specs.Prelude.{ℕ, ◌+◌, true, not, List, length, ltb, if◌then◌else◌}
use Rattle.field.specs.Field.{flag, mark}
use Rattle.configuration.specs.CanControl.{CiCON, TXQEN}
use Rattle.fifo.specs.Control.{CiFIFOCON, UINC, payload_of, is_fifo}
use Rattle.fifo.specs.Status.{CiFIFOSTA, TFNRFNIF}
use Rattle.fifo.specs.UserAddress.{CiFIFOUA}
use Rattle.header.specs.declared.Header.{Header}
use Rattle.message.specs.Message.{Encoding, encoding}
use Rattle.spi.specs.Ram.{in_range}
use Rattle.spi.specs.Talk.{Talk, done, refused, read_word, write_word, write_body}
use Rattle.spi.specs.declared.refusal.Refusal.{Refusal}
use Rattle.call.specs.declared.Outcome.{Outcome}
use Rattle.tx_fifo.specs.Push.{Push}
use Rattle.tx_fifo.specs.PushAt.{PushAt}
use Rattle.tx_fifo.specs.Step.{to_send, sends}

-- control as first read is written with UINC
abbrev pub commit_talk : (fifo w : ℕ) → Talk Outcome
commit_talk fifo w = write_word Refusal.SpiRead (CiFIFOCON.address fifo) (mark UINC true w) (done Outcome.Done)

-- the object is written to RAM
abbrev pub write_talk : (fifo len w a : ℕ) → Talk Outcome
write_talk fifo len w a = write_body Refusal.SpiWrite a len (commit_talk fifo w)

-- user address: 25 above 0xFBFF; the RAM address is 0x400 above it, 3 out of range
abbrev pub ram_talk : (fifo len : ℕ) → (ℕ → Talk Outcome) → Talk Outcome
ram_talk fifo len k =
    read_word Refusal.SpiRead (CiFIFOUA.address fifo)
    (λ u.
    if ltb 0xFBFF u then refused Refusal.BadUserAddress
    else if not (in_range (u + 0x400) len) then refused (Refusal.InvalidRamAddress (u + 0x400))
    else k (u + 0x400))

abbrev pub address_talk : (fifo len w : ℕ) → Talk Outcome
address_talk fifo len w = ram_talk fifo len (write_talk fifo len w)

-- status: 8 where bit 0 is 0
abbrev pub status_talk : (fifo len w : ℕ) → Talk Outcome
status_talk fifo len w =
    read_word Refusal.SpiRead (CiFIFOSTA.address fifo)
    (λ v. if not (flag TFNRFNIF v) then refused Refusal.FifoFull else address_talk fifo len w)

-- control: 6 with TXEN 0 unless it is the queue's, 7 for a payload longer than PLSIZE means
abbrev pub push_talk : (fifo size len : ℕ) → Talk Outcome
push_talk fifo size len =
    read_word Refusal.SpiRead (CiFIFOCON.address fifo)
    (λ w.
    if not (sends fifo w) then refused Refusal.FifoNotTx
    else if ltb (payload_of w) size then refused Refusal.FifoTooSmall
    else status_talk fifo len w)

-- 21, 24, 22 are what the message is refused for; k is the rest of the call by the object's length
abbrev pub with_encoding : (ℕ → Talk Outcome) → Encoding → Talk Outcome
with_encoding k (Encoding.refused r) = refused r
with_encoding k (Encoding.object bs) = k (length bs)

-- the whole call: 20, 21, 24, 22 before any exchange
unfoldable pub push_call : ℕ → Header → ℕ → List ℕ → Talk Outcome
push_call fifo header seq payload =
    if not (is_fifo fifo) then refused Refusal.BadNumber
    else with_encoding (push_talk fifo (length payload)) (encoding (to_send header seq payload))

-- ---- the transmit queue, whose control, status and user address are at FIFO 0's addresses

-- CiCON: 34 with TXQEN 0; then as to a FIFO
abbrev pub enabled_talk : (fifo size len : ℕ) → Talk Outcome
enabled_talk fifo size len =
    read_word Refusal.SpiRead (CiCON.address 0)
    (λ w. if not (flag TXQEN w) then refused Refusal.TxQueueDisabled else push_talk fifo size len)

-- the whole call: 21, 24, 22 before any exchange
unfoldable pub queue_push_call : Header → ℕ → List ℕ → Talk Outcome
queue_push_call header seq payload = with_encoding (enabled_talk 0 (length payload)) (encoding (to_send header seq payload))

-- unchecked: user address, RAM write, control as then read written with UINC
abbrev pub bare_control_talk : ℕ → Talk Outcome
bare_control_talk fifo = read_word Refusal.SpiRead (CiFIFOCON.address fifo) (commit_talk fifo)

abbrev pub bare_write_talk : (fifo len a : ℕ) → Talk Outcome
bare_write_talk fifo len a = write_body Refusal.SpiWrite a len (bare_control_talk fifo)

abbrev pub bare_talk : (fifo len : ℕ) → Talk Outcome
bare_talk fifo len = ram_talk fifo len (bare_write_talk fifo len)

unfoldable pub queue_unchecked_call : Header → ℕ → List ℕ → Talk Outcome
queue_unchecked_call header seq payload = with_encoding (bare_talk 0) (encoding (to_send header seq payload))

-- ---- from where a call stands

-- the rest of the call from where it stands
abbrev pub talk_at : (fifo size len : ℕ) → PushAt → Talk Outcome
talk_at fifo size len PushAt.Enabled = enabled_talk fifo size len
talk_at fifo size len PushAt.Control = push_talk fifo size len
talk_at fifo size len (PushAt.Status w) = status_talk fifo len w
talk_at fifo size len (PushAt.Address w) = address_talk fifo len w
talk_at fifo size len (PushAt.Write w a) = write_talk fifo len w a
talk_at fifo size len (PushAt.Commit w) = commit_talk fifo w
talk_at fifo size len PushAt.BareAddress = bare_talk fifo len
talk_at fifo size len (PushAt.BareWrite a) = bare_write_talk fifo len a
talk_at fifo size len PushAt.BareControl = bare_control_talk fifo
talk_at fifo size len PushAt.Done = done Outcome.Done
talk_at fifo size len (PushAt.Refused r) = refused r

unfoldable pub talk_of : Push → Talk Outcome
talk_of s = talk_at s.fifo s.size s.object.len s.at
