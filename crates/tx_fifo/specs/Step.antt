-- The push calls, step by step: to a FIFO, and to the transmit queue, which is FIFO 0.
-- Assumes nothing.
use Rattle.std.specs.Prelude.{ℕ, ◌+◌, Bool, true, false, List, length, eqb, ltb, if◌then◌else◌, None, Result, Ok, Err}
use Rattle.field.specs.Field.{flag, mark}
use Rattle.configuration.specs.CanControl.{CiCON, TXQEN}
use Rattle.fifo.specs.Control.{CiFIFOCON, TXEN, UINC, payload_of, is_fifo}
use Rattle.fifo.specs.Status.{CiFIFOSTA, TFNRFNIF}
use Rattle.fifo.specs.UserAddress.{CiFIFOUA}
use Rattle.header.specs.declared.Header.{Header}
use Rattle.message.specs.Message.{Message, to_write, Encoding, encoding}
use Rattle.message.specs.Structs.{Encoded, encoded_as}
use Rattle.spi.specs.Ram.{in_range}
use Rattle.spi.specs.Reply.{word_reply, done_reply}
use Rattle.spi.specs.Talk.{on_word, on_done}
use Rattle.spi.specs.declared.refusal.Refusal.{Refusal}
use Rattle.spi.specs.declared.ask.Ask.{Ask}
use Rattle.spi.specs.declared.ask.Answer.{Answer}
use Rattle.call.specs.declared.Outcome.{Outcome}
use Rattle.tx_fifo.specs.Push.{Push}
use Rattle.tx_fifo.specs.PushAt.{PushAt}

-- ---- the start

-- a message to send has no timestamp
abbrev pub to_send : Header → ℕ → List ℕ → Message
to_send header seq payload = to_write header seq None payload

-- the object for a FIFO, or 20, or what the message is refused for
unfoldable pub encoding_for : ℕ → Header → ℕ → List ℕ → Encoding
encoding_for fifo header seq payload =
    if is_fifo fifo then encoding (to_send header seq payload) else Encoding.refused Refusal.BadNumber

-- where the call stands first, unless its message is refused
abbrev pub first_at : PushAt → Result (Unit {0}) Refusal → PushAt
first_at first (Ok _) = first
first_at first (Err r) = PushAt.Refused r

-- a call with what its message was encoded as
abbrev pub begun : (fifo size : ℕ) → PushAt → Encoded → Push
begun fifo size first e = record { fifo = fifo; size = size; object = e.object; at = first_at first e.done }

-- the call begins, or is refused before any exchange
unfoldable pub start_of : ℕ → Header → ℕ → List ℕ → Push
start_of fifo header seq payload = begun fifo (length payload) PushAt.Control (encoded_as (encoding_for fifo header seq payload))

-- to the queue: by no number, so without 20
unfoldable pub queue_start_at : PushAt → Header → ℕ → List ℕ → Push
queue_start_at first header seq payload = begun 0 (length payload) first (encoded_as (encoding (to_send header seq payload)))

abbrev pub queue_start : Header → ℕ → List ℕ → Push
queue_start = queue_start_at PushAt.Enabled

abbrev pub queue_unchecked_start : Header → ℕ → List ℕ → Push
queue_unchecked_start = queue_start_at PushAt.BareAddress

-- ---- an answer

-- CiCON is w: 34 where TXQEN is 0
unfoldable pub after_enabled : (w : ℕ) → PushAt
after_enabled w = if flag TXQEN w then PushAt.Control else PushAt.Refused Refusal.TxQueueDisabled

-- a FIFO sends where TXEN is 1, the queue always
abbrev pub sends : (fifo w : ℕ) → Bool
sends fifo w = if eqb fifo 0 then true else flag TXEN w

-- control is w: 6 unless it sends, 7 for a payload longer than PLSIZE means
unfoldable pub after_control : (fifo size w : ℕ) → PushAt
after_control fifo size w =
    if sends fifo w then if ltb (payload_of w) size then PushAt.Refused Refusal.FifoTooSmall else PushAt.Status w
    else PushAt.Refused Refusal.FifoNotTx

-- status is v: 8 where bit 0 is 0
unfoldable pub after_status : (w v : ℕ) → PushAt
after_status w v = if flag TFNRFNIF v then PushAt.Address w else PushAt.Refused Refusal.FifoFull

-- user address is u: 25 above 0xFBFF, then 3; `to` is where the call stands with the RAM address
unfoldable pub after_address : (len : ℕ) → (ℕ → PushAt) → (u : ℕ) → PushAt
after_address len to u =
    if ltb 0xFBFF u then PushAt.Refused Refusal.BadUserAddress
    else if in_range (u + 0x400) len then to (u + 0x400)
    else PushAt.Refused (Refusal.InvalidRamAddress (u + 0x400))

-- where the call stands after an answer
abbrev pub next_at : (fifo size len : ℕ) → PushAt → Answer → List ℕ → PushAt
next_at fifo size len PushAt.Enabled a rx = on_word PushAt.Refused (word_reply Refusal.SpiRead a rx) after_enabled
next_at fifo size len PushAt.Control a rx = on_word PushAt.Refused (word_reply Refusal.SpiRead a rx) (after_control fifo size)
next_at fifo size len (PushAt.Status w) a rx = on_word PushAt.Refused (word_reply Refusal.SpiRead a rx) (after_status w)
next_at fifo size len (PushAt.Address w) a rx = on_word PushAt.Refused (word_reply Refusal.SpiRead a rx) (after_address len (PushAt.Write w))
next_at fifo size len (PushAt.Write w m) a rx = on_done PushAt.Refused (done_reply Refusal.SpiWrite a (length rx) 0) (PushAt.Commit w)
next_at fifo size len (PushAt.Commit w) a rx = on_done PushAt.Refused (done_reply Refusal.SpiRead a (length rx) 0) PushAt.Done
next_at fifo size len PushAt.BareAddress a rx = on_word PushAt.Refused (word_reply Refusal.SpiRead a rx) (after_address len PushAt.BareWrite)
next_at fifo size len (PushAt.BareWrite m) a rx = on_done PushAt.Refused (done_reply Refusal.SpiWrite a (length rx) 0) PushAt.BareControl
next_at fifo size len PushAt.BareControl a rx = on_word PushAt.Refused (word_reply Refusal.SpiRead a rx) PushAt.Commit
next_at fifo size len PushAt.Done a rx = PushAt.Refused Refusal.WrongAnswer
next_at fifo size len (PushAt.Refused r) a rx = PushAt.Refused Refusal.WrongAnswer

-- only the place changes
unfoldable pub step_of : Push → Answer → List ℕ → Push
step_of s a rx = record { fifo = s.fifo; size = s.size; object = s.object; at = next_at s.fifo s.size s.object.len s.at a rx }

-- ---- what is asked, and how it ended

-- what is asked where the call stands
abbrev pub ask_at : (fifo len : ℕ) → PushAt → Ask
ask_at fifo len PushAt.Enabled = Ask.Read (CiCON.address 0) 4
ask_at fifo len PushAt.Control = Ask.Read (CiFIFOCON.address fifo) 4
ask_at fifo len (PushAt.Status w) = Ask.Read (CiFIFOSTA.address fifo) 4
ask_at fifo len (PushAt.Address w) = Ask.Read (CiFIFOUA.address fifo) 4
ask_at fifo len (PushAt.Write w m) = Ask.Body m len
ask_at fifo len (PushAt.Commit w) = Ask.Word (CiFIFOCON.address fifo) (mark UINC true w)
ask_at fifo len PushAt.BareAddress = Ask.Read (CiFIFOUA.address fifo) 4
ask_at fifo len (PushAt.BareWrite m) = Ask.Body m len
ask_at fifo len PushAt.BareControl = Ask.Read (CiFIFOCON.address fifo) 4
ask_at fifo len PushAt.Done = Ask.Nothing
ask_at fifo len (PushAt.Refused r) = Ask.Nothing

unfoldable pub ask_of : Push → Ask
ask_of s = ask_at s.fifo s.object.len s.at

-- the outcome where the call stands
abbrev pub outcome_at : PushAt → Outcome
outcome_at PushAt.Enabled = Outcome.Running
outcome_at PushAt.Control = Outcome.Running
outcome_at (PushAt.Status w) = Outcome.Running
outcome_at (PushAt.Address w) = Outcome.Running
outcome_at (PushAt.Write w m) = Outcome.Running
outcome_at (PushAt.Commit w) = Outcome.Running
outcome_at PushAt.BareAddress = Outcome.Running
outcome_at (PushAt.BareWrite m) = Outcome.Running
outcome_at PushAt.BareControl = Outcome.Running
outcome_at PushAt.Done = Outcome.Done
outcome_at (PushAt.Refused r) = Outcome.Refused r

unfoldable pub outcome_of : Push → Outcome
outcome_of s = outcome_at s.at

-- whether all is done where the call stands
abbrev pub done_at : PushAt → Bool
done_at PushAt.Enabled = false
done_at PushAt.Control = false
done_at (PushAt.Status w) = false
done_at (PushAt.Address w) = false
done_at (PushAt.Write w m) = false
done_at (PushAt.Commit w) = false
done_at PushAt.BareAddress = false
done_at (PushAt.BareWrite m) = false
done_at PushAt.BareControl = false
done_at PushAt.Done = true
done_at (PushAt.Refused r) = false

-- the message was pushed
abbrev pub is_done : Push → Bool
is_done s = done_at s.at
