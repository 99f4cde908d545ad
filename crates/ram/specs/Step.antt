-- The calls on RAM, step by step: where each starts, what it asks, where an answer takes it, what it leaves in the lent buffer.
-- Assumes nothing.
use Rattle.std.specs.Prelude.{ℕ, ◌+◌, Bool, List, length, eqb, leb, if◌then◌else◌}
use Rattle.parts.specs.Parts.{put}
use Rattle.spi.specs.Ram.{access_of}
use Rattle.spi.specs.Reply.{done_reply}
use Rattle.spi.specs.Talk.{on_done}
use Rattle.spi.specs.declared.refusal.Refusal.{Refusal}
use Rattle.spi.specs.declared.ask.Ask.{Ask}
use Rattle.spi.specs.declared.ask.Answer.{Answer}
use Rattle.call.specs.declared.Outcome.{Outcome}
use Rattle.ram.specs.RamCall.{RamCall}
use Rattle.ram.specs.Echo.{echo_bytes, same}

-- ---- starts

-- count bytes from place on lie in a buffer of so many bytes
abbrev pub inside : (place count room : ℕ) → Bool
inside place count room = leb (place + count) room

-- 28, then 3, then 4
unfoldable pub read_start : (address room place count : ℕ) → RamCall
read_start address room place count =
    if inside place count room then
    on_done RamCall.Refused (access_of address count (Refusal.InvalidReadLength count)) (RamCall.Read address place count)
    else RamCall.Refused Refusal.BufferTooSmall

-- 3, then 5
unfoldable pub write_start : (address count : ℕ) → RamCall
write_start address count = on_done RamCall.Refused (access_of address count (Refusal.InvalidWriteLength count)) (RamCall.Write address count)

-- ---- steps

-- what was read back
unfoldable pub after_echo : List ℕ → RamCall
after_echo rx = if same rx echo_bytes then RamCall.Done else RamCall.Refused Refusal.SpiFailedRamEcho

-- after an answer; one that comes after the end is refused 26
unfoldable pub step_of : RamCall → Answer → List ℕ → RamCall
step_of (RamCall.Read address place count) a rx =
    on_done RamCall.Refused (done_reply Refusal.SpiRead a (length rx) count) (RamCall.Received place count)
step_of (RamCall.Received place count) a rx = RamCall.Refused Refusal.WrongAnswer
step_of (RamCall.Write address count) a rx = on_done RamCall.Refused (done_reply Refusal.SpiWrite a (length rx) 0) RamCall.Done
step_of RamCall.EchoWrite a rx = on_done RamCall.Refused (done_reply Refusal.ConfigurationModeTimeout a (length rx) 0) RamCall.EchoRead
step_of RamCall.EchoRead a rx = on_done RamCall.Refused (done_reply Refusal.ConfigurationModeTimeout a (length rx) 128) (after_echo rx)
step_of RamCall.Done a rx = RamCall.Refused Refusal.WrongAnswer
step_of (RamCall.Refused r) a rx = RamCall.Refused Refusal.WrongAnswer

-- what is asked
unfoldable pub ask_of : RamCall → Ask
ask_of (RamCall.Read address place count) = Ask.Read address count
ask_of (RamCall.Received place count) = Ask.Nothing
ask_of (RamCall.Write address count) = Ask.Body address count
ask_of RamCall.EchoWrite = Ask.Body 0x400 128
ask_of RamCall.EchoRead = Ask.Read 0x400 128
ask_of RamCall.Done = Ask.Nothing
ask_of (RamCall.Refused r) = Ask.Nothing

-- how the call ended, if it did
unfoldable pub outcome_of : RamCall → Outcome
outcome_of (RamCall.Read address place count) = Outcome.Running
outcome_of (RamCall.Received place count) = Outcome.Done
outcome_of (RamCall.Write address count) = Outcome.Running
outcome_of RamCall.EchoWrite = Outcome.Running
outcome_of RamCall.EchoRead = Outcome.Running
outcome_of RamCall.Done = Outcome.Done
outcome_of (RamCall.Refused r) = Outcome.Refused r

-- ---- the lent buffer

-- as many bytes as were asked for, and a buffer that still has the part
unfoldable pub filled_part : (place count : ℕ) → (rx buf : List ℕ) → List ℕ
filled_part place count rx buf = if eqb (length rx) count then if inside place count (length buf) then put buf place rx else buf else buf

-- only a read that is done changes any byte
unfoldable pub filled_by : RamCall → (rx buf : List ℕ) → List ℕ
filled_by (RamCall.Read address place count) rx buf = buf
filled_by (RamCall.Received place count) rx buf = filled_part place count rx buf
filled_by (RamCall.Write address count) rx buf = buf
filled_by RamCall.EchoWrite rx buf = buf
filled_by RamCall.EchoRead rx buf = buf
filled_by RamCall.Done rx buf = buf
filled_by (RamCall.Refused r) rx buf = buf

-- how a read that is done ends, where got bytes stand beside it and lent are in the buffer: 28, then 26
unfoldable pub finished_part : (place count got lent : ℕ) → Outcome
finished_part place count got lent =
    if inside place count lent then if eqb got count then Outcome.Done else Outcome.Refused Refusal.WrongAnswer
    else Outcome.Refused Refusal.BufferTooSmall

-- how the call ended, told with the lent buffer
unfoldable pub finished_as : RamCall → (got lent : ℕ) → Outcome
finished_as (RamCall.Read address place count) got lent = Outcome.Running
finished_as (RamCall.Received place count) got lent = finished_part place count got lent
finished_as (RamCall.Write address count) got lent = Outcome.Running
finished_as RamCall.EchoWrite got lent = Outcome.Running
finished_as RamCall.EchoRead got lent = Outcome.Running
finished_as RamCall.Done got lent = Outcome.Done
finished_as (RamCall.Refused r) got lent = Outcome.Refused r
