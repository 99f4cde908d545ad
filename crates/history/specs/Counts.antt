-- Document 02, request 5, over the modelled chip: its CRC is right, so a mismatch is the harness's.
-- Assumes nothing.
use Rattle.std.specs.Prelude.{ℕ, ◌+◌, ◌≡◌, Bool, List, []}
use Rattle.spi.specs.declared.refusal.Refusal.{Refusal}
use Rattle.spi.specs.declared.ask.Ask.{Ask}
use Rattle.spi.specs.declared.reply.CheckedWord.{CheckedWord}
use Rattle.spi.specs.Reply.{crc_reply}
use Rattle.call.specs.declared.Rewrite.{Rewrite}
use Rattle.call.specs.declared.Report.{Report}
use Rattle.call.specs.declared.Outcome.{Outcome}
use Rattle.driver.specs.Call.{Call}
use Rattle.driver.specs.Step.{ask_of}
use Rattle.state.specs.declared.Model.{Model}
use Rattle.history.specs.History.{Event, Said, called, left, left_queue, arrived, Heard, heard, idle, after}
use Rattle.history.specs.Demand.{Each}

-- whoever asks for a checked read hears no mismatch, from the chip in any state; the exchange is carried out or not
abbrev pub NeverMismatches : Type 0
NeverMismatches =
    (carried : Bool) (s : Call) (address : ℕ) (c : Model) → ask_of s ≡ Ask.Checked address
    → (let h : Heard = heard carried s c in crc_reply Refusal.SpiRead address h.answer h.rx ≡ CheckedWord.Mismatch → ⊥)

-- the mismatches that are told of a read-back
abbrev pub mismatches_back : Rewrite → ℕ
mismatches_back Rewrite.None = 0
mismatches_back (Rewrite.Back w mismatches) = mismatches
mismatches_back (Rewrite.Unread r) = 0

-- those of a report: the visit's, and the read-back's
abbrev pub mismatches_told : Report → ℕ
mismatches_told (Report.Agree address mismatches) = mismatches
mismatches_told (Report.Differ address read wanted mismatches x) = mismatches + mismatches_back x
mismatches_told (Report.Unread address r) = 0

-- those of an outcome
abbrev pub mismatches_in : Outcome → ℕ
mismatches_in Outcome.Running = 0
mismatches_in Outcome.Done = 0
mismatches_in (Outcome.Word w) = 0
mismatches_in (Outcome.Checked w mismatches) = mismatches
mismatches_in (Outcome.Mode m) = 0
mismatches_in Outcome.Yes = 0
mismatches_in Outcome.No = 0
mismatches_in Outcome.Empty = 0
mismatches_in (Outcome.Message f) = 0
mismatches_in (Outcome.Scrubbed s) = mismatches_told s
mismatches_in (Outcome.Refused r) = 0

-- a call tells none
abbrev pub TellsNone : Said → Type 0
TellsNone (called k o buf) = mismatches_in o ≡ 0
TellsNone (left n o) = Unit {0}
TellsNone (left_queue o) = Unit {0}
TellsNone (arrived n m d) = Unit {0}

-- so no call tells one, whatever the chip and the events, rewrites among them
abbrev pub NoneMismatched : Type 0
NoneMismatched = (c : Model) (es : List Event) → Each TellsNone (after es (record { chip = c; doing = idle; said = [] })).said
