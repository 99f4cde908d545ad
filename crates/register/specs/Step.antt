-- The calls on a register as a whole, step by step: where each starts, what it asks, where an answer takes it.
-- Assumes nothing.
use Rattle.std.specs.Prelude.{ℕ, ◌+◌, ◌^◌, List, length, ltb, if◌then◌else◌}
use Rattle.field.specs.Field.{read}
use Rattle.configuration.specs.CanControl.{CiCON, OPMOD}
use Rattle.spi.specs.Reply.{word_reply, done_reply, crc_reply}
use Rattle.spi.specs.Talk.{on_word, on_done, on_checked}
use Rattle.spi.specs.declared.refusal.Refusal.{Refusal}
use Rattle.spi.specs.declared.ask.Ask.{Ask}
use Rattle.spi.specs.declared.ask.Answer.{Answer}
use Rattle.call.specs.declared.Outcome.{Outcome}
use Rattle.register.specs.RegisterCall.{RegisterCall}

-- ---- starts

-- 24 for an address of more than 12 bits
unfoldable pub addressed : ℕ → RegisterCall → RegisterCall
addressed address s = if ltb address (2 ^ 12) then s else RegisterCall.Refused Refusal.BadSetting

abbrev pub read_start : ℕ → RegisterCall
read_start address = addressed address (RegisterCall.Read address)

abbrev pub write_start : (address word : ℕ) → RegisterCall
write_start address word = addressed address (RegisterCall.Write address word)

-- checked read: none has mismatched yet
abbrev pub checked_start : ℕ → RegisterCall
checked_start address = addressed address (RegisterCall.Checked address 0)

-- ---- steps

-- a mismatch after so many: the first two are followed by another try, the third is refused 10
abbrev pub again : {A : Type 0} → (seen : ℕ) → (Refusal → A) → (ℕ → A) → A
again seen bad next = if ltb seen 2 then next (seen + 1) else bad Refusal.CrcMismatch

unfoldable pub after_mismatch : (address seen : ℕ) → RegisterCall
after_mismatch address seen = again seen RegisterCall.Refused (RegisterCall.Checked address)

-- the mode is OPMOD of CiCON
abbrev pub after_mode : ℕ → RegisterCall
after_mode w = RegisterCall.OpMode (read OPMOD w)

-- after an answer; one that comes after the end is refused 26
unfoldable pub step_of : RegisterCall → Answer → List ℕ → RegisterCall
step_of RegisterCall.Reset a rx = on_done RegisterCall.Refused (done_reply Refusal.SpiWrite a (length rx) 0) RegisterCall.Done
step_of (RegisterCall.Read address) a rx = on_word RegisterCall.Refused (word_reply Refusal.SpiRead a rx) RegisterCall.Word
step_of (RegisterCall.Write address word) a rx = on_done RegisterCall.Refused (done_reply Refusal.SpiRead a (length rx) 0) RegisterCall.Done
step_of (RegisterCall.Checked address seen) a rx =
    on_checked RegisterCall.Refused (crc_reply Refusal.SpiRead address a rx) (after_mismatch address seen) (λ w. RegisterCall.Matched w seen)
step_of RegisterCall.Mode a rx = on_word RegisterCall.Refused (word_reply Refusal.SpiRead a rx) after_mode
step_of RegisterCall.Done a rx = RegisterCall.Refused Refusal.WrongAnswer
step_of (RegisterCall.Word w) a rx = RegisterCall.Refused Refusal.WrongAnswer
step_of (RegisterCall.Matched w seen) a rx = RegisterCall.Refused Refusal.WrongAnswer
step_of (RegisterCall.OpMode m) a rx = RegisterCall.Refused Refusal.WrongAnswer
step_of (RegisterCall.Refused r) a rx = RegisterCall.Refused Refusal.WrongAnswer

-- what is asked
unfoldable pub ask_of : RegisterCall → Ask
ask_of RegisterCall.Reset = Ask.Reset
ask_of (RegisterCall.Read address) = Ask.Read address 4
ask_of (RegisterCall.Write address word) = Ask.Word address word
ask_of (RegisterCall.Checked address seen) = Ask.Checked address
ask_of RegisterCall.Mode = Ask.Read (CiCON.address 0) 4
ask_of RegisterCall.Done = Ask.Nothing
ask_of (RegisterCall.Word w) = Ask.Nothing
ask_of (RegisterCall.Matched w seen) = Ask.Nothing
ask_of (RegisterCall.OpMode m) = Ask.Nothing
ask_of (RegisterCall.Refused r) = Ask.Nothing

-- how the call ended, if it did
unfoldable pub outcome_of : RegisterCall → Outcome
outcome_of RegisterCall.Reset = Outcome.Running
outcome_of (RegisterCall.Read address) = Outcome.Running
outcome_of (RegisterCall.Write address word) = Outcome.Running
outcome_of (RegisterCall.Checked address seen) = Outcome.Running
outcome_of RegisterCall.Mode = Outcome.Running
outcome_of RegisterCall.Done = Outcome.Done
outcome_of (RegisterCall.Word w) = Outcome.Word w
outcome_of (RegisterCall.Matched w seen) = Outcome.Checked w seen
outcome_of (RegisterCall.OpMode m) = Outcome.Mode m
outcome_of (RegisterCall.Refused r) = Outcome.Refused r
