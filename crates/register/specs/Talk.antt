-- The calls on a register as the line sees them.
-- Assumes nothing.
use Rattle.std.specs.Prelude.{ℕ, zero, suc, ◌+◌, ◌-◌, ◌^◌, ltb, if◌then◌else◌}
use Rattle.field.specs.Field.{read}
use Rattle.configuration.specs.CanControl.{CiCON, OPMOD}
use Rattle.spi.specs.Talk.{Talk, done, refused, read_word, read_checked, write_word, reset_chip}
use Rattle.spi.specs.declared.refusal.Refusal.{Refusal}
use Rattle.call.specs.declared.Outcome.{Outcome}
use Rattle.register.specs.RegisterCall.{RegisterCall}

-- the bytes 00 00; failed: 2
abbrev pub reset_talk : Talk Outcome
reset_talk = reset_chip Refusal.SpiWrite (done Outcome.Done)

-- one word
abbrev pub read_talk : ℕ → Talk Outcome
read_talk address = read_word Refusal.SpiRead address (λ w. done (Outcome.Word w))

-- a register write that fails is told as 1, like a read
abbrev pub write_talk : (address word : ℕ) → Talk Outcome
write_talk address word = write_word Refusal.SpiRead address word (done Outcome.Done)

-- a checked read of which so many exchanges mismatched; another mismatch is followed by another try while any is left, the last answers
-- 10; the word, with the mismatches before it
unfoldable pub checked_talk : (address seen left : ℕ) → Talk Outcome
checked_talk address seen zero = read_checked Refusal.SpiRead address (refused Refusal.CrcMismatch) (λ w. done (Outcome.Checked w seen))
checked_talk address seen (suc left) = read_checked Refusal.SpiRead address (checked_talk address (seen + 1) left) (λ w. done (Outcome.Checked w seen))

-- get_op_mode: CiCON is read, and its OPMOD told
abbrev pub op_mode_talk : Talk Outcome
op_mode_talk = read_word Refusal.SpiRead (CiCON.address 0) (λ w. done (Outcome.Mode (read OPMOD w)))

-- ---- whole calls

-- 24 before any exchange for an address of more than 12 bits
abbrev pub at_address : ℕ → Talk Outcome → Talk Outcome
at_address address t = if ltb address (2 ^ 12) then t else refused Refusal.BadSetting

unfoldable pub read_call : ℕ → Talk Outcome
read_call address = at_address address (read_talk address)

unfoldable pub write_call : (address word : ℕ) → Talk Outcome
write_call address word = at_address address (write_talk address word)

-- checked read: three tries
unfoldable pub checked_call : ℕ → Talk Outcome
checked_call address = at_address address (checked_talk address 0 2)

-- ---- the rest of a call, from where it stands

abbrev pub talk_of : RegisterCall → Talk Outcome
talk_of RegisterCall.Reset = reset_talk
talk_of (RegisterCall.Read address) = read_talk address
talk_of (RegisterCall.Write address word) = write_talk address word
talk_of (RegisterCall.Checked address seen) = checked_talk address seen (2 - seen)
talk_of RegisterCall.Mode = op_mode_talk
talk_of RegisterCall.Done = done Outcome.Done
talk_of (RegisterCall.Word w) = done (Outcome.Word w)
talk_of (RegisterCall.Matched w seen) = done (Outcome.Checked w seen)
talk_of (RegisterCall.OpMode m) = done (Outcome.Mode m)
talk_of (RegisterCall.Refused r) = refused r
