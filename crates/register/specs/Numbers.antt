-- A call on a register as plain numbers, and the state of which the definitions speak.
-- Assumes nothing.
use Rattle.std.specs.Prelude.{ℕ, Result, Ok, Err}
use Rattle.spi.specs.declared.refusal.Refusal.{Refusal}
use Rattle.register.specs.RegisterCall.{RegisterCall}
use Rattle.register.specs.declared.RegisterStage.{RegisterStage}
use Rattle.register.specs.declared.RegisterNumbers.{RegisterNumbers}

-- what the numbers stand for at a stage: address, word, mismatches seen, refusal
abbrev pub at_stage : RegisterStage → (m w seen : ℕ) → Refusal → RegisterCall
at_stage RegisterStage.Reset m w seen why = RegisterCall.Reset
at_stage RegisterStage.Read m w seen why = RegisterCall.Read m
at_stage RegisterStage.Write m w seen why = RegisterCall.Write m w
at_stage RegisterStage.Checked m w seen why = RegisterCall.Checked m seen
at_stage RegisterStage.Mode m w seen why = RegisterCall.Mode
at_stage RegisterStage.Done m w seen why = RegisterCall.Done
at_stage RegisterStage.Word m w seen why = RegisterCall.Word w
at_stage RegisterStage.Matched m w seen why = RegisterCall.Matched w seen
at_stage RegisterStage.OpMode m w seen why = RegisterCall.OpMode w
at_stage RegisterStage.Refused m w seen why = RegisterCall.Refused why

abbrev pub register_of : RegisterNumbers → RegisterCall
register_of c = at_stage c.stage c.m c.w c.seen c.why

-- after an answer: other numbers, or a refusal
abbrev pub gone : Result RegisterNumbers Refusal → RegisterCall
gone (Ok n) = register_of n
gone (Err why) = RegisterCall.Refused why
