-- A call on RAM as plain numbers, and the state of which the definitions speak.
-- Assumes nothing.
use Rattle.std.specs.Prelude.{ℕ, Result, Ok, Err}
use Rattle.spi.specs.declared.refusal.Refusal.{Refusal}
use Rattle.ram.specs.RamCall.{RamCall}
use Rattle.ram.specs.declared.RamStage.{RamStage}
use Rattle.ram.specs.declared.RamNumbers.{RamNumbers}

-- what the numbers stand for at a stage: address, place in the lent buffer, how many bytes, refusal
abbrev pub at_stage : RamStage → (m place count : ℕ) → Refusal → RamCall
at_stage RamStage.Read m place count why = RamCall.Read m place count
at_stage RamStage.Received m place count why = RamCall.Received place count
at_stage RamStage.Write m place count why = RamCall.Write m count
at_stage RamStage.EchoWrite m place count why = RamCall.EchoWrite
at_stage RamStage.EchoRead m place count why = RamCall.EchoRead
at_stage RamStage.Done m place count why = RamCall.Done
at_stage RamStage.Refused m place count why = RamCall.Refused why

abbrev pub ram_of : RamNumbers → RamCall
ram_of c = at_stage c.stage c.m c.place c.count c.why

-- after an answer: other numbers, or a refusal
abbrev pub gone : Result RamNumbers Refusal → RamCall
gone (Ok n) = ram_of n
gone (Err why) = RamCall.Refused why
