-- Where a plan stands.
-- Assumes nothing.
use Rattle.std.specs.Prelude.{ℕ}
use Rattle.spi.specs.declared.refusal.Refusal.{Refusal}
use Rattle.plan.specs.declared.change.Change.{Change}
use Rattle.plan.specs.declared.item.Poll.{Poll as Shown}

-- a change: its register is read, or the word is written there; a poll or a wait, with so many polls left after it; an echo, with so many
-- bits left after it: the word is written, or read back
pub data PlanAt : Type 0 where
  Read : Change → PlanAt
  Write : ℕ → ℕ → PlanAt
  Poll Wait : Shown → ℕ → PlanAt
  EchoWrite EchoRead : ℕ → PlanAt
  Done : PlanAt
  Refused : Refusal → PlanAt
