-- `looping::run` meets its contract: every answer leaves fewer turns.
-- Assumes nothing.
use Rattle.driver.specs.Demand1.{left}
use Rattle.driver.specs.Numbers.{call_of}
use Rattle.looping.proofs.run.Given as goal

abbrev pub decreases-loop-got : goal.decreases-loop-got
decreases-loop-got g l = left (call_of l.call)
