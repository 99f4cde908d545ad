-- `looping::run` meets its contract: every answer leaves fewer turns.
-- Assumes nothing.
use Rattle.std.proofs.Common.{arith}
use Rattle.driver.proofs.Demand1.{demand1}
use Rattle.looping.proofs.run.Goals as goal

pub loop-got-smaller : goal.loop-got-smaller
loop-got-smaller g c = rw c.answer-call.ensures (demand1.turns_fall _ _ _ (λ e. let z = (demand1.over_at_none _).1 e in omega (arith, z, c.turns.ensures, c.loop-got-test.true)))
