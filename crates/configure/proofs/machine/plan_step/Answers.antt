-- What the generated proof of `configure::machine::plan_step` leaves to show.
-- Assumes nothing.
use mathlib.Core.Path.{◌∙◌}
use Rattle.std.specs.Prelude.{Some, None, Ok, Err}
use Rattle.configure.proofs.Stages.{steps}
use Rattle.configure.proofs.machine.plan_step.Goals as goal

pub returns-in-Ok-Some : goal.returns-in-Ok-Some
returns-in-Ok-Some c = steps c.args.body.now c.args.c c.args.answer c.args.rx.now (Ok (Some c.in-Ok-Some.next)) (cc)

pub returns-in-Ok-None : goal.returns-in-Ok-None
returns-in-Ok-None c = c.arrive.ensures ∙ steps c.args.body.now c.args.c c.args.answer c.args.rx.now (Ok None) (cc)

pub returns-in-Err : goal.returns-in-Err
returns-in-Err c = steps c.args.body.now c.args.c c.args.answer c.args.rx.now (Err c.in-Err.why) (cc)
