-- What the generated proof of `configure::calls::queue_plan` leaves to show.
-- Assumes nothing.
use mathlib.Core.Path.{◌∙◌}
use mathlib.Core.Bool.{true}
use Rattle.areas.specs.Areas.{enable_change}
use Rattle.configure.specs.declared.planned.PlanKind.{PlanKind}
use Rattle.configure.specs.Numbers.{items_for}
use Rattle.configure.proofs.Begins.{begins_with, queue_made}
use Rattle.configure.proofs.calls.queue_plan.Goals as goal

pub returns : goal.returns
unfolding items_for
returns c =
    simp (c.plan_with.ensures, c.enable_change.ensures)
    (begins_with PlanKind.Queue 0 (enable_change true) _ _ (queue_made c.args.c _ (c.put_word.ensures 0 ∙ c.queue_bits.ensures)))
