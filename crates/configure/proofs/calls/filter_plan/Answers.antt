-- What the generated proof of `configure::calls::filter_plan` leaves to show.
-- Assumes nothing.
use mathlib.Core.Path.{◌∙◌}
use native.Mathlib.Omega.{arith}
use Rattle.areas.specs.Areas.{off_change}
use Rattle.areas.proofs.Tests.{filter_told_lem}
use Rattle.configure.specs.declared.planned.PlanKind.{PlanKind}
use Rattle.configure.specs.Numbers.{items_for}
use Rattle.configure.proofs.Begins.{begins_with, filter_number, filter_made}
use Rattle.configure.proofs.calls.filter_plan.Goals as goal

pub overflow_cast-n : goal.overflow_cast-n
overflow_cast-n c = omega (arith, filter_number _ _ c.requires)

pub object_bits-requires : goal.object_bits-requires
object_bits-requires c = (filter_told_lem _ _ c.requires).0

pub mask_bits-requires : goal.mask_bits-requires
mask_bits-requires c = (filter_told_lem _ _ c.requires).1

pub on_bits-requires : goal.on_bits-requires
on_bits-requires c = (filter_told_lem _ _ c.requires).2

pub returns : goal.returns
unfolding items_for
returns c =
    let f = c.args.f in
    simp (c.plan_with.ensures, c.off_change.ensures)
    (begins_with PlanKind.Filter f (off_change f) _ _
    (filter_made f c.args.c _ _ _ (c.put_words.ensures 0 ∙ c.object_bits.ensures) (c.put_words.ensures 1 ∙ c.mask_bits.ensures) (c.put_words.ensures 2 ∙ c.on_bits.ensures)))
