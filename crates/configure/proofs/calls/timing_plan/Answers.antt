-- What the generated proof of `configure::calls::timing_plan` leaves to show.
-- Assumes nothing.
use mathlib.Core.Path.{◌∙◌}
use Rattle.bit_timing.specs.Nominal.{CiNBTCFG}
use Rattle.changes.specs.Changes.{nominal_change, nominal_settings}
use Rattle.changes.proofs.Tests.{timing_told}
use Rattle.configure.specs.declared.planned.PlanKind.{PlanKind}
use Rattle.configure.specs.Numbers.{items_for}
use Rattle.configure.proofs.Begins.{begins_with, made, timing_made}
use Rattle.configure.proofs.calls.timing_plan.Goals as goal

pub nominal_bits-first-requires : goal.nominal_bits-first-requires
nominal_bits-first-requires c = (timing_told _ c.requires).0

pub data_bits-requires : goal.data_bits-requires
data_bits-requires c = (timing_told _ c.requires).1

pub delay_bits-requires : goal.delay_bits-requires
delay_bits-requires c = (timing_told _ c.requires).2

pub returns : goal.returns
unfolding items_for
returns c =
    let b = c.args.b in
    let nominal = c.nominal_bits-first.ensures in
    let x = c.nominal_change.ensures ∙ made (CiNBTCFG.address 0) (nominal_settings b.nominal) _ nominal in
    simp (c.plan_with.ensures, x)
    (begins_with PlanKind.Timing 0 (nominal_change b.nominal) _ _
    (timing_made b _ _ _ (c.put_words.ensures 0 ∙ nominal) (c.put_words.ensures 1 ∙ c.data_bits.ensures) (c.put_words.ensures 2 ∙ c.delay_bits.ensures)))
