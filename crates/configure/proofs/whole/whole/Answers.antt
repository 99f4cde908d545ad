-- What the generated proof of `configure::whole::whole` leaves to show: each word put into the body is the bits of its change.
-- Assumes nothing.
use mathlib.Core.Path.{◌∙◌}
use Rattle.configuration.specs.CanControl.{CiCON}
use Rattle.changes.specs.Changes.{mode_change, mode_settings}
use Rattle.changes.proofs.Tests.{timing_told}
use Rattle.configure.specs.declared.planned.PlanKind.{PlanKind}
use Rattle.configure.proofs.Begins.{begins_with, made, whole_made}
use Rattle.configure.proofs.whole.whole.Goals as goal

pub nominal_bits-requires : goal.nominal_bits-requires
nominal_bits-requires c = (timing_told _ c.requires.0).0

pub data_bits-requires : goal.data_bits-requires
data_bits-requires c = (timing_told _ c.requires.0).1

pub delay_bits-requires : goal.delay_bits-requires
delay_bits-requires c = (timing_told _ c.requires.0).2

pub returns : goal.returns
returns c =
    let x = c.mode_change-x.ensures ∙ made (CiCON.address 0) (mode_settings 4) _ c.mode_bits.ensures in
    simp (c.plan_with.ensures, x)
    (begins_with PlanKind.Configure 4 (mode_change 4) _ _
    (whole_made c.args.s _ _
    (c.put_word-4.ensures 0 ∙ c.put_word-3.ensures 0 ∙ c.put_words.ensures 0 ∙ c.put_word-2.ensures 0 ∙ c.put_word.ensures 0 ∙ c.oscillator_bits.ensures)
    (c.put_word-4.ensures 1 ∙ c.put_word-3.ensures 1 ∙ c.put_words.ensures 1 ∙ c.put_word-2.ensures 1 ∙ c.io_bits.ensures)
    (c.put_word-4.ensures 2 ∙ c.put_word-3.ensures 2 ∙ c.put_words.ensures 2 ∙ c.nominal_bits.ensures)
    (c.put_word-4.ensures 3 ∙ c.put_word-3.ensures 3 ∙ c.put_words.ensures 3 ∙ c.data_bits.ensures)
    (c.put_word-4.ensures 4 ∙ c.put_word-3.ensures 4 ∙ c.put_words.ensures 4 ∙ c.delay_bits.ensures)
    (c.put_word-4.ensures 5 ∙ c.put_word-3.ensures 5 ∙ c.dncnt_bits.ensures)
    (c.put_word-4.ensures 6 ∙ c.interrupt_bits.ensures)))
