-- What the generated proof of `transmit::transmit::transmit_step` leaves to show.
-- Assumes nothing.
use mathlib.Core.Path.{ap, sym, ◌∙◌}
use Rattle.tx_fifo.specs.Step.{step_of}
use Rattle.transmit.specs.Transmit.{transmit_step}
use Rattle.transmit.proofs.Requests.{begun, is_done_lem}
use Rattle.transmit.proofs.transmit.transmit_step.Goals as goal

pub returns-then-push_done : goal.returns-then-push_done
unfolding transmit_step step_of
returns-then-push_done c body =
    let e = sym c.push_done.ensures ∙ c.if-push_done.true in
    c.request_step.ensures body ∙ simp (is_done_lem c.args.c.push e)

pub returns-else-push_done : goal.returns-else-push_done
unfolding transmit_step step_of
returns-else-push_done c body =
    c.with_request.ensures body ∙ ap begun (c.push_step.ensures body) ∙ simp (sym c.push_done.ensures ∙ c.if-push_done.false)
