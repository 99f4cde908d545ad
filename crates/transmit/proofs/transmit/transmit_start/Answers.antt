-- What the generated proof of `transmit::transmit::transmit_start` leaves to show.
-- Assumes nothing.
use mathlib.Core.Path.{ap, ◌∙◌}
use Rattle.tx_fifo.specs.Step.{start_of}
use Rattle.transmit.specs.Transmit.{transmit_start}
use Rattle.transmit.proofs.Requests.{begun}
use Rattle.transmit.proofs.transmit.transmit_start.Goals as goal

pub returns : goal.returns
unfolding transmit_start start_of
returns c = c.with_request.ensures _ ∙ ap begun c.push_start.ensures
