-- `bus::queue::winner` meets its contract.
-- Assumes nothing.
use Rattle.std.proofs.Common.{◌∙◌, ap, arith}
use Rattle.ring.specs.Ring.{depth}
use Rattle.ring.specs.Layout.{size}
use Rattle.bus.proofs.Winner.{best_none, best_held, best_free, winner_is}
use Rattle.bus.proofs.queue.winner.Goals as goal

pub loop-i-init : goal.loop-i-init
loop-i-init c = (rw c.depth-i.ensures.0 (best_none _ _ 0 _), tt)

pub loop-i-preserved-then-m-i : goal.loop-i-preserved-then-m-i
loop-i-preserved-then-m-i c =
    (c.better.ensures.0 ∙ best_held _ _ _ _ _ (omega arith) (omega arith) c.loop-i.invariant.0 c.if-m-i.true, c.better.ensures.1)

pub loop-i-preserved : goal.loop-i-preserved
loop-i-preserved c = (best_free _ _ _ _ _ (omega arith) (omega arith) c.loop-i.invariant.0 c.if-m-i.false, c.loop-i.invariant.1)

pub returns-clause-slot : goal.returns-clause-slot
returns-clause-slot c =
    winner_is _ _ _ _ _ (ap depth c.frozen_at-frozen.ensures) (c.size-size.ensures.0 ∙ ap size c.frozen_at-frozen.ensures) (omega arith) c.loop-i.invariant.0
