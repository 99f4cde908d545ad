-- `best` is the best of the slots from i on.
-- Assumes nothing.
use Rattle.std.proofs.Common.{◌≡◌, ◌*◌, ◌-◌, ◌<◌, unwrap_or, IfSome}
use Rattle.ring.specs.Ring.{depth}
use Rattle.ring.specs.Queue.{is_held, no_slot, best as best_of}
use Rattle.bus.specs.Queue.{rank_at}
use Rattle.bus.proofs.queue.winner.Given as goal

abbrev pub invariant-loop-i : goal.invariant-loop-i
invariant-loop-i l =
    (unwrap_or l.best no_slot ≡ best_of (is_held l.m.queue) (λ k. rank_at l.m.ram (k * l.size)) l.i (depth l.frozen - l.i))
    × IfSome l.best (λ k. k < no_slot)
