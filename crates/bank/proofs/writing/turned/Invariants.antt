use Rattle.std.proofs.Common.{◌≡◌, ◌++◌, map, take, drop}
use Rattle.ring.specs.Ring.{turned}
use Rattle.bank.proofs.writing.turned.Given as goal

abbrev pub invariant-loop-f : goal.invariant-loop-f
invariant-loop-f l = l.f-items ≡ map (turned l.entering) (take l.f-index l.fn.m.fifo) ++ drop l.f-index l.fn.m.fifo
