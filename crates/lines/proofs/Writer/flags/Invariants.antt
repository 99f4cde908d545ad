-- What the loop of `lines::Writer::flags` keeps: it has only put more.
-- Assumes nothing.
use Rattle.lines.specs.Writer.{Appends}
use Rattle.lines.proofs.Writer.flags.Given as goal

abbrev pub invariant-loop-on : goal.invariant-loop-on
invariant-loop-on l = Appends l.fn.self l.self
