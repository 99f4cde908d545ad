-- What the loop of `lines::Writer::bytes` keeps: it has only put more.
-- Assumes nothing.
use Rattle.lines.specs.Writer.{Appends}
use Rattle.lines.proofs.Writer.bytes.Given as goal

abbrev pub invariant-loop-b : goal.invariant-loop-b
invariant-loop-b l = Appends l.fn.self l.self
