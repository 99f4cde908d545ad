-- The characters that are left take the number to the result, and so many digits say less than so high a power of the base.
-- Assumes nothing.
use Rattle.std.proofs.Common.{◌≡◌, ◌<◌, ◌^◌, drop}
use Rattle.text.specs.Number.{read_from, number_of}
use Rattle.text.proofs.number.read.Given as goal

abbrev pub invariant-loop-b : goal.invariant-loop-b
invariant-loop-b l = (l.v < l.base ^ l.b-index) × (read_from l.base l.v (drop l.b-index l.s) ≡ number_of l.base l.most l.s)
