-- No refusal has the number 23.
-- Assumes nothing.
use Rattle.std.proofs.Common.{arith}
use Rattle.numbers.specs.Laws.{Never23, Laws}

never_23 : Never23
never_23 = grind arith

pub laws : Laws
laws = record { never23 = never_23 }
