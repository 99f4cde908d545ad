-- The items passed over do nothing.
-- Assumes nothing.
use Rattle.std.proofs.Common.{◌≤◌, max}
use Rattle.configure.proofs.Places.{Passed}
use Rattle.configure.proofs.machine.arrive.Given as goal

abbrev pub invariant-loop-i : goal.invariant-loop-i
invariant-loop-i l = record { passed : Passed l.c l.body l.i; below : l.i ≤ max l.c.next 15 }
