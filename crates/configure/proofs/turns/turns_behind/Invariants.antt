-- The sum, and what the items ask that are left.
-- Assumes nothing.
use Rattle.std.proofs.Common.{◌≡◌, ◌+◌, ◌*◌, ◌<◌, ◌≤◌}
use Rattle.configure.specs.Numbers.{items_in}
use Rattle.configure.proofs.Turning.{left}
use Rattle.configure.proofs.turns.turns_behind.Given as goal

abbrev pub invariant-loop-i : goal.invariant-loop-i
invariant-loop-i l = record {
  total : l.sum + left (items_in l.c l.body) l.i ≡ left (items_in l.c l.body) l.c.next;
  small : l.sum ≤ 512 * l.i;
  place : l.i < 256;
}
