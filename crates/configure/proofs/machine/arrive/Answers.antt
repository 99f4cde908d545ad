-- What the generated proof of `configure::machine::arrive` leaves to show.
-- Assumes nothing.
use Prim.Native.Nat.{◌<◌}
use mathlib.Core.Path.{sym, ◌∙◌}
use native.Mathlib.Omega.{arith}
use lib.ListN.{length}
use Rattle.configure.specs.Numbers.{items_in}
use Rattle.configure.proofs.Places.{most, passes, arrives, ends}
use Rattle.configure.proofs.machine.arrive.Goals as goal

pub returns-then-is_there : goal.returns-then-is_there
returns-then-is_there c =
    let body = c.args.body.now in
    let h : c.loop-i.i < length (items_in c.args.c body) = omega (arith, c.count_of-i-end.ensures body) in
    rw (c.begin.ensures, c.item_of-item.ensures)
    (arrives c.args.c body c.loop-i.i c.loop-i.invariant.passed h (rw c.item_of-item.ensures at (sym c.is_there.ensures ∙ c.if-is_there.true)))

pub loop-i-preserved : goal.loop-i-preserved
loop-i-preserved c =
    let body = c.args.body.now in
    let h : c.loop-i.i < length (items_in c.args.c body) = omega (arith, c.count_of-i-end.ensures body) in
    record {
      passed = passes c.args.c body c.loop-i.i c.loop-i.invariant.passed h (rw c.item_of-item.ensures at (sym c.is_there.ensures ∙ c.if-is_there.false));
      below = omega (arith, most c.args.c body);
    }

pub returns : goal.returns
returns c =
    let body = c.args.body.now in
    rw (c.begin-2.ensures, c.max.ensures)
    (ends c.args.c body c.loop-i.i c.loop-i.invariant.passed (omega (arith, c.count_of-i-end.ensures body)) c.loop-i.auto.i c.loop-i.invariant.below)
