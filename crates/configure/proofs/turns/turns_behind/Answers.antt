-- What the generated proof of `configure::turns::turns_behind` leaves to show.
-- Assumes nothing.
use native.Mathlib.Omega.{arith}
use Rattle.configure.specs.Numbers.{items_in}
use Rattle.configure.proofs.Turning.{left_end}
use Rattle.configure.proofs.turns.turns_behind.Goals as goal

pub returns : goal.returns
returns c =
    let body = c.args.body.now in
    let e = left_end (items_in c.args.c body) c.loop-i.i (omega (arith, c.count_of-i-end.ensures body)) in
    (omega (arith, e, c.loop-i.invariant.total), omega (arith, c.loop-i.invariant.small, c.loop-i.invariant.place))
