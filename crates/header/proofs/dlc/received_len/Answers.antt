-- The table's entry, or 0 behind it.
use Rattle.std.proofs.Common.{rules, arith, true, ◌≡◌}
use lib.ListN.{get_or}
use Rattle.header.specs.Dlc.{lengths, received_length}
use Rattle.header.proofs.Dlcs.{received_le}
use Rattle.header.proofs.dlc.received_len.Goals as goal

pub returns-then-fdf : goal.returns-then-fdf
unfolding received_length
returns-then-fdf c =
    let e : c.unwrap_or-n.result ≡ get_or lengths c.args.dlc 0 = search rules in
    rw c.if-fdf.true (e, omega (arith, e, received_le true c.args.dlc))
