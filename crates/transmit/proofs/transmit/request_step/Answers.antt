-- The numbers after the answer, or those refused.
use Rattle.std.proofs.Common.{rules, ◌≡◌}
use Rattle.transmit.specs.Numbers.{settled}
use Rattle.transmit.proofs.transmit.request_step.Goals as goal

pub returns : goal.returns
returns c body =
    let e : c.unwrap_or_else.result ≡ settled c.args.p c.advanced.result = search rules in
    rw e (c.advanced.ensures body)
