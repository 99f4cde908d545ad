-- The payload's bytes are put over zeros.
use Rattle.std.proofs.Common.{[], length, ◌∙◌}
use Rattle.parts.specs.Parts.{zeroed}
use Rattle.parts.proofs.Laws.{put_next}
use Rattle.message.proofs.rx.hold.Goals as goal

pub returns : goal.returns
unfolding zeroed
returns c =
    let p = c.args.p.now in
    let e = c.put_at.ensures ∙ put_next 64 [] p in
    λ i. record { bytes = e i; len = length p }
