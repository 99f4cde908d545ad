-- `state::put_bytes` meets its contract.
-- Assumes nothing.
use Rattle.std.proofs.Common.{rules, ◌≡◌, ◌∙◌, sym, length, arith}
use Rattle.state.proofs.Store.{put_behind, put_front}
use Rattle.state.proofs.put_bytes.Goals as goal

pub returns-then-at-ge2048 : goal.returns-then-at-ge2048
returns-then-at-ge2048 c =
    let e : length c.args.ram ≡ 2048 = search rules in
    sym (put_behind c.args.ram c.args.s.now c.args.at (omega (arith, e)))

pub returns : goal.returns
returns c =
    let e : length c.args.ram ≡ 2048 = search rules in
    c.put_at.ensures ∙ rw (c.min-n.ensures, ← e) (put_front c.args.ram c.args.s.now c.args.at (omega (arith, e)))
