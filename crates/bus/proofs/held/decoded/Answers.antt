-- `bus::held::decoded` meets its contract.
-- Assumes nothing.
use Rattle.std.proofs.Common.{rules, ◌≡◌, ◌∙◌, ℕ, List, length, ap}
use Rattle.message.specs.Message.{decoding}
use Rattle.message.specs.Structs.{decoded_as}
use Rattle.bus.proofs.Ram.{part_within}
use Rattle.bus.proofs.held.decoded.Goals as goal

pub returns : goal.returns
returns c =
    let a = c.args in
    let e : length a.ram.now ≡ 2048 = search rules in
    c.decode.ensures ∙ rw (c.min-end.ensures, c.min-start.ensures) (ap (λ (l : List ℕ). decoded_as (decoding a.sending a.stamped l)) (rw e at (part_within a.ram.now a.at a.size)))
