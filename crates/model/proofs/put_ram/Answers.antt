-- `model::put_ram` meets its contract.
-- Assumes nothing.
use native.Mathlib.Nat.{add-sub_cancel_left}
use Rattle.parts.specs.Parts.{part}
use Rattle.model.proofs.put_ram.Goals as goal

pub returns : goal.returns
unfolding part
returns c = rw (c.put_at.ensures, add-sub_cancel_left c.args.at c.args.want)
