-- `bus::sorting::sort` meets its contract.
-- Assumes nothing.
use Rattle.std.proofs.Common.{sym}
use Rattle.bus.proofs.Answers.{asked_for}
use Rattle.bus.proofs.sorting.sort.Goals as goal

pub filtered-requires : goal.filtered-requires
filtered-requires c = asked_for _ _ _ (sym c.in-Ok.ensures)
