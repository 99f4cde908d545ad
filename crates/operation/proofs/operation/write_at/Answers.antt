-- `operation::operation::write_at` meets its contract.
-- Assumes nothing.
use Rattle.std.proofs.Common.{sym, ◌∙◌}
use Rattle.operation.proofs.Laws.{ram_told}
use Rattle.operation.proofs.operation.write_at.Goals as goal

pub overflow_sub-result : goal.overflow_sub-result
overflow_sub-result c = (ram_told _ _ (sym c.in_ram.ensures ∙ c.if-in_ram.true)).0
