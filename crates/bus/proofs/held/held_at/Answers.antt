-- `bus::held::held_at` meets its contract.
-- Assumes nothing.
use Rattle.bus.proofs.Laws.{held_fifo, fifo_fits_lem}
use Rattle.bus.proofs.held.held_at.Goals as goal

pub overflow_cast-n : goal.overflow_cast-n
overflow_cast-n c = record { fits = fifo_fits_lem _ (held_fifo _ _ _ (rw c.held_len.ensures at c.if-k-held_len.true)) }
