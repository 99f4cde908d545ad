-- `bus::arrival::deliver` meets its contract.
-- Assumes nothing.
use Rattle.std.proofs.Common.{sym, ◌∙◌, arith}
use Rattle.bus.proofs.Laws.{fifo_fits_lem}
use Rattle.bus.proofs.Answers.{asked_for}
use Rattle.bus.proofs.arrival.deliver.Goals as goal

pub overflow_cast-n : goal.overflow_cast-n
overflow_cast-n c = record { fits = fifo_fits_lem _ (sym c.is_fifo.ensures ∙ c.if-not-is_fifo.false) }

pub give-requires : goal.give-requires
give-requires c =
    let p = asked_for _ _ _ (sym c.in-Ok.ensures) in
    (p.0, p.1, omega arith, p.2)
