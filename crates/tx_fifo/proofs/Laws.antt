-- A push to FIFO 0 is one to the transmit queue.
-- Assumes nothing.
use mathlib.Core.Path.{refl}
use Rattle.tx_fifo.specs.Laws.{Laws}

pub laws : Laws
laws = record { queue_is_zero = (refl, refl, refl, refl) }
