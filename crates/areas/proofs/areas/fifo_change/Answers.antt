-- What the generated proof of `areas::areas::fifo_change` leaves to show.
-- Assumes nothing.
use Rattle.areas.proofs.Tests.{fifo_told}
use Rattle.areas.proofs.areas.fifo_change.Goals as goal

pub with_fifo_size-requires : goal.with_fifo_size-requires
with_fifo_size-requires c = (fifo_told c.args.c c.requires).0

pub with_plsize-sized-requires : goal.with_plsize-sized-requires
with_plsize-sized-requires c = (fifo_told c.args.c c.requires).1
