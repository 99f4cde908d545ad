-- What the generated proof of `rx_fifo::held::fill` leaves to show.
-- Assumes nothing.
use borrow.Author.Tests.{le-leb}
use Rattle.rx_fifo.proofs.Bytes.{poured}
use Rattle.rx_fifo.specs.Numbers.{fetch_of}
use Rattle.rx_fifo.specs.Outcome.{filled, filled_by}
use Rattle.rx_fifo.proofs.held.fill.Goals as goal

pub returns-then-buf-ge64 : goal.returns-then-buf-ge64
unfolding fetch_of filled filled_by
returns-then-buf-ge64 c =
    simp (c.put_at.ensures, c.at_most_64.ensures.0, c.size_of.ensures, le-leb _ _ c.if-buf-ge64.true, poured)
