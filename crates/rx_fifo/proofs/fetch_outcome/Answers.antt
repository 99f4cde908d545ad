-- What the generated proof of `rx_fifo::fetch_outcome` leaves to show.
-- Assumes nothing.
use lib.Seq.{length-take-le}
use lib.ListN.{take}
use Rattle.fetch.specs.Numbers.{found_in}
use Rattle.rx_fifo.proofs.Bytes.{found_is}
use Rattle.rx_fifo.specs.Numbers.{fetch_of}
use Rattle.rx_fifo.specs.Outcome.{outcome_of}
use Rattle.rx_fifo.proofs.fetch_outcome.Goals as goal

pub returns-in-Done : goal.returns-in-Done
unfolding fetch_of outcome_of
returns-in-Done c body l =
    simp (c.found.ensures, c.in-Done.is, found_is (found_in c.args.c) (take 64 body) (length-take-le 64 body l))
