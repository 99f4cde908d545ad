-- What is proved of the words that the calls write which set the chip up, in one.
-- Assumes nothing.
use Rattle.configure.specs.Laws.{Laws}
use Rattle.configure.proofs.Writes.{mode_writes_lem, oscillator_writes_lem, io_writes_lem, timing_writes_lem, offset_reads_lem, configure_writes_lem, fifo_writes_lem, enable_writes_lem, queue_writes_lem, off_writes_lem, filter_writes_lem}

pub laws : Laws
laws = record {
  mode_writes = mode_writes_lem;
  oscillator_writes = oscillator_writes_lem;
  io_writes = io_writes_lem;
  timing_writes = timing_writes_lem;
  offset_reads = offset_reads_lem;
  configure_writes = configure_writes_lem;
  fifo_writes = fifo_writes_lem;
  enable_writes = enable_writes_lem;
  queue_writes = queue_writes_lem;
  off_writes = off_writes_lem;
  filter_writes = filter_writes_lem;
}
