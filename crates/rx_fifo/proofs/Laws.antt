-- What is proved of what a peek and a get read and hand out, in one.
-- Assumes nothing.
use Rattle.rx_fifo.specs.Laws.{Laws}
use Rattle.rx_fifo.proofs.Objects.{peek_reads_lem, get_reads_lem, long_refused_lem}
use Rattle.rx_fifo.proofs.Slot.{reads_its_slot_lem, has_next_never_35}

pub laws : Laws
laws = record {
  peek_reads = peek_reads_lem;
  get_reads = get_reads_lem;
  long_refused = long_refused_lem;
  reads_its_slot = reads_its_slot_lem;
  has_next_never35 = has_next_never_35;
}
