-- Every law of the FIFOs and of the queue is proved.
-- Assumes nothing.
use Rattle.ring.specs.Laws.{Laws}
use Rattle.ring.proofs.Laws.{slots_apart_lem, fifos_apart_lem, in_ram_lem, frozen_kept, uinc_reads_0, freset_reads_0, send_txreq_lem, entering_empties_lem, uinc_inside_lem, status_bits_lem}
use Rattle.ring.proofs.Places.{best_found_lem}
use Rattle.ring.proofs.Queues.{full_means_lem, empty_means_lem, queue_status_bits_lem, shows}
use Rattle.ring.proofs.QueueControl.{queue_uinc_reads_0, queue_freset_reads_0, queue_uinc_inside_lem, uinc_off_lem, queue_send_txreq_lem, queue_entering_empties_lem}
use Rattle.ring.proofs.Ranks.{ordered}

pub laws : Laws
laws = record {
  slots_apart = slots_apart_lem;
  fifos_apart = fifos_apart_lem;
  in_ram = in_ram_lem;
  frozen = frozen_kept;
  uinc_reads0 = uinc_reads_0;
  freset_reads0 = freset_reads_0;
  send_txreq = send_txreq_lem;
  entering_empties = entering_empties_lem;
  uinc_inside = uinc_inside_lem;
  status_bits = status_bits_lem;
  full_means = full_means_lem;
  empty_means = empty_means_lem;
  queue_status_bits = queue_status_bits_lem;
  queue_shows = shows;
  queue_uinc_reads0 = queue_uinc_reads_0;
  queue_freset_reads0 = queue_freset_reads_0;
  queue_uinc_inside = queue_uinc_inside_lem;
  uinc_off = uinc_off_lem;
  queue_send_txreq = queue_send_txreq_lem;
  queue_entering_empties = queue_entering_empties_lem;
  ordered = ordered;
  best_found = best_found_lem;
}
