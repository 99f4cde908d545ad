-- Every law of the chips that are reached is proved.
-- Assumes nothing.
use Rattle.reach.specs.Laws.{Laws}
use Rattle.reach.proofs.Kept.{always_valid_lem}
use Rattle.reach.proofs.Told.{uinc_reads_0, freset_reads_0, queue_reads_0}
use Rattle.reach.proofs.Txen.{queue_txen_reads_lem}
use Rattle.reach.proofs.Queue.{queue_send_takes_lem, queue_send_keeps_lem, queue_status_reads_lem}
use Rattle.reach.proofs.Chip.{send_takes_lem, send_keeps_lem, send_inside_lem, deliver_appends_lem, full_overflows_lem, sort_appends_lem, sort_overflows_lem, entering, resetting, inside_empty_lem, queue_inside_empty_lem, opmod_exactly_lem, status_reads_lem}
use Rattle.reach.proofs.Twins.{mode_asked_lem, modes_alike_lem, rtren_written_lem, rtren_idle_lem}

pub laws : Laws
laws = record {
  always_valid = always_valid_lem;
  uinc_reads0 = uinc_reads_0;
  freset_reads0 = freset_reads_0;
  queue_reads0 = queue_reads_0;
  send_takes = send_takes_lem;
  send_keeps = send_keeps_lem;
  send_inside = send_inside_lem;
  queue_txen_reads = queue_txen_reads_lem;
  queue_send_takes = queue_send_takes_lem;
  queue_send_keeps = queue_send_keeps_lem;
  deliver_appends = deliver_appends_lem;
  full_overflows = full_overflows_lem;
  sort_appends = sort_appends_lem;
  sort_overflows = sort_overflows_lem;
  entering = entering;
  resetting = resetting;
  inside_empty = inside_empty_lem;
  queue_inside_empty = queue_inside_empty_lem;
  opmod_exactly = opmod_exactly_lem;
  status_reads = status_reads_lem;
  queue_status_reads = queue_status_reads_lem;
  mode_asked = mode_asked_lem;
  modes_alike = modes_alike_lem;
  rtren_written = rtren_written_lem;
  rtren_idle = rtren_idle_lem;
}
