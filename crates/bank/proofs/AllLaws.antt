-- Every law of the registers is proved.
-- Assumes nothing.
use Rattle.bank.specs.Laws.{Laws}
use Rattle.bank.proofs.Laws.{frozen_outside_lem, leaving, opmod_shows_lem, mode_taken_lem, silent, uinc_inside_lem, pllrdy_follows_lem}
use Rattle.bank.proofs.QueueLaws.{txqen_reads_lem, txqen_outside_lem, txqen_inside_lem, queue_silent_lem, queue_uinc_idle_lem, queue_txen_lem}

pub laws : Laws
laws = record {
  frozen_outside = frozen_outside_lem;
  leaving = leaving;
  opmod_shows = opmod_shows_lem;
  mode_taken = mode_taken_lem;
  silent = silent;
  uinc_inside = uinc_inside_lem;
  txqen_reads = txqen_reads_lem;
  txqen_outside = txqen_outside_lem;
  txqen_inside = txqen_inside_lem;
  queue_silent = queue_silent_lem;
  queue_uinc_idle = queue_uinc_idle_lem;
  queue_txen = queue_txen_lem;
  pllrdy_follows = pllrdy_follows_lem;
}
