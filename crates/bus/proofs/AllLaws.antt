-- Every law of the bus steps is proved.
-- Assumes nothing.
use Rattle.bus.specs.Laws.{Laws}
use Rattle.bus.proofs.Laws.{nothing_sent_lem, oldest_sent_lem, send_answers_lem, row_length_lem, row_at_lem}
use Rattle.bus.proofs.QueueLaws.{queue_nothing_sent_lem, queue_answers_lem, queue_winner_lem, queue_idle_lem}
use Rattle.bus.proofs.Arriving.{deliver_answers_lem, deliver_22, delivered_iff_lem, turned_down_lem}
use Rattle.bus.proofs.Sorts.{sort_answers_lem, sort_22, sorted_iff_lem, sort_leaves_lem}

pub laws : Laws
laws = record {
  nothing_sent = nothing_sent_lem;
  oldest_sent = oldest_sent_lem;
  send_answers = send_answers_lem;
  queue_nothing_sent = queue_nothing_sent_lem;
  queue_answers = queue_answers_lem;
  queue_winner = queue_winner_lem;
  queue_idle = queue_idle_lem;
  deliver_answers = deliver_answers_lem;
  deliver22 = deliver_22;
  delivered_iff = delivered_iff_lem;
  turned_down = turned_down_lem;
  sort_answers = sort_answers_lem;
  sort22 = sort_22;
  sorted_iff = sorted_iff_lem;
  sort_leaves = sort_leaves_lem;
  row_length = row_length_lem;
  row_at = row_at_lem;
}
