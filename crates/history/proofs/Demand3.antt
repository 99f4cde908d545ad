-- Demand 3, proved.
-- Assumes nothing.
use Rattle.history.specs.Demand.{world}
use Rattle.history.specs.Demand3.{Demand3}
use Rattle.history.proofs.Door.{starts_at_door_lem}
use Rattle.history.proofs.Received.{answered_whole_lem}
use Rattle.history.proofs.PushExactly.{push_exactly_lem, pushed_iff_lem}
use Rattle.history.proofs.Transmits.{request_exactly_lem, transmit_refused_lem, transmit_done_lem, request_fails_lem}
use Rattle.history.proofs.FetchExactly.{get_exactly_lem, peek_exactly_lem, has_next_exactly_lem}
use Rattle.history.proofs.GotIff.{got_iff_lem, get_hands_out_lem}
use Rattle.history.proofs.PeekKeeps.{peek_keeps_lem}
use Rattle.history.proofs.PushFails.{push_fails_lem, transmit_fails_lem}
use Rattle.history.proofs.Theorem.{holds_always, fits}
use Rattle.history.proofs.GoesOut.{oldest_goes_lem, request_sends_lem, transmit_sends_lem}
use Rattle.history.proofs.Winner.{queue_together_lem, winner_sent_lem}
use Rattle.history.proofs.QueueExactly.{queue_push_exactly_lem, queue_pushed_iff_lem}
use Rattle.history.proofs.QueueFails.{queue_push_fails_lem}
use Rattle.history.proofs.QueueAsked.{queue_request_exactly_lem}
use Rattle.history.proofs.QueueSets.{queue_enabled_lem, queue_set_up_lem}
use Rattle.history.proofs.Scrubs.{flip_reported_lem, rewrite_leaves_lem}
use Rattle.history.proofs.Counts.{never_mismatches_lem, none_mismatched_lem}
use Rattle.history.proofs.Sorted.{filter_told_lem}
use Rattle.history.proofs.Example as example

pub demand3 : Demand3
demand3 = record {
  starts_at_door = starts_at_door_lem;
  lists = λ c w g es r. (holds_always c w g es r).lists;
  push_exactly = λ c w g es r. push_exactly_lem (world c w es) (fits c w g es r);
  pushed_iff = λ c w g es r. pushed_iff_lem (world c w es) (fits c w g es r);
  get_exactly = λ c w g es r. get_exactly_lem (world c w es) (fits c w g es r);
  got_iff = λ c w g es r. got_iff_lem (world c w es) (fits c w g es r);
  get_hands_out = λ c w g es r. get_hands_out_lem (world c w es) (fits c w g es r);
  peek_exactly = λ c w g es r. peek_exactly_lem (world c w es) (fits c w g es r);
  peek_keeps = λ c w g es r. peek_keeps_lem (world c w es);
  has_next_exactly = λ c w g es r. has_next_exactly_lem (world c w es) (fits c w g es r);
  push_fails = λ c w g es r. push_fails_lem (world c w es) (fits c w g es r);
  transmit_fails = λ c w g es r. transmit_fails_lem (world c w es) (fits c w g es r);
  request_exactly = λ c w g es r. request_exactly_lem (world c w es);
  transmit_refused = λ c w g es r. transmit_refused_lem (world c w es) (fits c w g es r);
  transmit_done = λ c w g es r. transmit_done_lem (world c w es) (fits c w g es r);
  request_fails = λ c w g es r. request_fails_lem (world c w es) (fits c w g es r);
  oldest_goes = oldest_goes_lem;
  request_sends = request_sends_lem;
  transmit_sends = transmit_sends_lem;
  never_caused = λ c w g es r. (holds_always c w g es r).tale.tells;
  answered_whole = answered_whole_lem;
  queue_together = queue_together_lem;
  winner_sent = winner_sent_lem;
  queue_push_exactly = λ c w g es r. queue_push_exactly_lem (world c w es) (fits c w g es r);
  queue_pushed_iff = λ c w g es r. queue_pushed_iff_lem (world c w es) (fits c w g es r);
  queue_push_fails = λ c w g es r. queue_push_fails_lem (world c w es) (fits c w g es r);
  queue_request_exactly = λ c w g es r. queue_request_exactly_lem (world c w es);
  queue_enabled = queue_enabled_lem;
  queue_set_up = queue_set_up_lem;
  flip_reported = flip_reported_lem;
  rewrite_leaves = rewrite_leaves_lem;
  never_mismatches = never_mismatches_lem;
  none_mismatched = none_mismatched_lem;
  filter_told = filter_told_lem;
  begins = example.begins;
  sends = (example.computed).0;
  sends_not = (example.computed).1;
}
