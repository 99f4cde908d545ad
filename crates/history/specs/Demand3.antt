-- Demand 3 whole: each of its statements.
-- Assumes nothing.
use Rattle.history.specs.Demand.{Lists, PushExactly, PushedIff, GetExactly, GotIff, GetHandsOut, PeekExactly, PeekKeeps}
use Rattle.history.specs.Demand.{HasNextExactly, PushFails, TransmitFails, RequestExactly, TransmitRefused, TransmitDone}
use Rattle.history.specs.Demand.{RequestFails, OldestGoes, RequestSends, TransmitSends, NeverCaused, AnsweredWhole}
use Rattle.history.specs.Door.{StartsAtDoor}
use Rattle.history.specs.Queue.{QueueTogether, WinnerSent, QueuePushExactly, QueuePushedIff, QueuePushFails, QueueRequestExactly, QueueEnabled, QueueSetUp}
use Rattle.history.specs.Scrub.{FlipReported, RewriteLeaves}
use Rattle.history.specs.Counts.{NeverMismatches, NoneMismatched}
use Rattle.history.specs.Sorted.{FilterTold}
use Rattle.history.specs.Example.{Begins, Sends, SendsNot}

pub record Demand3 : Type 0 where
  pub starts_at_door : StartsAtDoor
  pub lists : Lists
  pub push_exactly : PushExactly
  pub pushed_iff : PushedIff
  pub get_exactly : GetExactly
  pub got_iff : GotIff
  pub get_hands_out : GetHandsOut
  pub peek_exactly : PeekExactly
  pub peek_keeps : PeekKeeps
  pub has_next_exactly : HasNextExactly
  pub push_fails : PushFails
  pub transmit_fails : TransmitFails
  pub request_exactly : RequestExactly
  pub transmit_refused : TransmitRefused
  pub transmit_done : TransmitDone
  pub request_fails : RequestFails
  pub oldest_goes : OldestGoes
  pub request_sends : RequestSends
  pub transmit_sends : TransmitSends
  pub never_caused : NeverCaused
  pub answered_whole : AnsweredWhole
  pub queue_together : QueueTogether
  pub winner_sent : WinnerSent
  pub queue_push_exactly : QueuePushExactly
  pub queue_pushed_iff : QueuePushedIff
  pub queue_push_fails : QueuePushFails
  pub queue_request_exactly : QueueRequestExactly
  pub queue_enabled : QueueEnabled
  pub queue_set_up : QueueSetUp
  pub flip_reported : FlipReported
  pub rewrite_leaves : RewriteLeaves
  pub never_mismatches : NeverMismatches
  pub none_mismatched : NoneMismatched
  pub filter_told : FilterTold
  pub begins : Begins
  pub sends : Sends
  pub sends_not : SendsNot
