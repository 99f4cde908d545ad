-- Everything that is proved of the chips that are reached.
-- Assumes nothing.
use Rattle.reach.specs.Reach.{AlwaysValid, UincReads0, FresetReads0, QueueReads0}
use Rattle.reach.specs.Chip.{SendTakes, SendKeeps, SendInside, QueueTxenReads, QueueSendTakes, QueueSendKeeps, DeliverAppends, FullOverflows, SortAppends, SortOverflows, Entering, Resetting, InsideEmpty, QueueInsideEmpty, OpmodExactly, StatusReads, QueueStatusReads}
use Rattle.reach.specs.Twins.{ModeAsked, ModesAlike, RtrenWritten, RtrenIdle}

pub record Laws : Type 0 where
  pub always_valid : AlwaysValid
  pub uinc_reads0 : UincReads0
  pub freset_reads0 : FresetReads0
  pub queue_reads0 : QueueReads0
  pub send_takes : SendTakes
  pub send_keeps : SendKeeps
  pub send_inside : SendInside
  pub queue_txen_reads : QueueTxenReads
  pub queue_send_takes : QueueSendTakes
  pub queue_send_keeps : QueueSendKeeps
  pub deliver_appends : DeliverAppends
  pub full_overflows : FullOverflows
  pub sort_appends : SortAppends
  pub sort_overflows : SortOverflows
  pub entering : Entering
  pub resetting : Resetting
  pub inside_empty : InsideEmpty
  pub queue_inside_empty : QueueInsideEmpty
  pub opmod_exactly : OpmodExactly
  pub status_reads : StatusReads
  pub queue_status_reads : QueueStatusReads
  pub mode_asked : ModeAsked
  pub modes_alike : ModesAlike
  pub rtren_written : RtrenWritten
  pub rtren_idle : RtrenIdle
