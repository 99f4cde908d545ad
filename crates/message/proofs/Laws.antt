-- What is proved of messages and objects, in one.
-- Assumes nothing.
use Rattle.message.specs.Laws.{Laws}
use Rattle.message.proofs.Round.{round_trip_lem, arrival_trip_lem, arrival_filter_lem, back, lengths_hold, refuses, arrival_refuses_lem, classic_dlc_lem, always_holds_lem, no_frame_iff_lem}

pub laws : Laws
laws = record {
  round_trip = round_trip_lem;
  arrival_trip = arrival_trip_lem;
  arrival_filter = arrival_filter_lem;
  back = back;
  lengths = lengths_hold;
  refuses = refuses;
  arrival_refuses = arrival_refuses_lem;
  classic_dlc = classic_dlc_lem;
  always_holds = always_holds_lem;
  no_frame_iff = no_frame_iff_lem;
}
