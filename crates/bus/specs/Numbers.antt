-- The answers of the bus steps by document 01's numbers and values. A refusal has its number; an answer that is none has 0 in the number's
-- place, which document 01 gives to no refusal.
-- Assumes nothing.
use Rattle.std.specs.Prelude.{ℕ, List, [], ◌∷◌, ◌++◌, length, Result, Ok, Err}
use Rattle.spi.specs.Refusals.{numbered}
use Rattle.message.specs.Message.{Message}
use Rattle.call.specs.Numbers.{header_numbers, stamp_numbers}
use Rattle.bus.specs.declared.arrival.Undelivered.{Undelivered}
use Rattle.bus.specs.declared.sorting.Sorted.{Sorted}
use Rattle.bus.specs.Bus.{Output, frame, no_frame, nothing, refused}

-- a message: the length of its payload, header, DLC, filter, SEQ, payload, timestamp
abbrev pub message_numbers : Message → List ℕ
message_numbers m = length m.payload ∷ header_numbers m.header ++ (m.dlc ∷ m.filter ∷ m.seq ∷ m.payload ++ stamp_numbers m.stamp)

-- a send: how many messages left the FIFO, and the frame
abbrev pub output_numbers : Output → List ℕ
output_numbers nothing = 0 ∷ 0 ∷ []
output_numbers no_frame = 0 ∷ 1 ∷ []
output_numbers (frame m) = 0 ∷ 1 ∷ message_numbers m
output_numbers (refused r) = numbered r

-- a delivery: 0, or the place of the cause in document 01's order
abbrev pub delivery_numbers : Result (Unit {0}) Undelivered → List ℕ
delivery_numbers (Ok _) = 0 ∷ 0 ∷ []
delivery_numbers (Err Undelivered.Configuration) = 0 ∷ 1 ∷ []
delivery_numbers (Err Undelivered.NotReceiving) = 0 ∷ 2 ∷ []
delivery_numbers (Err Undelivered.TooLong) = 0 ∷ 3 ∷ []
delivery_numbers (Err Undelivered.Full) = 0 ∷ 4 ∷ []
delivery_numbers (Err (Undelivered.Refused r)) = numbered r

-- a frame that was sorted: for one that a filter took also the FIFO and the filter
abbrev pub sorting_numbers : Result (Unit {0}) Undelivered → (fifo filter : ℕ) → List ℕ
sorting_numbers (Ok _) n f = 0 ∷ 0 ∷ n ∷ f ∷ []
sorting_numbers (Err Undelivered.Configuration) n f = 0 ∷ 1 ∷ n ∷ f ∷ []
sorting_numbers (Err Undelivered.NotReceiving) n f = 0 ∷ 2 ∷ n ∷ f ∷ []
sorting_numbers (Err Undelivered.TooLong) n f = 0 ∷ 3 ∷ n ∷ f ∷ []
sorting_numbers (Err Undelivered.Full) n f = 0 ∷ 4 ∷ n ∷ f ∷ []
sorting_numbers (Err (Undelivered.Refused r)) n f = numbered r

abbrev pub sorted_numbers : Sorted → List ℕ
sorted_numbers s = sorting_numbers s.delivery s.fifo s.filter
