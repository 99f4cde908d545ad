-- What has-next, peek and get end with, and what they leave in the lent buffer.
-- Assumes nothing.
use Rattle.std.specs.Prelude.{ℕ, min, List, Bool, length, take, leb, ltb, if◌then◌else◌}
use Rattle.parts.specs.Parts.{put}
use Rattle.message.specs.Message.{Message}
use Rattle.spi.specs.declared.refusal.Refusal.{Refusal}
use Rattle.call.specs.declared.Found.{Found}
use Rattle.call.specs.declared.Outcome.{Outcome}
use Rattle.rx_fifo.specs.Fetch.{Fetch}
use Rattle.fetch.specs.FetchAt.{FetchAt}

-- the message with the payload's bytes at the front of bs; no payload is longer than 64 bytes
unfoldable pub message_of : Found → List ℕ → Message
message_of f bs = record { header = f.header; dlc = f.dlc; filter = f.filter; seq = 0; stamp = f.stamp; payload = take (min f.len 64) bs }

-- what is told of a message; its payload is in the lent buffer
abbrev pub found_of : Message → Found
found_of m = record { header = m.header; dlc = m.dlc; filter = m.filter; stamp = m.stamp; len = length m.payload }

abbrev pub told_of : Bool → Outcome
told_of next = if next then Outcome.Yes else Outcome.No

abbrev pub outcome_at : FetchAt → List ℕ → Outcome
outcome_at FetchAt.Control held = Outcome.Running
outcome_at FetchAt.Status held = Outcome.Running
outcome_at FetchAt.Address held = Outcome.Running
outcome_at (FetchAt.Header m) held = Outcome.Running
outcome_at (FetchAt.Again m f) held = Outcome.Running
outcome_at (FetchAt.Time x f) held = Outcome.Running
outcome_at (FetchAt.Body x f) held = Outcome.Running
outcome_at (FetchAt.Next f) held = Outcome.Running
outcome_at (FetchAt.Commit w f) held = Outcome.Running
outcome_at (FetchAt.Done f) held = Outcome.Message (found_of (message_of f held))
outcome_at FetchAt.Empty held = Outcome.Empty
outcome_at (FetchAt.Told next) held = told_of next
outcome_at (FetchAt.Refused r) held = Outcome.Refused r

unfoldable pub outcome_of : Fetch → Outcome
outcome_of s = outcome_at s.at s.held

-- how many bytes of payload a call is done with
abbrev pub size_at : FetchAt → ℕ
size_at FetchAt.Control = 0
size_at FetchAt.Status = 0
size_at FetchAt.Address = 0
size_at (FetchAt.Header m) = 0
size_at (FetchAt.Again m f) = 0
size_at (FetchAt.Time x f) = 0
size_at (FetchAt.Body x f) = 0
size_at (FetchAt.Next f) = 0
size_at (FetchAt.Commit w f) = 0
size_at (FetchAt.Done f) = f.len
size_at FetchAt.Empty = 0
size_at (FetchAt.Told next) = 0
size_at (FetchAt.Refused r) = 0

-- n bytes at the front of the lent buffer; nothing where it is too small
unfoldable pub filled : List ℕ → ℕ → List ℕ → List ℕ
filled held n buf = if leb 64 (length buf) then put buf 0 (take (min n 64) held) else buf

-- the lent buffer afterwards
unfoldable pub filled_by : Fetch → List ℕ → List ℕ
filled_by s buf = filled s.held (size_at s.at) buf

-- ---- the end, for a lent buffer of n bytes

-- 28 for a message that there is no room for
abbrev pub room_for : ℕ → Outcome → Outcome
room_for n Outcome.Running = Outcome.Running
room_for n Outcome.Done = Outcome.Done
room_for n (Outcome.Word w) = Outcome.Word w
room_for n (Outcome.Checked w mismatches) = Outcome.Checked w mismatches
room_for n (Outcome.Mode m) = Outcome.Mode m
room_for n Outcome.Yes = Outcome.Yes
room_for n Outcome.No = Outcome.No
room_for n Outcome.Empty = Outcome.Empty
room_for n (Outcome.Scrubbed s) = Outcome.Scrubbed s
room_for n (Outcome.Message f) = if ltb n 64 then Outcome.Refused Refusal.BufferTooSmall else Outcome.Message f
room_for n (Outcome.Refused r) = Outcome.Refused r

unfoldable pub finished_as : Fetch → ℕ → Outcome
finished_as s n = room_for n (outcome_of s)
