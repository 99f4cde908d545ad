-- Has-next, peek and get as the line sees them, exchange by exchange. The last exchanges come first: read from the end upwards.
-- Assumes nothing.
use Rattle.std.specs.Prelude.{ℕ, ◌+◌, Bool, true, List, length, ltb, leb, if◌then◌else◌}
use Rattle.field.specs.Field.{flag, mark}
use Rattle.fifo.specs.Control.{CiFIFOCON, TXEN, RXTSEN, UINC, payload_of, is_fifo}
use Rattle.fifo.specs.Status.{CiFIFOSTA, TFNRFNIF}
use Rattle.fifo.specs.UserAddress.{CiFIFOUA}
use Rattle.words.specs.Words.{round_up}
use Rattle.parts.specs.Parts.{put}
use Rattle.message.specs.Message.{Message}
use Rattle.spi.specs.declared.refusal.Refusal.{Refusal}
use Rattle.spi.specs.Ram.{in_range}
use Rattle.spi.specs.Talk.{Talk, done, refused, ask, read_word, read_pair, read_bytes, write_word}
use Rattle.call.specs.declared.Found.{Found}
use Rattle.call.specs.declared.Outcome.{Outcome}
use Rattle.fetch.specs.declared.Want.{Want}
use Rattle.rx_fifo.specs.Fetch.{Fetch}
use Rattle.fetch.specs.FetchAt.{FetchAt}
use Rattle.fetch.specs.Step.{found_by, stamped}
use Rattle.rx_fifo.specs.Outcome.{message_of, found_of, told_of}

-- how such a call is done: whether there is a next message; the oldest message; none is held
pub data Fetched : Type 0 where
  told : Bool → Fetched
  message : Message → Fetched
  empty : Fetched

-- ---- the exchanges

-- control as read, with UINC
abbrev pub commit_talk : (fifo w : ℕ) → Message → Talk Fetched
commit_talk fifo w m = write_word Refusal.SpiRead (CiFIFOCON.address fifo) (mark UINC true w) (done (message m))

-- control, control with UINC
abbrev pub next_talk : ℕ → Message → Talk Fetched
next_talk fifo m = read_word Refusal.SpiRead (CiFIFOCON.address fifo) (λ w. commit_talk fifo w m)

-- after the payload: a get goes on
abbrev pub last_talk : Want → ℕ → Message → Talk Fetched
last_talk Want.HasNext fifo m = done (message m)
last_talk Want.Peek fifo m = done (message m)
last_talk Want.Get fifo m = next_talk fifo m

-- payload rounded up to 4, at x
abbrev pub body_talk : Want → (fifo x : ℕ) → Found → Talk Fetched
body_talk want fifo x f = read_bytes Refusal.SpiRead x (round_up f.len) (λ rx. last_talk want fifo (message_of f rx))

-- 3 for the payload
abbrev pub to_body_talk : Want → (fifo x : ℕ) → Found → Talk Fetched
to_body_talk want fifo x f = if in_range x (round_up f.len) then body_talk want fifo x f else refused (Refusal.InvalidRamAddress x)

-- timestamp at x, the payload behind it
abbrev pub time_talk : Want → (fifo x : ℕ) → Found → Talk Fetched
time_talk want fifo x f = read_word Refusal.SpiRead x (λ t. to_body_talk want fifo (x + 4) (stamped f t))

-- 3 for the timestamp
abbrev pub to_time_talk : Want → (fifo x : ℕ) → Found → Talk Fetched
to_time_talk want fifo x f = if in_range x 4 then time_talk want fifo x f else refused (Refusal.InvalidRamAddress x)

-- timestamp if RXTSEN, payload: behind the header, the object being at m
abbrev pub rest_talk : Want → (fifo m : ℕ) → Found → (stamped : Bool) → Talk Fetched
rest_talk want fifo m f stamped = if stamped then to_time_talk want fifo (m + 8) f else to_body_talk want fifo (m + 8) f

-- by the second control word w: 35 for a payload longer than its PLSIZE means
abbrev pub slot_talk : Want → (fifo m : ℕ) → Found → (w : ℕ) → Talk Fetched
slot_talk want fifo m f w = if ltb (payload_of w) f.len then refused Refusal.LengthBeyondSlot else rest_talk want fifo m f (flag RXTSEN w)

-- control again
abbrev pub again_talk : Want → (fifo m : ℕ) → Found → Talk Fetched
again_talk want fifo m f = read_word Refusal.SpiRead (CiFIFOCON.address fifo) (slot_talk want fifo m f)

-- 8 header bytes, at m
abbrev pub header_talk : Want → (fifo m : ℕ) → Talk Fetched
header_talk want fifo m = read_pair Refusal.SpiRead m (λ a b. again_talk want fifo m (found_by a b))

-- 25, then 3 for the header: the object is 0x400 above the user address
abbrev pub to_header_talk : Want → (fifo u : ℕ) → Talk Fetched
to_header_talk want fifo u =
    if ltb 0xFBFF u then refused Refusal.BadUserAddress
    else if in_range (u + 0x400) 8 then header_talk want fifo (u + 0x400)
    else refused (Refusal.InvalidRamAddress (u + 0x400))

-- user address
abbrev pub address_talk : Want → ℕ → Talk Fetched
address_talk want fifo = read_word Refusal.SpiRead (CiFIFOUA.address fifo) (to_header_talk want fifo)

-- has-next is told whether there is a next message; peek and get go on to it, or find none
abbrev pub held_talk : Want → ℕ → Bool → Talk Fetched
held_talk Want.HasNext fifo next = done (told next)
held_talk Want.Peek fifo next = if next then address_talk Want.Peek fifo else done empty
held_talk Want.Get fifo next = if next then address_talk Want.Get fifo else done empty

-- status
abbrev pub status_talk : Want → ℕ → Talk Fetched
status_talk want fifo = read_word Refusal.SpiRead (CiFIFOSTA.address fifo) (λ v. held_talk want fifo (flag TFNRFNIF v))

-- control (9), status; user address, 8 header bytes, control again (35), timestamp if RXTSEN, payload; control, control with UINC
abbrev pub control_talk : Want → ℕ → Talk Fetched
control_talk want fifo =
    read_word Refusal.SpiRead (CiFIFOCON.address fifo) (λ w. if flag TXEN w then refused Refusal.FifoNotRx else status_talk want fifo)

-- ---- the calls

-- 20 before any exchange
unfoldable pub has_next_talk : ℕ → Talk Fetched
has_next_talk fifo = if is_fifo fifo then control_talk Want.HasNext fifo else refused Refusal.BadNumber

-- 20, then 28 for a payload buffer under 64 bytes, before any exchange
unfoldable pub lent_talk : Want → (fifo room : ℕ) → Talk Fetched
lent_talk want fifo room =
    if is_fifo fifo then if ltb room 64 then refused Refusal.BufferTooSmall else control_talk want fifo
    else refused Refusal.BadNumber

abbrev pub peek_talk : (fifo room : ℕ) → Talk Fetched
peek_talk = lent_talk Want.Peek

abbrev pub get_talk : (fifo room : ℕ) → Talk Fetched
get_talk = lent_talk Want.Get

-- ---- the rest of a call from where it stands

abbrev pub talk_at : Want → ℕ → List ℕ → FetchAt → Talk Fetched
talk_at want fifo held FetchAt.Control = control_talk want fifo
talk_at want fifo held FetchAt.Status = status_talk want fifo
talk_at want fifo held FetchAt.Address = address_talk want fifo
talk_at want fifo held (FetchAt.Header m) = header_talk want fifo m
talk_at want fifo held (FetchAt.Again m f) = again_talk want fifo m f
talk_at want fifo held (FetchAt.Time x f) = time_talk want fifo x f
talk_at want fifo held (FetchAt.Body x f) = body_talk want fifo x f
talk_at want fifo held (FetchAt.Next f) = next_talk fifo (message_of f held)
talk_at want fifo held (FetchAt.Commit w f) = commit_talk fifo w (message_of f held)
talk_at want fifo held (FetchAt.Done f) = done (message (message_of f held))
talk_at want fifo held FetchAt.Empty = done empty
talk_at want fifo held (FetchAt.Told next) = done (told next)
talk_at want fifo held (FetchAt.Refused r) = refused r

unfoldable pub talk_of : Fetch → Talk Fetched
talk_of s = talk_at s.want s.fifo s.held s.at

-- ---- the end

abbrev pub outcome_by : Fetched → Outcome
outcome_by (told next) = told_of next
outcome_by (message m) = Outcome.Message (found_of m)
outcome_by empty = Outcome.Empty

-- what is left in a lent buffer: of a call that is done with a message the payload fills the first bytes, if there are 64 or more
abbrev pub lent_after : Talk Fetched → List ℕ → List ℕ
lent_after (done (told next)) buf = buf
lent_after (done (message m)) buf = if leb 64 (length buf) then put buf 0 m.payload else buf
lent_after (done empty) buf = buf
lent_after (refused r) buf = buf
lent_after (ask q k) buf = buf
