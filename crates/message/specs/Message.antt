-- Messages: what is sent and received, the object that one is written as, and the one that an object's bytes hold.
-- Assumes nothing.
use Rattle.std.specs.Prelude.{ℕ, ◌+◌, ◌^◌, Bool, true, false, List, length, take, drop, ltb, leb, eqb, if◌then◌else◌, Option, Some, None, Result, Ok, Err}
use Rattle.field.specs.Field.{read, flag}
use Rattle.words.specs.Words.{le_at}
use Rattle.spi.specs.declared.refusal.Refusal.{Refusal}
use Rattle.header.specs.declared.Header.{Header}
use Rattle.header.specs.Dlc.{dlc_of, length_of, received_length, code_or0}
use Rattle.header.specs.Header.{DLC, FDF, SEQ, FILHIT, top_id, word0, word1, received1, header_of}
use Rattle.message.specs.Object.{object_bytes}

-- the DLC is that of the object; the filter is the number of the one that took a message received, 0 in one to send; SEQ is 0 in one received;
-- a timestamp is only in one received with RXTSEN at 1
pub record Message : Type 0 where
  pub header : Header
  pub dlc : ℕ
  pub filter : ℕ
  pub seq : ℕ
  pub stamp : Option ℕ
  pub payload : List ℕ

-- ---- from a message to its object

-- a message to write, with the DLC that its payload's length has, 0 where there is none
abbrev pub to_write : Header → ℕ → Option ℕ → List ℕ → Message
to_write header seq stamp payload =
    record { header = header; dlc = code_or0 (dlc_of header.fdf (length payload)); filter = 0; seq = seq; stamp = stamp; payload = payload }

-- a payload's length that has no DLC is refused 22
abbrev pub by_dlc : Option ℕ → Result ℕ Refusal
by_dlc (Some d) = Ok d
by_dlc None = Err Refusal.BadPayload

-- the DLC of a message whose payload has n bytes, or its refusal: 21, then 24 for SEQ, then 22
unfoldable pub check_of : Header → (seq n : ℕ) → Result ℕ Refusal
check_of h seq n =
    if ltb (top_id h.extended) h.id then Err Refusal.BadIdentifier
    else if leb (2 ^ 23) seq then Err Refusal.BadSetting
    else by_dlc (dlc_of h.fdf n)

-- what a message is written as: the bytes of its object, or a refusal
pub data Encoding : Type 0 where
  refused : Refusal → Encoding
  object : List ℕ → Encoding

abbrev pub coded : Result ℕ Refusal → Message → Encoding
coded (Ok d) m = object (object_bytes (word0 m.header) (word1 m.header m.seq d) m.stamp m.payload)
coded (Err r) m = refused r

-- the object of a message that meets no refusal
unfoldable pub encoding : Message → Encoding
encoding m = coded (check_of m.header m.seq (length m.payload)) m

-- ---- from a frame that arrives to its object

-- what a frame with a payload of n bytes is refused for: 21, then 22 for a DLC above 15 or one that means another length
unfoldable pub arrival_check : Header → (dlc n : ℕ) → Result (Unit {0}) Refusal
arrival_check h dlc n =
    if ltb (top_id h.extended) h.id then Err Refusal.BadIdentifier
    else if ltb 15 dlc then Err Refusal.BadPayload
    else if eqb (received_length h.fdf dlc) n then Ok tt
    else Err Refusal.BadPayload

-- the object of a frame that a filter took
unfoldable pub arriving : Header → (dlc hit : ℕ) → Option ℕ → List ℕ → List ℕ
arriving h dlc hit stamp payload = object_bytes (word0 h) (received1 h dlc hit) stamp payload

-- ---- from an object's bytes to its message

-- where the payload starts, with a timestamp or without
abbrev pub body_at : Bool → ℕ
body_at true = 12
body_at false = 8

-- what bytes are read as: a message, no frame, or too few bytes
pub data Decoding : Type 0 where
  holds : Message → Decoding
  no_frame short : Decoding

-- the message with a payload of n bytes that an object holds
unfoldable pub message_in : (sending stamped : Bool) → ℕ → List ℕ → Message
message_in sending stamped n b = record {
  header = header_of (le_at b 0) (le_at b 4);
  dlc = read DLC (le_at b 4);
  filter = if sending then 0 else read FILHIT (le_at b 4);
  seq = if sending then read SEQ (le_at b 4) else 0;
  stamp = if stamped then Some (le_at b 8) else None;
  payload = take n (drop (body_at stamped) b);
}

-- how long a payload is: a classic frame to send with a DLC above 8 has no length, and one received has 8 bytes
unfoldable pub length_in : (sending fdf : Bool) → ℕ → Option ℕ
length_in true fdf d = length_of fdf d
length_in false fdf d = Some (received_length fdf d)

-- bytes with a payload of such a length; without a length they are no frame
abbrev pub by_length : Option ℕ → (sending stamped : Bool) → List ℕ → Decoding
by_length (Some n) sending stamped b =
    if leb (body_at stamped + n) (length b) then holds (message_in sending stamped n b) else short
by_length None sending stamped b = no_frame

-- an object to send or received, its bytes followed by any others: the payload's length goes by the DLC, also where RTR is 1
unfoldable pub decoding : (sending stamped : Bool) → List ℕ → Decoding
decoding sending stamped b =
    if ltb (length b) (body_at stamped) then short
    else by_length (length_in sending (flag FDF (le_at b 4)) (read DLC (le_at b 4))) sending stamped b
