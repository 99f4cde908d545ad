-- The bus steps: the chip sends from a FIFO, and a frame arrives for one.
-- Assumes nothing.
use Rattle.std.specs.Prelude.{ℕ, Bool, true, ◌&&◌, not, List, length, ltb, leb, if◌then◌else◌, Option, Some, None, Result, Ok, Err}
use Rattle.field.specs.Field.{flag}
use Rattle.fifo.specs.Control.{TXREQ, payload_of, is_fifo}
use Rattle.spi.specs.declared.refusal.Refusal.{Refusal}
use Rattle.header.specs.declared.Header.{Header}
use Rattle.message.specs.Message.{Message, arrival_check, arriving, Decoding, holds, short}
use Rattle.message.specs.Structs.{frame_of}
use Rattle.ring.specs.Ring.{sending, depth, sent, claimed, overflowed}
use Rattle.ring.specs.Layout.{stamped}
use Rattle.state.specs.declared.Model.{Model}
use Rattle.state.specs.Model.{fifo_at, frozen_at, with_fifo, written}
use Rattle.bus.specs.declared.departure.Unsent.{Unsent}
use Rattle.bus.specs.declared.departure.Sent.{Sent}
use Rattle.bus.specs.declared.arrival.Undelivered.{Undelivered}
use Rattle.bus.specs.declared.arrival.Delivered.{Delivered}
use Rattle.bus.specs.Held.{slot_of, item_at}

-- ---- send

-- what goes out
pub data Output : Type 0 where
  frame : Message → Output
  no_frame nothing : Output
  refused : Refusal → Output

-- a slot that does not decode is no frame
abbrev pub output_of : Decoding → Output
output_of (holds m) = frame m
output_of Decoding.no_frame = no_frame
output_of short = no_frame

-- FIFO n transmits, TXREQ is 1, and one is held
unfoldable pub sends : Model → ℕ → Bool
sends m n = sending (frozen_at m n) && flag TXREQ (fifo_at m n).control && ltb 0 (fifo_at m n).count

-- what a send from FIFO n answers
unfoldable pub send_output : Model → ℕ → Output
send_output m n =
    if is_fifo n then if sends m n then output_of (item_at m n 0) else nothing else refused Refusal.BadNumber

-- the oldest is taken
unfoldable pub send_model : Model → ℕ → Model
send_model m n = if is_fifo n && sends m n then with_fifo m n (sent (frozen_at m n) (fifo_at m n)) else m

-- as the code has it: a frame, or why none is sent
abbrev pub sent_as : Output → Model → Sent
sent_as (frame x) m = record { sent = Ok (frame_of x); model = m }
sent_as no_frame m = record { sent = Err Unsent.NoFrame; model = m }
sent_as nothing m = record { sent = Err Unsent.Nothing; model = m }
sent_as (refused r) m = record { sent = Err (Unsent.Refused r); model = m }

-- ---- deliver

-- the timestamp that a step brings, only if RXTSEN is 1
abbrev pub stamp_for : Model → (n time : ℕ) → Option ℕ
stamp_for m n time = if stamped (frozen_at m n) then Some time else None

-- a frame that filter `hit` took, as FIFO n receives it: with its DLC and that filter, and no SEQ
unfoldable pub incoming : Model → (n hit : ℕ) → Header → (dlc time : ℕ) → List ℕ → Message
incoming m n hit header dlc time payload =
    record { header = header; dlc = dlc; filter = hit; seq = 0; stamp = stamp_for m n time; payload = payload }

abbrev pub delivered : Result (Unit {0}) Undelivered → Model → Delivered
delivered answer m = record { delivery = answer; model = m }

-- FIFO n receives; 0 is no FIFO and counts as not receiving
unfoldable pub receives : Model → ℕ → Bool
receives m n = is_fifo n && not (sending (frozen_at m n))

-- an object of a payload of so many bytes, for FIFO n: turned down by the first cause, or appended in the slot behind those held
unfoldable pub appended : Model → ℕ → ℕ → List ℕ → Delivered
appended m n len object =
    if m.fixed.configuring then delivered (Err Undelivered.Configuration) m
    else if not (receives m n) then delivered (Err Undelivered.NotReceiving) m
    else if ltb (payload_of (frozen_at m n)) len then delivered (Err Undelivered.TooLong) m
    else if leb (depth (frozen_at m n)) (fifo_at m n).count then delivered (Err Undelivered.Full) (with_fifo m n (overflowed true (fifo_at m n)))
    else delivered (Ok tt) (with_fifo (written m (slot_of m n (fifo_at m n).count) object) n (claimed (fifo_at m n)))

-- FIFO n is given a frame that filter `hit` took
unfoldable pub give : Model → (n hit dlc : ℕ) → Header → ℕ → List ℕ → Delivered
give m n hit dlc header time payload = appended m n (length payload) (arriving header dlc hit (stamp_for m n time) payload)

-- 21 and 22; a frame that names its FIFO has filter 0
abbrev pub by_check : Result (Unit {0}) Refusal → Model → ℕ → Header → (dlc time : ℕ) → List ℕ → Delivered
by_check (Err r) m n header dlc time payload = delivered (Err (Undelivered.Refused r)) m
by_check (Ok _) m n header dlc time payload = give m n 0 dlc header time payload

-- a frame arrives for FIFO n
unfoldable pub deliver_of : Model → ℕ → Header → (dlc time : ℕ) → List ℕ → Delivered
deliver_of m n header dlc time payload =
    if is_fifo n then by_check (arrival_check header dlc (length payload)) m n header dlc time payload
    else delivered (Err (Undelivered.Refused Refusal.BadNumber)) m
