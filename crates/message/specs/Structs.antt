-- Messages in the code's structs: bytes at the front of arrays that are 0 behind.
-- Assumes nothing.
use Rattle.spi.specs.declared.refusal.Refusal.{Refusal}
use Rattle.std.specs.Prelude.{ℕ, List, [], length, Result, Ok, Err}
use Rattle.parts.specs.Parts.{zeroed}
use Rattle.message.specs.declared.rx.Payload.{Payload}
use Rattle.message.specs.declared.rx.Frame.{Frame}
use Rattle.message.specs.declared.rx.Undecoded.{Undecoded}
use Rattle.message.specs.Message.{Message, Encoding, refused, object, Decoding, holds, no_frame, short}

-- an object's bytes, the first `len` of an array
pub record Object : Type 0 where
  pub bytes : List ℕ
  pub len : ℕ

-- an object, or why there is none
pub record Encoded : Type 0 where
  pub done : Result (Unit {0}) Refusal
  pub object : Object

-- bytes in an object's array
abbrev pub object_in : List ℕ → Object
object_in bs = record { bytes = zeroed 76 bs; len = length bs }

abbrev pub encoded_as : Encoding → Encoded
encoded_as (refused r) = record { done = Err r; object = object_in [] }
encoded_as (object bs) = record { done = Ok tt; object = object_in bs }

-- an object whose bytes are lent
abbrev pub encoded_in : Result ℕ Refusal → List ℕ → Encoded
encoded_in (Err r) bytes = record { done = Err r; object = record { bytes = bytes; len = 0 } }
encoded_in (Ok n) bytes = record { done = Ok tt; object = record { bytes = bytes; len = n } }

-- bytes in a payload's array
abbrev pub payload_in : List ℕ → Payload
payload_in bs = record { bytes = zeroed 64 bs; len = length bs }

abbrev pub frame_of : Message → Frame
frame_of m = record { header = m.header; dlc = m.dlc; filter = m.filter; seq = m.seq; stamp = m.stamp; payload = payload_in m.payload }

abbrev pub decoded_as : Decoding → Result Frame Undecoded
decoded_as (holds m) = Ok (frame_of m)
decoded_as no_frame = Err Undecoded.NoFrame
decoded_as short = Err Undecoded.Short
