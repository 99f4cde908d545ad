-- What is proved of messages and objects, as statements.
-- Assumes nothing.
use Rattle.spi.specs.declared.refusal.Refusal.{Refusal}
use Rattle.std.specs.Prelude.{ℕ, ◌+◌, ◌^◌, ◌≤◌, ◌<◌, ◌≡◌, ◌↔◌, Bool, true, false, List, [], ◌∷◌, ◌++◌, length, take, drop, if◌then◌else◌, Option, Some, None, Result, Ok, Err}
use Rattle.field.specs.Field.{read, flag}
use Rattle.words.specs.Words.{le_at, round_up}
use Rattle.header.specs.declared.Header.{Header}
use Rattle.spi.specs.Refusals.{done_numbers}
use Rattle.header.specs.Dlc.{dlc_of, received_length}
use Rattle.header.specs.Header.{DLC, IDE, FDF, FILHIT, top_id, meaning0, meaning1}
use Rattle.message.specs.Object.{stamp_bytes, object_bytes}
use Rattle.message.specs.Message.{Message, to_write, Encoding, refused, object, encoding, arrival_check, arriving, holds, no_frame, decoding, body_at}
use Rattle.message.specs.Numbers.{encoding_numbers}

-- a timestamp is a word, and is there exactly where RXTSEN is 1
abbrev pub Stamped : Bool → Option ℕ → Type 0
Stamped true (Some t) = t < 2 ^ 32
Stamped true None = ⊥
Stamped false (Some t) = ⊥
Stamped false None = Unit {0}

-- no filter in a message to send; one of the 32 in one received
abbrev pub Filtered : (sending : Bool) → ℕ → Type 0
Filtered true f = f ≡ 0
Filtered false f = f < 32

-- a message as an object of this kind can hold it: SEQ only in one to send, a filter only in one received
pub record Suits (sending stamped : Bool) (m : Message) : Type 0 where
  pub seq : (if sending then m.seq else 0) ≡ m.seq
  pub filter : Filtered sending m.filter
  pub stamp : Stamped stamped m.stamp

-- every field of a message to write comes back from the object, whatever bytes stand behind it
abbrev pub RoundTrip : Type 0
RoundTrip =
    (sending stamped : Bool) (header : Header) (seq : ℕ) (stamp : Option ℕ) (payload bs r : List ℕ)
    → let m = to_write header seq stamp payload in
    encoding m ≡ object bs → Suits sending stamped m → decoding sending stamped (bs ++ r) ≡ holds m

-- so it does from the object of a frame that arrived: the DLC is the one that it brought, the filter the one that took it
abbrev pub ArrivalTrip : Type 0
ArrivalTrip =
    (stamped : Bool) (m : Message) (r : List ℕ) → arrival_check m.header m.dlc (length m.payload) ≡ Ok tt
    → Suits false stamped m → decoding false stamped (arriving m.header m.dlc m.filter m.stamp m.payload ++ r) ≡ holds m

-- and FILHIT of its word 1 is that filter's number
abbrev pub ArrivalFilter : Type 0
ArrivalFilter =
    (h : Header) (dlc hit : ℕ) (stamp : Option ℕ) (payload r : List ℕ) → dlc < 16 → hit < 32
    → read FILHIT (le_at (arriving h dlc hit stamp payload ++ r) 4) ≡ hit

-- the object with a payload of n bytes that bytes hold: 0 for every bit without a meaning, and nothing behind it
abbrev pub meaningful : (sending stamped : Bool) → ℕ → List ℕ → List ℕ
meaningful sending stamped n b =
    object_bytes (meaning0 (flag IDE (le_at b 4)) (le_at b 0)) (meaning1 sending (le_at b 4))
    (if stamped then Some (le_at b 8) else None) (take n (drop (body_at stamped) b))

-- what a message received is written as, by its check: the object of a frame that its filter took
abbrev pub arrived : Result (Unit {0}) Refusal → Message → Encoding
arrived (Ok _) m = object (arriving m.header m.dlc m.filter m.stamp m.payload)
arrived (Err r) m = refused r

-- what a message is written as, one to send or one received
abbrev pub written_as : (sending : Bool) → Message → Encoding
written_as true m = encoding m
written_as false m = arrived (arrival_check m.header m.dlc (length m.payload)) m

-- a message that bytes hold is written as their meaningful bytes
abbrev pub Back : Type 0
Back =
    (sending stamped : Bool) (b : List ℕ) (m : Message) → decoding sending stamped b ≡ holds m
    → written_as sending m ≡ object (meaningful sending stamped (length m.payload) b)

-- an object's length: 8, 4 with a timestamp, the payload rounded up to 4
abbrev pub Lengths : Type 0
Lengths = (m : Message) (bs : List ℕ) → encoding m ≡ object bs → length bs ≡ 8 + length (stamp_bytes m.stamp) + round_up (length m.payload)

-- refused exactly so: 21 for the identifier, then 24 for SEQ, then 22 for a length that has no DLC
pub record RefusedFor (m : Message) : Type 0 where
  pub identifier : top_id m.header.extended < m.header.id → encoding_numbers (encoding m) ≡ 21 ∷ []
  pub setting : m.header.id ≤ top_id m.header.extended → 2 ^ 23 ≤ m.seq → encoding_numbers (encoding m) ≡ 24 ∷ []
  pub payload :
      m.header.id ≤ top_id m.header.extended → m.seq < 2 ^ 23 → dlc_of m.header.fdf (length m.payload) ≡ None
      → encoding_numbers (encoding m) ≡ 22 ∷ []
  pub none :
      (d : ℕ) → m.header.id ≤ top_id m.header.extended → m.seq < 2 ^ 23 → dlc_of m.header.fdf (length m.payload) ≡ Some d
      → (bs : List ℕ) × (encoding m ≡ object bs)

abbrev pub Refuses : Type 0
Refuses = (m : Message) → RefusedFor m

-- a frame that arrives is refused exactly so: 21 for the identifier, then 22 for a DLC above 15 or a payload of another length than it means
pub record ArrivalRefusedFor (h : Header) (dlc n : ℕ) : Type 0 where
  pub identifier : top_id h.extended < h.id → done_numbers (arrival_check h dlc n) ≡ 21 ∷ []
  pub dlc_above : h.id ≤ top_id h.extended → 15 < dlc → done_numbers (arrival_check h dlc n) ≡ 22 ∷ []
  pub other_length : h.id ≤ top_id h.extended → (received_length h.fdf dlc ≡ n → ⊥) → done_numbers (arrival_check h dlc n) ≡ 22 ∷ []
  pub none : h.id ≤ top_id h.extended → dlc ≤ 15 → received_length h.fdf dlc ≡ n → arrival_check h dlc n ≡ Ok tt

abbrev pub ArrivalRefuses : Type 0
ArrivalRefuses = (h : Header) (dlc n : ℕ) → ArrivalRefusedFor h dlc n

-- a classic message is written with a DLC of at most 8
abbrev pub ClassicDlc : Type 0
ClassicDlc = (m : Message) (bs r : List ℕ) → m.header.fdf ≡ false → encoding m ≡ object bs → read DLC (le_at (bs ++ r) 4) ≤ 8

-- of bytes of an object: the payload's length that the DLC means on reception
abbrev pub meant_in : List ℕ → ℕ
meant_in b = received_length (flag FDF (le_at b 4)) (read DLC (le_at b 4))

-- a received object that is long enough always holds a message: whatever its DLC, which is kept, and whatever filter FILHIT names
abbrev pub AlwaysHolds : Type 0
AlwaysHolds =
    (stamped : Bool) (b : List ℕ) → body_at stamped + meant_in b ≤ length b
    → (m : Message) × (decoding false stamped b ≡ holds m) × (length m.payload ≡ meant_in b)
    × (m.dlc ≡ read DLC (le_at b 4)) × (m.filter ≡ read FILHIT (le_at b 4))

-- an object to send that has its header is no frame exactly if it is a classic one with a DLC above 8
abbrev pub NoFrameIff : Type 0
NoFrameIff =
    (stamped : Bool) (b : List ℕ) → body_at stamped ≤ length b
    → (decoding true stamped b ≡ no_frame) ↔ ((flag FDF (le_at b 4) ≡ false) × (8 < read DLC (le_at b 4)))

-- all of them
pub record Laws : Type 0 where
  pub round_trip : RoundTrip
  pub arrival_trip : ArrivalTrip
  pub arrival_filter : ArrivalFilter
  pub back : Back
  pub lengths : Lengths
  pub refuses : Refuses
  pub arrival_refuses : ArrivalRefuses
  pub classic_dlc : ClassicDlc
  pub always_holds : AlwaysHolds
  pub no_frame_iff : NoFrameIff
