-- The first two words of a message object.
-- Assumes nothing.
use Rattle.std.specs.Prelude.{ℕ, ◌+◌, ◌*◌, ◌/◌, ◌%◌, ◌^◌, Bool, true, false, List, [], ◌∷◌, ◌++◌, if◌then◌else◌}
use Rattle.field.specs.Field.{Field, ◌‥◌, bit, read, flag, digit}
use Rattle.field.specs.Settings.{Setting, ◌:=◌, settings}
use Rattle.header.specs.declared.Header.{Header}

-- ---- word 0

abbrev pub SID : Field
SID = 10 ‥ 0

abbrev pub EID : Field
EID = 28 ‥ 11

-- ---- word 1

abbrev pub DLC : Field
DLC = 3 ‥ 0

abbrev pub IDE : Field
IDE = bit 4

abbrev pub RTR : Field
RTR = bit 5

abbrev pub BRS : Field
BRS = bit 6

abbrev pub FDF : Field
FDF = bit 7

abbrev pub ESI : Field
ESI = bit 8

-- of an object to send
abbrev pub SEQ : Field
SEQ = 31 ‥ 9

-- of a received object: the number of the filter that took it
abbrev pub FILHIT : Field
FILHIT = 15 ‥ 11

-- ---- the identifier

-- the largest, extended or standard
abbrev pub top_id : Bool → ℕ
top_id true = 0x1FFFFFFF
top_id false = 0x7FF

-- an extended identifier gives SID its top 11 bits and EID its low 18; a standard one is SID, and EID is 0
abbrev pub sid_of : Bool → ℕ → ℕ
sid_of extended id = if extended then id / 2 ^ 18 else id

abbrev pub eid_of : Bool → ℕ → ℕ
eid_of extended id = if extended then id % 2 ^ 18 else 0

-- the identifier that a word 0 holds
abbrev pub id_in : Bool → ℕ → ℕ
id_in extended w = if extended then read SID w * 2 ^ 18 + read EID w else read SID w

-- ---- the words

-- word 0 of a message; bits 31..29 are 0
unfoldable pub word0 : Header → ℕ
word0 h = settings (SID := sid_of h.extended h.id ∷ EID := eid_of h.extended h.id ∷ []) 0

-- the fields that word 1 of every object has
abbrev pub kind1 : Header → (dlc : ℕ) → List Setting
kind1 h dlc =
    DLC := dlc
    ∷ IDE := digit h.extended
    ∷ RTR := digit h.rtr
    ∷ BRS := digit h.brs
    ∷ FDF := digit h.fdf
    ∷ ESI := digit h.esi
    ∷ []

-- word 1 of a message to send
unfoldable pub word1 : Header → (seq dlc : ℕ) → ℕ
word1 h seq dlc = settings (kind1 h dlc ++ (SEQ := seq ∷ [])) 0

-- word 1 of a message that a filter took; bits 10, 9 and 31..16 are 0
unfoldable pub received1 : Header → (dlc hit : ℕ) → ℕ
received1 h dlc hit = settings (kind1 h dlc ++ (FILHIT := hit ∷ [])) 0

-- what two words say: reserved bits, and EID in a standard frame, are ignored
unfoldable pub header_of : ℕ → ℕ → Header
header_of a b = record {
  extended = flag IDE b;
  id = id_in (flag IDE b) a;
  rtr = flag RTR b;
  brs = flag BRS b;
  fdf = flag FDF b;
  esi = flag ESI b;
}

-- ---- which bits have a meaning

-- of word 0 those of an identifier
abbrev pub meaning0 : Bool → ℕ → ℕ
meaning0 extended w = w % 2 ^ (if extended then 29 else 11)

-- of word 1 all of an object to send; of one received those below SEQ, 8..0, and FILHIT's, 15..11
abbrev pub meaning1 : Bool → ℕ → ℕ
meaning1 sending w = if sending then w % 2 ^ 32 else read FILHIT w * 2 ^ 11 + w % 2 ^ 9
