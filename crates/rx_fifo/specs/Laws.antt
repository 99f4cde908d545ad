-- What a peek and a get hand out where the line answers with an object's bytes: the message that these bytes hold.
-- Assumes nothing.
use Rattle.std.specs.Prelude.{ℕ, ◌+◌, ◌^◌, ◌≤◌, ◌<◌, ◌≡◌, Bool, true, false, List, [], ◌∷◌, ◌++◌, length, take, if◌then◌else◌}
use Rattle.field.specs.Field.{read, flag}
use Rattle.fifo.specs.Control.{TXEN, RXTSEN, payload_of, is_fifo}
use Rattle.fifo.specs.Status.{TFNRFNIF}
use Rattle.words.specs.Words.{le_bytes, le_at, round_up}
use Rattle.parts.specs.Parts.{part}
use Rattle.header.specs.Dlc.{received_length}
use Rattle.header.specs.Header.{DLC, FDF}
use Rattle.message.specs.Message.{Message, body_at, holds, decoding}
use Rattle.spi.specs.declared.refusal.Refusal.{Refusal}
use Rattle.spi.specs.declared.ask.Ask.{Ask}
use Rattle.spi.specs.declared.ask.Answer.{Answer}
use Rattle.spi.specs.Ram.{in_range}
use Rattle.spi.specs.Talk.{done, refused, asks, answered, run}
use Rattle.fetch.specs.declared.Want.{Want}
use Rattle.rx_fifo.specs.Talk.{message, next_talk, has_next_talk, lent_talk, peek_talk, get_talk}

-- a word, and the n bytes of b from place x on, as answers
abbrev pub says : ℕ → Answer × List ℕ
says w = (Answer.Exchanged, le_bytes w)

abbrev pub gives : List ℕ → (x n : ℕ) → Answer × List ℕ
gives b x n = (Answer.Exchanged, part b x n)

-- the timestamp, if there is one, and a payload of n bytes
abbrev pub parts : Bool → ℕ → List ℕ → List (Answer × List ℕ)
parts stamped n b = if stamped then gives b 8 4 ∷ gives b 12 (round_up n) ∷ [] else gives b 8 (round_up n) ∷ []

-- control c, status v, user address u, the header, control again w
abbrev pub up_to_again : (c v u w : ℕ) → List ℕ → List (Answer × List ℕ)
up_to_again c v u w b = says c ∷ says v ∷ says u ∷ gives b 0 8 ∷ says w ∷ []

-- these, timestamp and payload
abbrev pub answers : (c v u w n : ℕ) → List ℕ → List (Answer × List ℕ)
answers c v u w n b = up_to_again c v u w b ++ parts (flag RXTSEN w) n b

-- a receive FIFO that holds a message, by control, status and control again
pub record Waits (c v w : ℕ) : Type 0 where
  pub control : c < 2 ^ 32
  pub receiving : flag TXEN c ≡ false
  pub status : v < 2 ^ 32
  pub next : flag TFNRFNIF v ≡ true
  pub again : w < 2 ^ 32

-- the bytes b of its object are those of m, whose payload is no longer than PLSIZE of control again means, and all in RAM
pub record Shows (c v u w : ℕ) (b : List ℕ) (m : Message) : Type 0 where
  pub waits : Waits c v w
  pub decoded : decoding false (flag RXTSEN w) b ≡ holds m
  pub whole : body_at (flag RXTSEN w) + round_up (length m.payload) ≤ length b
  pub slot : length m.payload ≤ payload_of w
  pub in_ram : in_range (u + 0x400) (body_at (flag RXTSEN w) + round_up (length m.payload)) ≡ true

-- a peek is done with the message
abbrev pub PeekReads : Type 0
PeekReads =
    (fifo room c v u w : ℕ) (b : List ℕ) (m : Message) → is_fifo fifo ≡ true → 64 ≤ room → Shows c v u w b m
    → run answered (peek_talk fifo room) (answers c v u w (length m.payload) b) ≡ done (message m)

-- a get has the message, and still asks for control, and control with UINC
abbrev pub GetReads : Type 0
GetReads =
    (fifo room c v u w : ℕ) (b : List ℕ) (m : Message) → is_fifo fifo ≡ true → 64 ≤ room → Shows c v u w b m
    → run answered (get_talk fifo room) (answers c v u w (length m.payload) b) ≡ next_talk fifo m

-- ---- document 02, request 7: do not read the neighbour's slot

-- the header of its object is in RAM, and means a longer payload than PLSIZE of control again
pub record TooLong (c v u w : ℕ) (b : List ℕ) : Type 0 where
  pub waits : Waits c v w
  pub whole : 8 ≤ length b
  pub in_ram : in_range (u + 0x400) 8 ≡ true
  pub beyond : payload_of w < received_length (flag FDF (le_at b 4)) (read DLC (le_at b 4))

-- a peek and a get are refused 35, wherever timestamp and payload lie
abbrev pub LongRefused : Type 0
LongRefused =
    (fifo room c v u w : ℕ) (b : List ℕ) → is_fifo fifo ≡ true → 64 ≤ room → TooLong c v u w b
    → (run answered (peek_talk fifo room) (up_to_again c v u w b) ≡ refused Refusal.LengthBeyondSlot)
    × (run answered (get_talk fifo room) (up_to_again c v u w b) ≡ refused Refusal.LengthBeyondSlot)

-- the size of a slot by its control word: 8, 4 with a timestamp, what PLSIZE means
abbrev pub slot_size : ℕ → ℕ
slot_size w = body_at (flag RXTSEN w) + payload_of w

-- what is read of RAM, which begins at 0x400, lies in the n bytes at a; no checked read is asked for
abbrev pub ReadsIn : (a n : ℕ) → Ask → Type 0
ReadsIn a n (Ask.Read x k) = 0x400 < x + k → (a ≤ x) × (x + k ≤ a + n)
ReadsIn a n (Ask.Checked x) = ⊥
ReadsIn a n (Ask.Word x w) = Unit {0}
ReadsIn a n (Ask.Body x k) = Unit {0}
ReadsIn a n Ask.Reset = Unit {0}
ReadsIn a n Ask.Wait = Unit {0}
ReadsIn a n Ask.Nothing = Unit {0}

-- the word that an answer brings
abbrev pub word_in : Answer × List ℕ → ℕ
word_in x = le_at x.1 0

-- of peek and get, whatever is answered: what they ask for, after any k of the answers, reads no byte of RAM but the slot's, which is at the user
-- address, the third answer, and has the size that control again, the fifth, means
abbrev pub ReadsItsSlot : Type 0
ReadsItsSlot =
    (want : Want) (fifo room : ℕ) (control status user header again : Answer × List ℕ) (xs : List (Answer × List ℕ)) (k : ℕ)
    → ReadsIn (word_in user + 0x400) (slot_size (word_in again))
    (asks (run answered (lent_talk want fifo room) (take k (control ∷ status ∷ user ∷ header ∷ again ∷ xs))))

-- has-next is never refused 35
abbrev pub HasNextNever35 : Type 0
HasNextNever35 = (fifo : ℕ) (xs : List (Answer × List ℕ)) → run answered (has_next_talk fifo) xs ≡ refused Refusal.LengthBeyondSlot → ⊥

-- all of these
pub record Laws : Type 0 where
  pub peek_reads : PeekReads
  pub get_reads : GetReads
  pub long_refused : LongRefused
  pub reads_its_slot : ReadsItsSlot
  pub has_next_never35 : HasNextNever35
