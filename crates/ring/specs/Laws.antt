-- What is proved of the FIFOs' registers and of their slots in RAM, as statements; with what is proved of the transmit queue.
-- Assumes nothing.
use Rattle.std.specs.Prelude.{ℕ, ◌+◌, ◌*◌, ◌≤◌, ◌<◌, ◌≡◌, Bool, true, false, List, [], ◌∷◌, get_or, ltb, leb, eqb, if◌then◌else◌}
use Rattle.field.specs.Field.{Field, read, digit}
use Rattle.fifo.specs.Control.{UINC, TXREQ, FRESET}
use Rattle.ring.specs.declared.ring.Fifo.{Fifo}
use Rattle.ring.specs.Ring.{sending, depth, sent, configured, commanded, turned}
use Rattle.ring.specs.Registers.{frozen_fields, control, status}
use Rattle.ring.specs.Layout.{size, end, is_area, slot_at}
use Rattle.ring.specs.QueueLaws.{FullMeans, EmptyMeans, QueueStatusBits, QueueShows, QueueUincReads0, QueueFresetReads0, QueueUincInside, UincOff, QueueSendTxreq, QueueEnteringEmpties, Ordered, BestFound}

-- ---- slots in RAM

-- where slot k of FIFO n ends
abbrev pub slot_end : Bool → List ℕ → (n k : ℕ) → ℕ
slot_end q ws n k = slot_at q ws n k + size (get_or ws n 0)

-- the slots of a FIFO stand in order and share no byte
abbrev pub SlotsApart : Type 0
SlotsApart = (q : Bool) (ws : List ℕ) (n k l : ℕ) → k < l → slot_end q ws n k ≤ slot_at q ws n l

-- every slot of a FIFO stands before every slot of a later one; so do the queue's, where it is on
abbrev pub FifosApart : Type 0
FifosApart = (q : Bool) (ws : List ℕ) (i j k l : ℕ) → is_area q i ≡ true → i < j → k < depth (get_or ws i 0) → slot_end q ws i k ≤ slot_at q ws j l

-- where the slots of FIFO 31 end within 2048 bytes, every slot does
abbrev pub InRam : Type 0
InRam = (q : Bool) (ws : List ℕ) (n k : ℕ) → end q ws 31 ≤ 2048 → is_area q n ≡ true → n ≤ 31 → k < depth (get_or ws n 0) → slot_end q ws n k ≤ 2048

-- ---- the control word as it reads

-- two words hold the same in each of these fields
abbrev pub Alike : List Field → (v w : ℕ) → Type 0
Alike [] v w = Unit {0}
Alike (f ∷ fs) v w = (read f v ≡ read f w) × Alike fs v w

-- the fields that change only in Configuration read as they were last written there
abbrev pub Frozen : Type 0
Frozen = (frozen : ℕ) (f : Fifo) → Alike frozen_fields (control frozen f) frozen

-- UINC reads 0 after a write of the control word, in Configuration and outside it
abbrev pub UincReads0 : Type 0
UincReads0 =
    (frozen w : ℕ) (f : Fifo)
    → (read UINC (control frozen (configured w f)) ≡ 0) × (read UINC (control frozen (commanded frozen w f)) ≡ 0)

-- FRESET reads 0 after a write of the control word outside Configuration, and after leaving it
abbrev pub FresetReads0 : Type 0
FresetReads0 =
    (frozen w : ℕ) (f : Fifo)
    → (read FRESET (control frozen (commanded frozen w f)) ≡ 0) × (read FRESET (control frozen (turned false f)) ≡ 0)

-- ---- TXREQ and status bit 3

-- a send of the last clears TXREQ, of another keeps it
pub record SendsTxreq (frozen : ℕ) (f : Fifo) : Type 0 where
  pub last : f.count ≡ 1 → read TXREQ (control frozen (sent frozen f)) ≡ 0
  pub another : (f.count ≡ 1 → ⊥) → read TXREQ (control frozen (sent frozen f)) ≡ read TXREQ (control frozen f)

abbrev pub SendTxreq : Type 0
SendTxreq = (frozen : ℕ) (f : Fifo) → SendsTxreq frozen f

-- a FIFO that holds nothing, with TXREQ and status bit 3 at 0
pub record Emptied (frozen : ℕ) (f : Fifo) : Type 0 where
  pub empty : f.count ≡ 0
  pub txreq : read TXREQ (control frozen f) ≡ 0
  pub overflow : f.over ≡ false

-- entering Configuration leaves it so
abbrev pub EnteringEmpties : Type 0
EnteringEmpties = (frozen : ℕ) (f : Fifo) → Emptied frozen (turned true f)

-- in Configuration a control word written, UINC set or not, moves nothing in the ring
abbrev pub UincInside : Type 0
UincInside = (w : ℕ) (f : Fifo) → ((configured w f).head ≡ f.head) × ((configured w f).count ≡ f.count)

-- ---- the status word: bit 0 is not-full when sending and not-empty when receiving, bit 2 empty or full, bit 3 receive overflow

abbrev pub StatusBits : Type 0
StatusBits =
    (frozen : ℕ) (f : Fifo)
    → status frozen f
    ≡ (if sending frozen then digit (ltb f.count (depth frozen)) + 4 * digit (eqb f.count 0)
    else digit (ltb 0 f.count) + 4 * digit (leb (depth frozen) f.count) + 8 * digit f.over)

-- ---- all of these

pub record Laws : Type 0 where
  pub slots_apart : SlotsApart
  pub fifos_apart : FifosApart
  pub in_ram : InRam
  pub frozen : Frozen
  pub uinc_reads0 : UincReads0
  pub freset_reads0 : FresetReads0
  pub send_txreq : SendTxreq
  pub entering_empties : EnteringEmpties
  pub uinc_inside : UincInside
  pub status_bits : StatusBits
  pub full_means : FullMeans
  pub empty_means : EmptyMeans
  pub queue_status_bits : QueueStatusBits
  pub queue_shows : QueueShows
  pub queue_uinc_reads0 : QueueUincReads0
  pub queue_freset_reads0 : QueueFresetReads0
  pub queue_uinc_inside : QueueUincInside
  pub uinc_off : UincOff
  pub queue_send_txreq : QueueSendTxreq
  pub queue_entering_empties : QueueEnteringEmpties
  pub ordered : Ordered
  pub best_found : BestFound
