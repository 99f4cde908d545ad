-- What is proved of the transmit queue, as statements.
-- Assumes nothing.
use Rattle.std.specs.Prelude.{ℕ, ◌+◌, ◌*◌, ◌≤◌, ◌<◌, ◌≡◌, ◌↔◌, Bool, true, false, not}
use Rattle.field.specs.Field.{read, write, digit}
use Rattle.fifo.specs.Control.{UINC, TXREQ, FRESET}
use Rattle.header.specs.declared.Header.{Header}
use Rattle.header.specs.Header.{sid_of, eid_of, header_of}
use Rattle.ring.specs.declared.queue.Queue.{Queue}
use Rattle.ring.specs.Ring.{depth}
use Rattle.ring.specs.Registers.{frozen_fields, copied}
use Rattle.ring.specs.Queue.{is_held, free, full, empty, status, claimed, freed, sent, configured, commanded, turned, rank_of, no_slot, best}

-- ---- what is held

-- full: every slot is held
abbrev pub FullMeans : Type 0
FullMeans = (frozen : ℕ) (q : Queue) → (full frozen q ≡ true) ↔ ((k : ℕ) → k < depth frozen → is_held q k ≡ true)

-- empty: none is
abbrev pub EmptyMeans : Type 0
EmptyMeans = (frozen : ℕ) (q : Queue) → (empty frozen q ≡ true) ↔ ((k : ℕ) → k < depth frozen → is_held q k ≡ false)

-- the status word: bit 0 is not-full, bit 2 empty
abbrev pub QueueStatusBits : Type 0
QueueStatusBits = (frozen : ℕ) (q : Queue) → status frozen q ≡ digit (not (full frozen q)) + 4 * digit (empty frozen q)

-- ---- the slot shown

-- one free slot is shown until UINC claims it, then the lowest free one; when all are held the last claimed is still shown, UINC does
-- nothing, and the first freed comes next
pub record Shows (frozen : ℕ) (q : Queue) : Type 0 where
  pub stays : full frozen q ≡ false → (k : ℕ) → (freed frozen k q).shown ≡ q.shown
  pub lowest : full frozen q ≡ false → full frozen (claimed frozen q) ≡ false → (claimed frozen q).shown ≡ free frozen (claimed frozen q)
  pub last : full frozen q ≡ false → full frozen (claimed frozen q) ≡ true → (claimed frozen q).shown ≡ q.shown
  pub nothing : full frozen q ≡ true → claimed frozen q ≡ q
  pub next : full frozen q ≡ true → (k : ℕ) → (freed frozen k q).shown ≡ k

abbrev pub QueueShows : Type 0
QueueShows = (frozen : ℕ) (q : Queue) → Shows frozen q

-- ---- the control word as it reads: as last written, but for the fields that change only in Configuration

abbrev pub queue_control : ℕ → Queue → ℕ
queue_control frozen q = copied frozen_fields frozen q.control

-- UINC reads 0 after a write of the control word, in Configuration and outside it
abbrev pub QueueUincReads0 : Type 0
QueueUincReads0 =
    (on : Bool) (frozen w : ℕ) (q : Queue)
    → (read UINC (queue_control frozen (configured w q)) ≡ 0) × (read UINC (queue_control frozen (commanded on frozen w q)) ≡ 0)

-- FRESET reads 0 after a write of the control word outside Configuration, and after leaving it
abbrev pub QueueFresetReads0 : Type 0
QueueFresetReads0 =
    (on : Bool) (frozen w : ℕ) (q : Queue)
    → (read FRESET (queue_control frozen (commanded on frozen w q)) ≡ 0) × (read FRESET (queue_control frozen (turned false q)) ≡ 0)

-- in Configuration a control word written, UINC set or not, moves nothing in the queue
abbrev pub QueueUincInside : Type 0
QueueUincInside = (w : ℕ) (q : Queue) → ((configured w q).held ≡ q.held) × ((configured w q).shown ≡ q.shown)

-- where the queue is off UINC does nothing: the word does what it does without it
abbrev pub UincOff : Type 0
UincOff = (frozen w : ℕ) (q : Queue) → commanded false frozen w q ≡ commanded false frozen (write UINC 0 w) q

-- a send of the last clears TXREQ, of another keeps it
pub record SendsQueueTxreq (frozen k : ℕ) (q : Queue) : Type 0 where
  pub last : empty frozen (freed frozen k q) ≡ true → read TXREQ (queue_control frozen (sent frozen k q)) ≡ 0
  pub another : empty frozen (freed frozen k q) ≡ false → read TXREQ (queue_control frozen (sent frozen k q)) ≡ read TXREQ (queue_control frozen q)

abbrev pub QueueSendTxreq : Type 0
QueueSendTxreq = (frozen k : ℕ) (q : Queue) → SendsQueueTxreq frozen k q

-- a queue that holds nothing and shows slot 0, with TXREQ at 0
pub record EmptiedQueue (frozen : ℕ) (q : Queue) : Type 0 where
  pub none : (k : ℕ) → is_held q k ≡ false
  pub home : q.shown ≡ 0
  pub txreq : read TXREQ (queue_control frozen q) ≡ 0

-- entering Configuration leaves it so
abbrev pub QueueEnteringEmpties : Type 0
QueueEnteringEmpties = (frozen : ℕ) (q : Queue) → EmptiedQueue frozen (turned true q)

-- ---- arbitration

-- a message's 11-bit base and its low 18 bits; a standard one has none of these
abbrev pub base_of : Header → ℕ
base_of h = sid_of h.extended h.id

abbrev pub low_of : Header → ℕ
low_of h = eid_of h.extended h.id

-- x goes before y, or they tie: smaller base first, at equal base standard before extended, then smaller low 18 bits
pub data Before (x y : Header) : Type 0 where
  base : base_of x < base_of y → Before x y
  kind : base_of x ≡ base_of y → x.extended ≡ false → y.extended ≡ true → Before x y
  low : base_of x ≡ base_of y → x.extended ≡ y.extended → low_of x ≤ low_of y → Before x y

-- a rank is no larger exactly where the message that two header words hold goes before the other's or ties with it
abbrev pub Ordered : Type 0
Ordered = (v₀ v₁ w₀ w₁ : ℕ) → (rank_of v₀ v₁ ≤ rank_of w₀ w₁) ↔ Before (header_of v₀ v₁) (header_of w₀ w₁)

-- of the slots below n where p holds, w has the smallest rank, of several it is the lowest
pub record Best (p : ℕ → Bool) (rank : ℕ → ℕ) (n w : ℕ) : Type 0 where
  pub lt : w < n
  pub is : p w ≡ true
  pub least : (j : ℕ) → j < n → p j ≡ true → rank w ≤ rank j
  pub tie : (j : ℕ) → j < w → p j ≡ true → rank w < rank j

-- `best` is that slot, and no_slot only where p holds nowhere
abbrev pub BestFound : Type 0
BestFound =
    (p : ℕ → Bool) (rank : ℕ → ℕ) (n : ℕ) → n ≤ no_slot
    → let w = best p rank 0 n in
    ((w ≡ no_slot → ⊥) → Best p rank n w) × (w ≡ no_slot → (j : ℕ) → j < n → p j ≡ false)
