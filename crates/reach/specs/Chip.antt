-- Document 01's sentences about the modelled chip, as statements: of every chip that is reached or, where they hold so, of every state.
-- Assumes nothing.
use Rattle.std.specs.Prelude.{ℕ, ◌+◌, ◌*◌, ◌^◌, ◌<◌, ◌≡◌, Bool, true, false, ◌↔◌, length, ltb, leb, eqb, if◌then◌else◌, Ok, Err}
use mathlib.Core.List.{List, [], ◌∷◌, ◌++◌, Perm}
use Rattle.field.specs.Field.{read, flag, digit}
use Rattle.configuration.specs.CanControl.{TXQEN, OPMOD, REQOP}
use Rattle.fifo.specs.Control.{TXEN, TXREQ, FSIZE, is_fifo}
use Rattle.fifo.specs.Status.{RXOVIF}
use Rattle.header.specs.declared.Header.{Header}
use Rattle.message.specs.Message.{Decoding, holds}
use Rattle.place.specs.declared.Register.{Register}
use Rattle.operation.specs.declared.operation.Operation.{Operation}
use Rattle.operation.specs.Operation.{asked}
use Rattle.ring.specs.Queue.{is_held}
use Rattle.ring.specs.QueueLaws.{Best}
use Rattle.state.specs.declared.Model.{Model}
use Rattle.state.specs.Model.{fifo_at}
use Rattle.bank.specs.Registers.{word_of}
use Rattle.model.specs.Exchange.{exchange}
use Rattle.bus.specs.declared.arrival.Undelivered.{Undelivered}
use Rattle.bus.specs.Held.{held}
use Rattle.bus.specs.Bus.{nothing, output_of, send_output, send_model, incoming, deliver_of}
use Rattle.bus.specs.Sort.{sort_of}
use Rattle.bus.specs.Queue.{queue_depth, queue_item, held_queue, queue_rank, queue_output, queue_model}
use Rattle.reach.specs.Reach.{Reached}

-- ---- send

-- TXEN and TXREQ of FIFO n read 1
abbrev pub Requested : Model → ℕ → Type 0
Requested m n = (read TXEN (word_of m (Register.Control n)) ≡ 1) × (read TXREQ (word_of m (Register.Control n)) ≡ 1)

-- the oldest, x, goes out and the rest stay; TXREQ is cleared when none is left, and otherwise kept
pub record Takes (m : Model) (n : ℕ) (x : Decoding) (rest : List Decoding) : Type 0 where
  pub out : send_output m n ≡ output_of x
  pub stay : held (send_model m n) n ≡ rest
  pub last : rest ≡ [] → read TXREQ (word_of (send_model m n) (Register.Control n)) ≡ 0
  pub another : (rest ≡ [] → ⊥) → read TXREQ (word_of (send_model m n) (Register.Control n)) ≡ 1

abbrev pub SendTakes : Type 0
SendTakes =
    (m : Model) → Reached m → (n : ℕ) → is_fifo n ≡ true → Requested m n → (x : Decoding) (rest : List Decoding) → held m n ≡ x ∷ rest
    → Takes m n x rest

-- otherwise, where it is not requested or none is held, it answers "nothing sent" and changes nothing
abbrev pub SendKeeps : Type 0
SendKeeps = (m : Model) (n : ℕ) → is_fifo n ≡ true → (Requested m n → held m n ≡ []) → (send_output m n ≡ nothing) × (send_model m n ≡ m)

-- so it does in Configuration
abbrev pub SendInside : Type 0
SendInside =
    (m : Model) → Reached m → m.fixed.configuring ≡ true → (n : ℕ) → is_fifo n ≡ true → (send_output m n ≡ nothing) × (send_model m n ≡ m)

-- ---- send from the queue

-- TXEN of its control word reads 1, whatever was written
abbrev pub QueueTxenReads : Type 0
QueueTxenReads = (m : Model) → Reached m → read TXEN (word_of m Register.QueueControl) ≡ 1

-- TXQEN and the queue's TXREQ read 1
abbrev pub QueueRequested : Model → Type 0
QueueRequested m = (read TXQEN (word_of m Register.Con) ≡ 1) × (read TXREQ (word_of m Register.QueueControl) ≡ 1)

-- slot k is held and wins arbitration: of the slots held none has a smaller rank, and none below it the same
abbrev pub Wins : Model → ℕ → Type 0
Wins m k = Best (is_held m.queue) (queue_rank m) (queue_depth m) k

-- the winner, in slot k, goes out and the rest stay; TXREQ is cleared when none is left, and otherwise kept
pub record QueueTakes (m : Model) : Type 0 where
  pub slot : ℕ
  pub wins : Wins m slot
  pub out : queue_output m ≡ output_of (queue_item m slot)
  pub stay : Perm (held_queue m) (queue_item m slot ∷ held_queue (queue_model m))
  pub last : held_queue (queue_model m) ≡ [] → read TXREQ (word_of (queue_model m) Register.QueueControl) ≡ 0
  pub another : (held_queue (queue_model m) ≡ [] → ⊥) → read TXREQ (word_of (queue_model m) Register.QueueControl) ≡ 1

abbrev pub QueueSendTakes : Type 0
QueueSendTakes = (m : Model) → Reached m → QueueRequested m → (held_queue m ≡ [] → ⊥) → QueueTakes m

-- otherwise, with TXQEN at 0 too, it answers "nothing sent" and changes nothing
abbrev pub QueueSendKeeps : Type 0
QueueSendKeeps = (m : Model) → (QueueRequested m → held_queue m ≡ []) → (queue_output m ≡ nothing) × (queue_model m ≡ m)

-- ---- deliver

-- a frame that is delivered is the last that FIFO n holds, as that receives it, with filter 0; those before it stay, and so does every other FIFO
abbrev pub DeliverAppends : Type 0
DeliverAppends =
    (m : Model) → Reached m → (n : ℕ) (header : Header) (dlc time : ℕ) (payload : List ℕ) → time < 2 ^ 32
    → (deliver_of m n header dlc time payload).delivery ≡ Ok tt → (k : ℕ)
    → held (deliver_of m n header dlc time payload).model k ≡ held m k ++ (if eqb n k then holds (incoming m n 0 header dlc time payload) ∷ [] else [])

-- one turned down by a full FIFO sets overflow: status bit 3 reads 1
abbrev pub FullOverflows : Type 0
FullOverflows =
    (m : Model) → Reached m → (n : ℕ) (header : Header) (dlc time : ℕ) (payload : List ℕ) → (deliver_of m n header dlc time payload).delivery ≡ Err Undelivered.Full
    → read RXOVIF (word_of (deliver_of m n header dlc time payload).model (Register.Status n)) ≡ 1

-- ---- sort

-- a frame that a filter took is the last that its target holds, with that filter; those before it stay, and so does every other FIFO
abbrev pub SortAppends : Type 0
SortAppends =
    (m : Model) → Reached m → (header : Header) (dlc time : ℕ) (payload : List ℕ) → time < 2 ^ 32
    → let s = sort_of m header dlc time payload in
    s.delivery ≡ Ok tt → (k : ℕ)
    → held s.model k ≡ held m k ++ (if eqb s.fifo k then holds (incoming m s.fifo s.filter header dlc time payload) ∷ [] else [])

-- one turned down by a full FIFO sets that FIFO's overflow
abbrev pub SortOverflows : Type 0
SortOverflows =
    (m : Model) → Reached m → (header : Header) (dlc time : ℕ) (payload : List ℕ)
    → let s = sort_of m header dlc time payload in
    s.delivery ≡ Err Undelivered.Full → read RXOVIF (word_of s.model (Register.Status s.fifo)) ≡ 1

-- ---- Configuration

-- in Configuration, every FIFO empty, with TXREQ at 0; status bit 3, which reads 0 there, is 0 for the time after; so is the queue, which
-- shows slot 0
pub record Entered (m : Model) : Type 0 where
  pub inside : m.fixed.configuring ≡ true
  pub empty : (n : ℕ) → held m n ≡ []
  pub txreq : (n : ℕ) → read TXREQ (word_of m (Register.Control n)) ≡ 0
  pub overflow : (n : ℕ) → (fifo_at m n).over ≡ false
  pub queue_empty : held_queue m ≡ []
  pub queue_txreq : read TXREQ (word_of m Register.QueueControl) ≡ 0
  pub queue_shows : m.queue.shown ≡ 0

-- entering it, by a CiCON write with REQOP 4 from outside
abbrev pub Entering : Type 0
Entering =
    (s : List ℕ) (want w : ℕ) (m : Model) → asked s want ≡ Operation.Write Register.Con w → m.fixed.configuring ≡ false → read REQOP w ≡ 4
    → Entered (exchange s want m).model

-- and by RESET
abbrev pub Resetting : Type 0
Resetting = (s : List ℕ) (want : ℕ) (m : Model) → asked s want ≡ Operation.Reset → Entered (exchange s want m).model

-- every FIFO stays empty while in it
abbrev pub InsideEmpty : Type 0
InsideEmpty = (m : Model) → Reached m → m.fixed.configuring ≡ true → (n : ℕ) → held m n ≡ []

-- and so does the queue
abbrev pub QueueInsideEmpty : Type 0
QueueInsideEmpty = (m : Model) → Reached m → m.fixed.configuring ≡ true → held_queue m ≡ []

-- OPMOD reads 4 exactly in Configuration
abbrev pub OpmodExactly : Type 0
OpmodExactly = (m : Model) → Reached m → (read OPMOD (word_of m Register.Con) ≡ 4) ↔ (m.fixed.configuring ≡ true)

-- ---- status, outside Configuration

-- of a FIFO with this control word, which holds so many: bit 0 not-full (sending) or not-empty (receiving), bit 2 empty or full, bit 3
-- receive overflow, other bits 0
abbrev pub status_of : (control held : ℕ) → Bool → ℕ
status_of w k over =
    if flag TXEN w then digit (ltb k (read FSIZE w + 1)) + 4 * digit (eqb k 0)
    else digit (ltb 0 k) + 4 * digit (leb (read FSIZE w + 1) k) + 8 * digit over

abbrev pub StatusReads : Type 0
StatusReads =
    (m : Model) → m.fixed.configuring ≡ false → (n : ℕ) → is_fifo n ≡ true
    → word_of m (Register.Status n) ≡ status_of (word_of m (Register.Control n)) (length (held m n)) (fifo_at m n).over

-- of the queue: bit 0 not-full, bit 2 empty, other bits 0; with TXQEN at 0 all
abbrev pub QueueStatusReads : Type 0
QueueStatusReads =
    (m : Model) → m.fixed.configuring ≡ false
    → word_of m Register.QueueStatus
    ≡ (if m.fixed.queue then digit (ltb (length (held_queue m)) (read FSIZE (word_of m Register.QueueControl) + 1)) + 4 * digit (eqb (length (held_queue m)) 0)
    else 0)
