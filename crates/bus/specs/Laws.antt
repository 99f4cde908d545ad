-- What is proved of the bus steps and of the messages held, as statements.
-- Assumes nothing.
use Rattle.std.specs.Prelude.{ℕ, ◌+◌, ◌≤◌, ◌<◌, ◌≡◌, Bool, true, false, not, ◌&&◌, ◌↔◌, List, [], ◌∷◌, length, get_or, ltb, leb, eqb, if◌then◌else◌, Ok}
use Rattle.field.specs.Field.{read}
use Rattle.configuration.specs.CanControl.{DNCNT}
use Rattle.fifo.specs.Control.{payload_of, is_fifo}
use Rattle.header.specs.declared.Header.{Header}
use Rattle.header.specs.Dlc.{received_length}
use Rattle.header.specs.Header.{top_id}
use Rattle.message.specs.Message.{Decoding, holds, short}
use Rattle.filters.specs.Filters.{filter_count}
use Rattle.ring.specs.Ring.{sending, depth, claimed, overflowed}
use Rattle.ring.specs.Layout.{size}
use Rattle.ring.specs.Queue.{is_held}
use Rattle.ring.specs.QueueLaws.{Best}
use Rattle.state.specs.declared.Model.{Model}
use Rattle.state.specs.Model.{fifo_at, frozen_at, with_fifo, written}
use Rattle.bus.specs.Held.{slot_of, item_at, row, held}
use Rattle.bus.specs.Bus.{Output, frame, no_frame, nothing, refused, sends, send_output, send_model, receives, deliver_of}
use Rattle.bus.specs.Queue.{queue_depth, queue_item, held_queue, queue_rank, winner, queue_sends, queue_output, queue_model}
use Rattle.bus.specs.Sort.{filter_for, target_for, sort_of}
use Rattle.bus.specs.Numbers.{message_numbers, output_numbers, delivery_numbers, sorted_numbers}

-- ---- send

-- an answer that says that no message left its FIFO
abbrev pub Quiet : Output → Type 0
Quiet (frame x) = ⊥
Quiet no_frame = ⊥
Quiet nothing = Unit {0}
Quiet (refused r) = Unit {0}

-- a send with such an answer leaves the model as it was
abbrev pub NothingSent : Type 0
NothingSent = (m : Model) (n : ℕ) → Quiet (send_output m n) → send_model m n ≡ m

-- a send takes the oldest of the messages held, and only that
abbrev pub OldestSent : Type 0
OldestSent =
    (m : Model) (n : ℕ) → is_fifo n ≡ true → sends m n ≡ true
    → (fifo_at m n).head < depth (frozen_at m n) → (fifo_at m n).count ≤ depth (frozen_at m n)
    → held m n ≡ item_at m n 0 ∷ held (send_model m n) n

-- what a message taken from its slot comes to: a slot that does not decode is no frame
abbrev pub taken_numbers : Decoding → List ℕ
taken_numbers (holds x) = 0 ∷ 1 ∷ message_numbers x
taken_numbers Decoding.no_frame = 0 ∷ 1 ∷ []
taken_numbers short = 0 ∷ 1 ∷ []

-- what a send answers: 20 for a number that is no FIFO's, nothing sent, or what the oldest comes to
abbrev pub SendAnswers : Type 0
SendAnswers =
    (m : Model) (n : ℕ)
    → output_numbers (send_output m n)
    ≡ (if not (is_fifo n) then 20 ∷ [] else if not (sends m n) then 0 ∷ 0 ∷ [] else taken_numbers (item_at m n 0))

-- ---- send from the transmit queue

-- a send that sent nothing leaves the model as it was
abbrev pub QueueNothingSent : Type 0
QueueNothingSent = (m : Model) → Quiet (queue_output m) → queue_model m ≡ m

-- what it answers: what the winner comes to, or nothing sent
abbrev pub QueueAnswers : Type 0
QueueAnswers = (m : Model) → output_numbers (queue_output m) ≡ (if queue_sends m then taken_numbers (queue_item m (winner m)) else 0 ∷ 0 ∷ [])

-- the winner is a slot held; its rank is the smallest of those held, and of several it is the lowest
abbrev pub QueueWinner : Type 0
QueueWinner = (m : Model) → queue_sends m ≡ true → Best (is_held m.queue) (queue_rank m) (queue_depth m) (winner m)

-- with TXQEN at 0 nothing is sent, and nothing is held
pub record Idle (m : Model) : Type 0 where
  pub sent : queue_output m ≡ nothing
  pub left : queue_model m ≡ m
  pub held : held_queue m ≡ []

abbrev pub QueueIdle : Type 0
QueueIdle = (m : Model) → m.fixed.queue ≡ false → Idle m

-- ---- deliver

-- the DLC is not above 15, and the payload has the length that it means
abbrev pub means_payload : Header → (dlc : ℕ) → List ℕ → Bool
means_payload header dlc payload = not (ltb 15 dlc) && eqb (received_length header.fdf dlc) (length payload)

-- the first cause to turn a frame down, by its place in document 01's order: Configuration, not receiving, payload longer than PLSIZE
-- means, full; 0 where it is delivered
abbrev pub first_cause : Model → ℕ → List ℕ → ℕ
first_cause m n payload =
    if m.fixed.configuring then 1
    else if not (receives m n) then 2
    else if ltb (payload_of (frozen_at m n)) (length payload) then 3
    else if leb (depth (frozen_at m n)) (length (held m n)) then 4
    else 0

-- 21 for an identifier that no push could carry, 22 for a payload of another length than the DLC means, or a DLC above 15; otherwise this
abbrev pub if_carried : Header → (dlc : ℕ) → List ℕ → List ℕ → List ℕ
if_carried header dlc payload answer =
    if ltb (top_id header.extended) header.id then 21 ∷ []
    else if not (means_payload header dlc payload) then 22 ∷ []
    else answer

-- what deliver answers: 20, 21, 22, then the first cause
abbrev pub deliver_answer : Model → ℕ → Header → (dlc : ℕ) → List ℕ → List ℕ
deliver_answer m n header dlc payload = if not (is_fifo n) then 20 ∷ [] else if_carried header dlc payload (0 ∷ first_cause m n payload ∷ [])

abbrev pub DeliverAnswers : Type 0
DeliverAnswers =
    (m : Model) (n : ℕ) (header : Header) (dlc time : ℕ) (payload : List ℕ)
    → delivery_numbers (deliver_of m n header dlc time payload).delivery ≡ deliver_answer m n header dlc payload

-- deliver's 22, exactly: not both, a DLC of at most 15 and a payload of the length that it means
pub record Misfits (header : Header) (dlc : ℕ) (payload : List ℕ) : Type 0 where
  pub identifier : header.id ≤ top_id header.extended
  pub not_both : dlc ≤ 15 → received_length header.fdf dlc ≡ length payload → ⊥

abbrev pub Deliver22 : Type 0
Deliver22 =
    (m : Model) (n : ℕ) (header : Header) (dlc time : ℕ) (payload : List ℕ) → is_fifo n ≡ true
    → (delivery_numbers (deliver_of m n header dlc time payload).delivery ≡ 22 ∷ []) ↔ Misfits header dlc payload

-- a frame is delivered exactly if its identifier, DLC and payload are those of a frame, and nothing turns it down
pub record Deliverable (m : Model) (n : ℕ) (header : Header) (dlc : ℕ) (payload : List ℕ) : Type 0 where
  pub fifo : is_fifo n ≡ true
  pub identifier : header.id ≤ top_id header.extended
  pub dlc_fits : dlc ≤ 15
  pub meant : received_length header.fdf dlc ≡ length payload
  pub outside : m.fixed.configuring ≡ false
  pub receives : sending (frozen_at m n) ≡ false
  pub fits : length payload ≤ payload_of (frozen_at m n)
  pub room : length (held m n) < depth (frozen_at m n)

abbrev pub DeliveredIff : Type 0
DeliveredIff =
    (m : Model) (n : ℕ) (header : Header) (dlc time : ℕ) (payload : List ℕ)
    → ((deliver_of m n header dlc time payload).delivery ≡ Ok tt) ↔ Deliverable m n header dlc payload

-- FIFO n took an object, and nothing else changed: it stands in the slot behind those held, and one more is counted
pub record Took (m after : Model) (n : ℕ) : Type 0 where
  pub object : List ℕ
  pub fits : length object ≤ size (frozen_at m n)
  pub is : after ≡ with_fifo (written m (slot_of m n (fifo_at m n).count) object) n (claimed (fifo_at m n))

-- what an answer, by its numbers, says of the model m before it and of the model after it
pub record Leaves (answer : List ℕ) (m after : Model) (n : ℕ) : Type 0 where
  pub took : answer ≡ 0 ∷ 0 ∷ [] → Took m after n
  pub full : answer ≡ 0 ∷ 4 ∷ [] → after ≡ with_fifo m n (overflowed true (fifo_at m n))
  pub others : (answer ≡ 0 ∷ 0 ∷ [] → ⊥) → (answer ≡ 0 ∷ 4 ∷ [] → ⊥) → after ≡ m

-- a frame that is delivered changes its FIFO only; one turned down changes nothing but, at a full FIFO, that one's overflow
abbrev pub TurnedDown : Type 0
TurnedDown =
    (m : Model) (n : ℕ) (header : Header) (dlc time : ℕ) (payload : List ℕ)
    → let d = deliver_of m n header dlc time payload in
    Leaves (delivery_numbers d.delivery) m d.model n

-- ---- sort

-- what sort answers: 21, 22, 31 where DNCNT is above 0, 30 where no filter matches; then, of the lowest-numbered filter that matches, the
-- first cause at its target, that FIFO and the filter
abbrev pub sort_answer : Model → Header → (dlc : ℕ) → List ℕ → List ℕ
sort_answer m header dlc payload =
    if_carried header dlc payload
    (if not (eqb (read DNCNT m.setup.con) 0) then 31 ∷ []
    else if leb filter_count (filter_for m header) then 30 ∷ []
    else 0 ∷ first_cause m (target_for m (filter_for m header)) payload ∷ target_for m (filter_for m header) ∷ filter_for m header ∷ [])

abbrev pub SortAnswers : Type 0
SortAnswers =
    (m : Model) (header : Header) (dlc time : ℕ) (payload : List ℕ) → sorted_numbers (sort_of m header dlc time payload) ≡ sort_answer m header dlc payload

-- its 22 is deliver's
abbrev pub Sort22 : Type 0
Sort22 =
    (m : Model) (header : Header) (dlc time : ℕ) (payload : List ℕ)
    → (sorted_numbers (sort_of m header dlc time payload) ≡ 22 ∷ []) ↔ Misfits header dlc payload

-- a frame is sorted into its FIFO exactly if DNCNT is 0, a filter matches, and it could be delivered to that filter's target
pub record Sortable (m : Model) (header : Header) (dlc : ℕ) (payload : List ℕ) : Type 0 where
  pub dncnt : read DNCNT m.setup.con ≡ 0
  pub match : filter_for m header < filter_count
  pub deliverable : Deliverable m (target_for m (filter_for m header)) header dlc payload

abbrev pub SortedIff : Type 0
SortedIff =
    (m : Model) (header : Header) (dlc time : ℕ) (payload : List ℕ)
    → ((sort_of m header dlc time payload).delivery ≡ Ok tt) ↔ Sortable m header dlc payload

-- it touches its target only, and for a refusal nothing
abbrev pub SortLeaves : Type 0
SortLeaves =
    (m : Model) (header : Header) (dlc time : ℕ) (payload : List ℕ)
    → let s = sort_of m header dlc time payload in
    Leaves (delivery_numbers s.delivery) m s.model s.fifo

-- ---- the messages held

-- a row of n has n entries
abbrev pub RowLength : Type 1
RowLength = (A : Type 0) (f : ℕ → A) (k n : ℕ) → length (row f k n) ≡ n

-- entry i of a row from k on is that of k + i
abbrev pub RowAt : Type 1
RowAt = (A : Type 0) (f : ℕ → A) (k n i : ℕ) (d : A) → i < n → get_or (row f k n) i d ≡ f (k + i)

-- ---- all of these

pub record Laws : Type 1 where
  pub nothing_sent : NothingSent
  pub oldest_sent : OldestSent
  pub send_answers : SendAnswers
  pub queue_nothing_sent : QueueNothingSent
  pub queue_answers : QueueAnswers
  pub queue_winner : QueueWinner
  pub queue_idle : QueueIdle
  pub deliver_answers : DeliverAnswers
  pub deliver22 : Deliver22
  pub delivered_iff : DeliveredIff
  pub turned_down : TurnedDown
  pub sort_answers : SortAnswers
  pub sort22 : Sort22
  pub sorted_iff : SortedIff
  pub sort_leaves : SortLeaves
  pub row_length : RowLength
  pub row_at : RowAt
