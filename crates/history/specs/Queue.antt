-- Document 02, request 6: demand 3 for the transmit queue, as statements.
-- Assumes nothing.
use Rattle.std.specs.Prelude.{ℕ, ◌≤◌, ◌<◌, ◌≡◌, Bool, true, false, not, ◌↔◌, length, take, replicate, ltb, if◌then◌else◌, Option, Some, None}
use mathlib.Core.List.{List, [], ◌∷◌, ◌++◌, map, Perm}
use Rattle.field.specs.Field.{read, flag, digit}
use Rattle.configuration.specs.CanControl.{TXQEN, REQOP}
use Rattle.fifo.specs.Control.{FSIZE, PLSIZE, payload_of, stored_size}
use Rattle.place.specs.declared.Register.{Register}
use Rattle.header.specs.declared.Header.{Header}
use Rattle.message.specs.Message.{Message, Encoding, encoding, holds}
use Rattle.call.specs.declared.Outcome.{Outcome}
use Rattle.areas.specs.declared.settings.TxQueueConfiguration.{TxQueueConfiguration}
use Rattle.areas.specs.Areas.{setting_fits}
use Rattle.tx_fifo.specs.Step.{to_send}
use Rattle.ring.specs.Layout.{size}
use Rattle.ring.specs.Queue.{is_held, full}
use Rattle.ring.specs.QueueLaws.{Before}
use Rattle.state.specs.declared.Model.{Model}
use Rattle.state.specs.Model.{frozen_at}
use Rattle.bank.specs.Registers.{queue_shown, word_of, con_written}
use Rattle.bus.specs.Bus.{frame}
use Rattle.bus.specs.Queue.{queue_depth, queue_item, held_queue, queue_output}
use Rattle.reach.specs.Bus.{Bus}
use Rattle.reach.specs.Reach.{Reached}
use Rattle.history.specs.Command.{Command, Push, Transmit, QueuePush, QueueUnchecked, QueueRequest, Request, HasNext, Peek, Get, Reading, Configuring, TxQueue}
use Rattle.history.specs.History.{Event, Begin, Exchange, Said, called, Doing, idle, busy, World, after}
use Rattle.history.specs.Lists.{queued_in, queue_accepted, queue_sent}
use Rattle.history.specs.Demand.{Leaves, start, world, Through, Lasts, NextCall, buses, all, Answers, Ending, refusal, answer, Ends, ButFor, failing}

-- ---- the queue's histories: an unchecked push always ends one, at its start

abbrev pub unchecked : Command → Bool
unchecked (Push n header seq payload) = false
unchecked (Transmit n header seq payload) = false
unchecked (QueuePush header seq payload) = false
unchecked (QueueUnchecked header seq payload) = true
unchecked QueueRequest = false
unchecked (Request n) = false
unchecked (HasNext n) = false
unchecked (Peek n buf) = false
unchecked (Get n buf) = false
unchecked (Reading x) = false
unchecked (Configuring x) = false

-- an unchecked push is under way
abbrev pub overwriting : Doing → Bool
overwriting idle = false
overwriting (busy k s) = unchecked k

-- through these events none is
abbrev pub Checked : List Event → World → Type 0
Checked = Through (λ v. overwriting v.doing ≡ false)

-- what holds after every history of the queue
abbrev pub QueueAlways : (World → Type 0) → Type 0
QueueAlways P = (c : Model) (w : ℕ) → Leaves c w → (es : List Event) → Lasts es (start c w) → Checked es (start c w) → P (world c w es)

-- ---- 1. accepted messages are those sent and those held together, each as often

abbrev pub QueueTogether : Type 0
QueueTogether = QueueAlways (λ v. Perm (map holds (queue_accepted v.said)) (map holds (queue_sent v.said) ++ held_queue v.chip))

-- ---- 2. every one sent was the winner among those then held

-- slot k holds message y
abbrev pub Holds : Model → ℕ → Message → Type 0
Holds c k y = (k < queue_depth c) × (is_held c.queue k ≡ true) × (queue_item c k ≡ holds y)

-- x, in slot k, goes before every message held or ties with it, and no message in a lower slot ties with it
pub record Wins (c : Model) (k : ℕ) (x : Message) : Type 0 where
  pub holding : Holds c k x
  pub first : (j : ℕ) (y : Message) → Holds c j y → Before x.header y.header
  pub lowest : (j : ℕ) (y : Message) → Holds c j y → j < k → Before y.header x.header → ⊥

abbrev pub WinnerSent : Type 0
WinnerSent = QueueAlways (λ v. (x : Message) → queue_output v.chip ≡ frame x → (k : ℕ) × Wins v.chip k x)

-- ---- 3. push exactly

-- a push that meets none of 21, 24, 22
abbrev pub Writable : Header → ℕ → List ℕ → Type 0
Writable header seq payload = (bs : List ℕ) × (encoding (to_send header seq payload) ≡ Encoding.object bs)

-- the chip at the status read, which is the third exchange
abbrev pub at_queue_status : World → List (List Bus) → Model
at_queue_status v bs = buses (all (take 3 bs)) v.chip

-- how it ends, d being the chip at the status read: 34, 7, 8 or done
unfoldable pub queue_answer : Model → List ℕ → Ending
queue_answer d payload =
    if not d.fixed.queue then refusal 34
    else if ltb (payload_of (frozen_at d 0)) (length payload) then refusal 7
    else if full (frozen_at d 0) d.queue then refusal 8
    else answer Outcome.Done []

-- six exchanges, and bus steps before each
abbrev pub QueuePushExactly : Type 0
QueuePushExactly =
    NextCall (λ v. (header : Header) (seq : ℕ) (payload : List ℕ) → Writable header seq payload
    → (bs : List (List Bus)) → length bs ≡ 6
    → Ends v (QueuePush header seq payload) bs (queue_answer (at_queue_status v bs) payload))

-- TXQEN is 1, the payload fits and a slot is free
abbrev pub QueueTakes : Model → List ℕ → Type 0
QueueTakes d payload = (d.fixed.queue ≡ true) × (length payload ≤ payload_of (frozen_at d 0)) × (full (frozen_at d 0) d.queue ≡ false)

-- it is accepted exactly if so it was at the status read
abbrev pub QueuePushedIff : Type 0
QueuePushedIff =
    NextCall (λ v. (header : Header) (seq : ℕ) (payload : List ℕ) → Writable header seq payload
    → (bs : List (List Bus)) → length bs ≡ 6
    → ((x : Said) × Answers v (QueuePush header seq payload) bs (x ∷ []) × (queued_in x ≡ to_send header seq payload ∷ []))
    ↔ QueueTakes (at_queue_status v bs) payload)

-- ---- 4. after a failed exchange in a push only the bytes of the slot shown may differ from what the bus steps alone leave

abbrev pub QueuePushFails : Type 0
QueuePushFails =
    NextCall (λ v. (header : Header) (seq : ℕ) (payload : List ℕ) → (bs : List (List Bus)) → length bs ≤ 5 → (b : List Bus)
    → let c = buses (all bs ++ b) v.chip in
    ButFor (queue_shown c) (size (frozen_at c 0)) c (after (Begin (QueuePush header seq payload) ∷ failing bs b) v).chip)

-- ---- 5. request

-- two exchanges; with TXQEN at 0 too
abbrev pub QueueRequestExactly : Type 0
QueueRequestExactly = NextCall (λ v. (bs : List (List Bus)) → length bs ≡ 2 → Ends v QueueRequest bs (answer Outcome.Done []))

-- ---- 6. configure_tx_queue in Configuration

abbrev pub is_on : Option TxQueueConfiguration → Bool
is_on None = false
is_on (Some x) = true

-- the call, from the chip c on, with so many exchanges answered
abbrev pub setting_up : Model → Option TxQueueConfiguration → ℕ → World
setting_up c q n = after (Begin (Configuring (TxQueue q)) ∷ replicate n Exchange) (record { chip = c; doing = idle; said = [] })

-- its first write is CiCON's, with TXQEN and with REQOP as it was: where that asks to leave, this write is the leaving
pub record Enables (c : Model) (q : Option TxQueueConfiguration) : Type 0 where
  pub word : ℕ
  pub reqop : read REQOP word ≡ read REQOP c.setup.con
  pub txqen : flag TXQEN word ≡ is_on q
  pub written : (setting_up c q 2).chip ≡ (con_written c word).model

abbrev pub QueueEnabled : Type 0
QueueEnabled = (c : Model) (q : Option TxQueueConfiguration) → setting_fits q ≡ true → Enables c q

-- where REQOP is 4 the call is done, TXQEN, FSIZE and PLSIZE are as set, and the mode is as it was
pub record Sets (q : Option TxQueueConfiguration) (v : World) : Type 0 where
  pub said : v.said ≡ called (Configuring (TxQueue q)) Outcome.Done [] ∷ []
  pub inside : v.chip.fixed.configuring ≡ true
  pub txqen : read TXQEN (word_of v.chip Register.Con) ≡ digit (is_on q)
  pub control :
      (x : TxQueueConfiguration) → q ≡ Some x
      → (read FSIZE (word_of v.chip Register.QueueControl) ≡ stored_size x.size) × (read PLSIZE (word_of v.chip Register.QueueControl) ≡ x.plsize)

abbrev pub QueueSetUp : Type 0
QueueSetUp =
    (c : Model) → Reached c → c.fixed.configuring ≡ true → read REQOP c.setup.con ≡ 4 → (q : Option TxQueueConfiguration) → setting_fits q ≡ true
    → Sets q (setting_up c q 4)
