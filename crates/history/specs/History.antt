-- A history: calls one at a time, each exchange answered by the modelled chip or failed and not carried out, bus steps anywhere.
-- Assumes nothing.
use Rattle.std.specs.Prelude.{ℕ, ◌%◌, ◌^◌, Bool, true, false, List, [], ◌∷◌, ◌++◌, if◌then◌else◌, Result}
use Rattle.spi.specs.declared.ask.Ask.{Ask}
use Rattle.spi.specs.declared.ask.Answer.{Answer}
use Rattle.spi.specs.Ask.{sent, wanted}
use Rattle.message.specs.Message.{Message}
use Rattle.call.specs.declared.Outcome.{Outcome}
use Rattle.tx_fifo.specs.Step.{is_done}
use Rattle.driver.specs.Call.{Call}
use Rattle.driver.specs.Step.{ask_of, step_of, outcome_of, filled_by}
use Rattle.driver.specs.Send.{body_of}
use Rattle.state.specs.declared.Model.{Model}
use Rattle.model.specs.Exchange.{Reply, failed, received, no_layout, exchange}
use Rattle.bus.specs.declared.arrival.Undelivered.{Undelivered}
use Rattle.bus.specs.Bus.{Output, send_output, incoming, deliver_of}
use Rattle.bus.specs.Sort.{sort_of}
use Rattle.bus.specs.Queue.{queue_output}
use Rattle.reach.specs.Bus.{Bus, Send, SendQueue, Deliver, Sort, stepped}
use Rattle.history.specs.Command.{Command, Push, Transmit, QueuePush, QueueUnchecked, QueueRequest, Request, HasNext, Peek, Get, Reading, Configuring, started, lent, first_call, second_call}

-- a call begins; its next exchange is answered by the chip; its next exchange fails and is not carried out; a bus step
pub data Event : Type 0 where
  Begin : Command → Event
  Exchange Fail : Event
  On : Bus → Event

-- what was said: a call's outcome and the lent buffer after it; what a send answered, from a FIFO or from the queue; a frame as its FIFO
-- receives it, and the answer
pub data Said : Type 0 where
  called : Command → Outcome → List ℕ → Said
  left : ℕ → Output → Said
  left_queue : Output → Said
  arrived : ℕ → Message → Result (Unit {0}) Undelivered → Said

-- no call is under way, or one is and the driver stands there
pub data Doing : Type 0 where
  idle : Doing
  busy : Command → Call → Doing

pub record World : Type 0 where
  pub chip : Model
  pub doing : Doing
  pub said : List Said

-- ---- what the driver hears

pub record Heard : Type 0 where
  pub answer : Answer
  pub rx : List ℕ
  pub chip : Model

abbrev pub hears : Answer → List ℕ → Model → Heard
hears a rx c = record { answer = a; rx = rx; chip = c }

abbrev pub by_reply : Reply → Model → Heard
by_reply failed c = hears Answer.Failed [] c
by_reply (received bs) c = hears Answer.Exchanged bs c
by_reply no_layout c = hears Answer.Exchanged [] c

-- the bytes of what is asked go to the chip, and its bytes come back
unfoldable pub answered : Call → Model → Heard
answered s c = let d = exchange (sent (ask_of s) (body_of s [])) (wanted (ask_of s)) c in by_reply d.reply d.model

abbrev pub waits : Ask → Bool
waits (Ask.Read a n) = false
waits (Ask.Checked a) = false
waits (Ask.Word a w) = false
waits (Ask.Body a n) = false
waits Ask.Reset = false
waits Ask.Wait = true
waits Ask.Nothing = false

-- a wait is waited out; it can't fail
unfoldable pub heard : (carried : Bool) → Call → Model → Heard
heard carried s c =
    if waits (ask_of s) then hears Answer.Waited [] c
    else if carried then answered s c
    else hears Answer.Failed [] c

-- ---- a call goes on, or is over

abbrev pub is_over : Outcome → Bool
is_over Outcome.Running = false
is_over Outcome.Done = true
is_over (Outcome.Word w) = true
is_over (Outcome.Checked w mismatches) = true
is_over (Outcome.Mode m) = true
is_over Outcome.Yes = true
is_over Outcome.No = true
is_over Outcome.Empty = true
is_over (Outcome.Message f) = true
is_over (Outcome.Scrubbed s) = true
is_over (Outcome.Refused r) = true

-- a transmit that has pushed its message
abbrev pub halfway : Command → Call → Bool
halfway (Push n header seq payload) s = false
halfway (Transmit n header seq payload) s = is_done s.push
halfway (QueuePush header seq payload) s = false
halfway (QueueUnchecked header seq payload) s = false
halfway QueueRequest s = false
halfway (Request n) s = false
halfway (HasNext n) s = false
halfway (Peek n buf) s = false
halfway (Get n buf) s = false
halfway (Reading x) s = false
halfway (Configuring x) s = false

-- the driver stands at s, and rx is what the last exchange received
unfoldable pub settled : Model → List Said → Command → Call → List ℕ → World
settled c t k s rx =
    if is_over (outcome_of s) then record { chip = c; doing = idle; said = t ++ (called (first_call k) (outcome_of s) (filled_by s rx (lent k)) ∷ []) }
    else if halfway k s then record { chip = c; doing = busy (second_call k) s; said = t ++ (called (first_call k) Outcome.Done (lent k) ∷ []) }
    else record { chip = c; doing = busy k s; said = t }

abbrev pub goes_on : List Said → Command → Call → Heard → World
goes_on t k s h = settled h.chip t k (step_of s h.answer h.rx) h.rx

-- ---- events

-- what a bus step says; a sorted frame is its target's, and FIFO 0's, which there is not, where it is refused
abbrev pub says : Bus → Model → Said
says (Send n) c = left n (send_output c n)
says SendQueue c = left_queue (queue_output c)
says (Deliver n header dlc time payload) c =
    arrived n (incoming c n 0 header dlc (time % 2 ^ 32) payload) (deliver_of c n header dlc (time % 2 ^ 32) payload).delivery
says (Sort header dlc time payload) c =
    let s = sort_of c header dlc (time % 2 ^ 32) payload in arrived s.fifo (incoming c s.fifo s.filter header dlc (time % 2 ^ 32) payload) s.delivery

-- one call at a time: a call begins only where none is under way; without one there is nothing to answer
unfoldable pub event : Event → Doing → Model → List Said → World
event (Begin k) idle c t = settled c t k (started k) []
event (Begin k) (busy j s) c t = record { chip = c; doing = busy j s; said = t }
event Exchange idle c t = record { chip = c; doing = idle; said = t }
event Exchange (busy k s) c t = goes_on t k s (heard true s c)
event Fail idle c t = record { chip = c; doing = idle; said = t }
event Fail (busy k s) c t = goes_on t k s (heard false s c)
event (On b) d c t = record { chip = stepped b c; doing = d; said = t ++ (says b c ∷ []) }

unfoldable pub after : List Event → World → World
after [] v = v
after (e ∷ es) v = after es (event e v.doing v.chip v.said)
