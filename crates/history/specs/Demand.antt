-- What is proved of histories, as statements.
-- Assumes nothing.
use Rattle.std.specs.Prelude.{ℕ, ◌+◌, ◌≤◌, ◌<◌, ◌≡◌, Bool, true, false, not, ◌||◌, ◌↔◌, List, [], ◌∷◌, ◌++◌, map, length, get_or, take, ltb, leb, eqb, if◌then◌else◌}
use Rattle.field.specs.Field.{read}
use Rattle.configuration.specs.CanControl.{REQOP}
use Rattle.fifo.specs.Control.{TXREQ, payload_of, is_fifo}
use Rattle.parts.specs.Parts.{put}
use Rattle.spi.specs.declared.refusal.Refusal.{Refusal}
use Rattle.spi.specs.Refusals.{numbered}
use Rattle.place.specs.declared.Register.{Register}
use Rattle.place.specs.Laws.{among}
use Rattle.header.specs.declared.Header.{Header}
use Rattle.message.specs.Message.{Message, Encoding, Decoding, holds, no_frame, short}
use Rattle.call.specs.declared.Outcome.{Outcome}
use Rattle.call.specs.Numbers.{outcome_numbers}
use Rattle.tx_fifo.specs.Step.{to_send, encoding_for}
use Rattle.rx_fifo.specs.Outcome.{found_of}
use Rattle.scrub.specs.Scrub.{ScrubAt}
use Rattle.driver.specs.CallAt.{CallAt}
use Rattle.ring.specs.Ring.{sending, depth}
use Rattle.ring.specs.Layout.{size}
use Rattle.state.specs.declared.Model.{Model}
use Rattle.state.specs.Model.{fifo_at, frozen_at}
use Rattle.bank.specs.Registers.{word_of, granted, con_written}
use Rattle.model.specs.Exchange.{Reply, failed, received, no_layout, exchange}
use Rattle.bus.specs.Held.{slot_of, item_at, held}
use Rattle.bus.specs.Bus.{frame, sends}
use Rattle.reach.specs.Bus.{Bus, Send, SendQueue, Deliver, Sort, stepped}
use Rattle.reach.specs.Reach.{Reached}
use Rattle.history.specs.Command.{Command, Push, Transmit, QueuePush, QueueUnchecked, QueueRequest, Request, HasNext, Peek, Get, Reading, Configuring, first_call, lent}
use Rattle.history.specs.History.{Event, Begin, Exchange, Fail, On, Said, called, left, left_queue, arrived, Doing, idle, busy, World, after}
use Rattle.history.specs.Lists.{accepted, accepted_in, handed_out, handed_out_in}

-- ---- where a history begins

-- a chip that RESET and anything after it left in Configuration; CiCON written with w asks to leave, and is granted
pub record Leaves (c : Model) (w : ℕ) : Type 0 where
  pub reached : Reached c
  pub configuring : c.fixed.configuring ≡ true
  pub asks : read REQOP w ≡ 4 → ⊥
  pub granted : granted c.fixed w ≡ true

-- the leaving, and nothing said yet
abbrev pub start : Model → ℕ → World
start c w = record { chip = (con_written c w).model; doing = idle; said = [] }

-- the world after a history
abbrev pub world : Model → ℕ → List Event → World
world c w es = after es (start c w)

-- document 02, request 4: a rewrite ends a history, and none is made before it is asked for

-- a scrub step stands at its WRITE
abbrev pub at_write : ScrubAt → Bool
at_write (ScrubAt.Visit count) = false
at_write (ScrubAt.Write read first) = true
at_write (ScrubAt.Back read first count) = false
at_write (ScrubAt.Told r) = false
at_write (ScrubAt.Refused r) = false

-- a call stands at the WRITE of a scrub step; no other call has one
abbrev pub asks_rewrite : CallAt → Bool
asks_rewrite (CallAt.Register r) = false
asks_rewrite (CallAt.Ram r) = false
asks_rewrite CallAt.Plan = false
asks_rewrite CallAt.Push = false
asks_rewrite CallAt.Transmit = false
asks_rewrite CallAt.Fetch = false
asks_rewrite (CallAt.Scrub s) = at_write s.at

-- document 02, request 6: with TXQEN 0 or a payload beyond PLSIZE an unchecked push ends every FIFO's history
abbrev pub strays : Model → Command → Bool
strays c (Push n header seq payload) = false
strays c (Transmit n header seq payload) = false
strays c (QueuePush header seq payload) = false
strays c (QueueUnchecked header seq payload) = not c.fixed.queue || ltb (payload_of (frozen_at c 0)) (length payload)
strays c QueueRequest = false
strays c (Request n) = false
strays c (HasNext n) = false
strays c (Peek n buf) = false
strays c (Get n buf) = false
strays c (Reading x) = false
strays c (Configuring x) = false

-- the call under way ends the history
abbrev pub ends : Model → Doing → Bool
ends c idle = false
ends c (busy k s) = asks_rewrite s.at || strays c k

-- from v on, through these events, P of every world
abbrev pub Through : (World → Type 0) → List Event → World → Type 0
Through P [] v = P v
Through P (e ∷ es) v = P v × Through P es (after (e ∷ []) v)

-- through these events no call ends the history
abbrev pub Lasts : List Event → World → Type 0
Lasts = Through (λ v. ends v.chip v.doing ≡ false)

-- what holds after every history, whatever its events
abbrev pub Always : (World → Type 0) → Type 0
Always P = (c : Model) (w : ℕ) → Leaves c w → (es : List Event) → Lasts es (start c w) → P (world c w es)

-- what holds of every call that begins after any history
abbrev pub NextCall : (World → Type 0) → Type 0
NextCall P = Always (λ v. v.doing ≡ idle → P v)

-- ---- 1. the lists: accepted is handed out, followed by what can be decoded from RAM, same order, every field

abbrev pub Lists : Type 0
Lists = Always (λ v. (n : ℕ) → is_fifo n ≡ true → map holds (accepted n v.said) ≡ map holds (handed_out n v.said) ++ held v.chip n)

-- ---- calls in which no exchange fails

-- bus steps one after the other
unfoldable pub buses : List Bus → Model → Model
buses [] c = c
buses (b ∷ bs) c = buses bs (stepped b c)

-- the bus steps that fall before each exchange, which the chip answers
unfoldable pub calm : List (List Bus) → List Event
calm [] = []
calm (bs ∷ r) = map On bs ++ (Exchange ∷ calm r)

-- all of them
abbrev pub all : List (List Bus) → List Bus
all [] = []
all (b ∷ bs) = b ++ all bs

-- the chip at the status read, which is a call's second exchange
abbrev pub at_status : World → List (List Bus) → Model
at_status v bs = buses (all (take 2 bs)) v.chip

-- the calls among what was said
unfoldable pub calls : List Said → List Said
calls [] = []
calls (called k o buf ∷ t) = called k o buf ∷ calls t
calls (left k o ∷ t) = calls t
calls (left_queue o ∷ t) = calls t
calls (arrived k m d ∷ t) = calls t

-- a call k with the bus steps bs before its exchanges says xs, and no more
abbrev pub Answers : World → Command → List (List Bus) → List Said → Type 0
Answers v k bs xs = calls (after (Begin k ∷ calm bs) v).said ≡ calls v.said ++ xs

-- how a call ends: refused by document 01's number, no lent byte changed; or with an answer that is no refusal, and the lent buffer so
pub data Ending : Type 0 where
  refusal : (number : ℕ) → Ending
  answer : Outcome → (buffer : List ℕ) → Ending

-- a call k with the bus steps bs before its exchanges ends so, and says no more
abbrev pub Ends : World → Command → List (List Bus) → Ending → Type 0
Ends v k bs (refusal r) = (o : Outcome) × (outcome_numbers o ≡ r ∷ []) × Answers v k bs (called (first_call k) o (lent k) ∷ [])
Ends v k bs (answer o buf) = Answers v k bs (called (first_call k) o buf ∷ [])

-- ---- 2. push exactly

-- a push that meets none of 20, 21, 24, 22
abbrev pub WellFormed : ℕ → Header → ℕ → List ℕ → Type 0
WellFormed n header seq payload = (bs : List ℕ) × (encoding_for n header seq payload ≡ Encoding.object bs)

-- how it ends, d being the chip at the status read: 6, 7, 8 or done
unfoldable pub push_answer : Model → ℕ → List ℕ → Ending
push_answer d n payload =
    if not (sending (frozen_at d n)) then refusal 6
    else if ltb (payload_of (frozen_at d n)) (length payload) then refusal 7
    else if leb (depth (frozen_at d n)) (fifo_at d n).count then refusal 8
    else answer Outcome.Done []

-- five exchanges, and bus steps before each
abbrev pub PushExactly : Type 0
PushExactly =
    NextCall (λ v. (n : ℕ) (header : Header) (seq : ℕ) (payload : List ℕ) → WellFormed n header seq payload
    → (bs : List (List Bus)) → length bs ≡ 5
    → Ends v (Push n header seq payload) bs (push_answer (at_status v bs) n payload))

-- its FIFO transmits, the payload fits and there is room
abbrev pub Takes : Model → ℕ → List ℕ → Type 0
Takes d n payload =
    (sending (frozen_at d n) ≡ true) × (length payload ≤ payload_of (frozen_at d n)) × ((fifo_at d n).count < depth (frozen_at d n))

-- it is accepted exactly if its FIFO transmits, the payload fits and there was room at the status read
abbrev pub PushedIff : Type 0
PushedIff =
    NextCall (λ v. (n : ℕ) (header : Header) (seq : ℕ) (payload : List ℕ) → WellFormed n header seq payload
    → (bs : List (List Bus)) → length bs ≡ 5
    → ((x : Said) × Answers v (Push n header seq payload) bs (x ∷ []) × (accepted_in n x ≡ to_send header seq payload ∷ []))
    ↔ Takes (at_status v bs) n payload)

-- ---- 3. get exactly, peek and has-next

-- of a message read: what is told of it, and its payload at the front of the lent buffer; by the lists every slot held has one
abbrev pub read_as : Decoding → List ℕ → Ending
read_as (holds m) buf = answer (Outcome.Message (found_of m)) (put buf 0 m.payload)
read_as no_frame buf = answer Outcome.Running buf
read_as short buf = answer Outcome.Running buf

-- how a get or a peek ends, d being the chip at the status read: 9, that none is held, or the oldest
unfoldable pub fetch_answer : Model → ℕ → List ℕ → Ending
fetch_answer d n buf =
    if sending (frozen_at d n) then refusal 9
    else if eqb (fifo_at d n).count 0 then answer Outcome.Empty buf
    else read_as (item_at d n 0) buf

-- nine exchanges; without RXTSEN it is over after eight, and the ninth finds no call
abbrev pub GetExactly : Type 0
GetExactly =
    NextCall (λ v. (n : ℕ) (buf : List ℕ) → is_fifo n ≡ true → 64 ≤ length buf → (bs : List (List Bus)) → length bs ≡ 9
    → Ends v (Get n buf) bs (fetch_answer (at_status v bs) n buf))

-- its FIFO receives and one is held
abbrev pub Gives : Model → ℕ → Type 0
Gives d n = (sending (frozen_at d n) ≡ false) × (0 < (fifo_at d n).count)

-- it hands out the oldest exactly if its FIFO receives and held one at the status read
abbrev pub GotIff : Type 0
GotIff =
    NextCall (λ v. (n : ℕ) (buf : List ℕ) → is_fifo n ≡ true → 64 ≤ length buf → (bs : List (List Bus)) → length bs ≡ 9 → (m : Message)
    → ((x : Said) × Answers v (Get n buf) bs (x ∷ []) × (handed_out_in n x ≡ m ∷ []))
    ↔ (Gives (at_status v bs) n × (item_at (at_status v bs) n 0 ≡ holds m)))

-- and every slot held decodes: a get from a FIFO that receives and held one then is done with the oldest
abbrev pub GetHandsOut : Type 0
GetHandsOut =
    NextCall (λ v. (n : ℕ) (buf : List ℕ) → is_fifo n ≡ true → 64 ≤ length buf → (bs : List (List Bus)) → length bs ≡ 9
    → Gives (at_status v bs) n
    → (m : Message) × (item_at (at_status v bs) n 0 ≡ holds m)
    × Answers v (Get n buf) bs (called (Get n buf) (Outcome.Message (found_of m)) (put buf 0 m.payload) ∷ []))

-- a peek shows the oldest, hands nothing out and leaves the chip as the bus steps alone leave it; at most seven exchanges
abbrev pub PeekExactly : Type 0
PeekExactly =
    NextCall (λ v. (n : ℕ) (buf : List ℕ) → is_fifo n ≡ true → 64 ≤ length buf → (bs : List (List Bus)) → length bs ≡ 7
    → Ends v (Peek n buf) bs (fetch_answer (at_status v bs) n buf))

abbrev pub PeekKeeps : Type 0
PeekKeeps =
    NextCall (λ v. (n : ℕ) (buf : List ℕ) (bs : List (List Bus))
    → (after (Begin (Peek n buf) ∷ calm bs) v).chip ≡ buses (all bs) v.chip)

-- how has-next ends: 9, no or yes
unfoldable pub has_next_answer : Model → ℕ → Ending
has_next_answer d n =
    if sending (frozen_at d n) then refusal 9
    else if eqb (fifo_at d n).count 0 then answer Outcome.No []
    else answer Outcome.Yes []

-- two exchanges
abbrev pub HasNextExactly : Type 0
HasNextExactly =
    NextCall (λ v. (n : ℕ) → is_fifo n ≡ true → (bs : List (List Bus)) → length bs ≡ 2
    → Ends v (HasNext n) bs (has_next_answer (at_status v bs) n))

-- ---- 4. after a failed exchange in a push only the free slot's bytes may differ from what the bus steps alone leave

-- d is c but for the bytes from place a to place a + n of its RAM
pub record ButFor (a n : ℕ) (c d : Model) : Type 0 where
  pub fixed : d.fixed ≡ c.fixed
  pub setup : d.setup ≡ c.setup
  pub fifo : d.fifo ≡ c.fifo
  pub queue : d.queue ≡ c.queue
  pub long : length d.ram ≡ length c.ram
  pub below : (x : ℕ) → x < a → get_or d.ram x 0 ≡ get_or c.ram x 0
  pub above : (x : ℕ) → a + n ≤ x → get_or d.ram x 0 ≡ get_or c.ram x 0

-- the free slot is the one behind those held
abbrev pub OnlyFree : ℕ → (c d : Model) → Type 0
OnlyFree n c d = ButFor (slot_of c n (fifo_at c n).count) (size (frozen_at c n)) c d

-- some exchanges are answered, then one fails
abbrev pub failing : List (List Bus) → List Bus → List Event
failing bs b = calm bs ++ (map On b ++ (Fail ∷ []))

-- in a push
abbrev pub PushFails : Type 0
PushFails =
    NextCall (λ v. (n : ℕ) (header : Header) (seq : ℕ) (payload : List ℕ) → (bs : List (List Bus)) → length bs ≤ 4 → (b : List Bus)
    → OnlyFree n (buses (all bs ++ b) v.chip) (after (Begin (Push n header seq payload) ∷ failing bs b) v).chip)

-- in the push of a transmit
abbrev pub TransmitFails : Type 0
TransmitFails =
    NextCall (λ v. (n : ℕ) (header : Header) (seq : ℕ) (payload : List ℕ) → (bs : List (List Bus)) → length bs ≤ 4 → (b : List Bus)
    → OnlyFree n (buses (all bs ++ b) v.chip) (after (Begin (Transmit n header seq payload) ∷ failing bs b) v).chip)

-- ---- 5. request, and transmit, which is two calls, push then request: if the request fails, the message was accepted

-- two exchanges
abbrev pub RequestExactly : Type 0
RequestExactly =
    NextCall (λ v. (n : ℕ) → is_fifo n ≡ true → (bs : List (List Bus)) → length bs ≡ 2
    → Ends v (Request n) bs (answer Outcome.Done []))

-- its push ends as a push does, and if it is refused there is no request
abbrev pub TransmitRefused : Type 0
TransmitRefused =
    NextCall (λ v. (n : ℕ) (header : Header) (seq : ℕ) (payload : List ℕ) → WellFormed n header seq payload
    → (bs : List (List Bus)) → length bs ≡ 5
    → (Takes (at_status v bs) n payload → ⊥) → Ends v (Transmit n header seq payload) bs (push_answer (at_status v bs) n payload))

-- if it is done the request is done too
abbrev pub TransmitDone : Type 0
TransmitDone =
    NextCall (λ v. (n : ℕ) (header : Header) (seq : ℕ) (payload : List ℕ) → WellFormed n header seq payload
    → (bs : List (List Bus)) → length bs ≡ 7
    → Takes (at_status v bs) n payload
    → Answers v (Transmit n header seq payload) bs
    (called (Push n header seq payload) Outcome.Done [] ∷ called (Request n) Outcome.Done [] ∷ []))

-- the five exchanges of the push, one more or none, then one that fails: the request answers 1
abbrev pub RequestFails : Type 0
RequestFails =
    NextCall (λ v. (n : ℕ) (header : Header) (seq : ℕ) (payload : List ℕ) → WellFormed n header seq payload
    → (bs : List (List Bus)) → 5 ≤ length bs → length bs ≤ 6 → Takes (at_status v bs) n payload → (b : List Bus)
    → (o : Outcome) × (outcome_numbers o ≡ 1 ∷ [])
    × (calls (after (Begin (Transmit n header seq payload) ∷ failing bs b) v).said
    ≡ calls v.said ++ (called (Push n header seq payload) Outcome.Done [] ∷ called (Request n) o [] ∷ [])))

-- ---- 6. a send takes the oldest of a transmit FIFO if TXREQ is 1 and one is held, and TXREQ is 1 from a request on

-- TXREQ of FIFO n reads 1
abbrev pub Requested : Model → ℕ → Type 0
Requested c n = read TXREQ (word_of c (Register.Control n)) ≡ 1

-- a send from FIFO n puts the oldest that it holds on the bus, and takes that one only
abbrev pub SendsOldest : World → ℕ → Type 0
SendsOldest v n =
    let z = after (On (Send n) ∷ []) v in
    (m : Message) × (held v.chip n ≡ holds m ∷ held z.chip n) × (z.said ≡ v.said ++ (left n (frame m) ∷ []))

abbrev pub OldestGoes : Type 0
OldestGoes =
    Always (λ v. (n : ℕ) → is_fifo n ≡ true → sending (frozen_at v.chip n) ≡ true → Requested v.chip n
    → 0 < (fifo_at v.chip n).count → SendsOldest v n)

-- e is a send that takes the last of FIFO n
abbrev pub TakesLast : ℕ → Event → Model → Type 0
TakesLast n (Begin k) c = ⊥
TakesLast n Exchange c = ⊥
TakesLast n Fail c = ⊥
TakesLast n (On SendQueue) c = ⊥
TakesLast n (On (Send k)) c = (k ≡ n) × (sends c n ≡ true) × ((fifo_at c n).count ≡ 1)
TakesLast n (On (Deliver k header dlc time payload)) c = ⊥
TakesLast n (On (Sort header dlc time payload)) c = ⊥

-- none of the events from v on is
abbrev pub LastStays : ℕ → List Event → World → Type 0
LastStays n [] v = Unit {0}
LastStays n (e ∷ es) v = (TakesLast n e v.chip → ⊥) × LastStays n es (after (e ∷ []) v)

-- until a send takes the last, TXREQ of FIFO n reads 1, and if it transmits and holds a message a send puts the oldest on the bus
abbrev pub GoesOut : World → ℕ → Type 0
GoesOut v n =
    (es : List Event) → Lasts es v → LastStays n es v
    → (let z = after es v in
    Requested z.chip n × (sending (frozen_at z.chip n) ≡ true → 0 < (fifo_at z.chip n).count → SendsOldest z n))

-- so it is after a request that is done, whatever calls and bus steps follow and whichever of their exchanges fail
abbrev pub RequestSends : Type 0
RequestSends =
    NextCall (λ v. (n : ℕ) → is_fifo n ≡ true → (bs : List (List Bus)) → length bs ≡ 2
    → GoesOut (after (Begin (Request n) ∷ calm bs) v) n)

-- and after a transmit that is done
abbrev pub TransmitSends : Type 0
TransmitSends =
    NextCall (λ v. (n : ℕ) (header : Header) (seq : ℕ) (payload : List ℕ) → WellFormed n header seq payload
    → (bs : List (List Bus)) → length bs ≡ 7
    → Takes (at_status v bs) n payload → GoesOut (after (Begin (Transmit n header seq payload) ∷ calm bs) v) n)

-- ---- 7. no push, request, transmit, has-next, peek or get answers 3, 25, 26 or 35, nor does a push or a request of the queue

abbrev pub NotCaused : Refusal → Type 0
NotCaused r = among (3 ∷ 25 ∷ 26 ∷ 35 ∷ []) (get_or (numbered r) 0 0) ≡ false

abbrev pub Ordinary : Outcome → Type 0
Ordinary Outcome.Running = ⊥
Ordinary Outcome.Done = Unit {0}
Ordinary (Outcome.Word w) = Unit {0}
Ordinary (Outcome.Checked w mismatches) = Unit {0}
Ordinary (Outcome.Mode m) = Unit {0}
Ordinary Outcome.Yes = Unit {0}
Ordinary Outcome.No = Unit {0}
Ordinary Outcome.Empty = Unit {0}
Ordinary (Outcome.Message f) = Unit {0}
Ordinary (Outcome.Scrubbed s) = Unit {0}
Ordinary (Outcome.Refused r) = NotCaused r

-- of the calls that move messages, whatever they answer
abbrev pub Told : Command → Outcome → Type 0
Told (Push n header seq payload) o = Ordinary o
Told (Transmit n header seq payload) o = Ordinary o
Told (QueuePush header seq payload) o = Ordinary o
Told (QueueUnchecked header seq payload) o = Ordinary o
Told QueueRequest o = Ordinary o
Told (Request n) o = Ordinary o
Told (HasNext n) o = Ordinary o
Told (Peek n buf) o = Ordinary o
Told (Get n buf) o = Ordinary o
Told (Reading x) o = Unit {0}
Told (Configuring x) o = Unit {0}

abbrev pub TellsWell : Said → Type 0
TellsWell (called k o buf) = Told k o
TellsWell (left k o) = Unit {0}
TellsWell (left_queue o) = Unit {0}
TellsWell (arrived k m d) = Unit {0}

abbrev pub Each : (Said → Type 0) → List Said → Type 0
Each P [] = Unit {0}
Each P (x ∷ t) = P x × Each P t

abbrev pub NeverCaused : Type 0
NeverCaused = Always (λ v. Each TellsWell v.said)

-- ---- 8. an exchange that the chip answers receives as many bytes as were wanted

abbrev pub Whole : Reply → ℕ → Type 0
Whole failed want = Unit {0}
Whole (received bs) want = length bs ≡ want
Whole no_layout want = want ≡ 0

abbrev pub AnsweredWhole : Type 0
AnsweredWhole = (m : Model) → Reached m → (s : List ℕ) (want : ℕ) → Whole (exchange s want m).reply want
