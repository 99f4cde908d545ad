-- Demand 1: every call takes any bytes, numbers and SPI answers, and ends; bad input gets the refusal number in the table, in the order
-- given there, and changes no lent byte.
-- Assumes nothing.
use Rattle.std.specs.Prelude.{ℕ, ◌+◌, ◌-◌, ◌^◌, ◌≤◌, ◌<◌, ◌≡◌, Bool, true, false, ◌↔◌, List, [], ◌∷◌, length, eqb, if◌then◌else◌}
use Rattle.spi.specs.declared.refusal.Refusal.{Refusal}
use Rattle.spi.specs.declared.ask.Ask.{Ask}
use Rattle.spi.specs.declared.ask.Answer.{Answer}
use Rattle.spi.specs.Ask.{wanted, sent}
use Rattle.spi.specs.Talk.{asks, answered, run}
use Rattle.call.specs.declared.Outcome.{Outcome}
use Rattle.call.specs.Outcome.{ended}
use Rattle.call.specs.Numbers.{outcome_numbers, tells}
use Rattle.register.specs.RegisterCall.{RegisterCall}
use Rattle.ram.specs.RamCall.{RamCall}
use Rattle.plan.specs.Talk.{plan_left}
use Rattle.tx_fifo.specs.PushAt.{PushAt}
use Rattle.fetch.specs.FetchAt.{FetchAt}
use Rattle.scrub.specs.Scrub.{Scrub as Scrubbing, ScrubAt}
use Rattle.driver.specs.CallAt.{CallAt}
use Rattle.driver.specs.Call.{Call}
use Rattle.driver.specs.Step.{ask_of, step_of, outcome_of, filled_by}
use Rattle.driver.specs.Finish.{finished_as}
use Rattle.driver.specs.Talk.{talk_of}
use Rattle.driver.specs.Calls.{Start, Reset, OpMode, VerifyLong, Read, Checked, Write, ReadRam, WriteRam, Planned, Push, Transmit, Request, QueuePush, QueueUnchecked, QueueRequest, HasNext, Peek, Get, Scrub, started, whole_talk, first, tests}

-- a call after these answers, each with what was received
abbrev pub after : Call → List (Answer × List ℕ) → Call
after = run step_of

-- ---- every call ends

-- a checked read of which so many exchanges mismatched: three tries, and while it asks at least one
abbrev pub tries_left : (seen : ℕ) → ℕ
tries_left seen = 2 - seen + 1

-- a call on a register
abbrev pub register_left : RegisterCall → ℕ
register_left RegisterCall.Reset = 1
register_left (RegisterCall.Read address) = 1
register_left (RegisterCall.Write address word) = 1
register_left (RegisterCall.Checked address seen) = tries_left seen
register_left RegisterCall.Mode = 1
register_left RegisterCall.Done = 0
register_left (RegisterCall.Word w) = 0
register_left (RegisterCall.Matched w seen) = 0
register_left (RegisterCall.OpMode m) = 0
register_left (RegisterCall.Refused r) = 0

-- a call on RAM: the long echo is a write and a read
abbrev pub ram_left : RamCall → ℕ
ram_left (RamCall.Read address place count) = 1
ram_left (RamCall.Received place count) = 0
ram_left (RamCall.Write address count) = 1
ram_left RamCall.EchoWrite = 2
ram_left RamCall.EchoRead = 1
ram_left RamCall.Done = 0
ram_left (RamCall.Refused r) = 0

-- a push with so many asks behind it, which do not come after a refusal
abbrev pub push_left : PushAt → (behind : ℕ) → ℕ
push_left PushAt.Enabled behind = 6 + behind
push_left PushAt.Control behind = 5 + behind
push_left (PushAt.Status w) behind = 4 + behind
push_left (PushAt.Address w) behind = 3 + behind
push_left (PushAt.Write w m) behind = 2 + behind
push_left (PushAt.Commit w) behind = 1 + behind
push_left PushAt.BareAddress behind = 4 + behind
push_left (PushAt.BareWrite m) behind = 3 + behind
push_left PushAt.BareControl behind = 2 + behind
push_left PushAt.Done behind = behind
push_left (PushAt.Refused r) behind = 0

-- has-next, peek and get: the longest is a get with a timestamp
abbrev pub fetch_left : FetchAt → ℕ
fetch_left FetchAt.Control = 9
fetch_left FetchAt.Status = 8
fetch_left FetchAt.Address = 7
fetch_left (FetchAt.Header m) = 6
fetch_left (FetchAt.Again m f) = 5
fetch_left (FetchAt.Time x f) = 4
fetch_left (FetchAt.Body x f) = 3
fetch_left (FetchAt.Next f) = 2
fetch_left (FetchAt.Commit w f) = 1
fetch_left (FetchAt.Done f) = 0
fetch_left FetchAt.Empty = 0
fetch_left (FetchAt.Told next) = 0
fetch_left (FetchAt.Refused r) = 0

-- a scrub step: behind the visit's read, where it was told so, a write and a checked read-back
abbrev pub scrub_left_at : ScrubAt → (rewrite : Bool) → ℕ
scrub_left_at (ScrubAt.Visit count) rewrite = tries_left count + (if rewrite then 4 else 0)
scrub_left_at (ScrubAt.Write read first) rewrite = 4
scrub_left_at (ScrubAt.Back read first count) rewrite = tries_left count
scrub_left_at (ScrubAt.Told r) rewrite = 0
scrub_left_at (ScrubAt.Refused r) rewrite = 0

abbrev pub scrub_left : Scrubbing → ℕ
scrub_left s = scrub_left_at s.at s.rewrite

-- behind the push of a transmit stands its request
abbrev pub left_at : CallAt → Call → ℕ
left_at (CallAt.Register r) call = register_left r
left_at (CallAt.Ram r) call = ram_left r
left_at CallAt.Plan call = plan_left call.plan
left_at CallAt.Push call = push_left call.push.at 0
left_at CallAt.Transmit call = push_left call.push.at (plan_left call.plan)
left_at CallAt.Fetch call = fetch_left call.fetch.at
left_at (CallAt.Scrub x) call = scrub_left x

-- the most exchanges and waits that a call may still ask for
abbrev pub left : Call → ℕ
left call = left_at call.at call

-- each answer uses up one turn at least
abbrev pub TurnsFall : Type 0
TurnsFall = (call : Call) (a : Answer) (rx : List ℕ) → (ask_of call ≡ Ask.Nothing → ⊥) → left (step_of call a rx) < left call

-- nothing is asked exactly if no turn is left
abbrev pub OverAtNone : Type 0
OverAtNone = (call : Call) → (left call ≡ 0) ↔ (ask_of call ≡ Ask.Nothing)

-- nothing is asked after so many answers, whatever they are
abbrev pub EveryCallEnds : Type 0
EveryCallEnds = (call : Call) (xs : List (Answer × List ℕ)) → left call ≤ length xs → ask_of (after call xs) ≡ Ask.Nothing

-- nothing is asked exactly if the call has its answer
abbrev pub OverAgrees : Type 0
OverAgrees = (call : Call) → (ask_of call ≡ Ask.Nothing) ↔ (outcome_of call ≡ Outcome.Running → ⊥)

-- ---- bad input

-- a refused call asks for no further exchange and changes no lent byte
abbrev pub RefusedKeeps : Type 0
RefusedKeeps =
    (call : Call) (r : Refusal) → outcome_of call ≡ Outcome.Refused r
    → (ask_of call ≡ Ask.Nothing) × ((rx buf : List ℕ) → filled_by call rx buf ≡ buf)

-- nor does an end that is refused, be it by 28 or 26 for what is lent to it
abbrev pub FinishKeeps : Type 0
FinishKeeps =
    (call : Call) (rx buf : List ℕ) (r : Refusal) → finished_as call (length rx) (length buf) ≡ Outcome.Refused r → filled_by call rx buf ≡ buf

-- before any exchange, the first refusal in the order given; a call that meets none runs, and has no answer yet
abbrev pub RefusesFirst : Type 0
RefusesFirst = (x : Start) → outcome_numbers (outcome_of (started x)) ≡ first (tests x)

-- an answer to an exchange that wants so many bytes: carried out, with as many, or failed
abbrev pub exchanged : Answer → (got want : ℕ) → Bool
exchanged Answer.Exchanged got want = eqb got want
exchanged Answer.Failed got want = true
exchanged Answer.Waited got want = false

-- to a wait: waited out, with no byte
abbrev pub waited : Answer → (got : ℕ) → Bool
waited Answer.Exchanged got = false
waited Answer.Failed got = false
waited Answer.Waited got = eqb got 0

-- an answer of the length and kind asked for; after the end there is none
abbrev pub answers : Ask → Answer → List ℕ → Bool
answers (Ask.Read address count) a rx = exchanged a (length rx) count
answers (Ask.Checked address) a rx = exchanged a (length rx) 6
answers (Ask.Word address word) a rx = exchanged a (length rx) 0
answers (Ask.Body address count) a rx = exchanged a (length rx) 0
answers Ask.Reset a rx = exchanged a (length rx) 0
answers Ask.Wait a rx = waited a (length rx)
answers Ask.Nothing a rx = false

-- any other is 26, whatever the call: never converted; a scrub step reports it
abbrev pub WrongAnswers : Type 0
WrongAnswers =
    (call : Call) (a : Answer) (rx : List ℕ) → answers (ask_of call) a rx ≡ false
    → tells (outcome_of (step_of call a rx)) ≡ 26 ∷ []

-- ---- each call is its talk, in which every further refusal stands behind the exchange that it comes from

abbrev pub StartsAsTalk : Type 0
StartsAsTalk = (x : Start) → talk_of (started x) ≡ whole_talk x

-- after any answers it asks what its talk asks, and has the answer that its talk has
abbrev pub FollowsTalk : Type 0
FollowsTalk =
    (call : Call) (xs : List (Answer × List ℕ))
    → (ask_of (after call xs) ≡ asks (run answered (talk_of call) xs))
    × (outcome_of (after call xs) ≡ ended (λ o. o) (run answered (talk_of call) xs))

-- ---- a command has the address in 11..0: none that a started call asks for is cut

abbrev pub Narrow : ℕ → Type 0
Narrow address = address < 2 ^ 12

abbrev pub Below : Ask → Type 0
Below (Ask.Read address count) = Narrow address
Below (Ask.Checked address) = Narrow address
Below (Ask.Word address word) = Narrow address
Below (Ask.Body address count) = Narrow address
Below Ask.Reset = Unit {0}
Below Ask.Wait = Unit {0}
Below Ask.Nothing = Unit {0}

abbrev pub AddressesBelow : Type 0
AddressesBelow = (x : Start) (xs : List (Answer × List ℕ)) → Below (ask_of (after (started x) xs))

-- ---- what a loop has to have room for

-- an exchange that receives at most so many bytes and sends at most so many, whatever the body of its call is
abbrev pub Fits : ℕ × ℕ → Ask → Type 0
Fits m q = (wanted q ≤ m.0) × ((body : List ℕ) → length (sent q body) ≤ m.1)

-- the most bytes that an exchange of a call receives, and that it sends: 2 of the command, and what is written
abbrev pub most : Start → ℕ × ℕ
most Reset = (0, 2)
most OpMode = (4, 2)
most VerifyLong = (128, 130)
most (Read address) = (4, 2)
most (Checked address) = (6, 3)
most (Write address word) = (0, 6)
most (ReadRam address room place count) = (count, 2)
most (WriteRam address count) = (0, 2 + count)
most (Planned x) = (4, 6)
most (Push n header seq payload) = (4, 74)
most (Transmit n header seq payload) = (4, 74)
most (Request n) = (4, 6)
most (QueuePush header seq payload) = (4, 74)
most (QueueUnchecked header seq payload) = (4, 74)
most QueueRequest = (4, 6)
most (HasNext n) = (4, 2)
most (Peek n room) = (64, 2)
most (Get n room) = (64, 6)
most (Scrub place list rewrite) = (6, 6)

-- none is larger, whatever is answered
abbrev pub ExchangesFit : Type 0
ExchangesFit = (x : Start) (xs : List (Answer × List ℕ)) → Fits (most x) (ask_of (after (started x) xs))

-- the calls that move as many bytes as the caller says
abbrev pub is_ram : Start → Bool
is_ram Reset = false
is_ram OpMode = false
is_ram VerifyLong = false
is_ram (Read address) = false
is_ram (Checked address) = false
is_ram (Write address word) = false
is_ram (ReadRam address room place count) = true
is_ram (WriteRam address count) = true
is_ram (Planned x) = false
is_ram (Push n header seq payload) = false
is_ram (Transmit n header seq payload) = false
is_ram (Request n) = false
is_ram (QueuePush header seq payload) = false
is_ram (QueueUnchecked header seq payload) = false
is_ram QueueRequest = false
is_ram (HasNext n) = false
is_ram (Peek n room) = false
is_ram (Get n room) = false
is_ram (Scrub place list rewrite) = false

-- for all others 128 bytes to receive and 130 to send are enough
abbrev pub RoomEnough : Type 0
RoomEnough = (x : Start) (xs : List (Answer × List ℕ)) → is_ram x ≡ false → Fits (128, 130) (ask_of (after (started x) xs))

pub record Demand1 : Type 0 where
  pub turns_fall : TurnsFall
  pub over_at_none : OverAtNone
  pub every_call_ends : EveryCallEnds
  pub over_agrees : OverAgrees
  pub refused_keeps : RefusedKeeps
  pub finish_keeps : FinishKeeps
  pub refuses_first : RefusesFirst
  pub wrong_answers : WrongAnswers
  pub starts_as_talk : StartsAsTalk
  pub follows_talk : FollowsTalk
  pub addresses_below : AddressesBelow
  pub exchanges_fit : ExchangesFit
  pub room_enough : RoomEnough
