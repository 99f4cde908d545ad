-- A push, alone or as the first half of a transmit: what it asks, where an answer takes it, and what is said when it is over.
-- Assumes nothing.
use Prim.Native.Nat.{ℕ}
use mathlib.Core.Path.{◌≡◌, refl, ◌∙◌}
use mathlib.Core.Bool.{Bool, true, false}
use mathlib.Core.List.{List, [], ◌∷◌, ◌++◌}
use lib.ListN.{length}
use Rattle.parts.specs.Parts.{zeroed}
use Rattle.spi.specs.declared.refusal.Refusal.{Refusal}
use Rattle.spi.specs.declared.ask.Answer.{Answer}
use Rattle.header.specs.declared.Header.{Header}
use Rattle.message.specs.Structs.{object_in}
use Rattle.call.specs.declared.Outcome.{Outcome}
use Rattle.plan.specs.Plan.{Plan}
use Rattle.plan.specs.Step as plan
use Rattle.tx_fifo.specs.Push.{Push as Pushes}
use Rattle.tx_fifo.specs.PushAt.{PushAt}
use Rattle.tx_fifo.specs.Step as push
use Rattle.transmit.specs.Transmit.{transmit_ask, transmit_step, transmit_outcome}
use Rattle.rx_fifo.specs.Fetch.{Fetch}
use Rattle.driver.specs.CallAt.{CallAt}
use Rattle.driver.specs.Call.{Call}
use Rattle.driver.specs.Step.{ask_of, step_of, outcome_of, filled_by}
use Rattle.driver.specs.Send.{body_of}
use Rattle.state.specs.declared.Model.{Model}
use Rattle.history.specs.Command.{Command, Push, Transmit, Request, first_call, lent}
use Rattle.history.proofs.Line.{world, spoken, turns, fails}
use Rattle.history.specs.History.{Said, called, idle, busy, World, hears, heard, waits, halfway, settled, goes_on}

-- whether a request follows
abbrev pub commanded : Bool → ℕ → Header → ℕ → List ℕ → Command
commanded false n header seq payload = Push n header seq payload
commanded true n header seq payload = Transmit n header seq payload

abbrev pub placed : Bool → CallAt
placed false = CallAt.Push
placed true = CallAt.Transmit

-- a push of an object of these bytes for FIFO n
abbrev pub push_at : (n size : ℕ) → List ℕ → PushAt → Pushes
push_at n size bs at = record { fifo = n; size = size; object = object_in bs; at = at }

-- the driver with it; the request that may follow is `plan`
abbrev pub pushing : Bool → (n size : ℕ) → List ℕ → PushAt → Plan → Fetch → Call
pushing also n size bs at p f = record { at = placed also; plan = p; push = push_at n size bs at; fetch = f }

module _ (n size : ℕ) (bs : List ℕ) (p : Plan) (f : Fetch) where
  abbrev standing : Bool → PushAt → Call
  standing also at = pushing also n size bs at p f

  pub asks : (also : Bool) (at : PushAt) → push.done_at at ≡ false → ask_of (standing also at) ≡ push.ask_at n (length bs) at
  unfolding ask_of push.ask_of transmit_ask
  asks false at e = refl
  asks true at e = rw e

  pub steps : (also : Bool) (at : PushAt) → push.done_at at ≡ false → (a : Answer) (rx : List ℕ)
      → step_of (standing also at) a rx ≡ standing also (push.next_at n size (length bs) at a rx)
  unfolding step_of push.step_of transmit_step
  steps false at e a rx = refl
  steps true at e a rx = rw e

  pub body : (also : Bool) (at : PushAt) → body_of (standing also at) [] ≡ zeroed 76 bs
  unfolding body_of
  body false at = refl
  body true at = refl

  waits_not : (at : PushAt) → waits (push.ask_at n (length bs) at) ≡ false
  waits_not PushAt.Control = refl
  waits_not (PushAt.Status w) = refl
  waits_not (PushAt.Address w) = refl
  waits_not (PushAt.Write w a) = refl
  waits_not (PushAt.Commit w) = refl
  waits_not PushAt.Enabled = refl
  waits_not PushAt.BareAddress = refl
  waits_not (PushAt.BareWrite m) = refl
  waits_not PushAt.BareControl = refl
  waits_not PushAt.Done = refl
  waits_not (PushAt.Refused r) = refl

  module _ (also : Bool) (at : PushAt) (e : push.done_at at ≡ false) (t : List Said) (k : Command) (c : Model) where
    -- an exchange that the chip answers with rx, and where it takes the push
    pub turned : (rx : List ℕ) (d : Model) (to : PushAt)
        → spoken (push.ask_at n (length bs) at) (zeroed 76 bs) c ≡ hears Answer.Exchanged rx d
        → push.next_at n size (length bs) at Answer.Exchanged rx ≡ to
        → goes_on t k (standing also at) (heard true (standing also at) c) ≡ settled d t k (standing also to) rx
    turned rx d to h g = turns (standing also at) _ _ (asks also at e) c t k _ rx d (body also at) (waits_not at) h (steps also at e Answer.Exchanged rx ∙ rw g)

    -- an exchange that fails
    pub failed : goes_on t k (standing also at) (heard false (standing also at) c) ≡ settled c t k (standing also (push.next_at n size (length bs) at Answer.Failed [])) []
    failed = fails (standing also at) _ _ (asks also at e) c t k (waits_not at) (steps also at e Answer.Failed [])

-- ---- over, or not

module _ (n size : ℕ) (bs : List ℕ) (p : Plan) (f : Fetch) (header : Header) (seq : ℕ) (payload : List ℕ) (t : List Said) (c : Model) (rx : List ℕ) where
  abbrev settles : Bool → PushAt → World
  settles also at = settled c t (commanded also n header seq payload) (pushing also n size bs at p f) rx

  pub still : (also : Bool) (at : PushAt) → push.done_at at ≡ false → push.outcome_at at ≡ Outcome.Running
      → settles also at ≡ world c (busy (commanded also n header seq payload) (pushing also n size bs at p f)) t
  unfolding settled outcome_of push.outcome_of transmit_outcome
  still false at d e = rw e
  still true at d e = rw (d, e)

  pub refused : (also : Bool) (r : Refusal)
      → settles also (PushAt.Refused r) ≡ world c idle (t ++ (called (Push n header seq payload) (Outcome.Refused r) [] ∷ []))
  unfolding settled outcome_of push.outcome_of transmit_outcome filled_by
  refused false r = refl
  refused true r = refl

  pub done : settles false PushAt.Done ≡ world c idle (t ++ (called (Push n header seq payload) Outcome.Done [] ∷ []))
  unfolding settled outcome_of push.outcome_of filled_by
  done = refl

  -- the request comes next, which begins by asking
  pub half : plan.outcome_of p ≡ Outcome.Running
      → settles true PushAt.Done ≡ world c (busy (Request n) (pushing true n size bs PushAt.Done p f)) (t ++ (called (Push n header seq payload) Outcome.Done [] ∷ []))
  unfolding settled outcome_of transmit_outcome
  half e = rw e

-- ---- a push that is one call and no FIFO's

module _ (k : Command) (whole : (s : Call) → halfway k s ≡ false) (first : first_call k ≡ k) (none : lent k ≡ []) (size : ℕ) (bs : List ℕ) (p : Plan) (f : Fetch)
    (t : List Said) (c : Model) (rx : List ℕ) where
  abbrev settles_at : PushAt → World
  settles_at at = settled c t k (pushing false 0 size bs at p f) rx

  pub still_alone : (at : PushAt) → push.outcome_at at ≡ Outcome.Running → settles_at at ≡ world c (busy k (pushing false 0 size bs at p f)) t
  unfolding settled outcome_of push.outcome_of
  still_alone at e = rw (e, whole (pushing false 0 size bs at p f))

  pub refused_alone : (r : Refusal) → settles_at (PushAt.Refused r) ≡ world c idle (t ++ (called k (Outcome.Refused r) [] ∷ []))
  unfolding settled outcome_of push.outcome_of filled_by
  refused_alone r = rw (first, none)

  pub done_alone : settles_at PushAt.Done ≡ world c idle (t ++ (called k Outcome.Done [] ∷ []))
  unfolding settled outcome_of push.outcome_of filled_by
  done_alone = rw (first, none)
