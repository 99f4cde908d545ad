-- A call that is a plan, or the request that is the second half of a transmit: what it asks, where an answer takes it, and what is
-- said when it is over.
-- Assumes nothing.
use Prim.Native.Nat.{ℕ}
use mathlib.Core.Path.{◌≡◌, refl}
use mathlib.Core.Bool.{Bool, true, false}
use mathlib.Core.List.{List, [], ◌∷◌, ◌++◌}
use Rattle.spi.specs.declared.ask.Answer.{Answer}
use Rattle.call.specs.declared.Outcome.{Outcome}
use Rattle.plan.specs.Plan.{Plan}
use Rattle.plan.specs.Step as plan
use Rattle.tx_fifo.specs.Push.{Push as Pushes}
use Rattle.tx_fifo.specs.Step as push
use Rattle.transmit.specs.Transmit.{transmit_ask, transmit_step, transmit_outcome}
use Rattle.rx_fifo.specs.Fetch.{Fetch}
use Rattle.driver.specs.CallAt.{CallAt}
use Rattle.driver.specs.Call.{Call}
use Rattle.driver.specs.Step.{ask_of, step_of, outcome_of, filled_by}
use Rattle.state.specs.declared.Model.{Model}
use Rattle.history.specs.Command.{Command, first_call, lent}
use Rattle.history.specs.History.{Said, called, idle, busy, hears, heard, waits, is_over, halfway, settled, goes_on}
use Rattle.history.proofs.Line.{spoken, turns, fails}

-- whether a push came before it
abbrev pub placed : Bool → CallAt
placed false = CallAt.Plan
placed true = CallAt.Transmit

-- the driver with it
abbrev pub planned : Bool → Plan → Pushes → Fetch → Call
planned also p u f = record { at = placed also; plan = p; push = u; fetch = f }

module _ (u : Pushes) (f : Fetch) where
  -- of a transmit the push is done
  abbrev pub Ready : Bool → Type 0
  Ready also = also ≡ true → push.is_done u ≡ true

  pub asks : (also : Bool) → Ready also → (p : Plan) → ask_of (planned also p u f) ≡ plan.ask_of p
  unfolding ask_of transmit_ask
  asks false r p = refl
  asks true r p = rw (r refl)

  pub steps : (also : Bool) → Ready also → (p : Plan) (a : Answer) (rx : List ℕ) → step_of (planned also p u f) a rx ≡ planned also (plan.step_of p a rx) u f
  unfolding step_of transmit_step
  steps false r p a rx = refl
  steps true r p a rx = rw (r refl)

  pub outcomes : (also : Bool) → Ready also → (p : Plan) → outcome_of (planned also p u f) ≡ plan.outcome_of p
  unfolding outcome_of transmit_outcome
  outcomes false r p = refl
  outcomes true r p = rw (r refl)

  -- no buffer is lent
  fills : (also : Bool) (p : Plan) (rx buf : List ℕ) → filled_by (planned also p u f) rx buf ≡ buf
  unfolding filled_by
  fills false p rx buf = refl
  fills true p rx buf = refl

  module _ (also : Bool) (r : Ready also) (p : Plan) (t : List Said) (k : Command) (c : Model) where
    -- an exchange that the chip answers with rx
    pub turned : (rx : List ℕ) (d : Model) → waits (plan.ask_of p) ≡ false
        → ((b : List ℕ) → spoken (plan.ask_of p) b c ≡ hears Answer.Exchanged rx d)
        → goes_on t k (planned also p u f) (heard true (planned also p u f) c) ≡ settled d t k (planned also (plan.step_of p Answer.Exchanged rx) u f) rx
    turned rx d w h = turns (planned also p u f) _ _ (asks also r p) c t k _ rx d refl w (h _) (steps also r p Answer.Exchanged rx)

    -- an exchange that fails
    pub failed : waits (plan.ask_of p) ≡ false
        → goes_on t k (planned also p u f) (heard false (planned also p u f) c) ≡ settled c t k (planned also (plan.step_of p Answer.Failed []) u f) []
    failed w = fails (planned also p u f) _ _ (asks also r p) c t k w (steps also r p Answer.Failed [])

  -- ---- over, or not

  module _ (also : Bool) (r : Ready also) (p : Plan) (t : List Said) (k : Command) (c : Model) (rx : List ℕ) where
    pub still : plan.outcome_of p ≡ Outcome.Running → halfway k (planned also p u f) ≡ false
        → settled c t k (planned also p u f) rx ≡ record { chip = c; doing = busy k (planned also p u f); said = t }
    unfolding settled
    still e h = rw (outcomes also r p, e, h)

    pub over : is_over (plan.outcome_of p) ≡ true
        → settled c t k (planned also p u f) rx ≡ record { chip = c; doing = idle; said = t ++ (called (first_call k) (plan.outcome_of p) (lent k) ∷ []) }
    unfolding settled
    over e = rw (outcomes also r p, e, fills also p rx (lent k))
