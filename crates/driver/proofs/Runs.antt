-- A call of any family and its talk say the same of every answer.
-- Assumes nothing.
use Prim.Native.Nat.{ℕ}
use mathlib.Core.Path.{◌≡◌, refl, ap, ◌∙◌}
use mathlib.Core.List.{List}
use Rattle.spi.specs.declared.ask.Answer.{Answer}
use Rattle.spi.specs.Talk.{Talk, done, refused, ask, and_then, answered, asks, run, Follows}
use Rattle.spi.proofs.Talks.{runs}
use Rattle.call.specs.declared.Outcome.{Outcome}
use Rattle.call.specs.Outcome.{ended}
use Rattle.register.specs.RegisterCall.{RegisterCall}
use Rattle.ram.specs.RamCall.{RamCall}
use Rattle.plan.specs.Plan.{Plan}
use Rattle.tx_fifo.specs.Push.{Push}
use Rattle.transmit.specs.Transmit.{Transmit, transmit_talk_of}
use Rattle.rx_fifo.specs.Fetch.{Fetch}
use Rattle.register.specs.Talk as register_talks
use Rattle.ram.specs.Talk as ram_talks
use Rattle.plan.specs.Talk as plan_talks
use Rattle.tx_fifo.specs.Talk as push_talks
use Rattle.register.proofs.Runs as register
use Rattle.ram.proofs.Runs as ram
use Rattle.plan.proofs.Runs as plan
use Rattle.tx_fifo.proofs.Runs as push
use Rattle.transmit.proofs.Transmits as transmit
use Rattle.rx_fifo.proofs.Runs as fetch
use Rattle.rx_fifo.specs.Talk.{outcome_by}
use Rattle.scrub.specs.Scrub.{Scrub}
use Rattle.scrub.specs.Talk as scrub_talks
use Rattle.scrub.proofs.Runs as scrub
use Rattle.driver.specs.CallAt.{CallAt}
use Rattle.driver.specs.Call.{Call}
use Rattle.driver.specs.Step.{transmit_of, ask_at, ask_of, step_at, step_of, outcome_at, outcome_of}
use Rattle.driver.specs.Start.{of_register, of_ram, of_plan, of_push, of_transmit, of_fetch, of_scrub}
use Rattle.driver.specs.Talk.{fetch_talk, talk_at, talk_of}

-- ---- a talk whose result is told in other words

module _ {A : Type 0} (f : A → Outcome) where
  told_answered : (t : Talk A) (a : Answer) (rx : List ℕ) → and_then (answered t a rx) (λ x. done (f x)) ≡ answered (and_then t (λ x. done (f x))) a rx
  unfolding and_then answered
  told_answered (done x) a rx = refl
  told_answered (refused r) a rx = refl
  told_answered (ask q k) a rx = refl

  told_asks : (t : Talk A) → asks t ≡ asks (and_then t (λ x. done (f x)))
  unfolding and_then
  told_asks (done x) = refl
  told_asks (refused r) = refl
  told_asks (ask q k) = refl

  told_ended : (t : Talk A) → ended f t ≡ ended (λ x. x) (and_then t (λ x. done (f x)))
  unfolding and_then
  told_ended (done x) = refl
  told_ended (refused r) = refl
  told_ended (ask q k) = refl

-- ---- each family's laws

step_at_lem : (at : CallAt) (s : Call) (a : Answer) (rx : List ℕ) → talk_of (step_at at s a rx) ≡ answered (talk_at at s) a rx
unfolding talk_of
step_at_lem (CallAt.Register r) s a rx = (register.follows).stepped r a rx
step_at_lem (CallAt.Ram r) s a rx = (ram.follows).stepped r a rx
step_at_lem CallAt.Plan s a rx = (plan.follows).stepped s.plan a rx
step_at_lem CallAt.Push s a rx = (push.follows).stepped s.push a rx
step_at_lem CallAt.Transmit s a rx = (transmit.follows).stepped (transmit_of s) a rx
step_at_lem CallAt.Fetch s a rx = ap (λ t. and_then t (λ x. done (outcome_by x))) ((fetch.follows).stepped s.fetch a rx) ∙ told_answered outcome_by _ a rx
step_at_lem (CallAt.Scrub x) s a rx = (scrub.follows).stepped x a rx

ask_at_lem : (at : CallAt) (s : Call) → ask_at at s ≡ asks (talk_at at s)
ask_at_lem (CallAt.Register r) s = (register.follows).asked r
ask_at_lem (CallAt.Ram r) s = (ram.follows).asked r
ask_at_lem CallAt.Plan s = (plan.follows).asked s.plan
ask_at_lem CallAt.Push s = (push.follows).asked s.push
ask_at_lem CallAt.Transmit s = (transmit.follows).asked (transmit_of s)
ask_at_lem CallAt.Fetch s = (fetch.follows).asked s.fetch ∙ told_asks outcome_by _
ask_at_lem (CallAt.Scrub x) s = (scrub.follows).asked x

outcome_at_lem : (at : CallAt) (s : Call) → outcome_at at s ≡ ended (λ x. x) (talk_at at s)
outcome_at_lem (CallAt.Register r) s = register.outcome_talk r
outcome_at_lem (CallAt.Ram r) s = ram.outcome_talk r
outcome_at_lem CallAt.Plan s = plan.outcome_talk s.plan
outcome_at_lem CallAt.Push s = push.outcome_talk s.push
outcome_at_lem CallAt.Transmit s = transmit.outcome_talk (transmit_of s)
outcome_at_lem CallAt.Fetch s = fetch.outcome_talk s.fetch ∙ told_ended outcome_by _
outcome_at_lem (CallAt.Scrub x) s = scrub.outcome_talk x

stepped : (s : Call) (a : Answer) (rx : List ℕ) → talk_of (step_of s a rx) ≡ answered (talk_of s) a rx
unfolding step_of talk_of
stepped s a rx = step_at_lem s.at s a rx

asked : (s : Call) → ask_of s ≡ asks (talk_of s)
unfolding ask_of talk_of
asked s = ask_at_lem s.at s

pub follows : Follows step_of ask_of talk_of
follows = record { stepped = stepped; asked = asked }

-- after any answers a call stands where its talk stands
pub run_talk : (s : Call) (xs : List (Answer × List ℕ)) → talk_of (run step_of s xs) ≡ run answered (talk_of s) xs
run_talk = runs step_of ask_of talk_of follows

pub outcome_talk : (s : Call) → outcome_of s ≡ ended (λ x. x) (talk_of s)
unfolding outcome_of talk_of
outcome_talk s = outcome_at_lem s.at s

-- ---- a call that was wrapped has its family's talk

pub register_talk : (r : RegisterCall) → talk_of (of_register r) ≡ register_talks.talk_of r
unfolding talk_of of_register
register_talk r = refl

pub ram_talk_lem : (r : RamCall) → talk_of (of_ram r) ≡ ram_talks.talk_of r
unfolding talk_of of_ram
ram_talk_lem r = refl

pub plan_talk_lem : (p : Plan) → talk_of (of_plan p) ≡ plan_talks.talk_of p
unfolding talk_of of_plan
plan_talk_lem p = refl

pub push_talk_lem : (p : Push) → talk_of (of_push p) ≡ push_talks.talk_of p
unfolding talk_of of_push
push_talk_lem p = refl

pub transmit_talk : (t : Transmit) → talk_of (of_transmit t) ≡ transmit_talk_of t
unfolding talk_of of_transmit
transmit_talk t = refl

pub fetch_talk_lem : (f : Fetch) → talk_of (of_fetch f) ≡ fetch_talk f
unfolding talk_of of_fetch
fetch_talk_lem f = refl

pub scrub_talk : (x : Scrub) → talk_of (of_scrub x) ≡ scrub_talks.talk_of x
unfolding talk_of of_scrub
scrub_talk x = refl
