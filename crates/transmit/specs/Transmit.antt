-- The request calls, and transmit: push, then request.
-- Assumes nothing.
use Rattle.std.specs.Prelude.{ℕ, List, [], ◌∷◌, if◌then◌else◌}
use Rattle.field.specs.Settings.{◌:=◌}
use Rattle.fifo.specs.Control.{CiFIFOCON, TXREQ, is_fifo}
use Rattle.header.specs.declared.Header.{Header}
use Rattle.spi.specs.Talk.{Talk, done, refused, and_then}
use Rattle.spi.specs.declared.refusal.Refusal.{Refusal}
use Rattle.spi.specs.declared.ask.Ask.{Ask}
use Rattle.spi.specs.declared.ask.Answer.{Answer}
use Rattle.call.specs.declared.Outcome.{Outcome}
use Rattle.plan.specs.Change.{change_of}
use Rattle.plan.specs.Step.{plan_of, refused_plan, step_of as plan_step, ask_of as plan_ask, outcome_of as plan_outcome}
use Rattle.plan.specs.Talk.{change_talk, talk_of as plan_talk_of}
use Rattle.plan.specs.declared.change.Change.{Change}
use Rattle.plan.specs.declared.item.Item.{Item}
use Rattle.plan.specs.Plan.{Plan}
use Rattle.tx_fifo.specs.Push.{Push}
use Rattle.tx_fifo.specs.Step.{start_of, step_of, ask_of, outcome_of, is_done}
use Rattle.tx_fifo.specs.Talk.{push_call, talk_of}

-- ---- request

-- control of the FIFO, with TXREQ 1
abbrev pub request_change : ℕ → Change
request_change fifo = change_of (CiFIFOCON.address fifo) (TXREQ := 1 ∷ [])

-- this change alone, or 20
unfoldable pub request_start : ℕ → Plan
request_start fifo =
    if is_fifo fifo then plan_of Refusal.SpiRead (Item.Change (request_change fifo) ∷ []) else refused_plan Refusal.BadNumber

-- of the transmit queue, which is FIFO 0: nothing is tested
unfoldable pub queue_request_start : Plan
queue_request_start = plan_of Refusal.SpiRead (Item.Change (request_change 0) ∷ [])

-- ---- transmit, step by step: the push until it is done, then the request

-- both calls from the start; the request is not looked at before the push is done. Where it is refused then, the message was accepted
pub record Transmit : Type 0 where
  pub push : Push
  pub request : Plan

unfoldable pub transmit_start : ℕ → Header → ℕ → List ℕ → Transmit
transmit_start fifo header seq payload = record { push = start_of fifo header seq payload; request = request_start fifo }

unfoldable pub transmit_ask : Transmit → Ask
transmit_ask s = if is_done s.push then plan_ask s.request else ask_of s.push

unfoldable pub transmit_step : Transmit → Answer → List ℕ → Transmit
transmit_step s a rx =
    if is_done s.push then record { push = s.push; request = plan_step s.request a rx }
    else record { push = step_of s.push a rx; request = s.request }

unfoldable pub transmit_outcome : Transmit → Outcome
transmit_outcome s = if is_done s.push then plan_outcome s.request else outcome_of s.push

-- ---- as the line sees them

-- 20 before any exchange; control is read, and written with TXREQ 1
unfoldable pub request_call : ℕ → Talk Outcome
request_call fifo = if is_fifo fifo then change_talk Refusal.SpiRead (request_change fifo) (done Outcome.Done) else refused Refusal.BadNumber

unfoldable pub queue_request_call : Talk Outcome
queue_request_call = change_talk Refusal.SpiRead (request_change 0) (done Outcome.Done)

-- push, then request
unfoldable pub transmit_call : ℕ → Header → ℕ → List ℕ → Talk Outcome
transmit_call fifo header seq payload = and_then (push_call fifo header seq payload) (λ x. request_call fifo)

-- the rest of the call from where it stands
unfoldable pub transmit_talk_of : Transmit → Talk Outcome
transmit_talk_of s = and_then (talk_of s.push) (λ x. plan_talk_of s.request)
