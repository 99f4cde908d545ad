-- Transmit in the code's numbers: those of the push, which once it is done are the request's too, and the request's stage.
-- Assumes nothing.
use Rattle.std.specs.Prelude.{ℕ, ◌≡◌, List, [], ◌∷◌, length, if◌then◌else◌, Result, Ok, Err}
use Rattle.fifo.specs.Control.{CiFIFOCON, is_fifo}
use Rattle.spi.specs.declared.refusal.Refusal.{Refusal}
use Rattle.spi.specs.declared.ask.Answer.{Answer}
use Rattle.plan.specs.Step.{filled, step_of}
use Rattle.plan.specs.declared.item.Item.{Item}
use Rattle.plan.specs.Plan.{Plan}
use Rattle.plan.specs.PlanAt.{PlanAt}
use Rattle.tx_fifo.specs.PushAt.{PushAt}
use Rattle.tx_fifo.specs.declared.push.PushStage.{PushStage}
use Rattle.tx_fifo.specs.declared.push.PushNumbers.{PushNumbers}
use Rattle.tx_fifo.specs.Step.{is_done}
use Rattle.tx_fifo.specs.Numbers.{standing, push_of}
use Rattle.transmit.specs.Transmit.{Transmit, request_change, request_start, transmit_step}
use Rattle.transmit.specs.declared.transmit.RequestStage.{RequestStage}
use Rattle.transmit.specs.declared.transmit.TransmitNumbers.{TransmitNumbers}

-- ---- the request, once the push is done

-- what a request does: the one change, or nothing where it is refused 20
abbrev pub request_items : ℕ → List Item
request_items fifo = if is_fifo fifo then Item.Change (request_change fifo) ∷ [] else []

-- where it stands at a stage
abbrev pub request_at : RequestStage → PushNumbers → PlanAt
request_at RequestStage.Read p = PlanAt.Read (request_change p.fifo)
request_at RequestStage.Write p = PlanAt.Write (CiFIFOCON.address p.fifo) p.w
request_at RequestStage.Done p = PlanAt.Done
request_at RequestStage.Late p = PlanAt.Refused Refusal.WrongAnswer
request_at RequestStage.Refused p = PlanAt.Refused p.why

-- the place behind its n items, or behind all of a plan's once these are done
abbrev pub request_next : RequestStage → ℕ → ℕ
request_next RequestStage.Read n = n
request_next RequestStage.Write n = n
request_next RequestStage.Done n = 15
request_next RequestStage.Late n = 15
request_next RequestStage.Refused n = n

-- the plan that a stage and the push's numbers are
abbrev pub request_of : RequestStage → PushNumbers → Plan
request_of q p = record {
  failed = Refusal.SpiRead;
  items = filled (request_items p.fifo);
  next = request_next q (length (request_items p.fifo));
  at = request_at q p;
}

-- ---- transmit

-- the call that numbers and a body are: until the push is done the request is as it starts
abbrev pub transmit_in : TransmitNumbers → List ℕ → Transmit
transmit_in c body = record {
  push = push_of c.push body;
  request = if is_done (push_of c.push body) then request_of c.request c.push else request_start c.push.fifo;
}

-- r is the push p, and the request as it starts, whatever the body
abbrev pub RequestStarts : PushNumbers → TransmitNumbers → Type 0
RequestStarts p r = (body : List ℕ) → transmit_in r body ≡ record { push = push_of p body; request = request_start p.fifo }

-- the numbers that a request goes on with, or those of the push p, done, with the request refused
abbrev pub settled : PushNumbers → Result TransmitNumbers Refusal → TransmitNumbers
settled p (Ok r) = r
settled p (Err why) = record { push = record p { stage = PushStage.Done; why = why }; request = RequestStage.Refused }

-- r is the push p, done, and the request after an answer, whatever the body
abbrev pub RequestSteps : PushNumbers → RequestStage → Answer → List ℕ → TransmitNumbers → Type 0
RequestSteps p q a rx r = (body : List ℕ) → transmit_in r body ≡ record { push = standing p PushAt.Done body; request = step_of (request_of q p) a rx }

-- r is the call c after an answer, whatever its body
abbrev pub TransmitSteps : TransmitNumbers → Answer → List ℕ → TransmitNumbers → Type 0
TransmitSteps c a rx r = (body : List ℕ) → transmit_in r body ≡ transmit_step (transmit_in c body) a rx
