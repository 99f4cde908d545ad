-- The push call in the code's numbers: a stage, and beside it what was read.
-- Assumes nothing.
use Rattle.spi.specs.declared.refusal.Refusal.{Refusal}
use Rattle.std.specs.Prelude.{ℕ, ◌≡◌, List, Result, Ok, Err}
use Rattle.message.specs.Structs.{encoded_in}
use Rattle.spi.specs.declared.ask.Answer.{Answer}
use Rattle.tx_fifo.specs.Push.{Push}
use Rattle.tx_fifo.specs.PushAt.{PushAt}
use Rattle.tx_fifo.specs.declared.push.PushStage.{PushStage}
use Rattle.tx_fifo.specs.declared.push.PushNumbers.{PushNumbers}
use Rattle.tx_fifo.specs.Step.{begun, step_of}

-- where a call with these numbers stands at a stage
abbrev pub stage_at : PushStage → PushNumbers → PushAt
stage_at PushStage.Enabled c = PushAt.Enabled
stage_at PushStage.Control c = PushAt.Control
stage_at PushStage.Status c = PushAt.Status c.w
stage_at PushStage.Address c = PushAt.Address c.w
stage_at PushStage.Write c = PushAt.Write c.w c.m
stage_at PushStage.Commit c = PushAt.Commit c.w
stage_at PushStage.BareAddress c = PushAt.BareAddress
stage_at PushStage.BareWrite c = PushAt.BareWrite c.m
stage_at PushStage.BareControl c = PushAt.BareControl
stage_at PushStage.Done c = PushAt.Done
stage_at PushStage.Refused c = PushAt.Refused c.why

abbrev pub push_at : PushNumbers → PushAt
push_at c = stage_at c.stage c

-- the call of these numbers, at this place, with the body's bytes for its object
abbrev pub standing : PushNumbers → PushAt → List ℕ → Push
standing c at body = record { fifo = c.fifo; size = c.size; object = record { bytes = body; len = c.len }; at = at }

-- the call that numbers and a body are
abbrev pub push_of : PushNumbers → List ℕ → Push
push_of c body = standing c (push_at c) body

-- r is a call that begins at a stage, with what its message was written as, whatever the body
abbrev pub PushBegins : (fifo size : ℕ) → PushStage → Result ℕ Refusal → PushNumbers → Type 0
PushBegins fifo size first e r = (body : List ℕ) → push_of r body ≡ begun fifo size (stage_at first r) (encoded_in e body)

-- r is a stage, where the call comes to `to`, and otherwise what it is refused for
abbrev pub Passes : Result PushStage Refusal → PushStage → (at to : PushAt) → Type 0
Passes (Ok s) stage at to = (s ≡ stage) × (at ≡ to)
Passes (Err why) stage at to = at ≡ PushAt.Refused why

-- the numbers that a call goes on with, or c refused
abbrev pub settled : PushNumbers → Result PushNumbers Refusal → PushNumbers
settled c (Ok r) = r
settled c (Err why) = record c { stage = PushStage.Refused; why = why }

-- r is the call c after an answer, whatever its body
abbrev pub PushSteps : PushNumbers → Answer → List ℕ → PushNumbers → Type 0
PushSteps c a rx r = (body : List ℕ) → push_of r body ≡ step_of (push_of c body) a rx
