-- What a request of the queue answers where no exchange fails.
-- Assumes nothing.
use Prim.Native.Nat.{ℕ, ◌%◌, ◌^◌}
use native.Mathlib.Omega.{arith}
use mathlib.Core.Path.{◌≡◌, refl, ap, ◌∙◌}
use mathlib.Core.Bool.{false}
use mathlib.Core.List.{List, [], ◌∷◌, ◌++◌}
use lib.ListN.{length}
use Rattle.words.specs.Words.{le_bytes}
use Rattle.fifo.specs.Control.{CiFIFOCON}
use Rattle.place.specs.declared.Register.{Register}
use Rattle.call.specs.declared.Outcome.{Outcome}
use Rattle.plan.specs.Plan.{Plan}
use Rattle.plan.specs.PlanAt.{PlanAt}
use Rattle.plan.specs.Change.{modified}
use Rattle.plan.specs.Step.{arrived_at}
use Rattle.transmit.specs.Transmit.{request_change, queue_request_start}
use Rattle.driver.specs.Start.{idle_push, idle_fetch, of_plan}
use Rattle.state.specs.declared.Model.{Model}
use Rattle.bank.specs.Registers.{word_of, queue_written}
use Rattle.reach.specs.Bus.{Bus}
use Rattle.history.specs.Command.{QueueRequest}
use Rattle.history.specs.History.{Said, called, idle, busy, World, settled, event, after}
use Rattle.history.specs.Demand.{calm, calls, buses, answer, Ends}
use Rattle.history.proofs.Few.{two}
use Rattle.history.proofs.Line.{world}
use Rattle.history.proofs.Asks.{hear_queue, tell_queue}
use Rattle.history.proofs.Requests.{requesting, request_read, request_written, request_small}
use Rattle.history.proofs.Planning as planning
use Rattle.history.proofs.Planning.{planned, Ready}
use Rattle.history.proofs.PlanSteps.{alone}
use Rattle.history.proofs.PushExactly.{begun}
use Rattle.history.proofs.Calm.{spoken_of, after_calm, calls_buses, calls_snoc, idle_calm}

-- no push came before
abbrev ready : Ready idle_push idle_fetch false
ready = alone idle_push idle_fetch

abbrev asking : Plan → Model → List Said → World
asking p c t = world c (busy QueueRequest (planned false p idle_push idle_fetch)) t

abbrev reading : Plan
reading = requesting 0 1 (PlanAt.Read (request_change 0))

-- the word that is written
abbrev asked : Model → ℕ
asked c = modified (request_change 0) (word_of c Register.QueueControl % 2 ^ 32)

abbrev writing : Model → Plan
writing c = requesting 0 1 (PlanAt.Write (CiFIFOCON.address 0) (asked c))

-- bus steps, and control is read
control_comes : (b : List Bus) (r : List (List Bus)) (c : Model) (t : List Said)
    → after (calm (b ∷ r)) (asking reading c t) ≡ after (calm r) (asking (writing (buses b c)) (buses b c) (t ++ spoken_of b c))
unfolding event
control_comes b r c t =
    let d : Model = buses b c in
    let x : ℕ = word_of d Register.QueueControl in
    let t' : List Said = t ++ spoken_of b c in
    after_calm b r c _ t
    ∙ ap (after (calm r))
    (planning.turned idle_push idle_fetch false ready reading t' QueueRequest d (le_bytes x) d refl (λ y. hear_queue y d)
    ∙ ap (λ (q : Plan). settled d t' QueueRequest (planned false q idle_push idle_fetch) (le_bytes x)) (request_read 0 x)
    ∙ planning.still idle_push idle_fetch false ready (writing d) t' QueueRequest d (le_bytes x) refl refl)

-- bus steps, and it is written
control_goes : (b : List Bus) (r : List (List Bus)) (c d : Model) (t : List Said)
    → after (calm (b ∷ r)) (asking (writing c) d t)
    ≡ after (calm r) (world (queue_written (buses b d) (asked c)) idle ((t ++ spoken_of b d) ++ (called QueueRequest Outcome.Done [] ∷ [])))
unfolding event
control_goes b r c d t =
    let e : Model = buses b d in
    let t' : List Said = t ++ spoken_of b d in
    let z : Model = queue_written e (asked c) in
    after_calm b r d _ t
    ∙ ap (after (calm r))
    (planning.turned idle_push idle_fetch false ready (writing c) t' QueueRequest e [] z refl (λ y. tell_queue y e (asked c) (request_small 0 _))
    ∙ ap (λ (q : Plan). settled z t' QueueRequest (planned false q idle_push idle_fetch) []) (request_written 0 (CiFIFOCON.address 0) (asked c))
    ∙ planning.over idle_push idle_fetch false ready (requesting 0 15 PlanAt.Done) t' QueueRequest z [] refl)

pub queue_request_exactly_lem : (v : World) → v.doing ≡ idle → (xs : List (List Bus)) → length xs ≡ 2 → Ends v QueueRequest xs (answer Outcome.Done [])
unfolding of_plan queue_request_start arrived_at
queue_request_exactly_lem v e xs l =
    two (λ ys. Ends v QueueRequest ys (answer Outcome.Done []))
    (λ b b' r.
    let c : Model = v.chip in
    let t : List Said = v.said in
    ap (λ (w : World). calls w.said)
    (begun v e QueueRequest (calm (b ∷ b' ∷ r))
    ∙ ap (after (calm (b ∷ b' ∷ r))) (planning.still idle_push idle_fetch false ready reading t QueueRequest c [] refl refl)
    ∙ control_comes b (b' ∷ r) c t ∙ control_goes b' r (buses b c) (buses b c) (t ++ spoken_of b c))
    ∙ idle_calm r _ _ ∙ calls_snoc ((t ++ spoken_of b c) ++ spoken_of b' (buses b c)) QueueRequest Outcome.Done []
    ∙ rw (calls_buses (t ++ spoken_of b c) b' (buses b c), calls_buses t b c))
    xs (omega (arith, l))
