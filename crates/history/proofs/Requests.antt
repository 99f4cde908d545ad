-- A request, step by step: what it answers.
-- Assumes nothing.
use Prim.Native.Nat.{ℕ, ◌%◌, ◌^◌, ◌<◌, ◌≤◌}
use mathlib.Core.Path.{◌≡◌, refl, sym, ap, subst, ◌∙◌}
use mathlib.Core.Bool.{Bool, true, false, false≢true}
use mathlib.Core.List.{List, [], ◌∷◌}
use native.Mathlib.Nat.{mod-lt}
use native.Mathlib.Omega.{arith}
use Rattle.words.specs.Words.{le_bytes}
use Rattle.fifo.specs.Control.{CiFIFOCON, TXREQ, is_fifo}
use Rattle.field.specs.Settings.{◌:=◌}
use Rattle.field.proofs.Sets.{settings_lt}
use Rattle.spi.specs.declared.refusal.Refusal.{Refusal}
use Rattle.spi.specs.declared.ask.Answer.{Answer}
use Rattle.plan.specs.declared.item.Item.{Item}
use Rattle.plan.specs.PlanAt.{PlanAt}
use Rattle.plan.specs.Plan.{Plan}
use Rattle.plan.specs.Change.{modified}
use Rattle.plan.specs.Step.{filled, arrived_at, refused_plan, step_of, ask_at, ask_of, outcome_at, outcome_of}
use Rattle.plan.proofs.Changes.{change_sets_lem}
use Rattle.transmit.specs.Transmit.{request_change, request_start, queue_request_start}
use Rattle.state.specs.declared.Model.{Model}
use Rattle.history.specs.History.{Heard, waits, is_over}
use Rattle.history.specs.Demand.{Ordinary}
use Rattle.history.proofs.Line.{spoken}
use Rattle.history.proofs.Asks.{hear_any, tell_any}
use Rattle.history.proofs.Replies.{le_said}
use Rattle.history.proofs.Slots.{fifo_told}

-- the plan of a request that stands there
abbrev pub requesting : (n next : ℕ) → PlanAt → Plan
requesting n next at = record { failed = Refusal.SpiRead; items = filled (Item.Change (request_change n) ∷ []); next = next; at = at }

pub request_begins : (n : ℕ) → is_fifo n ≡ true → request_start n ≡ requesting n 1 (PlanAt.Read (request_change n))
unfolding request_start arrived_at
request_begins n i = rw i refl

pub request_refused : (n : ℕ) → is_fifo n ≡ false → request_start n ≡ refused_plan Refusal.BadNumber
unfolding request_start
request_refused n i = rw i refl

module _ (n : ℕ) where
  -- control comes back, and is written with TXREQ 1
  pub request_read : (x : ℕ) → step_of (requesting n 1 (PlanAt.Read (request_change n))) Answer.Exchanged (le_bytes x)
      ≡ requesting n 1 (PlanAt.Write (CiFIFOCON.address n) (modified (request_change n) (x % 2 ^ 32)))
  unfolding step_of le_bytes
  request_read x = ap (λ (w : ℕ). requesting n 1 (PlanAt.Write (CiFIFOCON.address n) (modified (request_change n) w))) (le_said x)

  pub request_written : (a w : ℕ) → step_of (requesting n 1 (PlanAt.Write a w)) Answer.Exchanged [] ≡ requesting n 15 PlanAt.Done
  unfolding step_of arrived_at
  request_written a w = refl

  pub read_failed : (rx : List ℕ) → step_of (requesting n 1 (PlanAt.Read (request_change n))) Answer.Failed rx ≡ requesting n 1 (PlanAt.Refused Refusal.SpiRead)
  unfolding step_of
  read_failed rx = refl

  pub write_failed : (a w : ℕ) (rx : List ℕ) → step_of (requesting n 1 (PlanAt.Write a w)) Answer.Failed rx ≡ requesting n 1 (PlanAt.Refused Refusal.SpiRead)
  unfolding step_of
  write_failed a w rx = refl

  -- the word that is written has 32 bits
  pub request_small : (x : ℕ) → modified (request_change n) (x % 2 ^ 32) < 2 ^ 32
  request_small x =
      let l : x % 2 ^ 32 < 2 ^ 32 = mod-lt x (omega arith) in
      rw (change_sets_lem (CiFIFOCON.address n) (TXREQ := 1 ∷ []) (x % 2 ^ 32) l (omega arith, tt))
      (settings_lt 32 (TXREQ := 1 ∷ []) (x % 2 ^ 32) refl (omega arith, tt) l)

-- ---- wherever a request may stand

-- of a FIFO or, with 0, of the queue
pub data Requests (n : ℕ) (p : Plan) : Type 0 where
  reads : n ≤ 31 → p ≡ requesting n 1 (PlanAt.Read (request_change n)) → Requests n p
  writes : n ≤ 31 → (w : ℕ) → w < 2 ^ 32 → p ≡ requesting n 1 (PlanAt.Write (CiFIFOCON.address n) w) → Requests n p
  ends : p.at ≡ PlanAt.Done → Requests n p
  fails : p.at ≡ PlanAt.Refused Refusal.SpiRead → Requests n p
  turned : p.at ≡ PlanAt.Refused Refusal.BadNumber → Requests n p

pub request_starts : (n : ℕ) → Requests n (request_start n)
request_starts n = go (is_fifo n) refl
  where
    go : (b : Bool) → is_fifo n ≡ b → Requests n (request_start n)
    go true i = reads (fifo_told n i).1 (request_begins n i)
    go false i = turned (ap (λ (p : Plan). p.at) (request_refused n i))

pub queue_request_starts : Requests 0 queue_request_start
unfolding queue_request_start arrived_at
queue_request_starts = reads (omega arith) refl

-- an answer of the chip, and an exchange that fails
module _ (n : ℕ) (p : Plan) where
  clash : (at : PlanAt) → p.at ≡ at → is_over (outcome_at at) ≡ true → is_over (outcome_of p) ≡ false → ⊥
  clash at e h l = false≢true (sym l ∙ ap (λ (x : PlanAt). is_over (outcome_at x)) e ∙ h)

  pub request_answered : (b : List ℕ) (c : Model) → Requests n p → is_over (outcome_of p) ≡ false
      → Requests n (step_of p (spoken (ask_of p) b c).answer (spoken (ask_of p) b c).rx)
  request_answered b c (reads i e) l =
      let (x, hear) = hear_any b c n i in
      let q = requesting n 1 (PlanAt.Read (request_change n)) in
      writes i (modified (request_change n) (x % 2 ^ 32)) (request_small n x)
      (ap (λ (y : Plan). step_of y (spoken (ask_of y) b c).answer (spoken (ask_of y) b c).rx) e
      ∙ ap (λ (h : Heard). step_of q h.answer h.rx) hear
      ∙ request_read n x)
  request_answered b c (writes i w s e) l =
      let q = requesting n 1 (PlanAt.Write (CiFIFOCON.address n) w) in
      ends (ap (λ (y : Plan). y.at)
      (ap (λ (y : Plan). step_of y (spoken (ask_of y) b c).answer (spoken (ask_of y) b c).rx) e
      ∙ ap (λ (h : Heard). step_of q h.answer h.rx) (tell_any b c n i w s).1
      ∙ request_written n (CiFIFOCON.address n) w))
  request_answered b c (ends e) l = absurd (clash PlanAt.Done e refl l)
  request_answered b c (fails e) l = absurd (clash (PlanAt.Refused Refusal.SpiRead) e refl l)
  request_answered b c (turned e) l = absurd (clash (PlanAt.Refused Refusal.BadNumber) e refl l)

  pub request_failed : (rx : List ℕ) → Requests n p → is_over (outcome_of p) ≡ false → (step_of p Answer.Failed rx).at ≡ PlanAt.Refused Refusal.SpiRead
  request_failed rx (reads i e) l = ap (λ (y : Plan). (step_of y Answer.Failed rx).at) e ∙ ap (λ (y : Plan). y.at) (read_failed n rx)
  request_failed rx (writes i w s e) l =
      ap (λ (y : Plan). (step_of y Answer.Failed rx).at) e ∙ ap (λ (y : Plan). y.at) (write_failed n (CiFIFOCON.address n) w rx)
  request_failed rx (ends e) l = absurd (clash PlanAt.Done e refl l)
  request_failed rx (fails e) l = absurd (clash (PlanAt.Refused Refusal.SpiRead) e refl l)
  request_failed rx (turned e) l = absurd (clash (PlanAt.Refused Refusal.BadNumber) e refl l)

  -- it never waits, and its outcome is never 3, 25 or 26
  pub request_asks : Requests n p → waits (ask_of p) ≡ false
  request_asks (reads i e) = ap (λ (y : Plan). waits (ask_of y)) e
  request_asks (writes i w s e) = ap (λ (y : Plan). waits (ask_of y)) e
  request_asks (ends e) = ap (λ (x : PlanAt). waits (ask_at x)) e
  request_asks (fails e) = ap (λ (x : PlanAt). waits (ask_at x)) e
  request_asks (turned e) = ap (λ (x : PlanAt). waits (ask_at x)) e

  pub request_ordinary : Requests n p → is_over (outcome_of p) ≡ true → Ordinary (outcome_of p)
  request_ordinary (reads i e) l = absurd (false≢true (sym (ap (λ (y : Plan). is_over (outcome_of y)) e) ∙ l))
  request_ordinary (writes i w s e) l = absurd (false≢true (sym (ap (λ (y : Plan). is_over (outcome_of y)) e) ∙ l))
  request_ordinary (ends e) l = subst (λ (x : PlanAt). Ordinary (outcome_at x)) (sym e) tt
  request_ordinary (fails e) l = subst (λ (x : PlanAt). Ordinary (outcome_at x)) (sym e) refl
  request_ordinary (turned e) l = subst (λ (x : PlanAt). Ordinary (outcome_at x)) (sym e) refl
