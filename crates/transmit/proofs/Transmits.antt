-- The code's transmit follows its talk, push and then request, whatever is answered.
-- Assumes nothing.
use Prim.Native.Nat.{ℕ, ◌^◌, ◌<◌}
use mathlib.Core.Path.{◌≡◌, refl, ap, ap₂, ◌∙◌}
use mathlib.Core.Bool.{true}
use mathlib.Core.List.{List, [], ◌∷◌}
use native.Mathlib.Omega.{arith}
use Rattle.std.specs.Prelude.{if◌then◌else◌}
use Rattle.laws.proofs.Choice.{by_if}
use Rattle.field.specs.Field.{mark}
use Rattle.field.specs.Settings.{◌:=◌}
use Rattle.fifo.specs.Control.{CiFIFOCON, TXREQ, is_fifo}
use Rattle.header.specs.declared.Header.{Header}
use Rattle.message.specs.Message.{Encoding, encoding}
use Rattle.message.specs.Structs.{object_in}
use Rattle.spi.specs.Talk.{Talk, done, refused, ask, and_then, asks, answered, run, Within, Follows}
use Rattle.spi.specs.declared.refusal.Refusal.{Refusal}
use Rattle.spi.specs.declared.ask.Answer.{Answer}
use Rattle.spi.proofs.Talks.{if_ap, runs, if_within, then_within}
use Rattle.call.specs.Outcome.{ended}
use Rattle.call.specs.declared.Outcome.{Outcome}
use Rattle.plan.specs.Change.{modified}
use Rattle.plan.specs.Talk.{plan_talk, talk_of as plan_talk_of}
use Rattle.plan.specs.declared.item.Item.{Item}
use Rattle.plan.proofs.Changes.{change_sets_lem}
use Rattle.plan.proofs.Runs as machine
use Rattle.transmit.specs.Transmit.{Transmit, request_change, request_start, request_call, queue_request_start, queue_request_call, transmit_start, transmit_ask, transmit_step, transmit_outcome, transmit_call, transmit_talk_of}
use Rattle.tx_fifo.specs.Step.{to_send, step_of, is_done}
use Rattle.tx_fifo.specs.Talk.{push_call, talk_of}
use Rattle.tx_fifo.proofs.Runs as push
use Rattle.tx_fifo.proofs.Runs.{finished, kept}

-- ---- one call and then another: of the first until it is done, then of the second

abbrev both : {A B : Type 0} → Talk A → Talk B → Talk B
both t k = and_then t (λ x. k)

then_answered : {A B : Type 0} (t : Talk A) (k : Talk B) (a : Answer) (rx : List ℕ)
    → (if finished t then both t (answered k a rx) else both (answered t a rx) k) ≡ answered (both t k) a rx
unfolding and_then answered
then_answered (done x) k a rx = refl
then_answered (refused r) k a rx = refl
then_answered (ask q t) k a rx = refl

then_asks : {A B : Type 0} (t : Talk A) (k : Talk B) → (if finished t then asks k else asks t) ≡ asks (both t k)
unfolding and_then
then_asks (done x) k = refl
then_asks (refused r) k = refl
then_asks (ask q t) k = refl

then_ended : {A : Type 0} (f : A → Outcome) (t k : Talk A) → (if finished t then ended f k else ended f t) ≡ ended f (both t k)
unfolding and_then
then_ended f (done x) k = refl
then_ended f (refused r) k = refl
then_ended f (ask q t) k = refl

-- ---- request

pub request_talk : (fifo : ℕ) → plan_talk_of (request_start fifo) ≡ request_call fifo
unfolding request_start request_call plan_talk
request_talk fifo =
    if_ap plan_talk_of (is_fifo fifo) _ _
    ∙ ap (λ t. if is_fifo fifo then t else refused Refusal.BadNumber) (machine.start_talk Refusal.SpiRead (Item.Change (request_change fifo) ∷ []))

pub request_bound : (fifo : ℕ) → Within 2 (request_call fifo)
unfolding request_call plan_talk
request_bound fifo = if_within 2 (is_fifo fifo) _ _ (machine.bound Refusal.SpiRead (Item.Change (request_change fifo) ∷ [])) tt

pub queue_request_talk : plan_talk_of queue_request_start ≡ queue_request_call
unfolding queue_request_start queue_request_call plan_talk
queue_request_talk = machine.start_talk Refusal.SpiRead (Item.Change (request_change 0) ∷ [])

pub queue_request_bound : Within 2 queue_request_call
unfolding queue_request_call plan_talk
queue_request_bound = machine.bound Refusal.SpiRead (Item.Change (request_change 0) ∷ [])

-- the word that is written is the word read, with TXREQ 1
pub request_word : (fifo w : ℕ) → w < 2 ^ 32 → modified (request_change fifo) w ≡ mark TXREQ true w
request_word fifo w l = change_sets_lem (CiFIFOCON.address fifo) (TXREQ := 1 ∷ []) w l (omega arith, tt)

-- ---- transmit

module _ (s : Transmit) where
  abbrev first : Talk Outcome
  first = talk_of s.push

  abbrev second : Talk Outcome
  second = plan_talk_of s.request

  -- the code chooses as the talk does
  chosen : {T : Type 0} {x y x' y' : T} → x ≡ x' → y ≡ y' → (if is_done s.push then x else y) ≡ (if finished first then x' else y')
  chosen {x' = x'} {y' = y'} d e =
      ap₂ (λ x y. if is_done s.push then x else y) d e ∙ ap (λ b. if b then x' else y') (push.done_exactly s.push)

  stepped : (a : Answer) (rx : List ℕ) → transmit_talk_of (transmit_step s a rx) ≡ answered (transmit_talk_of s) a rx
  unfolding transmit_talk_of transmit_step
  stepped a rx =
      if_ap transmit_talk_of (is_done s.push) _ _
      ∙ chosen (ap (both first) ((machine.follows).stepped s.request a rx)) (ap (λ t. both t second) ((push.follows).stepped s.push a rx))
      ∙ then_answered first second a rx

  asked : transmit_ask s ≡ asks (transmit_talk_of s)
  unfolding transmit_talk_of transmit_ask
  asked = chosen ((machine.follows).asked s.request) ((push.follows).asked s.push) ∙ then_asks first second

  pub outcome_talk : transmit_outcome s ≡ ended (λ (o : Outcome). o) (transmit_talk_of s)
  unfolding transmit_talk_of transmit_outcome
  outcome_talk = chosen (machine.outcome_talk s.request) (push.outcome_talk s.push) ∙ then_ended (λ o. o) first second

pub follows : Follows transmit_step transmit_ask transmit_talk_of
follows = record { stepped = stepped; asked = asked }

pub run_talk : (s : Transmit) (xs : List (Answer × List ℕ)) → transmit_talk_of (run transmit_step s xs) ≡ run answered (transmit_talk_of s) xs
run_talk = runs transmit_step transmit_ask transmit_talk_of follows

pub start_talk : (fifo : ℕ) (h : Header) (seq : ℕ) (p : List ℕ) → transmit_talk_of (transmit_start fifo h seq p) ≡ transmit_call fifo h seq p
unfolding transmit_talk_of transmit_start transmit_call
start_talk fifo h seq p = ap₂ both (push.start_talk fifo h seq p) (request_talk fifo)

pub bound : (fifo : ℕ) (h : Header) (seq : ℕ) (p : List ℕ) → Within 7 (transmit_call fifo h seq p)
unfolding transmit_call
bound fifo h seq p = then_within 5 2 7 (push_call fifo h seq p) (λ x. request_call fifo) (omega arith) (push.bound fifo h seq p) (λ x. request_bound fifo)

-- ---- what is written to RAM

-- all the while the call has the object that its message is written as
pub object_carried : (fifo : ℕ) (h : Header) (seq : ℕ) (p bs : List ℕ) (xs : List (Answer × List ℕ))
    → is_fifo fifo ≡ true → encoding (to_send h seq p) ≡ Encoding.object bs → (run transmit_step (transmit_start fifo h seq p) xs).push.object ≡ object_in bs
unfolding run transmit_start transmit_step step_of
object_carried fifo h seq p bs xs f e =
    kept transmit_step (λ s. s.push.object)
    (λ s a rx. by_if (λ (t : Transmit). t.push.object ≡ s.push.object) (is_done s.push) (λ x. refl) (λ x. refl)) (transmit_start fifo h seq p) xs
    ∙ push.object_carried fifo h seq p bs [] f e
