-- Where a plan stands after an answer: the numbers say what the definitions say.
-- Assumes nothing.
use Rattle.spi.specs.declared.refusal.Refusal.{Refusal}
use Prim.Native.Nat.{ℕ, ◌-◌}
use mathlib.Core.Path.{◌≡◌, refl, ap, ◌∙◌}
use mathlib.Core.List.{List}
use lib.Dec.{eqb}
use lib.ListN.{length}
use Rattle.std.specs.Prelude.{Option, Some, None, Result, Ok, Err}
use Rattle.laws.proofs.Choice.{by_if}
use Rattle.spi.specs.declared.ask.Answer.{Answer}
use Rattle.spi.specs.Reply.{word_reply, done_reply, wait_reply}
use Rattle.spi.specs.Talk.{on_word, on_done}
use Rattle.plan.specs.declared.item.Poll.{Poll}
use Rattle.plan.specs.PlanAt.{PlanAt}
use Rattle.plan.specs.Plan.{Plan}
use Rattle.plan.specs.Move.{Move}
use Rattle.plan.specs.Item.{shown, echo_word}
use Rattle.plan.specs.Step.{after_poll, after_echo, stopped, next_at, arrived_at, filled, moved_to, step_of}
use Rattle.configure.specs.declared.planned.PlanStage.{PlanStage}
use Rattle.configure.specs.declared.planned.PlanNumbers.{PlanNumbers}
use Rattle.configure.specs.Numbers.{failed_in, poll_in, items_in, place_at, plan_in}
use Rattle.configure.specs.Moves.{moved}

module _ (body : List ℕ) (c : PlanNumbers) where
  -- the plan that a result stands for: where the item under way is done, at the next one
  abbrev after : Result (Option PlanNumbers) Refusal → Plan
  after (Ok (Some p)) = plan_in p body
  after (Ok None) = arrived_at (failed_in c.kind) (filled (items_in c body)) c.next
  after (Err why) = plan_in (record c { stage = PlanStage.Refused; why = why }) body

  -- the numbers after a move stand where the plan stands after it
  abbrev Kept : Move → Type 0
  Kept m = after (moved c m) ≡ moved_to (plan_in c body) m

  on_word_lem : (reply : Result ℕ Refusal) (k : ℕ → Move) → ((w : ℕ) → Kept (k w)) → Kept (on_word stopped reply k)
  unfolding plan_in
  on_word_lem (Ok w) k h = h w
  on_word_lem (Err r) k h = refl

  on_done_lem : (reply : Result (Unit {0}) Refusal) (m : Move) → Kept m → Kept (on_done stopped reply m)
  unfolding plan_in
  on_done_lem (Ok _) m h = h
  on_done_lem (Err r) m h = refl

  poll_kept : (p : Poll) (w : ℕ) → ((n : ℕ) → Kept (Move.To (PlanAt.Wait p n))) → Kept (after_poll p c.more w)
  unfolding plan_in after_poll
  poll_kept p w h = by_if Kept (shown p w) (λ e. refl) (λ e. by_if Kept (eqb c.more 0) (λ d. refl) (λ d. h (c.more - 1)))

  echo_kept : (w : ℕ) → Kept (after_echo c.more w)
  unfolding plan_in after_echo
  echo_kept w = by_if Kept (eqb w (echo_word c.more)) (λ e. by_if Kept (eqb c.more 0) (λ d. refl) (λ d. refl)) (λ e. refl)

  kept : (s : PlanStage) (a : Answer) (rx : List ℕ) → Kept (next_at (failed_in c.kind) (place_at s c) a rx)
  unfolding plan_in
  kept PlanStage.Read a rx = on_word_lem (word_reply _ a rx) _ (λ w. refl)
  kept PlanStage.Write a rx = on_done_lem (done_reply _ a (length rx) 0) _ refl
  kept PlanStage.ModePoll a rx = on_word_lem (word_reply _ a rx) _ (λ w. poll_kept (poll_in c) w (λ n. refl))
  kept PlanStage.ModeWait a rx = on_done_lem (wait_reply a (length rx)) _ refl
  kept PlanStage.PllPoll a rx = on_word_lem (word_reply _ a rx) _ (λ w. poll_kept Poll.Pll w (λ n. refl))
  kept PlanStage.PllWait a rx = on_done_lem (wait_reply a (length rx)) _ refl
  kept PlanStage.EchoWrite a rx = on_done_lem (done_reply _ a (length rx) 0) _ refl
  kept PlanStage.EchoRead a rx = on_word_lem (word_reply _ a rx) _ echo_kept
  kept PlanStage.Done a rx = refl
  kept PlanStage.Refused a rx = refl

  -- a step, by what came of the answer
  pub steps : (a : Answer) (rx : List ℕ) (r : Result (Option PlanNumbers) Refusal) → r ≡ moved c (next_at (failed_in c.kind) (place_at c.stage c) a rx)
      → after r ≡ step_of (plan_in c body) a rx
  unfolding plan_in step_of
  steps a rx r e = ap after e ∙ kept c.stage a rx
