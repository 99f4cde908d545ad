-- Each answer uses up one turn of a plan at least, and it asks for nothing exactly if none is left.
-- Assumes nothing.
use Prim.Native.Nat.{ℕ, ◌+◌, ◌-◌, ◌*◌, ◌≤◌}
use native.Mathlib.Omega.{arith}
use mathlib.Core.Path.{◌≡◌, refl, sym}
use mathlib.Core.Bool.{true, false, false≢true}
use mathlib.Core.Logic.{◌↔◌}
use mathlib.Core.List.{List}
use lib.ListN.{length, drop}
use lib.Dec.{eqb}
use borrow.Author.Tests.{eqb-false}
use Rattle.laws.proofs.Choice.{by_if}
use Rattle.spi.specs.declared.refusal.Refusal.{Refusal}
use Rattle.spi.specs.declared.ask.Ask.{Ask}
use Rattle.spi.specs.declared.ask.Answer.{Answer}
use Rattle.spi.specs.Reply.{word_reply, done_reply, wait_reply}
use Rattle.spi.proofs.Talks.{by_word, by_done, still_asks}
use Rattle.plan.specs.declared.item.Item.{Item}
use Rattle.plan.specs.PlanAt.{PlanAt}
use Rattle.plan.specs.Plan.{Plan}
use Rattle.plan.specs.Move.{Move}
use Rattle.plan.specs.Item.{shown, echo_word, is_there}
use Rattle.plan.specs.Step.{begun, after_poll, after_echo, next_at, arrived_at, moved_to, step_of, ask_at, ask_of}
use Rattle.plan.specs.Talk.{asks_of, all_asks, item_left, plan_left}
use Rattle.plan.proofs.Runs.{arrives}

-- ---- the next item has all the turns of the items that are left

begun_left : (item : Item) (n : ℕ) → is_there item ≡ true → item_left (begun item) n ≡ asks_of item + n
begun_left (Item.Change c) n e = refl
begun_left (Item.Poll p more) n e = refl
begun_left Item.Echo n e = refl
begun_left Item.Nothing n e = absurd (false≢true e)

idle_left : (item : Item) (n : ℕ) → is_there item ≡ false → n ≡ asks_of item + n
idle_left (Item.Change c) n e = absurd (false≢true (sym e))
idle_left (Item.Poll p more) n e = absurd (false≢true (sym e))
idle_left Item.Echo n e = absurd (false≢true (sym e))
idle_left Item.Nothing n e = omega arith

arrive_left : (failed : Refusal) (items : List Item) (i : ℕ) → plan_left (arrived_at failed items i) ≡ all_asks (drop i items)
arrive_left failed items =
    arrives failed items (λ r. item_left) (λ r. all_asks) (λ k. refl) (λ x xs h. begun_left x _ h) (λ x xs h. idle_left x _ h)

-- ---- an answer

module _ (n : ℕ) where
  abbrev move_left : Move → ℕ
  move_left (Move.To at) = item_left at n
  move_left Move.Next = n

  -- one turn less than so many, at most
  abbrev Falls : ℕ → Move → Type 0
  Falls m x = move_left x ≤ m - 1

  move_left_lem : (failed : Refusal) (at : PlanAt) (a : Answer) (rx : List ℕ) → Falls (item_left at n) (next_at failed at a rx)
  unfolding after_poll after_echo
  move_left_lem failed (PlanAt.Read c) a rx = by_word (Falls (2 + n)) (λ r. omega arith) (word_reply failed a rx) (λ w. omega arith)
  move_left_lem failed (PlanAt.Write address word) a rx = by_done (Falls (1 + n)) (λ r. omega arith) (done_reply failed a (length rx) 0) (omega arith)
  move_left_lem failed (PlanAt.Poll p more) a rx =
      let m = 1 + 2 * more + n in
      by_word (Falls m) (λ r. omega arith) (word_reply failed a rx)
      (λ w. by_if (Falls m) (shown p w) (λ e. omega arith) (λ e. by_if (Falls m) (eqb more 0) (λ d. omega arith) (λ d. omega (arith, eqb-false more 0 d))))
  move_left_lem failed (PlanAt.Wait p more) a rx = by_done (Falls (2 + 2 * more + n)) (λ r. omega arith) (wait_reply a (length rx)) (omega arith)
  move_left_lem failed (PlanAt.EchoWrite left) a rx =
      by_done (Falls (2 + 2 * left + n)) (λ r. omega arith) (done_reply failed a (length rx) 0) (omega arith)
  move_left_lem failed (PlanAt.EchoRead left) a rx =
      let m = 1 + 2 * left + n in
      by_word (Falls m) (λ r. omega arith) (word_reply failed a rx)
      (λ w. by_if (Falls m) (eqb w (echo_word left))
      (λ e. by_if (Falls m) (eqb left 0) (λ d. omega arith) (λ d. omega (arith, eqb-false left 0 d))) (λ e. omega arith))
  move_left_lem failed PlanAt.Done a rx = omega arith
  move_left_lem failed (PlanAt.Refused r) a rx = omega arith

moved_left : (s : Plan) (m : Move) → plan_left (moved_to s m) ≡ move_left (all_asks (drop s.next s.items)) m
moved_left s (Move.To at) = refl
moved_left s Move.Next = arrive_left s.failed s.items s.next

pub plan_falls : (s : Plan) (a : Answer) (rx : List ℕ) → plan_left (step_of s a rx) ≤ plan_left s - 1
unfolding step_of
plan_falls s a rx = rw moved_left (move_left_lem _ s.failed s.at a rx)

-- ---- the end

over_at : (at : PlanAt) (n : ℕ) → (item_left at n ≡ 0) ↔ (ask_at at ≡ Ask.Nothing)
over_at (PlanAt.Read c) n = still_asks (omega arith) refl
over_at (PlanAt.Write address word) n = still_asks (omega arith) refl
over_at (PlanAt.Poll p more) n = still_asks (omega arith) refl
over_at (PlanAt.Wait p more) n = still_asks (omega arith) refl
over_at (PlanAt.EchoWrite left) n = still_asks (omega arith) refl
over_at (PlanAt.EchoRead left) n = still_asks (omega arith) refl
over_at PlanAt.Done n = (λ e. refl, λ e. refl)
over_at (PlanAt.Refused r) n = (λ e. refl, λ e. refl)

pub plan_over : (s : Plan) → (plan_left s ≡ 0) ↔ (ask_of s ≡ Ask.Nothing)
plan_over s = over_at s.at _
