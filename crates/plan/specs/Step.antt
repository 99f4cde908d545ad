-- A plan, step by step.
-- Assumes nothing.
use Rattle.std.specs.Prelude.{ℕ, ◌+◌, ◌-◌, List, [], ◌∷◌, ◌++◌, length, drop, replicate, eqb, if◌then◌else◌}
use Rattle.spi.specs.declared.refusal.Refusal.{Refusal}
use Rattle.spi.specs.declared.ask.Ask.{Ask}
use Rattle.spi.specs.declared.ask.Answer.{Answer}
use Rattle.spi.specs.Reply.{word_reply, done_reply, wait_reply}
use Rattle.spi.specs.Talk.{on_word, on_done}
use Rattle.call.specs.declared.Outcome.{Outcome}
use Rattle.plan.specs.declared.item.Poll.{Poll}
use Rattle.plan.specs.declared.item.Item.{Item}
use Rattle.plan.specs.PlanAt.{PlanAt}
use Rattle.plan.specs.Plan.{Plan}
use Rattle.plan.specs.Move.{Move}
use Rattle.plan.specs.Change.{modified}
use Rattle.plan.specs.Item.{address_of, shown, late_of, echo_word, is_there}

-- where an item begins
abbrev pub begun : Item → PlanAt
begun (Item.Change c) = PlanAt.Read c
begun (Item.Poll p more) = PlanAt.Poll p more
begun Item.Echo = PlanAt.EchoWrite 31
begun Item.Nothing = PlanAt.Done

unfoldable pub after_poll : Poll → (more w : ℕ) → Move
after_poll p more w =
    if shown p w then Move.Next
    else if eqb more 0 then Move.To (PlanAt.Refused (late_of p))
    else Move.To (PlanAt.Wait p (more - 1))

unfoldable pub after_echo : (left w : ℕ) → Move
after_echo left w =
    if eqb w (echo_word left) then if eqb left 0 then Move.Next else Move.To (PlanAt.EchoWrite (left - 1))
    else Move.To (PlanAt.Refused Refusal.SpiFailedRamEcho)

-- a refusal ends the plan
abbrev pub stopped : Refusal → Move
stopped r = Move.To (PlanAt.Refused r)

-- after an answer: another phase of the item, or the next item
abbrev pub next_at : Refusal → PlanAt → Answer → List ℕ → Move
next_at failed (PlanAt.Read c) a rx = on_word stopped (word_reply failed a rx) (λ w. Move.To (PlanAt.Write c.address (modified c w)))
next_at failed (PlanAt.Write address word) a rx = on_done stopped (done_reply failed a (length rx) 0) Move.Next
next_at failed (PlanAt.Poll p more) a rx = on_word stopped (word_reply failed a rx) (after_poll p more)
next_at failed (PlanAt.Wait p more) a rx = on_done stopped (wait_reply a (length rx)) (Move.To (PlanAt.Poll p more))
next_at failed (PlanAt.EchoWrite left) a rx = on_done stopped (done_reply failed a (length rx) 0) (Move.To (PlanAt.EchoRead left))
next_at failed (PlanAt.EchoRead left) a rx = on_word stopped (word_reply failed a rx) (after_echo left)
next_at failed PlanAt.Done a rx = stopped Refusal.WrongAnswer
next_at failed (PlanAt.Refused r) a rx = stopped Refusal.WrongAnswer

-- the place of the first of these items, the first of them at place i, that does anything
abbrev pub place_from : ℕ → List Item → ℕ
place_from i [] = i
place_from i (x ∷ xs) = if is_there x then i else place_from (i + 1) xs

-- the plan at the item at place i, these items being there from i on
abbrev pub standing : Refusal → List Item → ℕ → List Item → Plan
standing failed items i [] = record { failed = failed; items = items; next = i; at = PlanAt.Done }
standing failed items i (x ∷ xs) = record { failed = failed; items = items; next = i + 1; at = begun x }

-- the plan at the first item from a place on that does anything, or at its end
unfoldable pub arrived_at : Refusal → List Item → ℕ → Plan
arrived_at failed items from = let i = place_from from (drop from items) in standing failed items i (drop i items)

-- the fifteen items of a plan: these, and nothing behind them
abbrev pub filled : List Item → List Item
filled items = items ++ replicate (15 - length items) Item.Nothing

-- a plan at its beginning
abbrev pub plan_of : Refusal → List Item → Plan
plan_of failed items = arrived_at failed (filled items) 0

-- a plan that is refused before it asks for anything
abbrev pub refused_plan : Refusal → Plan
refused_plan r = record { failed = Refusal.SpiRead; items = filled []; next = 0; at = PlanAt.Refused r }

abbrev pub moved_to : Plan → Move → Plan
moved_to s (Move.To at) = record { failed = s.failed; items = s.items; next = s.next; at = at }
moved_to s Move.Next = arrived_at s.failed s.items s.next

unfoldable pub step_of : Plan → Answer → List ℕ → Plan
step_of s a rx = moved_to s (next_at s.failed s.at a rx)

-- what is asked where the plan stands
abbrev pub ask_at : PlanAt → Ask
ask_at (PlanAt.Read c) = Ask.Read c.address 4
ask_at (PlanAt.Write address word) = Ask.Word address word
ask_at (PlanAt.Poll p more) = Ask.Read (address_of p) 4
ask_at (PlanAt.Wait p more) = Ask.Wait
ask_at (PlanAt.EchoWrite left) = Ask.Word 0x400 (echo_word left)
ask_at (PlanAt.EchoRead left) = Ask.Read 0x400 4
ask_at PlanAt.Done = Ask.Nothing
ask_at (PlanAt.Refused r) = Ask.Nothing

abbrev pub ask_of : Plan → Ask
ask_of s = ask_at s.at

abbrev pub outcome_at : PlanAt → Outcome
outcome_at (PlanAt.Read c) = Outcome.Running
outcome_at (PlanAt.Write address word) = Outcome.Running
outcome_at (PlanAt.Poll p more) = Outcome.Running
outcome_at (PlanAt.Wait p more) = Outcome.Running
outcome_at (PlanAt.EchoWrite left) = Outcome.Running
outcome_at (PlanAt.EchoRead left) = Outcome.Running
outcome_at PlanAt.Done = Outcome.Done
outcome_at (PlanAt.Refused r) = Outcome.Refused r

abbrev pub outcome_of : Plan → Outcome
outcome_of s = outcome_at s.at
