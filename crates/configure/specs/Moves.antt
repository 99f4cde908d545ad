-- The numbers of a plan at another place of it.
-- Assumes nothing.
use Rattle.std.specs.Prelude.{ℕ, ◌+◌, ◌≡◌, List, eqb, length, if◌then◌else◌, Option, Some, None, Result, Ok, Err}
use Rattle.spi.specs.declared.refusal.Refusal.{Refusal}
use Rattle.plan.specs.declared.change.Change.{Change}
use Rattle.plan.specs.declared.item.Poll.{Poll}
use Rattle.plan.specs.declared.item.Item.{Item}
use Rattle.plan.specs.PlanAt.{PlanAt}
use Rattle.plan.specs.Move.{Move}
use Rattle.plan.specs.Step.{begun}
use Rattle.configure.specs.declared.planned.PlanKind.{PlanKind}
use Rattle.configure.specs.declared.planned.PlanStage.{PlanStage}
use Rattle.configure.specs.declared.planned.PlanNumbers.{PlanNumbers}
use Rattle.configure.specs.Numbers.{word, items_in}

-- the stage of a poll, and of the wait before the next one
abbrev pub polls : Poll → PlanStage
polls (Poll.Mode m late) = PlanStage.ModePoll
polls Poll.Pll = PlanStage.PllPoll

abbrev pub waits : Poll → PlanStage
waits (Poll.Mode m late) = PlanStage.ModeWait
waits Poll.Pll = PlanStage.PllWait

-- the numbers at a place
abbrev pub at_place : PlanNumbers → PlanAt → PlanNumbers
at_place c (PlanAt.Read x) = record c { stage = PlanStage.Read; change = x }
at_place c (PlanAt.Write address word) = record c { stage = PlanStage.Write; w = word }
at_place c (PlanAt.Poll p more) = record c { stage = polls p; more = more }
at_place c (PlanAt.Wait p more) = record c { stage = waits p; more = more }
at_place c (PlanAt.EchoWrite left) = record c { stage = PlanStage.EchoWrite; more = left }
at_place c (PlanAt.EchoRead left) = record c { stage = PlanStage.EchoRead; more = left }
at_place c PlanAt.Done = record c { stage = PlanStage.Done }
at_place c (PlanAt.Refused r) = record c { stage = PlanStage.Refused; why = r }

-- those that the item under way goes on with, none where it is done, or what the plan is refused for
abbrev pub goes_on : PlanNumbers → PlanAt → Result (Option PlanNumbers) Refusal
goes_on c (PlanAt.Refused r) = Err r
goes_on c (PlanAt.Read x) = Ok (Some (at_place c (PlanAt.Read x)))
goes_on c (PlanAt.Write address word) = Ok (Some (at_place c (PlanAt.Write address word)))
goes_on c (PlanAt.Poll p more) = Ok (Some (at_place c (PlanAt.Poll p more)))
goes_on c (PlanAt.Wait p more) = Ok (Some (at_place c (PlanAt.Wait p more)))
goes_on c (PlanAt.EchoWrite left) = Ok (Some (at_place c (PlanAt.EchoWrite left)))
goes_on c (PlanAt.EchoRead left) = Ok (Some (at_place c (PlanAt.EchoRead left)))
goes_on c PlanAt.Done = Ok (Some (at_place c PlanAt.Done))

abbrev pub moved : PlanNumbers → Move → Result (Option PlanNumbers) Refusal
moved c (Move.To at) = goes_on c at
moved c Move.Next = Ok None

-- at the beginning of an item, with the place of the one after it
abbrev pub at_item : PlanNumbers → ℕ → Item → PlanNumbers
at_item c next item = at_place (record c { next = next }) (begun item)

-- a plan that begins with a change
abbrev pub begun_with : PlanKind → ℕ → Change → PlanNumbers
begun_with kind n x =
    record { kind = kind; stage = PlanStage.Read; n = n; more = 0; next = 1; change = x; w = 0; why = Refusal.SpiRead }

-- how many items a plan has, whatever lies in the body
abbrev pub Counts : PlanNumbers → ℕ → Type 0
Counts c count = (body : List ℕ) → length (items_in c body) ≡ count

-- word k of a body is w, and every other word is as it was
abbrev pub Stored : (k w : ℕ) (before after : List ℕ) → Type 0
Stored k w before after = (j : ℕ) → word j after ≡ (if eqb j k then w else word j before)

-- three words from word k on
abbrev pub StoredAll : (k u v w : ℕ) (before after : List ℕ) → Type 0
StoredAll k u v w before after =
    (j : ℕ) → word j after ≡ (if eqb j (k + 2) then w else if eqb j (k + 1) then v else if eqb j k then u else word j before)
