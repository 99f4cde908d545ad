-- A plan as the line sees it: its items, one after the other.
-- Assumes nothing.
use Rattle.std.specs.Prelude.{ℕ, zero, suc, ◌+◌, ◌*◌, List, [], ◌∷◌, drop, eqb, if◌then◌else◌}
use Rattle.spi.specs.declared.refusal.Refusal.{Refusal}
use Rattle.spi.specs.Talk.{Talk, done, refused, read_word, write_word, pause}
use Rattle.call.specs.declared.Outcome.{Outcome}
use Rattle.plan.specs.declared.change.Change.{Change}
use Rattle.plan.specs.declared.item.Poll.{Poll}
use Rattle.plan.specs.declared.item.Item.{Item}
use Rattle.plan.specs.PlanAt.{PlanAt}
use Rattle.plan.specs.Plan.{Plan}
use Rattle.plan.specs.Change.{modified}
use Rattle.plan.specs.Item.{address_of, shown, late_of, echo_word}

-- a register is read, and written as changed
abbrev pub change_talk : Refusal → Change → Talk Outcome → Talk Outcome
change_talk failed c k = read_word failed c.address (λ w. write_word failed c.address (modified c w) k)

-- a poll; where it does not show what is waited for, a wait and another poll, as often as there are polls left
unfoldable pub poll_talk : Refusal → Poll → ℕ → Talk Outcome → Talk Outcome
poll_talk failed p zero k = read_word failed (address_of p) (λ w. if shown p w then k else refused (late_of p))
poll_talk failed p (suc more) k = read_word failed (address_of p) (λ w. if shown p w then k else pause (poll_talk failed p more k))

-- a word that was written is read back
abbrev pub read_back : Refusal → ℕ → Talk Outcome → Talk Outcome
read_back failed word k = read_word failed 0x400 (λ w. if eqb w word then k else refused Refusal.SpiFailedRamEcho)

-- what comes after the echo of a word: the next one, as long as bits are left
unfoldable pub echo_rest : Refusal → ℕ → Talk Outcome → Talk Outcome
echo_rest failed zero k = k
echo_rest failed (suc left) k = write_word failed 0x400 (echo_word left) (read_back failed (echo_word left) (echo_rest failed left k))

abbrev pub echo_talk : Refusal → ℕ → Talk Outcome → Talk Outcome
echo_talk failed left k = write_word failed 0x400 (echo_word left) (read_back failed (echo_word left) (echo_rest failed left k))

-- the rest of an item from where it stands; k comes after it
abbrev pub talk_at : Refusal → PlanAt → Talk Outcome → Talk Outcome
talk_at failed (PlanAt.Read c) k = change_talk failed c k
talk_at failed (PlanAt.Write address word) k = write_word failed address word k
talk_at failed (PlanAt.Poll p more) k = poll_talk failed p more k
talk_at failed (PlanAt.Wait p more) k = pause (poll_talk failed p more k)
talk_at failed (PlanAt.EchoWrite left) k = echo_talk failed left k
talk_at failed (PlanAt.EchoRead left) k = read_back failed (echo_word left) (echo_rest failed left k)
talk_at failed PlanAt.Done k = done Outcome.Done
talk_at failed (PlanAt.Refused r) k = refused r

-- an item, and what comes after it
abbrev pub item_talk : Refusal → Item → Talk Outcome → Talk Outcome
item_talk failed (Item.Change c) k = change_talk failed c k
item_talk failed (Item.Poll p more) k = poll_talk failed p more k
item_talk failed Item.Echo k = echo_talk failed 31 k
item_talk failed Item.Nothing k = k

-- the items one after the other
unfoldable pub plan_talk : Refusal → List Item → Talk Outcome
plan_talk failed [] = done Outcome.Done
plan_talk failed (item ∷ items) = item_talk failed item (plan_talk failed items)

-- the rest of a plan
abbrev pub talk_of : Plan → Talk Outcome
talk_of s = talk_at s.failed s.at (plan_talk s.failed (drop s.next s.items))

-- how often an item, and all of them, ask
abbrev pub asks_of : Item → ℕ
asks_of (Item.Change c) = 2
asks_of (Item.Poll p more) = 1 + 2 * more
asks_of Item.Echo = 64
asks_of Item.Nothing = 0

abbrev pub all_asks : List Item → ℕ
all_asks [] = 0
all_asks (item ∷ items) = asks_of item + all_asks items

-- how often a plan may still ask, by where its item stands and how many asks are behind it; after the end none
abbrev pub item_left : PlanAt → (behind : ℕ) → ℕ
item_left (PlanAt.Read c) behind = 2 + behind
item_left (PlanAt.Write address word) behind = 1 + behind
item_left (PlanAt.Poll p more) behind = 1 + 2 * more + behind
item_left (PlanAt.Wait p more) behind = 2 + 2 * more + behind
item_left (PlanAt.EchoWrite left) behind = 2 + 2 * left + behind
item_left (PlanAt.EchoRead left) behind = 1 + 2 * left + behind
item_left PlanAt.Done behind = 0
item_left (PlanAt.Refused r) behind = 0

abbrev pub plan_left : Plan → ℕ
plan_left s = item_left s.at (all_asks (drop s.next s.items))
