-- A plan as numbers: the plan that they, and the words in the body, stand for.
-- Assumes nothing.
use Rattle.std.specs.Prelude.{ℕ, ◌*◌, ◌≡◌, true, List, [], ◌∷◌, eqb, if◌then◌else◌}
use Rattle.field.specs.Field.{flag}
use Rattle.words.specs.Words.{le_at}
use Rattle.chip.specs.OscillatorControl.{PLLEN}
use Rattle.interrupt.specs.Interrupt.{IE}
use Rattle.interrupt.specs.declared.Cause.{Cause}
use Rattle.spi.specs.declared.refusal.Refusal.{Refusal}
use Rattle.plan.specs.declared.change.Change.{Change}
use Rattle.plan.specs.declared.item.Poll.{Poll}
use Rattle.plan.specs.declared.item.Item.{Item}
use Rattle.plan.specs.PlanAt.{PlanAt}
use Rattle.plan.specs.Plan.{Plan}
use Rattle.plan.specs.Step.{filled}
use Rattle.changes.specs.Changes.{when_asked, mode_change, oscillator_to, io_to, nominal_to, data_to, delay_to, stef_change, txqen_change, counter_change, dncnt_to, rtxat_change, interrupt_to}
use Rattle.areas.specs.Areas.{enable_change, queue_to, off_change, object_to, mask_to, on_to}
use Rattle.configure.specs.declared.planned.PlanKind.{PlanKind}
use Rattle.configure.specs.declared.planned.PlanStage.{PlanStage}
use Rattle.configure.specs.declared.planned.PlanNumbers.{PlanNumbers}

-- what a failed exchange means to a plan of a kind
abbrev pub failed_in : PlanKind → Refusal
failed_in PlanKind.Nothing = Refusal.SpiRead
failed_in PlanKind.One = Refusal.SpiRead
failed_in PlanKind.Io = Refusal.ConfigurationModeTimeout
failed_in PlanKind.Verify = Refusal.ConfigurationModeTimeout
failed_in PlanKind.Mode = Refusal.ConfigurationModeTimeout
failed_in PlanKind.Oscillator = Refusal.ConfigurationModeTimeout
failed_in PlanKind.Timing = Refusal.ConfigurationModeTimeout
failed_in PlanKind.Filter = Refusal.SpiRead
failed_in PlanKind.Queue = Refusal.ConfigurationModeTimeout
failed_in PlanKind.Configure = Refusal.ConfigurationModeTimeout

-- what it is refused by where a mode does not come
abbrev pub late_in : PlanKind → Refusal
late_in PlanKind.Nothing = Refusal.ChangeOpModeTimeout
late_in PlanKind.One = Refusal.ChangeOpModeTimeout
late_in PlanKind.Io = Refusal.ChangeOpModeTimeout
late_in PlanKind.Verify = Refusal.ChangeOpModeTimeout
late_in PlanKind.Mode = Refusal.ChangeOpModeTimeout
late_in PlanKind.Oscillator = Refusal.ChangeOpModeTimeout
late_in PlanKind.Timing = Refusal.ChangeOpModeTimeout
late_in PlanKind.Filter = Refusal.ChangeOpModeTimeout
late_in PlanKind.Queue = Refusal.ChangeOpModeTimeout
late_in PlanKind.Configure = Refusal.ConfigurationModeTimeout

-- the poll of a mode
abbrev pub poll_in : PlanNumbers → Poll
poll_in c = Poll.Mode c.n (late_in c.kind)

-- ---- the items

-- a word of the body, little-endian
unfoldable pub word : ℕ → List ℕ → ℕ
word k body = le_at body (4 * k)

-- the PLL is waited for where these bits turn it on
abbrev pub pll_for : ℕ → Item
pll_for bits = when_asked (flag PLLEN bits) (Item.Poll Poll.Pll 2)

-- by kind. A plan with one change has it under way from its beginning on; of the others the bits to set are words of the body
unfoldable pub items_for : PlanKind → ℕ → Change → List ℕ → List Item
items_for PlanKind.Nothing n x body = []
items_for PlanKind.One n x body = Item.Change x ∷ []
items_for PlanKind.Io n x body = Item.Change x ∷ []
items_for PlanKind.Verify n x body = Item.Echo ∷ []
items_for PlanKind.Mode n x body = Item.Change x ∷ Item.Poll (Poll.Mode n Refusal.ChangeOpModeTimeout) 4 ∷ []
items_for PlanKind.Oscillator n x body = Item.Change x ∷ pll_for x.set ∷ []
items_for PlanKind.Timing n x body = Item.Change (nominal_to (word 0 body)) ∷ Item.Change (data_to (word 1 body)) ∷ Item.Change (delay_to (word 2 body)) ∷ []
items_for PlanKind.Filter n x body =
    Item.Change (off_change n)
    ∷ Item.Change (object_to n (word 0 body))
    ∷ Item.Change (mask_to n (word 1 body))
    ∷ Item.Change (on_to n (word 2 body))
    ∷ []
items_for PlanKind.Queue n x body = Item.Change (enable_change true) ∷ Item.Change (queue_to (word 0 body)) ∷ []
items_for PlanKind.Configure n x body =
    Item.Change (mode_change 4)
    ∷ Item.Poll (Poll.Mode n Refusal.ConfigurationModeTimeout) 4
    ∷ Item.Echo
    ∷ Item.Change (oscillator_to (word 0 body))
    ∷ pll_for (word 0 body)
    ∷ Item.Change (io_to (word 1 body))
    ∷ Item.Change (nominal_to (word 2 body))
    ∷ Item.Change (data_to (word 3 body))
    ∷ Item.Change (delay_to (word 4 body))
    ∷ Item.Change stef_change
    ∷ Item.Change txqen_change
    ∷ when_asked (flag (IE Cause.Tbc) (word 6 body)) (Item.Change counter_change)
    ∷ (if eqb (word 5 body) 0 then Item.Nothing else Item.Change (dncnt_to (word 5 body)))
    ∷ Item.Change rtxat_change
    ∷ Item.Change (interrupt_to (word 6 body))
    ∷ []

abbrev pub items_in : PlanNumbers → List ℕ → List Item
items_in c body = items_for c.kind c.n c.change body

-- ---- the plan

-- where it stands
abbrev pub place_at : PlanStage → PlanNumbers → PlanAt
place_at PlanStage.Read c = PlanAt.Read c.change
place_at PlanStage.Write c = PlanAt.Write c.change.address c.w
place_at PlanStage.ModePoll c = PlanAt.Poll (poll_in c) c.more
place_at PlanStage.ModeWait c = PlanAt.Wait (poll_in c) c.more
place_at PlanStage.PllPoll c = PlanAt.Poll Poll.Pll c.more
place_at PlanStage.PllWait c = PlanAt.Wait Poll.Pll c.more
place_at PlanStage.EchoWrite c = PlanAt.EchoWrite c.more
place_at PlanStage.EchoRead c = PlanAt.EchoRead c.more
place_at PlanStage.Done c = PlanAt.Done
place_at PlanStage.Refused c = PlanAt.Refused c.why

abbrev pub place_in : PlanNumbers → PlanAt
place_in c = place_at c.stage c

unfoldable pub plan_in : PlanNumbers → List ℕ → Plan
plan_in c body = record { failed = failed_in c.kind; items = filled (items_in c body); next = c.next; at = place_in c }

-- numbers that stand for a plan whatever lies in the body
abbrev pub Stands : PlanNumbers → Plan → Type 0
Stands c p = (body : List ℕ) → plan_in c body ≡ p
