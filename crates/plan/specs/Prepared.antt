-- A call that is a plan: what it is ready to do, or its refusal before any exchange.
-- Assumes nothing.
use Rattle.std.specs.Prelude.{ℕ, ◌-◌, ◌^◌, List, [], ◌∷◌, ltb, if◌then◌else◌}
use Rattle.spi.specs.declared.refusal.Refusal.{Refusal}
use Rattle.spi.specs.Talk.{Talk, refused}
use Rattle.call.specs.declared.Outcome.{Outcome}
use Rattle.plan.specs.declared.item.Item.{Item}
use Rattle.plan.specs.Plan.{Plan}
use Rattle.plan.specs.Step.{plan_of, refused_plan}
use Rattle.plan.specs.Talk.{plan_talk, all_asks}

-- `ready failed items`: a failed exchange is refused by `failed`
pub data Prepared : Type 0 where
  ready : Refusal → List Item → Prepared
  turned_down : Refusal → Prepared

-- its plan, its talk, and how often it asks
abbrev pub plan_for : Prepared → Plan
plan_for (ready failed items) = plan_of failed items
plan_for (turned_down r) = refused_plan r

abbrev pub talk_for : Prepared → Talk Outcome
talk_for (ready failed items) = plan_talk failed items
talk_for (turned_down r) = refused r

abbrev pub asks_for : Prepared → ℕ
asks_for (ready failed items) = all_asks items
asks_for (turned_down r) = 0

-- ---- two calls

-- modify: the word read, without the bits of `clear`, with those of `set`; an address has 12 bits
unfoldable pub modify : (address clear set : ℕ) → Prepared
modify address clear set =
    if ltb address (2 ^ 12) then ready Refusal.SpiRead (Item.Change (record { address = address; keep = 2 ^ 32 - 1 - clear; set = set }) ∷ [])
    else turned_down Refusal.BadSetting

-- the short echo test
abbrev pub verify : Prepared
verify = ready Refusal.ConfigurationModeTimeout (Item.Echo ∷ [])
