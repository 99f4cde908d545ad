-- A plan, as the definitions speak of it.
-- Assumes nothing.
use Rattle.std.specs.Prelude.{ℕ, List}
use Rattle.spi.specs.declared.refusal.Refusal.{Refusal}
use Rattle.plan.specs.declared.item.Item.{Item}
use Rattle.plan.specs.PlanAt.{PlanAt}

-- `failed` is what a failed exchange means to the call; the item at place `next` comes after the one that is under way
pub record Plan : Type 0 where
  pub failed : Refusal
  pub items : List Item
  pub next : ℕ
  pub at : PlanAt
