-- What a plan does after an answer.
-- Assumes nothing.
use Rattle.plan.specs.PlanAt.{PlanAt}

-- another phase of the item, or the next item
pub data Move : Type 0 where
  To : PlanAt → Move
  Next : Move
