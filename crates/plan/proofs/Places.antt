-- Where the next item of a plan stands.
-- Assumes nothing.
use Prim.Native.Nat.{ℕ, ◌+◌, ◌≤◌, ◌<◌}
use mathlib.Core.Path.{◌≡◌, sym, ap, ◌∙◌}
use mathlib.Core.Bool.{Bool}
use mathlib.Core.List.{List, ◌∷◌}
use native.Mathlib.Numerals.{add-one}
use lib.ListN.{length, get_or, drop, drop_of_length-le}
use lib.Seq.{drop-cons}
use Rattle.std.specs.Prelude.{if◌then◌else◌}
use Rattle.plan.specs.declared.item.Item.{Item}
use Rattle.plan.specs.Item.{is_there}
use Rattle.plan.specs.PlanAt.{PlanAt}
use Rattle.spi.specs.declared.refusal.Refusal.{Refusal}
use Rattle.plan.specs.Step.{begun, place_from, standing, arrived_at}

module _ (items : List Item) (i : ℕ) where
  -- the item at place i, whatever stands for those that are not there
  pub cut : (d : Item) → i < length items → drop i items ≡ get_or items i d ∷ drop (i + 1) items
  cut d l = rw (add-one i) (drop-cons items i d l)

  -- whether it does anything tells whether the place is this one
  pub place_at_lem : (b : Bool) (d : Item) → i < length items → is_there (get_or items i d) ≡ b
      → place_from i (drop i items) ≡ (if b then i else place_from (i + 1) (drop (i + 1) items))
  place_at_lem b d l e = ap (place_from i) (cut d l) ∙ ap (λ b. if b then i else place_from (i + 1) (drop (i + 1) items)) e

  pub place_end : length items ≤ i → place_from i (drop i items) ≡ i
  place_end l = ap (place_from i) (drop_of_length-le items l)

  -- the plan at that item, and at its end
  pub arrive_here : (failed : Refusal) (from : ℕ) (d : Item) → i ≡ place_from from (drop from items) → i < length items
      → record { failed = failed; items = items; next = i + 1; at = begun (get_or items i d) } ≡ arrived_at failed items from
  unfolding arrived_at
  arrive_here failed from d e l = sym (ap (standing failed items i) (cut d l)) ∙ ap (λ j. standing failed items j (drop j items)) e

  pub arrive_end : (failed : Refusal) (from : ℕ) → i ≡ place_from from (drop from items) → length items ≤ i
      → record { failed = failed; items = items; next = i; at = PlanAt.Done } ≡ arrived_at failed items from
  unfolding arrived_at
  arrive_end failed from e l = sym (ap (standing failed items i) (drop_of_length-le items l)) ∙ ap (λ j. standing failed items j (drop j items)) e
