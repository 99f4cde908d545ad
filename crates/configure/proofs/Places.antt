-- The items of a plan: one that begins leaves them as they are; where the next one stands.
-- Assumes nothing.
use Prim.Native.Nat.{ℕ, zero, suc, ◌+◌, ◌-◌, ◌≤◌, ◌<◌}
use Rattle.std.proofs.Common.{max, inl, inr}
use Rattle.std.proofs.lemmas.Bool.{cases_lt}
use mathlib.Core.Path.{◌≡◌, refl, sym, ap, ◌∙◌}
use mathlib.Core.Bool.{Bool, true, false}
use mathlib.Core.List.{List, [], ◌∷◌, ◌++◌}
use native.Mathlib.Omega.{arith}
use lib.Dec.{eqb}
use lib.ListN.{length, get_or, drop, replicate, length-append, length-replicate, get_or-eq_default}
use Rattle.std.specs.Prelude.{if◌then◌else◌}
use Rattle.laws.proofs.Choice.{by_if}
use Rattle.plan.specs.declared.change.Change.{Change}
use Rattle.plan.specs.declared.item.Poll.{Poll}
use Rattle.plan.specs.declared.item.Item.{Item}
use Rattle.plan.specs.PlanAt.{PlanAt}
use Rattle.plan.specs.Plan.{Plan}
use Rattle.plan.specs.Item.{is_there}
use Rattle.plan.specs.Step.{begun, place_from, arrived_at, filled}
use Rattle.plan.proofs.Places.{place_at_lem, place_end, arrive_here, arrive_end}
use Rattle.configure.specs.declared.planned.PlanKind.{PlanKind}
use Rattle.configure.specs.declared.planned.PlanNumbers.{PlanNumbers}
use Rattle.configure.specs.Numbers.{failed_in, late_in, items_for, items_in, plan_in}
use Rattle.configure.specs.Moves.{at_item}

-- ---- a short list by its places

pub only : (x d : Item) (i : ℕ) → i < 1 → x ≡ get_or (x ∷ []) i d
only x d zero h = refl
only x d (suc i) h = absurd (omega arith)

pub two : (x y d : Item) (i : ℕ) → i < 2 → (if eqb i 0 then x else y) ≡ get_or (x ∷ y ∷ []) i d
two x y d zero h = refl
two x y d (suc zero) h = refl
two x y d (suc (suc i)) h = absurd (omega arith)

-- ---- an item that begins

-- what holds of every item of a list
abbrev All : (Item → Type 0) → List Item → Type 0
All P [] = Unit {0}
All P (i ∷ is) = P i × All P is

at : (P : Item → Type 0) (items : List Item) → P Item.Nothing → All P items → (i : ℕ) → P (get_or items i Item.Nothing)
at P [] n h i = n
at P (x ∷ xs) n h zero = h.0
at P (x ∷ xs) n h (suc i) = at P xs n h.1 i

-- the change under way from then on, and the place as the numbers have it
abbrev under : Change → Item → Change
under x (Item.Change y) = y
under x (Item.Poll p more) = x
under x Item.Echo = x
under x Item.Nothing = x

abbrev stood : PlanKind → ℕ → Item → PlanAt
stood k n (Item.Change y) = PlanAt.Read y
stood k n (Item.Poll (Poll.Mode m late) more) = PlanAt.Poll (Poll.Mode n (late_in k)) more
stood k n (Item.Poll Poll.Pll more) = PlanAt.Poll Poll.Pll more
stood k n Item.Echo = PlanAt.EchoWrite 31
stood k n Item.Nothing = PlanAt.Done

-- an item of a plan leaves its items as they are, and its poll is the one that the numbers name
module _ (n : ℕ) (x : Change) (body : List ℕ) where
  abbrev Own : PlanKind → Item → Type 0
  Own k item = (items_for k n (under x item) body ≡ items_for k n x body) × (stood k n item ≡ begun item)

  either : (k : PlanKind) (b : Bool) (i j : Item) → Own k i → Own k j → Own k (if b then i else j)
  either k b i j h l = by_if (Own k) b (λ e. h) (λ e. l)

  all_own : (k : PlanKind) → All (Own k) (items_for k n x body)
  unfolding items_for
  all_own PlanKind.Nothing = tt
  all_own PlanKind.One = search
  all_own PlanKind.Io = search
  all_own PlanKind.Verify = search
  all_own PlanKind.Mode = search
  all_own PlanKind.Oscillator = search either depth 9
  all_own PlanKind.Timing = search
  all_own PlanKind.Filter = search
  all_own PlanKind.Queue = search
  all_own PlanKind.Configure = search either depth 20

-- so the plan at its beginning has the items that it had
begins : (c : PlanNumbers) (body : List ℕ) (next : ℕ) (item : Item) → Own c.n c.change body c.kind item
    → plan_in (at_item c next item) body ≡ record { failed = failed_in c.kind; items = filled (items_in c body); next = next; at = begun item }
unfolding plan_in
begins c body next (Item.Change y) (e, d) = ap (λ l. record { failed = failed_in c.kind; items = filled l; next = next; at = PlanAt.Read y }) e
begins c body next (Item.Poll (Poll.Mode m late) more) (e, d) = ap (λ at. record { failed = failed_in c.kind; items = filled (items_in c body); next = next; at = at }) d
begins c body next (Item.Poll Poll.Pll more) (e, d) = refl
begins c body next Item.Echo (e, d) = refl
begins c body next Item.Nothing (e, d) = refl

-- ---- the fifteen items of a plan: those there are, and nothing behind them

abbrev nothing : Item
nothing = Item.Nothing

idle : (m i : ℕ) → get_or (replicate m nothing) i nothing ≡ nothing
idle zero i = refl
idle (suc m) zero = refl
idle (suc m) (suc i) = idle m i

slot : (items : List Item) (m i : ℕ) → get_or (items ++ replicate m nothing) i nothing ≡ get_or items i Item.Nothing
slot [] m i = idle m i
slot (x ∷ xs) m zero = refl
slot (x ∷ xs) m (suc i) = slot xs m i

-- the place of the first item from place i on that does anything
abbrev from : List Item → ℕ → ℕ
from items i = place_from i (drop i (filled items))

module _ (items : List Item) (few : length items ≤ 15) where
  length_filled : length (filled items) ≡ 15
  length_filled = simp (length-append, length-replicate) (omega arith)

  place : (i : ℕ) (b : Bool) → i < 15 → is_there (get_or items i Item.Nothing) ≡ b → from items i ≡ (if b then i else from items (i + 1))
  place i b l e = place_at_lem (filled items) i b nothing (omega (arith, length_filled)) (ap is_there (slot items (15 - length items) i) ∙ e)

  -- none behind the last one
  behind : (k i : ℕ) → i + k ≡ 15 → length items ≤ i → from items i ≡ 15
  behind zero i e l = place_end (filled items) i (omega (arith, length_filled)) ∙ omega arith
  behind (suc k) i e l = place i false (omega arith) (ap is_there (get_or-eq_default items Item.Nothing l)) ∙ behind k (i + 1) (omega arith) (omega arith)

-- ---- the next item

few : (k : PlanKind) (n : ℕ) (x : Change) (body : List ℕ) → length (items_for k n x body) ≤ 15
unfolding items_for
few PlanKind.Nothing n x body = omega arith
few PlanKind.One n x body = omega arith
few PlanKind.Io n x body = omega arith
few PlanKind.Verify n x body = omega arith
few PlanKind.Mode n x body = omega arith
few PlanKind.Oscillator n x body = omega arith
few PlanKind.Timing n x body = omega arith
few PlanKind.Filter n x body = omega arith
few PlanKind.Queue n x body = omega arith
few PlanKind.Configure n x body = omega arith

module _ (c : PlanNumbers) (body : List ℕ) where
  abbrev items : List Item
  items = items_in c body

  pub most : length items ≤ 15
  most = few c.kind c.n c.change body

  -- the items passed over do nothing
  abbrev pub Passed : ℕ → Type 0
  Passed i = from items i ≡ from items c.next

  abbrev arrival : Plan
  arrival = arrived_at (failed_in c.kind) (filled items) c.next

  own : (i : ℕ) → Own c.n c.change body c.kind (get_or items i Item.Nothing)
  own i = at (Own c.n c.change body c.kind) items (refl, refl) (all_own c.n c.change body c.kind) i

  module _ (i : ℕ) (h : Passed i) where
    pub passes : i < length items → is_there (get_or items i Item.Nothing) ≡ false → Passed (i + 1)
    passes l e = sym (place items most i false (omega (arith, most)) e) ∙ h

    pub arrives : i < length items → is_there (get_or items i Item.Nothing) ≡ true → plan_in (at_item c (i + 1) (get_or items i Item.Nothing)) body ≡ arrival
    arrives l e =
        begins c body (i + 1) (get_or items i Item.Nothing) (own i)
        ∙ ap (λ item. record { failed = failed_in c.kind; items = filled items; next = i + 1; at = begun item }) (sym (slot items (15 - length items) i))
        ∙ arrive_here (filled items) i (failed_in c.kind) c.next nothing (sym (place items most i true (omega (arith, most)) e) ∙ h) (omega (arith, most, length_filled items most))

    -- at the end, where none is left
    pub ends : length items ≤ i → c.next ≤ i → i ≤ max c.next 15 → plan_in (at_item c (max c.next 15) Item.Nothing) body ≡ arrival
    ends l m n =
        begins c body (max c.next 15) Item.Nothing (refl, refl)
        ∙ arrive_end (filled items) (max c.next 15) (failed_in c.kind) c.next (sym none ∙ h) (omega (arith, length_filled items most))
      where
        none : from items i ≡ max c.next 15
        none = elim (cases_lt i 15) [
          | inl few ↦ behind items most (15 - i) i (omega arith) l ∙ omega arith
          | inr late ↦ place_end (filled items) i (omega (arith, length_filled items most)) ∙ omega arith
        ]
