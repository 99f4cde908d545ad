-- What a step over a list begins with.
-- Assumes nothing.
use mathlib.Core.Path.{◌≡◌}
use Prim.Native.Nat.{ℕ, ◌^◌, ◌<◌}
use mathlib.Core.Bool.{true, false}
use mathlib.Core.List.{List}
use lib.Dec.{eqb, ltb}
use lib.ListN.{length, get_or}
use native.Mathlib.Omega.{arith}
use borrow.Author.Tests.{ltb-true, eqb-false}
use Rattle.std.proofs.lemmas.List.Elements.{All-get_or}
use Rattle.std.proofs.lemmas.List.Sums.{AllPass-from_list_all}
use Rattle.laws.proofs.Choice.{by_if}
use Rattle.place.specs.Place.{is_carried}
use Rattle.place.proofs.Laws.{short}
use Rattle.watch.specs.Watch.{blank, all_carried, place_in, entry_in}
use Rattle.watch.specs.declared.Watch.{Watch}

-- where a list has entries, the place to visit is one of theirs
within : (p n : ℕ) → eqb n 0 ≡ false → place_in p n < n
within p n e = by_if (λ (k : ℕ). k < n) (ltb p n) (ltb-true p n) (λ _. omega (arith, eqb-false n 0 e))

carried_at : (ws : List Watch) (i : ℕ) (d : Watch) → i < length ws → all_carried ws ≡ true → is_carried (get_or ws i d).address ≡ true
carried_at ws i d h f = All-get_or (λ w. is_carried w.address ≡ true) ws i d h (AllPass-from_list_all (λ w. is_carried w.address) ws f)

-- a carried entry's address has 12 bits
pub short_at : (ws : List Watch) (i : ℕ) (d : Watch) → i < length ws → all_carried ws ≡ true → (get_or ws i d).address < 2 ^ 12
short_at ws i d h f = short _ (carried_at ws i d h f)

-- the entry that is due is carried
pub due_carried_lem : (p : ℕ) (ws : List Watch) → eqb (length ws) 0 ≡ false → all_carried ws ≡ true → is_carried (entry_in p ws).address ≡ true
due_carried_lem p ws e f = carried_at ws (place_in p (length ws)) blank (within p (length ws) e) f

pub due_short : (p : ℕ) (ws : List Watch) → eqb (length ws) 0 ≡ false → all_carried ws ≡ true → (entry_in p ws).address < 2 ^ 12
due_short p ws e f = short _ (due_carried_lem p ws e f)
