-- Every law of where a scrub step begins is proved.
-- Assumes nothing.
use Prim.Native.Nat.{◌+◌}
use mathlib.Core.Path.{◌≡◌, refl, subst}
use mathlib.Core.Bool.{Bool, true, false}
use lib.Dec.{eqb}
use lib.ListN.{length}
use Rattle.place.specs.Place.{is_carried}
use Rattle.watch.specs.declared.Begun.{Begun}
use Rattle.watch.specs.Watch.{all_carried, place_in, entry_in, visiting, start_of}
use Rattle.watch.specs.Laws.{DueCarried, Laws}
use Rattle.watch.proofs.Lists.{due_carried_lem}

is_due : DueCarried
unfolding start_of
is_due p ws b h = go (eqb (length ws) 0) (all_carried ws) refl refl
  where
    go : (x y : Bool) → eqb (length ws) 0 ≡ x → all_carried ws ≡ y → is_carried b.address ≡ true
    go true y e f = let k = rw e at h in cc
    go false false e f = let k = rw (e, f) at h in cc
    go false true e f =
        let k = rw (e, f) at h in
        let z : visiting p (place_in p (length ws) + 1) (entry_in p ws) ≡ b = cc in
        subst (λ (x : Begun). is_carried x.address ≡ true) z (due_carried_lem p ws e f)

pub laws : Laws
laws = record { due_carried = is_due }
