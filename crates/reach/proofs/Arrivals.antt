-- What arrives is read back from its object.
-- Assumes nothing.
use Prim.Native.Nat.{ℕ, ◌^◌, ◌<◌}
use mathlib.Core.Path.{◌≡◌, refl}
use mathlib.Core.Bool.{Bool, true, false}
use mathlib.Core.List.{List, ◌++◌}
use lib.ListN.{length}
use Rattle.std.specs.Prelude.{if◌then◌else◌, Some, None, Ok}
use Rattle.header.specs.declared.Header.{Header}
use Rattle.message.specs.Message.{Message, arrival_check, arriving, holds, decoding}
use Rattle.message.specs.Laws.{Stamped}
use Rattle.message.proofs.Round.{arrival_trip_lem}
use Rattle.ring.specs.Ring.{sending}
use Rattle.ring.specs.Layout.{stamped}
use Rattle.state.specs.declared.Model.{Model}
use Rattle.state.specs.Model.{frozen_at}
use Rattle.bus.specs.Bus.{stamp_for, incoming}

module _ (c : Model) (n hit : ℕ) (header : Header) (dlc time : ℕ) (payload : List ℕ) where
  abbrev coming : Message
  coming = incoming c n hit header dlc time payload

  -- its object, where a filter took it, is read as what arrived
  pub coming_back : time < 2 ^ 32 → sending (frozen_at c n) ≡ false → hit < 32 → arrival_check header dlc (length payload) ≡ Ok tt
      → (r : List ℕ) → decoding (sending (frozen_at c n)) (stamped (frozen_at c n)) (arriving header dlc hit (stamp_for c n time) payload ++ r) ≡ holds coming
  unfolding incoming
  coming_back small e l f r = rw e (arrival_trip_lem (stamped (frozen_at c n)) coming r f (record { seq = refl; filter = l; stamp = go (stamped (frozen_at c n)) }))
    where
      go : (b : Bool) → Stamped b (if b then Some time else None)
      go true = small
      go false = tt
