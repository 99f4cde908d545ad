-- The object of a frame fits a slot of its FIFO, if its payload does.
-- Assumes nothing.
use Prim.Native.Nat.{ℕ, ◌≤◌}
use mathlib.Core.Path.{◌≡◌, refl}
use mathlib.Core.Bool.{Bool, true, false}
use mathlib.Core.List.{List}
use native.Mathlib.Omega.{arith}
use lib.ListN.{length}
use Rattle.std.specs.Prelude.{if◌then◌else◌, Some, None}
use Rattle.fifo.specs.Control.{payload_of}
use Rattle.fifo.proofs.Sizes.{payload_whole}
use Rattle.words.proofs.Laws.{le_length}
use Rattle.header.specs.declared.Header.{Header}
use Rattle.header.specs.Header.{word0, received1}
use Rattle.message.specs.Object.{stamp_bytes}
use Rattle.message.specs.Message.{arriving}
use Rattle.message.proofs.Round.{object_length}
use Rattle.ring.specs.Layout.{stamped, size}
use Rattle.state.specs.declared.Model.{Model}
use Rattle.state.specs.Model.{frozen_at}
use Rattle.bus.specs.Bus.{stamp_for}

stamp_length : (b : Bool) (time : ℕ) → length (stamp_bytes (if b then Some time else None)) ≡ (if b then 4 else 0)
stamp_length true time = le_length time
stamp_length false time = refl

pub object_fits : (m : Model) (n hit dlc : ℕ) (header : Header) (time : ℕ) (payload : List ℕ) → length payload ≤ payload_of (frozen_at m n)
    → length (arriving header dlc hit (stamp_for m n time) payload) ≤ size (frozen_at m n)
unfolding size arriving
object_fits m n hit dlc header time payload l =
    omega (arith, object_length (word0 header) (received1 header dlc hit) (stamp_for m n time) payload, stamp_length (stamped (frozen_at m n)) time, payload_whole (frozen_at m n), l)
