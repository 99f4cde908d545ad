-- What a write leaves in the buffer for what is received.
-- Assumes nothing.
use mathlib.Core.Path.{◌≡◌, refl, sym}
use mathlib.Core.Bool.{Bool, true, false}
use mathlib.Core.List.{List, []}
use Prim.Native.Nat.{ℕ}
use Rattle.std.specs.Prelude.{if◌then◌else◌}
use Rattle.parts.proofs.Laws.{put_none}
use Rattle.model.specs.Exchange.{received, no_layout, filled_by}

-- nothing is received, granted or not
pub write_fills : (granted : Bool) (rx : List ℕ) → rx ≡ filled_by (if granted then received [] else no_layout) rx
write_fills true rx = sym (put_none rx)
write_fills false rx = refl
