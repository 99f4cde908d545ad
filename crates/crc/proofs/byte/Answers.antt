-- What is left of `crc::byte`: a byte is two times four bits.
-- Assumes nothing.
use mathlib.Core.Path.{ap₂, ◌∙◌}
use Prim.Native.Nat.{ℕ, ◌*◌, ◌^◌}
use lib.Bits.{bit_xor, and_mask}
use Rattle.crc.specs.Crc.{shifts}
use Rattle.crc.proofs.Linear.{two_nibbles}
use Rattle.crc.proofs.byte.Goals as goal

pub returns : goal.returns
returns c = c.nibble-2.ensures ∙ ap₂ (λ (x y : ℕ). shifts 4 (bit_xor x (y * 2 ^ 12))) c.nibble.ensures (and_mask _ 4) ∙ two_nibbles _ _
