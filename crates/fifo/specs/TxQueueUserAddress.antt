-- CiTXQUA: the user address of the transmit queue, a word like a FIFO's.
-- Assumes nothing.
use Rattle.std.specs.Prelude.{[], ◌∷◌}
use Rattle.field.specs.Register.{Register}
use Rattle.fifo.specs.UserAddress.{FIFOUA}

abbrev pub CiTXQUA : Register
CiTXQUA = record { address = λ n. 0x058; reset = 0x00000000; fields = FIFOUA ∷ [] }
