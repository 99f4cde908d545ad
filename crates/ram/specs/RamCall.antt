-- Where a call on RAM stands, as the definitions speak of it.
-- Assumes nothing.
use Rattle.std.specs.Prelude.{ℕ}
use Rattle.spi.specs.declared.refusal.Refusal.{Refusal}

-- a read has its address, its place in the lent buffer and how many bytes it wants; Received, a read that is done, the place and how many;
-- a write its address and how many
pub data RamCall : Type 0 where
  Read : ℕ → ℕ → ℕ → RamCall
  Received Write : ℕ → ℕ → RamCall
  EchoWrite EchoRead Done : RamCall
  Refused : Refusal → RamCall
