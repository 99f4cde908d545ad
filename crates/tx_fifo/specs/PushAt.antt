-- Where a push stands, as the definitions speak of it.
-- Assumes nothing.
use Rattle.std.specs.Prelude.{ℕ}
use Rattle.spi.specs.declared.refusal.Refusal.{Refusal}

-- it waits for the answer to one of its exchanges, or has ended. To a FIFO they are five, from `Control` to `Commit`; to the transmit queue
-- `Enabled` (CiCON) is before these; unchecked they are the three `Bare` ones and `Commit`. The first number is the control word that is
-- written back, the second, and that of `BareWrite`, the RAM address
pub data PushAt : Type 0 where
  Enabled Control : PushAt
  Status Address : ℕ → PushAt
  Write : ℕ → ℕ → PushAt
  Commit : ℕ → PushAt
  BareAddress : PushAt
  BareWrite : ℕ → PushAt
  BareControl : PushAt
  Done : PushAt
  Refused : Refusal → PushAt
