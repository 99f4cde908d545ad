-- A push, as the definitions speak of it.
-- Assumes nothing.
use Rattle.std.specs.Prelude.{ℕ}
use Rattle.message.specs.Structs.{Object}
use Rattle.tx_fifo.specs.PushAt.{PushAt}

-- `size` is the payload's length
pub record Push : Type 0 where
  pub fifo : ℕ
  pub size : ℕ
  pub object : Object
  pub at : PushAt
