-- A call of any family, as the definitions speak of it.
-- Assumes nothing.
use Rattle.plan.specs.Plan.{Plan}
use Rattle.tx_fifo.specs.Push.{Push}
use Rattle.rx_fifo.specs.Fetch.{Fetch}
use Rattle.driver.specs.CallAt.{CallAt}

-- `push` is that of a push or a transmit, `plan` that of a plan or of a transmit's request; the others of the three are idle
pub record Call : Type 0 where
  pub at : CallAt
  pub plan : Plan
  pub push : Push
  pub fetch : Fetch
