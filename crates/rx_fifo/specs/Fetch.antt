-- A has-next, peek or get, as the definitions speak of it.
-- Assumes nothing.
use Rattle.std.specs.Prelude.{ℕ, List}
use Rattle.fetch.specs.declared.Want.{Want}
use Rattle.fetch.specs.FetchAt.{FetchAt}

-- the payload is held until the call is done: a get may still be refused after it has read it
pub record Fetch : Type 0 where
  pub fifo : ℕ
  pub want : Want
  pub held : List ℕ
  pub at : FetchAt
