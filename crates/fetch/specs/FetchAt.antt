-- Where a has-next, peek or get stands, as the definitions speak of it.
-- Assumes nothing.
use Rattle.std.specs.Prelude.{ℕ, Bool}
use Rattle.spi.specs.declared.refusal.Refusal.{Refusal}
use Rattle.call.specs.declared.Found.{Found}

-- the exchange that it asks for, with what was read before, or how it ended; a number is the RAM address that is read next (in Again, while
-- control is read for PLSIZE and RXTSEN, the object's), but in Commit the control word that is written with UINC
pub data FetchAt : Type 0 where
  Control Status Address : FetchAt
  Header : ℕ → FetchAt
  Again Time Body : ℕ → Found → FetchAt
  Next : Found → FetchAt
  Commit : ℕ → Found → FetchAt
  Done : Found → FetchAt
  Empty : FetchAt
  Told : Bool → FetchAt
  Refused : Refusal → FetchAt
