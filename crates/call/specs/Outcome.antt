-- The outcome of a call: what it is done with, its refusal, or that it still asks.
-- Assumes nothing.
use Rattle.spi.specs.Talk.{Talk, done, refused, ask}
use Rattle.call.specs.declared.Outcome.{Outcome}

abbrev pub ended : {A : Type 0} → (A → Outcome) → Talk A → Outcome
ended f (done x) = f x
ended f (refused r) = Outcome.Refused r
ended f (ask q k) = Outcome.Running
