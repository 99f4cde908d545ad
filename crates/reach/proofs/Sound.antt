-- A chip as a history meets it: in order, and outside Configuration.
-- Assumes nothing.
use Prim.Native.Nat.{ℕ}
use mathlib.Core.Path.{◌≡◌}
use mathlib.Core.Bool.{false}
use Rattle.field.specs.Field.{read}
use Rattle.fifo.specs.Control.{TXREQ}
use Rattle.state.specs.declared.Model.{Model}
use Rattle.state.specs.Model.{fifo_at}
use Rattle.reach.specs.Reach.{Valid}

pub record Sound (c : Model) : Type 0 where
  pub valid : Valid c
  pub out : c.fixed.configuring ≡ false

-- TXREQ is 1 of every FIFO of which X says so
abbrev pub Asked : (ℕ → Type 0) → Model → Type 0
Asked X c = (n : ℕ) → X n → read TXREQ (fifo_at c n).control ≡ 1
