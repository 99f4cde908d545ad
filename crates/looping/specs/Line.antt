-- The modelled chip as a line.
-- Assumes nothing.
use Rattle.std.specs.Prelude.{ℕ, ◌≡◌, ◌+◌, ◌-◌, ◌^◌, min, Bool, true, false, List, length}
use Rattle.model.specs.Exchange.{Reply, failed, received, no_layout, lent, filled_by}
use Rattle.looping.specs.declared.Chip.{Chip}

-- whether an exchange was carried out
abbrev pub carried : Reply → Bool
carried failed = false
carried (received bs) = true
carried no_layout = true

-- an exchange: the model's, with as many bytes wanted as the buffer has, and counted
abbrev pub Transferred : Chip → List ℕ → List ℕ → Bool → List ℕ → Chip → Type 0
Transferred c tx rx ok new d = let x = lent rx tx (length rx) c.model in (ok ≡ carried x.reply) × (new ≡ filled_by x.reply rx) × (d.model ≡ x.model) × (d.exchanges ≡ min (c.exchanges + 1) (2 ^ 64 - 1))
