-- The number of a refusal, without the value that it carries.
-- Assumes nothing.
use Rattle.std.specs.Prelude.{ℕ, get_or}
use Rattle.spi.specs.declared.refusal.Refusal.{Refusal}
use Rattle.spi.specs.Refusals.{numbered}

abbrev pub number_of : Refusal → ℕ
number_of r = get_or (numbered r) 0 0
