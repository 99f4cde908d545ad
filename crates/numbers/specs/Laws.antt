-- Which numbers refusals have, as a statement.
-- Assumes nothing.
use Rattle.std.specs.Prelude.{◌≡◌}
use Rattle.spi.specs.declared.refusal.Refusal.{Refusal}
use Rattle.numbers.specs.Numbers.{number_of}

-- document 02, request 3: 23 is no longer given
abbrev pub Never23 : Type 0
Never23 = (r : Refusal) → number_of r ≡ 23 → ⊥

pub record Laws : Type 0 where
  pub never23 : Never23
