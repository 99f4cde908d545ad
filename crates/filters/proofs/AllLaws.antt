-- Every law of the filters is proved.
-- Assumes nothing.
use mathlib.Core.Path.{refl}
use Rattle.filters.specs.Filters.{id_agrees, matches}
use Rattle.filters.specs.Laws.{Laws}
use Rattle.filters.proofs.Bits.{agrees_bits_lem}
use Rattle.filters.proofs.Word.{match_bits_lem}
use Rattle.filters.proofs.First.{lowest}

pub laws : Laws
unfolding matches id_agrees
laws = record {
  agrees_bits = agrees_bits_lem;
  no_eid = λ enabled object mask sid eid other. refl;
  match_bits = match_bits_lem;
  lowest = lowest;
}
