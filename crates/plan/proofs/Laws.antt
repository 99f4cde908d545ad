-- What is proved of changes, in one.
-- Assumes nothing.
use Rattle.plan.specs.Change.{Laws}
use Rattle.plan.proofs.Changes.{change_sets_lem, change_is_lem}

pub laws : Laws
laws = record { change_sets = change_sets_lem; change_is = change_is_lem }
