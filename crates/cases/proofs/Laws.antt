-- The table of checked cases, in one.
-- Assumes nothing.
use Rattle.cases.specs.Cases.{Laws}
use Rattle.cases.proofs.Checked.{checked}

pub laws : Laws
laws = record { as_said = checked }
