-- Which family a call is of.
-- Assumes nothing.
use Rattle.register.specs.RegisterCall.{RegisterCall}
use Rattle.ram.specs.RamCall.{RamCall}
use Rattle.scrub.specs.Scrub as scrub

pub data CallAt : Type 0 where
  Register : RegisterCall → CallAt
  Ram : RamCall → CallAt
  Plan Push Transmit Fetch : CallAt
  Scrub : scrub.Scrub → CallAt
