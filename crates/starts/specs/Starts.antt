-- A call of a line.
-- Assumes nothing.
use Rattle.std.specs.Prelude.{◌≡◌}
use Rattle.driver.specs.declared.Call as code
use Rattle.driver.specs.Calls.{Start, started}
use Rattle.driver.specs.Numbers.{call_of}

-- a call as one of the driver's functions starts it: nothing is asked or answered yet
abbrev pub IsStarted : code.Call → Type 0
IsStarted c = (s : Start) × (call_of c ≡ started s)
