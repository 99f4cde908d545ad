-- The call that the code has, as the call that the definitions speak of: numbers, and a body of 76 bytes.
-- Assumes nothing.
use Rattle.std.specs.Prelude.{ℕ, Bool, true, false, List}
use Rattle.register.specs.Numbers.{register_of}
use Rattle.ram.specs.declared.RamStage.{RamStage}
use Rattle.ram.specs.Numbers.{ram_of}
use Rattle.configure.specs.Numbers as plan
use Rattle.tx_fifo.specs.Numbers.{push_of}
use Rattle.transmit.specs.Numbers as transmit
use Rattle.rx_fifo.specs.Numbers.{fetch_of}
use Rattle.scrub.specs.Numbers.{scrub_of}
use Rattle.driver.specs.declared.Family.{Family}
use Rattle.driver.specs.declared.Numbers.{Numbers}
use Rattle.driver.specs.declared.Call as code
use Rattle.driver.specs.Call.{Call}
use Rattle.driver.specs.Start.{of_register, of_ram, of_plan, of_push, of_transmit, of_fetch, of_scrub}

-- ---- the call

-- a family's own numbers, as the call of that family
abbrev pub model_in : Family → List ℕ → Call
model_in (Family.Register p) body = of_register (register_of p)
model_in (Family.Ram p) body = of_ram (ram_of p)
model_in (Family.Plan p) body = of_plan (plan.plan_in p body)
model_in (Family.Push p) body = of_push (push_of p body)
model_in (Family.Transmit p) body = of_transmit (transmit.transmit_in p body)
model_in (Family.Fetch p) body = of_fetch (fetch_of p body)
model_in (Family.Scrub p) body = of_scrub (scrub_of p)

-- numbers with the body that is lent to them
unfoldable pub model_of : Numbers → List ℕ → Call
model_of c body = model_in c.family body

-- a call by value
unfoldable pub call_of : code.Call → Call
call_of c = model_of c.numbers c.body

-- ---- whose bytes a RAM write sends

-- the object of a push or a transmit
abbrev pub is_own : Family → Bool
is_own (Family.Register p) = false
is_own (Family.Ram p) = false
is_own (Family.Plan p) = false
is_own (Family.Push p) = true
is_own (Family.Transmit p) = true
is_own (Family.Fetch p) = false
is_own (Family.Scrub p) = false

-- the pattern of the long echo test
abbrev pub echoes : RamStage → Bool
echoes RamStage.Read = false
echoes RamStage.Received = false
echoes RamStage.Write = false
echoes RamStage.EchoWrite = true
echoes RamStage.EchoRead = false
echoes RamStage.Done = false
echoes RamStage.Refused = false

abbrev pub is_echo : Family → Bool
is_echo (Family.Register p) = false
is_echo (Family.Ram p) = echoes p.stage
is_echo (Family.Plan p) = false
is_echo (Family.Push p) = false
is_echo (Family.Transmit p) = false
is_echo (Family.Fetch p) = false
is_echo (Family.Scrub p) = false
