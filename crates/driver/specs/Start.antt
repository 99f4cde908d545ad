-- Where calls start: each in its family's part, the other parts idle.
-- Assumes nothing.
use Rattle.std.specs.Prelude.{[]}
use Rattle.spi.specs.declared.refusal.Refusal.{Refusal}
use Rattle.message.specs.Structs.{object_in}
use Rattle.register.specs.RegisterCall.{RegisterCall}
use Rattle.ram.specs.RamCall.{RamCall}
use Rattle.plan.specs.Plan.{Plan}
use Rattle.plan.specs.Step.{refused_plan}
use Rattle.tx_fifo.specs.Push.{Push}
use Rattle.tx_fifo.specs.PushAt.{PushAt}
use Rattle.transmit.specs.Transmit.{Transmit}
use Rattle.rx_fifo.specs.Fetch.{Fetch}
use Rattle.rx_fifo.specs.Step.{has_next_start}
use Rattle.scrub.specs.Scrub.{Scrub}
use Rattle.driver.specs.CallAt.{CallAt}
use Rattle.driver.specs.Call.{Call}

-- parts that are not used: refused, so that they ask for nothing
abbrev pub idle_plan : Plan
idle_plan = refused_plan Refusal.BadNumber

abbrev pub idle_push : Push
idle_push = record { fifo = 0; size = 0; object = object_in []; at = PushAt.Refused Refusal.BadNumber }

abbrev pub idle_fetch : Fetch
idle_fetch = has_next_start 0

unfoldable pub of_register : RegisterCall → Call
of_register r = record { at = CallAt.Register r; plan = idle_plan; push = idle_push; fetch = idle_fetch }

unfoldable pub of_ram : RamCall → Call
of_ram r = record { at = CallAt.Ram r; plan = idle_plan; push = idle_push; fetch = idle_fetch }

unfoldable pub of_plan : Plan → Call
of_plan p = record { at = CallAt.Plan; plan = p; push = idle_push; fetch = idle_fetch }

unfoldable pub of_push : Push → Call
of_push p = record { at = CallAt.Push; plan = idle_plan; push = p; fetch = idle_fetch }

unfoldable pub of_transmit : Transmit → Call
of_transmit t = record { at = CallAt.Transmit; plan = t.request; push = t.push; fetch = idle_fetch }

unfoldable pub of_fetch : Fetch → Call
of_fetch f = record { at = CallAt.Fetch; plan = idle_plan; push = idle_push; fetch = f }

unfoldable pub of_scrub : Scrub → Call
of_scrub s = record { at = CallAt.Scrub s; plan = idle_plan; push = idle_push; fetch = idle_fetch }
