-- The body of a call: what its RAM writes send.
-- Assumes nothing.
use Rattle.std.specs.Prelude.{ℕ, List}
use Rattle.ram.specs.RamCall.{RamCall}
use Rattle.ram.specs.Echo.{echo_bytes}
use Rattle.driver.specs.CallAt.{CallAt}
use Rattle.driver.specs.Call.{Call}

-- the body of a call on RAM: the pattern of the echo, otherwise the lent bytes
abbrev pub ram_body : RamCall → List ℕ → List ℕ
ram_body (RamCall.Read address place count) lent = lent
ram_body (RamCall.Received place count) lent = lent
ram_body (RamCall.Write address count) lent = lent
ram_body RamCall.EchoWrite lent = echo_bytes
ram_body RamCall.EchoRead lent = lent
ram_body RamCall.Done lent = lent
ram_body (RamCall.Refused r) lent = lent

-- the body of a call: the object of a push, the pattern of an echo, otherwise the lent bytes
abbrev pub body_at : CallAt → Call → List ℕ → List ℕ
body_at (CallAt.Register r) s lent = lent
body_at (CallAt.Ram r) s lent = ram_body r lent
body_at CallAt.Plan s lent = lent
body_at CallAt.Push s lent = s.push.object.bytes
body_at CallAt.Transmit s lent = s.push.object.bytes
body_at CallAt.Fetch s lent = lent
body_at (CallAt.Scrub x) s lent = lent

unfoldable pub body_of : Call → List ℕ → List ℕ
body_of s lent = body_at s.at s lent
