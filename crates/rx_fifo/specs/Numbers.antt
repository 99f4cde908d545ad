-- The plain numbers of has-next, peek and get, with the body that is lent to them, as the call of which the definitions speak.
-- Assumes nothing.
use Rattle.std.specs.Prelude.{ℕ, ◌≤◌, ◌≡◌, List, length, take}
use Rattle.call.specs.declared.Outcome.{Outcome}
use Rattle.fetch.specs.declared.FetchNumbers.{FetchNumbers}
use Rattle.fetch.specs.Numbers.{fetch_at}
use Rattle.rx_fifo.specs.Fetch.{Fetch}
use Rattle.rx_fifo.specs.Outcome.{outcome_of}

-- the payload is held in the first 64 bytes of the body
unfoldable pub fetch_of : FetchNumbers → List ℕ → Fetch
fetch_of c body = record { fifo = c.fifo; want = c.want; held = take 64 body; at = fetch_at c }

-- r is how the call ended, whatever bytes a body of 64 or more has
abbrev pub FetchEnds : FetchNumbers → Outcome → Type 0
FetchEnds c r = (body : List ℕ) → 64 ≤ length body → r ≡ outcome_of (fetch_of c body)
