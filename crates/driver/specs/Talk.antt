-- A call of any family as the line sees it.
-- Assumes nothing.
use Rattle.spi.specs.Talk.{Talk, done, and_then}
use Rattle.call.specs.declared.Outcome.{Outcome}
use Rattle.register.specs.Talk as register
use Rattle.ram.specs.Talk as ram
use Rattle.plan.specs.Talk as plan
use Rattle.tx_fifo.specs.Talk as push
use Rattle.transmit.specs.Transmit.{transmit_talk_of}
use Rattle.rx_fifo.specs.Fetch.{Fetch}
use Rattle.rx_fifo.specs.Talk as fetch
use Rattle.scrub.specs.Talk as scrub
use Rattle.driver.specs.CallAt.{CallAt}
use Rattle.driver.specs.Call.{Call}
use Rattle.driver.specs.Step.{transmit_of}

-- has-next, peek and get end in what was fetched: its outcome
abbrev pub told : Talk fetch.Fetched → Talk Outcome
told t = and_then t (λ x. done (fetch.outcome_by x))

abbrev pub fetch_talk : Fetch → Talk Outcome
fetch_talk f = told (fetch.talk_of f)

abbrev pub talk_at : CallAt → Call → Talk Outcome
talk_at (CallAt.Register r) s = register.talk_of r
talk_at (CallAt.Ram r) s = ram.talk_of r
talk_at CallAt.Plan s = plan.talk_of s.plan
talk_at CallAt.Push s = push.talk_of s.push
talk_at CallAt.Transmit s = transmit_talk_of (transmit_of s)
talk_at CallAt.Fetch s = fetch_talk s.fetch
talk_at (CallAt.Scrub x) s = scrub.talk_of x

-- the rest of a call
unfoldable pub talk_of : Call → Talk Outcome
talk_of s = talk_at s.at s
