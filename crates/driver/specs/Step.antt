-- A call of any family, step by step: each is its family's.
-- Assumes nothing.
use Rattle.std.specs.Prelude.{ℕ, List}
use Rattle.spi.specs.declared.ask.Ask.{Ask}
use Rattle.spi.specs.declared.ask.Answer.{Answer}
use Rattle.call.specs.declared.Outcome.{Outcome}
use Rattle.plan.specs.Plan.{Plan}
use Rattle.tx_fifo.specs.Push.{Push}
use Rattle.transmit.specs.Transmit.{Transmit, transmit_ask, transmit_step, transmit_outcome}
use Rattle.rx_fifo.specs.Fetch.{Fetch}
use Rattle.register.specs.Step as register
use Rattle.ram.specs.Step as ram
use Rattle.plan.specs.Step as plan
use Rattle.tx_fifo.specs.Step as push
use Rattle.rx_fifo.specs.Step as fetch
use Rattle.rx_fifo.specs.Outcome as found
use Rattle.scrub.specs.Step as scrub
use Rattle.driver.specs.CallAt.{CallAt}
use Rattle.driver.specs.Call.{Call}

-- a transmit: the push, and the request that follows it
abbrev pub transmit_of : Call → Transmit
transmit_of s = record { push = s.push; request = s.plan }

abbrev pub transmitting : Transmit → Fetch → Call
transmitting t f = record { at = CallAt.Transmit; plan = t.request; push = t.push; fetch = f }

-- what is asked
abbrev pub ask_at : CallAt → Call → Ask
ask_at (CallAt.Register r) s = register.ask_of r
ask_at (CallAt.Ram r) s = ram.ask_of r
ask_at CallAt.Plan s = plan.ask_of s.plan
ask_at CallAt.Push s = push.ask_of s.push
ask_at CallAt.Transmit s = transmit_ask (transmit_of s)
ask_at CallAt.Fetch s = fetch.ask_of s.fetch
ask_at (CallAt.Scrub x) s = scrub.ask_of x

unfoldable pub ask_of : Call → Ask
ask_of s = ask_at s.at s

-- a call of which only the place changes
abbrev pub moved_to : Call → CallAt → Call
moved_to s at = record { at = at; plan = s.plan; push = s.push; fetch = s.fetch }

-- where an answer takes the call
abbrev pub step_at : CallAt → Call → Answer → List ℕ → Call
step_at (CallAt.Register r) s a rx = moved_to s (CallAt.Register (register.step_of r a rx))
step_at (CallAt.Ram r) s a rx = moved_to s (CallAt.Ram (ram.step_of r a rx))
step_at CallAt.Plan s a rx = record { at = CallAt.Plan; plan = plan.step_of s.plan a rx; push = s.push; fetch = s.fetch }
step_at CallAt.Push s a rx = record { at = CallAt.Push; plan = s.plan; push = push.step_of s.push a rx; fetch = s.fetch }
step_at CallAt.Transmit s a rx = transmitting (transmit_step (transmit_of s) a rx) s.fetch
step_at CallAt.Fetch s a rx = record { at = CallAt.Fetch; plan = s.plan; push = s.push; fetch = fetch.step_of s.fetch a rx }
step_at (CallAt.Scrub x) s a rx = moved_to s (CallAt.Scrub (scrub.step_of x a rx))

unfoldable pub step_of : Call → Answer → List ℕ → Call
step_of s a rx = step_at s.at s a rx

-- how the call ended, if it did
abbrev pub outcome_at : CallAt → Call → Outcome
outcome_at (CallAt.Register r) s = register.outcome_of r
outcome_at (CallAt.Ram r) s = ram.outcome_of r
outcome_at CallAt.Plan s = plan.outcome_of s.plan
outcome_at CallAt.Push s = push.outcome_of s.push
outcome_at CallAt.Transmit s = transmit_outcome (transmit_of s)
outcome_at CallAt.Fetch s = found.outcome_of s.fetch
outcome_at (CallAt.Scrub x) s = scrub.outcome_of x

unfoldable pub outcome_of : Call → Outcome
outcome_of s = outcome_at s.at s

-- the lent buffer, where `rx` is what the last exchange received
abbrev pub filled_at : CallAt → Call → (rx buf : List ℕ) → List ℕ
filled_at (CallAt.Register r) s rx buf = buf
filled_at (CallAt.Ram r) s rx buf = ram.filled_by r rx buf
filled_at CallAt.Plan s rx buf = buf
filled_at CallAt.Push s rx buf = buf
filled_at CallAt.Transmit s rx buf = buf
filled_at CallAt.Fetch s rx buf = found.filled_by s.fetch buf
filled_at (CallAt.Scrub x) s rx buf = buf

unfoldable pub filled_by : Call → (rx buf : List ℕ) → List ℕ
filled_by s rx buf = filled_at s.at s rx buf
