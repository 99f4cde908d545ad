-- Has-next, peek and get: what each asks, where an answer takes it, and what is said when it is over.
-- Assumes nothing.
use Prim.Native.Nat.{ℕ}
use mathlib.Core.Path.{◌≡◌, refl, ◌∙◌}
use mathlib.Core.Bool.{true, false}
use mathlib.Core.List.{List, [], ◌∷◌, ◌++◌}
use Rattle.spi.specs.declared.ask.Answer.{Answer}
use Rattle.call.specs.declared.Outcome.{Outcome}
use Rattle.plan.specs.Plan.{Plan}
use Rattle.tx_fifo.specs.Push.{Push as Pushes}
use Rattle.fetch.specs.declared.Want.{Want}
use Rattle.fetch.specs.FetchAt.{FetchAt}
use Rattle.fetch.specs.Step.{next_at}
use Rattle.rx_fifo.specs.Step as fetch
use Rattle.rx_fifo.specs.Outcome as found
use Rattle.driver.specs.CallAt.{CallAt}
use Rattle.driver.specs.Call.{Call}
use Rattle.driver.specs.Step.{ask_of, step_of, outcome_of, filled_by}
use Rattle.driver.specs.Send.{body_of}
use Rattle.state.specs.declared.Model.{Model}
use Rattle.history.specs.Command.{Command, HasNext, Peek, Get, lent}
use Rattle.history.proofs.Line.{spoken, turns, fails}
use Rattle.history.specs.History.{Said, called, idle, busy, hears, heard, waits, is_over, halfway, settled, goes_on}

-- what is called
abbrev pub fetched : Want → ℕ → List ℕ → Command
fetched Want.HasNext n buf = HasNext n
fetched Want.Peek n buf = Peek n buf
fetched Want.Get n buf = Get n buf

-- the driver with it
abbrev pub fetching : Want → ℕ → List ℕ → FetchAt → Plan → Pushes → Call
fetching want n held at p u = record { at = CallAt.Fetch; plan = p; push = u; fetch = record { fifo = n; want = want; held = held; at = at } }

waits_not : (n : ℕ) (at : FetchAt) → waits (fetch.ask_from n at) ≡ false
waits_not n FetchAt.Control = refl
waits_not n FetchAt.Status = refl
waits_not n FetchAt.Address = refl
waits_not n (FetchAt.Header m) = refl
waits_not n (FetchAt.Again m f) = refl
waits_not n (FetchAt.Time x f) = refl
waits_not n (FetchAt.Body x f) = refl
waits_not n (FetchAt.Next f) = refl
waits_not n (FetchAt.Commit w f) = refl
waits_not n (FetchAt.Done f) = refl
waits_not n FetchAt.Empty = refl
waits_not n (FetchAt.Told next) = refl
waits_not n (FetchAt.Refused r) = refl

module _ (want : Want) (n : ℕ) (held : List ℕ) (at : FetchAt) (p : Plan) (u : Pushes) where
  asks : ask_of (fetching want n held at p u) ≡ fetch.ask_from n at
  unfolding ask_of fetch.ask_of
  asks = refl

  steps : (a : Answer) (rx : List ℕ) → step_of (fetching want n held at p u) a rx ≡ fetching want n (fetch.held_at at held rx) (next_at want at a rx) p u
  unfolding step_of fetch.step_of
  steps a rx = refl

  body : body_of (fetching want n held at p u) [] ≡ []
  unfolding body_of
  body = refl

  module _ (t : List Said) (k : Command) (c : Model) where
    -- an exchange that the chip answers with rx, and where it takes the call
    pub turned : (rx : List ℕ) (d : Model) (to : FetchAt)
        → spoken (fetch.ask_from n at) [] c ≡ hears Answer.Exchanged rx d → next_at want at Answer.Exchanged rx ≡ to
        → goes_on t k (fetching want n held at p u) (heard true (fetching want n held at p u) c)
        ≡ settled d t k (fetching want n (fetch.held_at at held rx) to p u) rx
    turned rx d to h g = turns (fetching want n held at p u) _ _ asks c t k _ rx d body (waits_not n at) h (steps Answer.Exchanged rx ∙ rw g)

    -- an exchange that fails
    pub failed : goes_on t k (fetching want n held at p u) (heard false (fetching want n held at p u) c)
        ≡ settled c t k (fetching want n (fetch.held_at at held []) (next_at want at Answer.Failed []) p u) []
    failed = fails (fetching want n held at p u) _ _ asks c t k (waits_not n at) (steps Answer.Failed [])

-- ---- over, or not

not_half : (want : Want) (n : ℕ) (buf : List ℕ) (s : Call) → halfway (fetched want n buf) s ≡ false
not_half Want.HasNext n buf s = refl
not_half Want.Peek n buf s = refl
not_half Want.Get n buf s = refl

module _ (want : Want) (n : ℕ) (buf held : List ℕ) (at : FetchAt) (p : Plan) (u : Pushes) (t : List Said) (c : Model) (rx : List ℕ) where
  abbrev s : Call
  s = fetching want n held at p u

  pub still : found.outcome_at at held ≡ Outcome.Running → settled c t (fetched want n buf) s rx ≡ record { chip = c; doing = busy (fetched want n buf) s; said = t }
  unfolding settled outcome_of found.outcome_of
  still e = rw (e, not_half want n buf s)

  pub over : is_over (found.outcome_at at held) ≡ true
      → settled c t (fetched want n buf) s rx
      ≡ record { chip = c; doing = idle; said = t ++ (called (fetched want n buf) (found.outcome_at at held) (found.filled held (found.size_at at) (lent (fetched want n buf))) ∷ []) }
  unfolding settled outcome_of found.outcome_of filled_by found.filled_by
  over e = by_want want
    where
      by_want : (want : Want)
          → settled c t (fetched want n buf) (fetching want n held at p u) rx
          ≡ record { chip = c; doing = idle; said = t ++ (called (fetched want n buf) (found.outcome_at at held) (found.filled held (found.size_at at) (lent (fetched want n buf))) ∷ []) }
      by_want Want.HasNext = rw e
      by_want Want.Peek = rw e
      by_want Want.Get = rw e
