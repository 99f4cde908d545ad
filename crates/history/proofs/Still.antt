-- A call that is no scrub step asks for no rewrite, whatever is answered and whatever happens on the bus.
-- Assumes nothing.
use Prim.Native.Nat.{ℕ}
use mathlib.Core.Path.{◌≡◌, refl, sym, subst, ◌∙◌}
use mathlib.Core.Bool.{Bool, true, false, true≢false}
use mathlib.Core.List.{List, [], ◌∷◌, ◌++◌, map}
use Rattle.laws.proofs.Choice.{by_if}
use Rattle.spi.specs.declared.ask.Answer.{Answer}
use Rattle.driver.specs.CallAt.{CallAt}
use Rattle.driver.specs.Call.{Call}
use Rattle.driver.specs.Step.{step_at, step_of, outcome_of}
use Rattle.state.specs.declared.Model.{Model}
use Rattle.reach.specs.Bus.{Bus}
use Rattle.history.specs.Command.{Command, started, Push, Transmit, QueuePush, QueueUnchecked, QueueRequest, Request, HasNext, Peek, Get, Reading, Configuring, second_call}
use Rattle.history.specs.History.{Event, Begin, Exchange, Fail, On, Said, Doing, idle, busy, World, Heard, is_over, halfway, heard, settled, event, after}
use Rattle.history.specs.Demand.{calm, asks_rewrite, strays, ends, Lasts}
use Rattle.history.specs.Queue.{unchecked}

-- the family of scrub steps
abbrev pub scrubs : CallAt → Bool
scrubs (CallAt.Register r) = false
scrubs (CallAt.Ram r) = false
scrubs CallAt.Plan = false
scrubs CallAt.Push = false
scrubs CallAt.Transmit = false
scrubs CallAt.Fetch = false
scrubs (CallAt.Scrub s) = true

-- a call stays in its family
steps_at : (at : CallAt) (s : Call) (a : Answer) (rx : List ℕ) → scrubs at ≡ false → scrubs (step_at at s a rx).at ≡ false
steps_at (CallAt.Register r) s a rx h = refl
steps_at (CallAt.Ram r) s a rx h = refl
steps_at CallAt.Plan s a rx h = refl
steps_at CallAt.Push s a rx h = refl
steps_at CallAt.Transmit s a rx h = refl
steps_at CallAt.Fetch s a rx h = refl
steps_at (CallAt.Scrub x) s a rx h = absurd (true≢false h)

asks_none : (at : CallAt) → scrubs at ≡ false → asks_rewrite at ≡ false
asks_none (CallAt.Register r) h = refl
asks_none (CallAt.Ram r) h = refl
asks_none CallAt.Plan h = refl
asks_none CallAt.Push h = refl
asks_none CallAt.Transmit h = refl
asks_none CallAt.Fetch h = refl
asks_none (CallAt.Scrub s) h = absurd (true≢false h)

-- no scrub step is under way
-- nor an unchecked push
abbrev Quiet : Doing → Type 0
Quiet idle = Unit {0}
Quiet (busy k s) = (scrubs s.at ≡ false) × (unchecked k ≡ false)

-- which alone strays
strays_none : (c : Model) (k : Command) → unchecked k ≡ false → strays c k ≡ false
strays_none c (Push n header seq payload) h = refl
strays_none c (Transmit n header seq payload) h = refl
strays_none c (QueuePush header seq payload) h = refl
strays_none c (QueueUnchecked header seq payload) h = absurd (true≢false h)
strays_none c QueueRequest h = refl
strays_none c (Request n) h = refl
strays_none c (HasNext n) h = refl
strays_none c (Peek n buf) h = refl
strays_none c (Get n buf) h = refl
strays_none c (Reading x) h = refl
strays_none c (Configuring x) h = refl

second_checked : (k : Command) → unchecked (second_call k) ≡ unchecked k
second_checked (Push n header seq payload) = refl
second_checked (Transmit n header seq payload) = refl
second_checked (QueuePush header seq payload) = refl
second_checked (QueueUnchecked header seq payload) = refl
second_checked QueueRequest = refl
second_checked (Request n) = refl
second_checked (HasNext n) = refl
second_checked (Peek n buf) = refl
second_checked (Get n buf) = refl
second_checked (Reading x) = refl
second_checked (Configuring x) = refl

quiet_still : (c : Model) (d : Doing) → Quiet d → ends c d ≡ false
quiet_still c idle h = refl
quiet_still c (busy k s) h = rw (asks_none s.at h.0, strays_none c k h.1)

settled_quiet : (c : Model) (t : List Said) (k : Command) (s : Call) (rx : List ℕ) → (scrubs s.at ≡ false) × (unchecked k ≡ false) → Quiet (settled c t k s rx).doing
unfolding settled
settled_quiet c t k s rx h =
    by_if (λ (v : World). Quiet v.doing) (is_over (outcome_of s)) (λ e. tt) (λ e. by_if (λ (v : World). Quiet v.doing) (halfway k s) (λ f. (h.0, second_checked k ∙ h.1)) (λ f. h))

goes_quiet : (t : List Said) (k : Command) (s : Call) (h : Heard) → (scrubs s.at ≡ false) × (unchecked k ≡ false) → Quiet (settled h.chip t k (step_of s h.answer h.rx) h.rx).doing
unfolding step_of
goes_quiet t k s h q = settled_quiet h.chip t k _ h.rx (steps_at s.at s h.answer h.rx q.0, q.1)

-- an event that begins no scrub step and no unchecked push
abbrev Plain : Event → Type 0
Plain (Begin k) = (scrubs (started k).at ≡ false) × (unchecked k ≡ false)
Plain Exchange = Unit {0}
Plain Fail = Unit {0}
Plain (On b) = Unit {0}

event_quiet : (x : Event) (d : Doing) (c : Model) (t : List Said) → Quiet d → Plain x → Quiet (event x d c t).doing
unfolding event
event_quiet (Begin k) idle c t q p = settled_quiet c t k (started k) [] p
event_quiet (Begin k) (busy j s) c t q p = q
event_quiet Exchange idle c t q p = tt
event_quiet Exchange (busy k s) c t q p = goes_quiet t k s (heard true s c) q
event_quiet Fail idle c t q p = tt
event_quiet Fail (busy k s) c t q p = goes_quiet t k s (heard false s c) q
event_quiet (On b) d c t q p = q

abbrev AllPlain : List Event → Type 0
AllPlain [] = Unit {0}
AllPlain (x ∷ xs) = Plain x × AllPlain xs

runs_still : (es : List Event) (v : World) → Quiet v.doing → AllPlain es → Lasts es v
unfolding after
runs_still [] v q p = quiet_still v.chip v.doing q
runs_still (x ∷ es) v q p = (quiet_still v.chip v.doing q, runs_still es _ (event_quiet x v.doing v.chip v.said q p.0) p.1)

steps_plain : (bs : List Bus) (es : List Event) → AllPlain es → AllPlain (map On bs ++ es)
steps_plain [] es p = p
steps_plain (b ∷ bs) es p = (tt, steps_plain bs es p)

calm_plain : (r : List (List Bus)) → AllPlain (calm r)
unfolding calm
calm_plain [] = tt
calm_plain (bs ∷ r) = steps_plain bs (Exchange ∷ calm r) (tt, calm_plain r)

-- a call that begins where none is under way
pub call_still : (v : World) → v.doing ≡ idle → (k : Command) → (scrubs (started k).at ≡ false) × (unchecked k ≡ false) → (bs : List (List Bus)) → Lasts (Begin k ∷ calm bs) v
call_still v e k h bs = runs_still (Begin k ∷ calm bs) v (subst Quiet (sym e) tt) (h, calm_plain bs)
