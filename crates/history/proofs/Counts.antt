-- The modelled chip's CRC is right: no call tells a mismatch.
-- Assumes nothing.
use Prim.Native.Nat.{ℕ, ◌+◌, ◌%◌, ◌^◌}
use native.Mathlib.Omega.{arith}
use mathlib.Core.Path.{◌≡◌, refl, sym, ap, ◌∙◌}
use mathlib.Core.Bool.{Bool, true, false, true≢false}
use mathlib.Core.List.{List, [], ◌∷◌}
use lib.Dec.{ltb}
use lib.ListN.{length}
use Rattle.std.specs.Prelude.{Result, Ok, Err}
use Rattle.laws.proofs.Choice.{by_if}
use Rattle.spi.specs.declared.refusal.Refusal.{Refusal}
use Rattle.spi.specs.declared.ask.Ask.{Ask}
use Rattle.spi.specs.declared.reply.CheckedWord.{CheckedWord}
use Rattle.spi.specs.Reply.{word_reply, done_reply, crc_reply}
use Rattle.spi.specs.Talk.{on_checked}
use Rattle.spi.proofs.Talks.{by_word, by_done}
use Rattle.call.specs.declared.Rewrite.{Rewrite}
use Rattle.call.specs.declared.Outcome.{Outcome}
use Rattle.register.specs.RegisterCall.{RegisterCall}
use Rattle.register.specs.Step as register
use Rattle.ram.specs.RamCall.{RamCall}
use Rattle.ram.specs.Step as ram
use Rattle.plan.specs.PlanAt.{PlanAt}
use Rattle.plan.specs.Step as plan
use Rattle.tx_fifo.specs.PushAt.{PushAt}
use Rattle.tx_fifo.specs.Step as push
use Rattle.transmit.specs.Transmit.{transmit_outcome}
use Rattle.fetch.specs.FetchAt.{FetchAt}
use Rattle.rx_fifo.specs.Outcome as found
use Rattle.watch.specs.declared.Begun.{Begun}
use Rattle.watch.specs.declared.TurnedDown.{TurnedDown}
use Rattle.watch.specs.Watch.{start_of}
use Rattle.scrub.specs.Scrub.{Scrub, ScrubAt}
use Rattle.scrub.specs.Step as scrub
use Rattle.driver.specs.CallAt.{CallAt}
use Rattle.driver.specs.Call.{Call}
use Rattle.driver.specs.Step.{ask_at, ask_of, step_at, step_of, outcome_at, outcome_of}
use Rattle.driver.specs.Send.{body_of}
use Rattle.driver.specs.Start.{of_register, of_ram, of_plan, of_push, of_transmit, of_fetch, of_scrub}
use Rattle.state.specs.declared.Model.{Model}
use Rattle.reach.specs.Bus.{Bus, Send, SendQueue, Deliver, Sort}
use Rattle.history.specs.Command.{Look, Command, looks, started}
use Rattle.history.specs.History.{Event, Begin, Exchange, Fail, On, Said, Heard, Doing, idle, busy, World, heard, halfway, is_over, settled, goes_on, says, event, after}
use Rattle.history.specs.Demand.{Each}
use Rattle.history.specs.Counts.{NeverMismatches, mismatches_told, mismatches_in, TellsNone, NoneMismatched}
use Rattle.history.proofs.Line.{heard_by_lem}
use Rattle.history.proofs.Asks.{check_heard}
use Rattle.history.proofs.Checked.{checked_back}
use Rattle.history.proofs.Inv.{each_snoc}
use Rattle.history.proofs.Scrubs.{no}

-- ---- a checked read's exchange

pub never_mismatches_lem : NeverMismatches
never_mismatches_lem b s a c e =
    let Q : Heard → Type 0 = λ h. crc_reply Refusal.SpiRead a h.answer h.rx ≡ CheckedWord.Mismatch → ⊥ in
    heard_by_lem Q b s (Ask.Checked a) e c (λ w. absurd (true≢false (sym w)))
    (check_heard (body_of s []) c a Q (λ w h. let k : CheckedWord.Word (w % 2 ^ 32) ≡ CheckedWord.Mismatch = sym (checked_back a w) ∙ h in no cc) (λ h. no cc))
    (λ h. no cc)

-- what holds of a word and of a refusal holds then
module _ {T : Type 0} (P : T → Type 0) (bad : Refusal → T) (other : T) (k : ℕ → T) (lost : (r : Refusal) → P (bad r)) (good : (w : ℕ) → P (k w)) where
  matches : (b : Bool) (s : Call) (a : ℕ) (c : Model) → ask_of s ≡ Ask.Checked a
      → (let h : Heard = heard b s c in P (on_checked bad (crc_reply Refusal.SpiRead a h.answer h.rx) other k))
  matches b s a c e = go (crc_reply Refusal.SpiRead a (heard b s c).answer (heard b s c).rx) (never_mismatches_lem b s a c e)
    where
      go : (x : CheckedWord) → (x ≡ CheckedWord.Mismatch → ⊥) → P (on_checked bad x other k)
      go (CheckedWord.Word w) n = good w
      go CheckedWord.Mismatch n = absurd (n refl)
      go (CheckedWord.Bad r) n = lost r

-- ---- the mismatches that a call has counted

abbrev seen_in : RegisterCall → ℕ
seen_in RegisterCall.Reset = 0
seen_in (RegisterCall.Read a) = 0
seen_in (RegisterCall.Write a w) = 0
seen_in (RegisterCall.Checked a seen) = seen
seen_in RegisterCall.Mode = 0
seen_in RegisterCall.Done = 0
seen_in (RegisterCall.Word w) = 0
seen_in (RegisterCall.Matched w seen) = seen
seen_in (RegisterCall.OpMode m) = 0
seen_in (RegisterCall.Refused r) = 0

abbrev count_in : ScrubAt → ℕ
count_in (ScrubAt.Visit count) = count
count_in (ScrubAt.Write read first) = first
count_in (ScrubAt.Back read first count) = first + count
count_in (ScrubAt.Told r) = mismatches_told r
count_in (ScrubAt.Refused r) = 0

abbrev None : CallAt → Type 0
None (CallAt.Register r) = seen_in r ≡ 0
None (CallAt.Ram r) = Unit {0}
None CallAt.Plan = Unit {0}
None CallAt.Push = Unit {0}
None CallAt.Transmit = Unit {0}
None CallAt.Fetch = Unit {0}
None (CallAt.Scrub z) = count_in z.at ≡ 0

-- ---- an answer

module _ (b : Bool) (s : Call) (c : Model) where
  abbrev h : Heard
  h = heard b s c

  register_none : (r : RegisterCall) → s.at ≡ CallAt.Register r → seen_in r ≡ 0 → seen_in (register.step_of r h.answer h.rx) ≡ 0
  unfolding register.step_of register.ask_of ask_of
  register_none RegisterCall.Reset is e = by_done (λ x. seen_in x ≡ 0) (λ r. refl) (done_reply Refusal.SpiWrite h.answer (length h.rx) 0) refl
  register_none (RegisterCall.Read a) is e = by_word (λ x. seen_in x ≡ 0) (λ r. refl) (word_reply Refusal.SpiRead h.answer h.rx) (λ w. refl)
  register_none (RegisterCall.Write a w) is e = by_done (λ x. seen_in x ≡ 0) (λ r. refl) (done_reply Refusal.SpiRead h.answer (length h.rx) 0) refl
  register_none (RegisterCall.Checked a seen) is e =
      matches (λ x. seen_in x ≡ 0) RegisterCall.Refused (register.after_mismatch a seen) (λ w. RegisterCall.Matched w seen) (λ r. refl) (λ w. e) b s a c
      (ap (λ (x : CallAt). ask_at x s) is)
  register_none RegisterCall.Mode is e = by_word (λ x. seen_in x ≡ 0) (λ r. refl) (word_reply Refusal.SpiRead h.answer h.rx) (λ w. refl)
  register_none RegisterCall.Done is e = refl
  register_none (RegisterCall.Word w) is e = refl
  register_none (RegisterCall.Matched w seen) is e = refl
  register_none (RegisterCall.OpMode m) is e = refl
  register_none (RegisterCall.Refused r) is e = refl

  module _ (z : Scrub) (is : s.at ≡ CallAt.Scrub z) where
    abbrev Q : Scrub → Type 0
    Q x = count_in x.at ≡ 0

    asks : (at : ScrubAt) → z.at ≡ at → ask_of s ≡ scrub.ask_at at z.entry
    unfolding ask_of scrub.ask_of
    asks at i = ap (λ (x : CallAt). ask_at x s) is ∙ ap (λ (x : ScrubAt). scrub.ask_at x z.entry) i

    scrub_none : (at : ScrubAt) → z.at ≡ at → count_in at ≡ 0 → count_in (scrub.step_at at z h.answer h.rx).at ≡ 0
    scrub_none (ScrubAt.Visit count) i e =
        matches Q (scrub.unread z) (register.again count (scrub.unread z) (λ k. scrub.to z (ScrubAt.Visit k))) (λ w. scrub.seen z w count) (λ r. refl)
        (λ w. by_if Q (scrub.agrees w z.entry.wanted z.entry.care) (λ t. e) (λ t. by_if Q z.rewrite (λ u. e) (λ u. omega (arith, e))))
        b s z.entry.address c (asks _ i)
    scrub_none (ScrubAt.Write read first) i e =
        by_done Q (λ r. omega (arith, e)) (done_reply Refusal.SpiRead h.answer (length h.rx) 0) (omega (arith, e))
    scrub_none (ScrubAt.Back read first count) i e =
        matches Q (scrub.unwritten z read first) (register.again count (scrub.unwritten z read first) (λ k. scrub.to z (ScrubAt.Back read first k)))
        (λ w. scrub.reports z (scrub.differs z.entry read first (Rewrite.Back w count))) (λ r. omega (arith, e)) (λ w. e) b s z.entry.address c (asks _ i)
    scrub_none (ScrubAt.Told r) i e = refl
    scrub_none (ScrubAt.Refused r) i e = refl

  answer_none : (at : CallAt) → s.at ≡ at → None at → None (step_at at s h.answer h.rx).at
  unfolding scrub.step_of
  answer_none (CallAt.Register r) is e = register_none r is e
  answer_none (CallAt.Ram r) is e = tt
  answer_none CallAt.Plan is e = tt
  answer_none CallAt.Push is e = tt
  answer_none CallAt.Transmit is e = tt
  answer_none CallAt.Fetch is e = tt
  answer_none (CallAt.Scrub z) is e = scrub_none z is z.at refl e

-- ---- an end

abbrev Untold : Outcome → Type 0
Untold o = mismatches_in o ≡ 0

register_tells : (r : RegisterCall) → seen_in r ≡ 0 → Untold (register.outcome_of r)
unfolding register.outcome_of
register_tells RegisterCall.Reset e = refl
register_tells (RegisterCall.Read a) e = refl
register_tells (RegisterCall.Write a w) e = refl
register_tells (RegisterCall.Checked a seen) e = refl
register_tells RegisterCall.Mode e = refl
register_tells RegisterCall.Done e = refl
register_tells (RegisterCall.Word w) e = refl
register_tells (RegisterCall.Matched w seen) e = e
register_tells (RegisterCall.OpMode m) e = refl
register_tells (RegisterCall.Refused r) e = refl

ram_tells : (r : RamCall) → Untold (ram.outcome_of r)
unfolding ram.outcome_of
ram_tells (RamCall.Read a place count) = refl
ram_tells (RamCall.Received place count) = refl
ram_tells (RamCall.Write a count) = refl
ram_tells RamCall.EchoWrite = refl
ram_tells RamCall.EchoRead = refl
ram_tells RamCall.Done = refl
ram_tells (RamCall.Refused r) = refl

plan_tells : (at : PlanAt) → Untold (plan.outcome_at at)
plan_tells (PlanAt.Read c) = refl
plan_tells (PlanAt.Write a w) = refl
plan_tells (PlanAt.Poll p n) = refl
plan_tells (PlanAt.Wait p n) = refl
plan_tells (PlanAt.EchoWrite n) = refl
plan_tells (PlanAt.EchoRead n) = refl
plan_tells PlanAt.Done = refl
plan_tells (PlanAt.Refused r) = refl

push_tells : (at : PushAt) → Untold (push.outcome_at at)
push_tells PushAt.Control = refl
push_tells (PushAt.Status w) = refl
push_tells (PushAt.Address w) = refl
push_tells (PushAt.Write w m) = refl
push_tells (PushAt.Commit w) = refl
push_tells PushAt.Enabled = refl
push_tells PushAt.BareAddress = refl
push_tells (PushAt.BareWrite m) = refl
push_tells PushAt.BareControl = refl
push_tells PushAt.Done = refl
push_tells (PushAt.Refused r) = refl

fetch_tells : (at : FetchAt) (held : List ℕ) → Untold (found.outcome_at at held)
fetch_tells FetchAt.Control held = refl
fetch_tells FetchAt.Status held = refl
fetch_tells FetchAt.Address held = refl
fetch_tells (FetchAt.Header m) held = refl
fetch_tells (FetchAt.Again m f) held = refl
fetch_tells (FetchAt.Time x f) held = refl
fetch_tells (FetchAt.Body x f) held = refl
fetch_tells (FetchAt.Next f) held = refl
fetch_tells (FetchAt.Commit w f) held = refl
fetch_tells (FetchAt.Done f) held = refl
fetch_tells FetchAt.Empty held = refl
fetch_tells (FetchAt.Told next) held = by_if Untold next (λ e. refl) (λ e. refl)
fetch_tells (FetchAt.Refused r) held = refl

scrub_tells : (at : ScrubAt) → count_in at ≡ 0 → Untold (scrub.outcome_at at)
scrub_tells (ScrubAt.Visit count) e = refl
scrub_tells (ScrubAt.Write read first) e = refl
scrub_tells (ScrubAt.Back read first count) e = refl
scrub_tells (ScrubAt.Told r) e = e
scrub_tells (ScrubAt.Refused r) e = refl

end_none : (at : CallAt) (s : Call) → None at → Untold (outcome_at at s)
unfolding push.outcome_of transmit_outcome found.outcome_of scrub.outcome_of
end_none (CallAt.Register r) s e = register_tells r e
end_none (CallAt.Ram r) s e = ram_tells r
end_none CallAt.Plan s e = plan_tells s.plan.at
end_none CallAt.Push s e = push_tells s.push.at
end_none CallAt.Transmit s e = by_if Untold (push.is_done s.push) (λ t. plan_tells s.plan.at) (λ t. push_tells s.push.at)
end_none CallAt.Fetch s e = fetch_tells s.fetch.at s.fetch.held
end_none (CallAt.Scrub z) s e = scrub_tells z.at e

-- ---- a beginning

addressed_none : (a : ℕ) (r : RegisterCall) → seen_in r ≡ 0 → seen_in (register.addressed a r) ≡ 0
unfolding register.addressed
addressed_none a r e = by_if (λ x. seen_in x ≡ 0) (ltb a (2 ^ 12)) (λ t. e) (λ t. refl)

begun_none : (b : Result Begun TurnedDown) (rewrite : Bool) → count_in (scrub.begins b rewrite).at ≡ 0
unfolding scrub.begins
begun_none (Ok b) rewrite = refl
begun_none (Err t) rewrite = refl

look_none : (x : Look) → None (looks x).at
unfolding of_register of_ram of_scrub
look_none (Look.Register a) = addressed_none a (RegisterCall.Read a) refl
look_none (Look.Checked a) = addressed_none a (RegisterCall.Checked a 0) refl
look_none Look.OpMode = refl
look_none (Look.Ram a place count buf) = tt
look_none (Look.Scrub place list rewrite) = begun_none (start_of place list) rewrite

start_none : (k : Command) → None (started k).at
unfolding of_plan of_push of_transmit of_fetch
start_none (Command.Push n header seq payload) = tt
start_none (Command.Transmit n header seq payload) = tt
start_none (Command.QueuePush header seq payload) = tt
start_none (Command.QueueUnchecked header seq payload) = tt
start_none Command.QueueRequest = tt
start_none (Command.Request n) = tt
start_none (Command.HasNext n) = tt
start_none (Command.Peek n buf) = tt
start_none (Command.Get n buf) = tt
start_none (Command.Reading x) = look_none x
start_none (Command.Configuring x) = tt

-- ---- every event

abbrev Going : Doing → Type 0
Going idle = Unit {0}
Going (busy k s) = None s.at

record Tidy (v : World) : Type 0 where
  pub said : Each TellsNone v.said
  pub doing : Going v.doing

module _ (t : List Said) (e : Each TellsNone t) where
  settles : (c : Model) (k : Command) (s : Call) (rx : List ℕ) → None s.at → Tidy (settled c t k s rx)
  unfolding settled outcome_of
  settles c k s rx n =
      by_if Tidy (is_over (outcome_of s)) (λ o. record { said = each_snoc TellsNone t _ e (end_none s.at s n); doing = tt })
      (λ o. by_if Tidy (halfway k s) (λ f. record { said = each_snoc TellsNone t _ e refl; doing = n }) (λ f. record { said = e; doing = n }))

  goes : (b : Bool) (c : Model) (k : Command) (s : Call) → None s.at → Tidy (goes_on t k s (heard b s c))
  unfolding step_of
  goes b c k s n = settles (heard b s c).chip k (step_of s (heard b s c).answer (heard b s c).rx) (heard b s c).rx (answer_none b s c s.at refl n)

bus_none : (b : Bus) (c : Model) → TellsNone (says b c)
bus_none (Send n) c = tt
bus_none SendQueue c = tt
bus_none (Deliver n header dlc time payload) c = tt
bus_none (Sort header dlc time payload) c = tt

event_none : (x : Event) (d : Doing) (c : Model) (t : List Said) → Each TellsNone t → Going d → Tidy (event x d c t)
unfolding event
event_none (Begin k) idle c t e n = settles t e c k (started k) [] (start_none k)
event_none (Begin k) (busy j s) c t e n = record { said = e; doing = n }
event_none Exchange idle c t e n = record { said = e; doing = n }
event_none Exchange (busy k s) c t e n = goes t e true c k s n
event_none Fail idle c t e n = record { said = e; doing = n }
event_none Fail (busy k s) c t e n = goes t e false c k s n
event_none (On b) d c t e n = record { said = each_snoc TellsNone t (says b c) e (bus_none b c); doing = n }

run_none : (es : List Event) (v : World) → Tidy v → Tidy (after es v)
unfolding after
run_none [] v i = i
run_none (x ∷ es) v i = run_none es _ (event_none x v.doing v.chip v.said i.said i.doing)

pub none_mismatched_lem : NoneMismatched
none_mismatched_lem c es = (run_none es _ (record { said = tt; doing = tt })).said
