-- Every value of the one type ends, one made by hand too: each answer uses up a turn, and at none left nothing is asked.
-- Assumes nothing.
use Prim.Native.Nat.{ℕ, ◌+◌, ◌-◌, ◌≤◌}
use native.Mathlib.Omega.{arith}
use mathlib.Core.Path.{◌≡◌, refl, sym, ◌∙◌}
use mathlib.Core.Bool.{Bool, true, true≢false, false≢true}
use mathlib.Core.Logic.{◌↔◌}
use mathlib.Core.List.{List, [], ◌∷◌}
use lib.ListN.{length}
use lib.Dec.{ltb}
use borrow.Author.Tests.{ltb-true}
use Rattle.laws.proofs.Choice.{by_if}
use Rattle.field.specs.Field.{flag}
use Rattle.configuration.specs.CanControl.{TXQEN}
use Rattle.fifo.specs.Control.{TXEN, RXTSEN, payload_of}
use Rattle.fifo.specs.Status.{TFNRFNIF}
use Rattle.words.specs.Words.{round_up}
use Rattle.spi.specs.declared.refusal.Refusal.{Refusal}
use Rattle.spi.specs.declared.ask.Ask.{Ask}
use Rattle.spi.specs.declared.ask.Answer.{Answer}
use Rattle.spi.specs.Ram.{in_range}
use Rattle.spi.specs.Reply.{word_reply, pair_reply, done_reply, crc_reply}
use Rattle.spi.specs.Talk.{on_word, on_done, run}
use Rattle.spi.proofs.Talks.{by_word, by_pair, by_done, by_checked, still_asks}
use Rattle.call.specs.declared.Found.{Found}
use Rattle.register.specs.RegisterCall.{RegisterCall}
use Rattle.register.specs.Step as register
use Rattle.ram.specs.RamCall.{RamCall}
use Rattle.ram.specs.Echo.{same, echo_bytes}
use Rattle.ram.specs.Step as ram
use Rattle.plan.specs.Step as plan
use Rattle.plan.specs.Talk.{plan_left}
use Rattle.plan.proofs.Turns.{plan_falls, plan_over}
use Rattle.tx_fifo.specs.PushAt.{PushAt}
use Rattle.tx_fifo.specs.Step as push
use Rattle.transmit.specs.Transmit.{Transmit, transmit_ask, transmit_step}
use Rattle.fetch.specs.declared.Want.{Want}
use Rattle.fetch.specs.FetchAt.{FetchAt}
use Rattle.fetch.specs.Step as fetched
use Rattle.rx_fifo.specs.Step as fetch
use Rattle.scrub.specs.Scrub.{Scrub, ScrubAt}
use Rattle.scrub.specs.Step as scrub
use Rattle.driver.specs.CallAt.{CallAt}
use Rattle.driver.specs.Call.{Call}
use Rattle.driver.specs.Step.{ask_at, ask_of, step_at, step_of, transmit_of}
use Rattle.driver.specs.Demand1.{after, register_left, ram_left, push_left, fetch_left, scrub_left_at, scrub_left, left_at, left, TurnsFall, OverAtNone, EveryCallEnds}

-- one turn less than so many, at most
abbrev Falls : {S : Type 0} → (S → ℕ) → ℕ → S → Type 0
Falls turns m s = turns s ≤ m - 1

-- ---- registers, RAM

register_falls : (r : RegisterCall) (a : Answer) (rx : List ℕ) → Falls register_left (register_left r) (register.step_of r a rx)
unfolding register.step_of register.after_mismatch
register_falls RegisterCall.Reset a rx = by_done (Falls register_left 1) (λ r. omega arith) (done_reply Refusal.SpiWrite a (length rx) 0) (omega arith)
register_falls (RegisterCall.Read address) a rx = by_word (Falls register_left 1) (λ r. omega arith) (word_reply Refusal.SpiRead a rx) (λ w. omega arith)
register_falls (RegisterCall.Write address word) a rx =
    by_done (Falls register_left 1) (λ r. omega arith) (done_reply Refusal.SpiRead a (length rx) 0) (omega arith)
register_falls (RegisterCall.Checked address seen) a rx =
    let P = Falls register_left (register_left (RegisterCall.Checked address seen)) in
    by_checked P (λ r. omega arith) (crc_reply Refusal.SpiRead address a rx)
    (by_if P (ltb seen 2) (λ e. omega (arith, ltb-true seen 2 e)) (λ e. omega arith)) (λ w. omega arith)
register_falls RegisterCall.Mode a rx = by_word (Falls register_left 1) (λ r. omega arith) (word_reply Refusal.SpiRead a rx) (λ w. omega arith)
register_falls RegisterCall.Done a rx = omega arith
register_falls (RegisterCall.Word w) a rx = omega arith
register_falls (RegisterCall.Matched w seen) a rx = omega arith
register_falls (RegisterCall.OpMode m) a rx = omega arith
register_falls (RegisterCall.Refused r) a rx = omega arith

register_over : (r : RegisterCall) → (register_left r ≡ 0) ↔ (register.ask_of r ≡ Ask.Nothing)
unfolding register.ask_of
register_over RegisterCall.Reset = still_asks (omega arith) refl
register_over (RegisterCall.Read address) = still_asks (omega arith) refl
register_over (RegisterCall.Write address word) = still_asks (omega arith) refl
register_over (RegisterCall.Checked address seen) = still_asks (omega arith) refl
register_over RegisterCall.Mode = still_asks (omega arith) refl
register_over RegisterCall.Done = (λ e. refl, λ e. refl)
register_over (RegisterCall.Word w) = (λ e. refl, λ e. refl)
register_over (RegisterCall.Matched w seen) = (λ e. refl, λ e. refl)
register_over (RegisterCall.OpMode m) = (λ e. refl, λ e. refl)
register_over (RegisterCall.Refused r) = (λ e. refl, λ e. refl)

ram_falls : (r : RamCall) (a : Answer) (rx : List ℕ) → Falls ram_left (ram_left r) (ram.step_of r a rx)
unfolding ram.step_of ram.after_echo
ram_falls (RamCall.Read address place count) a rx =
    by_done (Falls ram_left 1) (λ r. omega arith) (done_reply Refusal.SpiRead a (length rx) count) (omega arith)
ram_falls (RamCall.Received place count) a rx = omega arith
ram_falls (RamCall.Write address count) a rx = by_done (Falls ram_left 1) (λ r. omega arith) (done_reply Refusal.SpiWrite a (length rx) 0) (omega arith)
ram_falls RamCall.EchoWrite a rx =
    by_done (Falls ram_left 2) (λ r. omega arith) (done_reply Refusal.ConfigurationModeTimeout a (length rx) 0) (omega arith)
ram_falls RamCall.EchoRead a rx =
    by_done (Falls ram_left 1) (λ r. omega arith) (done_reply Refusal.ConfigurationModeTimeout a (length rx) 128)
    (by_if (Falls ram_left 1) (same rx echo_bytes) (λ e. omega arith) (λ e. omega arith))
ram_falls RamCall.Done a rx = omega arith
ram_falls (RamCall.Refused r) a rx = omega arith

ram_over : (r : RamCall) → (ram_left r ≡ 0) ↔ (ram.ask_of r ≡ Ask.Nothing)
unfolding ram.ask_of
ram_over (RamCall.Read address place count) = still_asks (omega arith) refl
ram_over (RamCall.Received place count) = (λ e. refl, λ e. refl)
ram_over (RamCall.Write address count) = still_asks (omega arith) refl
ram_over RamCall.EchoWrite = still_asks (omega arith) refl
ram_over RamCall.EchoRead = still_asks (omega arith) refl
ram_over RamCall.Done = (λ e. refl, λ e. refl)
ram_over (RamCall.Refused r) = (λ e. refl, λ e. refl)

-- ---- push, with n asks behind it, and transmit

module _ (n : ℕ) where
  abbrev Pushes : ℕ → PushAt → Type 0
  Pushes = Falls (λ at. push_left at n)

  -- where a word is read, by what is told of every word
  module _ (m : ℕ) (a : Answer) (rx : List ℕ) where
    to_word : (k : ℕ → PushAt) → ((w : ℕ) → Pushes m (k w)) → Pushes m (on_word PushAt.Refused (word_reply Refusal.SpiRead a rx) k)
    to_word k h = by_word (Pushes m) (λ r. omega arith) (word_reply Refusal.SpiRead a rx) h

    to_ram : (len : ℕ) (to : ℕ → PushAt) → ((x : ℕ) → Pushes m (to x)) → Pushes m (on_word PushAt.Refused (word_reply Refusal.SpiRead a rx) (push.after_address len to))
    unfolding push.after_address
    to_ram len to h =
        to_word _ (λ u. by_if (Pushes m) (ltb 0xFBFF u) (λ e. omega arith) (λ e. by_if (Pushes m) (in_range (u + 0x400) len) (λ d. h (u + 0x400)) (λ d. omega arith)))

    to_done : (failed : Refusal) (at : PushAt) → Pushes m at → Pushes m (on_done PushAt.Refused (done_reply failed a (length rx) 0) at)
    to_done failed at h = by_done (Pushes m) (λ r. omega arith) (done_reply failed a (length rx) 0) h

  push_falls : (fifo size len : ℕ) (at : PushAt) (a : Answer) (rx : List ℕ) → Pushes (push_left at n) (push.next_at fifo size len at a rx)
  unfolding push.after_enabled push.after_control push.after_status
  push_falls fifo size len PushAt.Enabled a rx =
      let m = push_left PushAt.Enabled n in to_word m a rx _ (λ w. by_if (Pushes m) (flag TXQEN w) (λ e. omega arith) (λ e. omega arith))
  push_falls fifo size len PushAt.Control a rx =
      let m = push_left PushAt.Control n in
      to_word m a rx _
      (λ w. by_if (Pushes m) (push.sends fifo w) (λ e. by_if (Pushes m) (ltb (payload_of w) size) (λ d. omega arith) (λ d. omega arith)) (λ e. omega arith))
  push_falls fifo size len (PushAt.Status w) a rx =
      let m = push_left (PushAt.Status w) n in to_word m a rx _ (λ v. by_if (Pushes m) (flag TFNRFNIF v) (λ e. omega arith) (λ e. omega arith))
  push_falls fifo size len (PushAt.Address w) a rx = to_ram (push_left (PushAt.Address w) n) a rx len (PushAt.Write w) (λ x. omega arith)
  push_falls fifo size len (PushAt.Write w m) a rx = to_done (push_left (PushAt.Write w m) n) a rx Refusal.SpiWrite (PushAt.Commit w) (omega arith)
  push_falls fifo size len (PushAt.Commit w) a rx = to_done (push_left (PushAt.Commit w) n) a rx Refusal.SpiRead PushAt.Done (omega arith)
  push_falls fifo size len PushAt.BareAddress a rx = to_ram (push_left PushAt.BareAddress n) a rx len PushAt.BareWrite (λ x. omega arith)
  push_falls fifo size len (PushAt.BareWrite m) a rx = to_done (push_left (PushAt.BareWrite m) n) a rx Refusal.SpiWrite PushAt.BareControl (omega arith)
  push_falls fifo size len PushAt.BareControl a rx = to_word (push_left PushAt.BareControl n) a rx PushAt.Commit (λ w. omega arith)
  push_falls fifo size len PushAt.Done a rx = omega arith
  push_falls fifo size len (PushAt.Refused r) a rx = omega arith

  -- where nothing stands behind a push that is done
  push_over : (fifo len : ℕ) (at : PushAt) → (push.done_at at ≡ true → n ≡ 0) → (push_left at n ≡ 0) ↔ (push.ask_at fifo len at ≡ Ask.Nothing)
  push_over fifo len PushAt.Enabled h = still_asks (omega arith) refl
  push_over fifo len PushAt.Control h = still_asks (omega arith) refl
  push_over fifo len (PushAt.Status w) h = still_asks (omega arith) refl
  push_over fifo len (PushAt.Address w) h = still_asks (omega arith) refl
  push_over fifo len (PushAt.Write w m) h = still_asks (omega arith) refl
  push_over fifo len (PushAt.Commit w) h = still_asks (omega arith) refl
  push_over fifo len PushAt.BareAddress h = still_asks (omega arith) refl
  push_over fifo len (PushAt.BareWrite m) h = still_asks (omega arith) refl
  push_over fifo len PushAt.BareControl h = still_asks (omega arith) refl
  push_over fifo len PushAt.Done h = (λ e. refl, λ e. h refl)
  push_over fifo len (PushAt.Refused r) h = (λ e. refl, λ e. refl)

  -- a push that is done leaves what is behind it
  pushed : (at : PushAt) → push.done_at at ≡ true → push_left at n ≡ n
  pushed PushAt.Enabled e = absurd (false≢true e)
  pushed PushAt.Control e = absurd (false≢true e)
  pushed (PushAt.Status w) e = absurd (false≢true e)
  pushed (PushAt.Address w) e = absurd (false≢true e)
  pushed (PushAt.Write w m) e = absurd (false≢true e)
  pushed (PushAt.Commit w) e = absurd (false≢true e)
  pushed PushAt.BareAddress e = absurd (false≢true e)
  pushed (PushAt.BareWrite m) e = absurd (false≢true e)
  pushed PushAt.BareControl e = absurd (false≢true e)
  pushed PushAt.Done e = refl
  pushed (PushAt.Refused r) e = absurd (false≢true e)

abbrev transmit_left : Transmit → ℕ
transmit_left t = push_left t.push.at (plan_left t.request)

transmit_falls : (t : Transmit) (a : Answer) (rx : List ℕ) → Falls transmit_left (transmit_left t) (transmit_step t a rx)
unfolding transmit_step push.step_of
transmit_falls t a rx =
    by_if (Falls transmit_left (transmit_left t)) (push.is_done t.push)
    (λ e.
    omega
    (arith, pushed (plan_left t.request) t.push.at e, pushed (plan_left (plan.step_of t.request a rx)) t.push.at e, plan_falls t.request a rx))
    (λ e. push_falls _ t.push.fifo t.push.size t.push.object.len t.push.at a rx)

transmit_over : (t : Transmit) → (transmit_left t ≡ 0) ↔ (transmit_ask t ≡ Ask.Nothing)
unfolding transmit_ask push.ask_of
transmit_over t =
    by_if (λ q. (transmit_left t ≡ 0) ↔ (q ≡ Ask.Nothing)) (push.is_done t.push)
    (λ e. rw (pushed _ t.push.at e) (plan_over t.request))
    (λ e. push_over _ t.push.fifo t.push.object.len t.push.at (λ d. absurd (true≢false (sym d ∙ e))))

-- ---- has-next, peek and get

abbrev Fetches : ℕ → FetchAt → Type 0
Fetches = Falls fetch_left

-- a payload at x, after a turn of m
body_falls : (m x : ℕ) (f : Found) → 4 ≤ m → Fetches m (fetched.to_body x f)
unfolding fetched.to_body
body_falls m x f l = by_if (Fetches m) (in_range x (round_up f.len)) (λ e. omega arith) (λ e. omega arith)

status_falls : (want : Want) (next : Bool) → Fetches 8 (fetched.by_status want next)
status_falls Want.HasNext next = omega arith
status_falls Want.Peek next = by_if (Fetches 8) next (λ e. omega arith) (λ e. omega arith)
status_falls Want.Get next = by_if (Fetches 8) next (λ e. omega arith) (λ e. omega arith)

last_falls : (want : Want) (f : Found) → Fetches 3 (fetched.after_body want f)
last_falls Want.HasNext f = omega arith
last_falls Want.Peek f = omega arith
last_falls Want.Get f = omega arith

module _ (want : Want) (a : Answer) (rx : List ℕ) where
  -- by a word, by an exchange that wants so many bytes
  of_word : (m : ℕ) (k : ℕ → FetchAt) → ((w : ℕ) → Fetches m (k w)) → Fetches m (on_word FetchAt.Refused (word_reply Refusal.SpiRead a rx) k)
  of_word m k h = by_word (Fetches m) (λ r. omega arith) (word_reply Refusal.SpiRead a rx) h

  of_done : (m count : ℕ) (at : FetchAt) → Fetches m at → Fetches m (on_done FetchAt.Refused (done_reply Refusal.SpiRead a (length rx) count) at)
  of_done m count at h = by_done (Fetches m) (λ r. omega arith) (done_reply Refusal.SpiRead a (length rx) count) h

  fetch_falls : (at : FetchAt) → Fetches (fetch_left at) (fetched.next_at want at a rx)
  unfolding fetched.after_control fetched.after_status fetched.after_address fetched.after_header fetched.to_time fetched.after_again fetched.after_time
  fetch_falls FetchAt.Control = of_word 9 _ (λ w. by_if (Fetches 9) (flag TXEN w) (λ e. omega arith) (λ e. omega arith))
  fetch_falls FetchAt.Status = of_word 8 _ (λ v. status_falls want (flag TFNRFNIF v))
  fetch_falls FetchAt.Address =
      of_word 7 _ (λ u. by_if (Fetches 7) (ltb 0xFBFF u) (λ e. omega arith) (λ e. by_if (Fetches 7) (in_range (u + 0x400) 8) (λ d. omega arith) (λ d. omega arith)))
  fetch_falls (FetchAt.Header m) = by_pair (Fetches 6) (λ r. omega arith) (pair_reply Refusal.SpiRead a rx) (λ c d. omega arith)
  fetch_falls (FetchAt.Again m f) =
      of_word 5 _
      (λ w. by_if (Fetches 5) (ltb (payload_of w) f.len) (λ e. omega arith)
      (λ e. by_if (Fetches 5) (flag RXTSEN w) (λ e. by_if (Fetches 5) (in_range (m + 8) 4) (λ d. omega arith) (λ d. omega arith))
      (λ e. body_falls 5 (m + 8) f (omega arith))))
  fetch_falls (FetchAt.Time x f) = of_word 4 _ (λ t. body_falls 4 (x + 4) (fetched.stamped f t) (omega arith))
  fetch_falls (FetchAt.Body x f) = of_done 3 (round_up f.len) _ (last_falls want f)
  fetch_falls (FetchAt.Next f) = of_word 2 _ (λ w. omega arith)
  fetch_falls (FetchAt.Commit w f) = of_done 1 0 _ (omega arith)
  fetch_falls (FetchAt.Done f) = omega arith
  fetch_falls FetchAt.Empty = omega arith
  fetch_falls (FetchAt.Told next) = omega arith
  fetch_falls (FetchAt.Refused r) = omega arith

fetch_over : (fifo : ℕ) (at : FetchAt) → (fetch_left at ≡ 0) ↔ (fetch.ask_from fifo at ≡ Ask.Nothing)
fetch_over fifo FetchAt.Control = still_asks (omega arith) refl
fetch_over fifo FetchAt.Status = still_asks (omega arith) refl
fetch_over fifo FetchAt.Address = still_asks (omega arith) refl
fetch_over fifo (FetchAt.Header m) = still_asks (omega arith) refl
fetch_over fifo (FetchAt.Again m f) = still_asks (omega arith) refl
fetch_over fifo (FetchAt.Time x f) = still_asks (omega arith) refl
fetch_over fifo (FetchAt.Body x f) = still_asks (omega arith) refl
fetch_over fifo (FetchAt.Next f) = still_asks (omega arith) refl
fetch_over fifo (FetchAt.Commit w f) = still_asks (omega arith) refl
fetch_over fifo (FetchAt.Done f) = (λ e. refl, λ e. refl)
fetch_over fifo FetchAt.Empty = (λ e. refl, λ e. refl)
fetch_over fifo (FetchAt.Told next) = (λ e. refl, λ e. refl)
fetch_over fifo (FetchAt.Refused r) = (λ e. refl, λ e. refl)

-- ---- scrub

scrub_falls : (at : ScrubAt) (s : Scrub) (a : Answer) (rx : List ℕ) → Falls scrub_left (scrub_left_at at s.rewrite) (scrub.step_at at s a rx)
scrub_falls (ScrubAt.Visit count) s a rx =
    let P = Falls scrub_left (scrub_left_at (ScrubAt.Visit count) s.rewrite) in
    by_checked P (λ r. omega arith) (crc_reply Refusal.SpiRead s.entry.address a rx)
    (by_if P (ltb count 2) (λ e. omega (arith, ltb-true count 2 e)) (λ e. omega arith))
    (λ w. by_if P (scrub.agrees w s.entry.wanted s.entry.care) (λ e. omega arith) (λ e. by_if P s.rewrite (λ f. rw f (omega arith)) (λ f. omega arith)))
scrub_falls (ScrubAt.Write read first) s a rx = by_done (Falls scrub_left 4) (λ r. omega arith) (done_reply Refusal.SpiRead a (length rx) 0) (omega arith)
scrub_falls (ScrubAt.Back read first count) s a rx =
    let P = Falls scrub_left (scrub_left_at (ScrubAt.Back read first count) s.rewrite) in
    by_checked P (λ r. omega arith) (crc_reply Refusal.SpiRead s.entry.address a rx)
    (by_if P (ltb count 2) (λ e. omega (arith, ltb-true count 2 e)) (λ e. omega arith)) (λ w. omega arith)
scrub_falls (ScrubAt.Told r) s a rx = omega arith
scrub_falls (ScrubAt.Refused r) s a rx = omega arith

scrub_over : (at : ScrubAt) (s : Scrub) → (scrub_left_at at s.rewrite ≡ 0) ↔ (scrub.ask_at at s.entry ≡ Ask.Nothing)
scrub_over (ScrubAt.Visit count) s = still_asks (omega arith) refl
scrub_over (ScrubAt.Write read first) s = still_asks (omega arith) refl
scrub_over (ScrubAt.Back read first count) s = still_asks (omega arith) refl
scrub_over (ScrubAt.Told r) s = (λ e. refl, λ e. refl)
scrub_over (ScrubAt.Refused r) s = (λ e. refl, λ e. refl)

-- ---- any call

falls_at : (at : CallAt) (call : Call) (a : Answer) (rx : List ℕ) → Falls left (left_at at call) (step_at at call a rx)
unfolding push.step_of fetch.step_of scrub.step_of
falls_at (CallAt.Register r) call a rx = register_falls r a rx
falls_at (CallAt.Ram r) call a rx = ram_falls r a rx
falls_at CallAt.Plan call a rx = plan_falls call.plan a rx
falls_at CallAt.Push call a rx = push_falls 0 call.push.fifo call.push.size call.push.object.len call.push.at a rx
falls_at CallAt.Transmit call a rx = transmit_falls (transmit_of call) a rx
falls_at CallAt.Fetch call a rx = fetch_falls call.fetch.want a rx call.fetch.at
falls_at (CallAt.Scrub x) call a rx = scrub_falls x.at x a rx

over_at : (at : CallAt) (call : Call) → (left_at at call ≡ 0) ↔ (ask_at at call ≡ Ask.Nothing)
unfolding push.ask_of fetch.ask_of scrub.ask_of
over_at (CallAt.Register r) call = register_over r
over_at (CallAt.Ram r) call = ram_over r
over_at CallAt.Plan call = plan_over call.plan
over_at CallAt.Push call = push_over 0 call.push.fifo call.push.object.len call.push.at (λ e. refl)
over_at CallAt.Transmit call = transmit_over (transmit_of call)
over_at CallAt.Fetch call = fetch_over call.fetch.fifo call.fetch.at
over_at (CallAt.Scrub x) call = scrub_over x.at x

falls : (call : Call) (a : Answer) (rx : List ℕ) → Falls left (left call) (step_of call a rx)
unfolding step_of
falls call a rx = falls_at call.at call a rx

pub over_at_none_lem : OverAtNone
unfolding ask_of
over_at_none_lem call = over_at call.at call

pub turns_fall_lem : TurnsFall
turns_fall_lem call a rx h =
    let some : left call ≡ 0 → ⊥ = λ e. h ((over_at_none_lem call).0 e) in
    omega (arith, falls call a rx)

-- ---- so it is over after so many answers

left_after : (call : Call) (xs : List (Answer × List ℕ)) → left (after call xs) ≤ left call - length xs
unfolding run
left_after call [] = omega arith
left_after call (x ∷ xs) = omega (arith, falls call x.0 x.1, left_after (step_of call x.0 x.1) xs)

pub every_call_ends_lem : EveryCallEnds
every_call_ends_lem call xs l = (over_at_none_lem (after call xs)).0 (omega (arith, left_after call xs))
