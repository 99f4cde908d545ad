-- Wherever a call stands: it asks for something or is over, and an answer of another length or kind than asked, or after the end, is 26.
-- Assumes nothing.
use Prim.Native.Nat.{ℕ, zero, suc, ◌+◌, ◌-◌}
use mathlib.Core.Path.{◌≡◌, refl, ap, ◌∙◌, sym}
use mathlib.Core.Bool.{Bool, true, false, false≢true, true≢false}
use mathlib.Core.List.{List, [], ◌∷◌}
use lib.ListN.{length}
use lib.Dec.{eqb}
use Rattle.spi.specs.declared.refusal.Refusal.{Refusal}
use Rattle.spi.specs.declared.ask.Ask.{Ask}
use Rattle.spi.specs.declared.ask.Answer.{Answer}
use Rattle.spi.specs.Refusals.{numbered}
use Rattle.spi.specs.Reply.{word_reply, pair_reply, done_reply, wait_reply, crc_reply}
use Rattle.spi.specs.Talk.{Talk, done, refused, ask, on_word, on_pair, on_done, on_checked, and_then, asks, answered}
use Rattle.spi.proofs.Talks.{is_nothing}
use Rattle.call.specs.declared.Outcome.{Outcome}
use Rattle.call.specs.Outcome.{ended}
use Rattle.call.specs.Numbers.{tells}
use Rattle.register.specs.RegisterCall.{RegisterCall}
use Rattle.register.specs.Talk as register_talks
use Rattle.ram.specs.RamCall.{RamCall}
use Rattle.ram.specs.Talk as ram_talks
use Rattle.plan.specs.PlanAt.{PlanAt}
use Rattle.plan.specs.Talk as plan_talks
use Rattle.tx_fifo.specs.PushAt.{PushAt}
use Rattle.tx_fifo.specs.Talk as push_talks
use Rattle.transmit.specs.Transmit.{transmit_talk_of}
use Rattle.fetch.specs.declared.Want.{Want}
use Rattle.fetch.specs.FetchAt.{FetchAt}
use Rattle.rx_fifo.specs.Talk.{Fetched, told, message, empty, outcome_by, talk_at as fetch_at, talk_of as fetch_of}
use Rattle.watch.specs.declared.Watch.{Watch}
use Rattle.scrub.specs.Scrub.{ScrubAt}
use Rattle.scrub.specs.Step.{rewritten}
use Rattle.scrub.specs.Talk as scrub_talks
use Rattle.driver.specs.CallAt.{CallAt}
use Rattle.driver.specs.Call.{Call}
use Rattle.driver.specs.Step.{step_of}
use Rattle.driver.specs.Talk.{talk_at, talk_of}
use Rattle.driver.specs.Demand1.{exchanged, waited, answers, OverAgrees, WrongAnswers}
use Rattle.driver.proofs.Runs.{follows, outcome_talk}

abbrev is_running : Outcome → Bool
is_running Outcome.Running = true
is_running Outcome.Done = false
is_running (Outcome.Word w) = false
is_running (Outcome.Checked w mismatches) = false
is_running (Outcome.Mode m) = false
is_running Outcome.Yes = false
is_running Outcome.No = false
is_running Outcome.Empty = false
is_running (Outcome.Message f) = false
is_running (Outcome.Scrubbed s) = false
is_running (Outcome.Refused r) = false

-- ---- talks that are so where they stand; P holds of what one is done with

abbrev Stands : {A : Type 0} → (A → Type 0) → Talk A → Type 0
Stands P (done x) = P x
Stands P (refused r) = Unit {0}
Stands P (ask q k) = (is_nothing q ≡ false) × ((a : Answer) (rx : List ℕ) → answers q a rx ≡ false → k a rx ≡ refused Refusal.WrongAnswer)

module _ {A : Type 0} where
  -- what is asked for wants so many bytes
  abbrev Asks : ℕ → (Answer → List ℕ → Talk A) → Type 0
  Asks want k = (false ≡ false) × ((a : Answer) (rx : List ℕ) → exchanged a (length rx) want ≡ false → k a rx ≡ refused Refusal.WrongAnswer)

  by_kind : (want : ℕ) (k : Answer → List ℕ → Talk A) → ((rx : List ℕ) → eqb (length rx) want ≡ false → k Answer.Exchanged rx ≡ refused Refusal.WrongAnswer)
      → ((rx : List ℕ) → k Answer.Waited rx ≡ refused Refusal.WrongAnswer) → Asks want k
  by_kind want k h l = (refl, go)
    where
      go : (a : Answer) (rx : List ℕ) → exchanged a (length rx) want ≡ false → k a rx ≡ refused Refusal.WrongAnswer
      go Answer.Exchanged rx e = h rx e
      go Answer.Failed rx e = absurd (true≢false e)
      go Answer.Waited rx e = l rx

  module _ (failed : Refusal) where
    by_word : (k : ℕ → Talk A) → Asks 4 (λ a rx. on_word refused (word_reply failed a rx) k)
    by_word k = by_kind 4 (λ a rx. on_word refused (word_reply failed a rx) k) (λ rx e. rw e) (λ rx. refl)

    by_pair : (k : ℕ → ℕ → Talk A) → Asks 8 (λ a rx. on_pair refused (pair_reply failed a rx) k)
    by_pair k = by_kind 8 (λ a rx. on_pair refused (pair_reply failed a rx) k) (λ rx e. rw e) (λ rx. refl)

    by_checked : (address : ℕ) (other : Talk A) (k : ℕ → Talk A) → Asks 6 (λ a rx. on_checked refused (crc_reply failed address a rx) other k)
    by_checked address other k = by_kind 6 (λ a rx. on_checked refused (crc_reply failed address a rx) other k) (λ rx e. rw e) (λ rx. refl)

    by_done : (want : ℕ) (k : List ℕ → Talk A) → Asks want (λ a rx. on_done refused (done_reply failed a (length rx) want) (k rx))
    by_done want k = by_kind want (λ a rx. on_done refused (done_reply failed a (length rx) want) (k rx)) (λ rx e. rw e) (λ rx. refl)

by_wait : {A : Type 0} (a : Answer) (got : ℕ) (k : Talk A) → waited a got ≡ false → on_done refused (wait_reply a got) k ≡ refused Refusal.WrongAnswer
by_wait Answer.Exchanged got k e = refl
by_wait Answer.Failed got k e = refl
by_wait Answer.Waited got k e = rw e

module _ {A B : Type 0} (P : A → Type 0) (Q : B → Type 0) where
  then_stands : (t : Talk A) (k : A → Talk B) → Stands P t → ((x : A) → P x → Stands Q (k x)) → Stands Q (and_then t k)
  unfolding and_then
  then_stands (done x) k h l = l x h
  then_stands (refused r) k h l = tt
  then_stands (ask q t) k h l = (h.0, λ a rx e. ap (λ (u : Talk A). and_then u k) (h.1 a rx e))

-- ---- each family; what a call is done with is not that it runs

abbrev Over : Outcome → Type 0
Over o = is_running o ≡ false

checked_stands : (address seen left : ℕ) → Stands Over (register_talks.checked_talk address seen left)
unfolding register_talks.checked_talk
checked_stands address seen zero = by_checked Refusal.SpiRead address _ _
checked_stands address seen (suc left) = by_checked Refusal.SpiRead address _ _

register_stands : (r : RegisterCall) → Stands Over (register_talks.talk_of r)
register_stands RegisterCall.Reset = by_done Refusal.SpiWrite 0 _
register_stands (RegisterCall.Read address) = by_word Refusal.SpiRead _
register_stands (RegisterCall.Write address word) = by_done Refusal.SpiRead 0 _
register_stands (RegisterCall.Checked address seen) = checked_stands address seen (2 - seen)
register_stands RegisterCall.Mode = by_word Refusal.SpiRead _
register_stands RegisterCall.Done = refl
register_stands (RegisterCall.Word w) = refl
register_stands (RegisterCall.Matched w seen) = refl
register_stands (RegisterCall.OpMode m) = refl
register_stands (RegisterCall.Refused r) = tt

ram_stands : (r : RamCall) → Stands Over (ram_talks.talk_of r)
unfolding ram_talks.verify_long_talk
ram_stands (RamCall.Read address place count) = by_done Refusal.SpiRead count _
ram_stands (RamCall.Received place count) = refl
ram_stands (RamCall.Write address count) = by_done Refusal.SpiWrite 0 _
ram_stands RamCall.EchoWrite = by_done Refusal.ConfigurationModeTimeout 0 _
ram_stands RamCall.EchoRead = by_done Refusal.ConfigurationModeTimeout 128 _
ram_stands RamCall.Done = refl
ram_stands (RamCall.Refused r) = tt

plan_stands : (failed : Refusal) (at : PlanAt) (k : Talk Outcome) → Stands Over (plan_talks.talk_at failed at k)
unfolding plan_talks.poll_talk
plan_stands failed (PlanAt.Read c) k = by_word failed _
plan_stands failed (PlanAt.Write address word) k = by_done failed 0 _
plan_stands failed (PlanAt.Poll p zero) k = by_word failed _
plan_stands failed (PlanAt.Poll p (suc more)) k = by_word failed _
plan_stands failed (PlanAt.Wait p more) k = (refl, λ a rx e. by_wait a (length rx) _ e)
plan_stands failed (PlanAt.EchoWrite left) k = by_done failed 0 _
plan_stands failed (PlanAt.EchoRead left) k = by_word failed _
plan_stands failed PlanAt.Done k = refl
plan_stands failed (PlanAt.Refused r) k = tt

push_stands : (fifo size len : ℕ) (at : PushAt) → Stands Over (push_talks.talk_at fifo size len at)
push_stands fifo size len PushAt.Enabled = by_word Refusal.SpiRead _
push_stands fifo size len PushAt.Control = by_word Refusal.SpiRead _
push_stands fifo size len (PushAt.Status w) = by_word Refusal.SpiRead _
push_stands fifo size len (PushAt.Address w) = by_word Refusal.SpiRead _
push_stands fifo size len (PushAt.Write w m) = by_done Refusal.SpiWrite 0 _
push_stands fifo size len (PushAt.Commit w) = by_done Refusal.SpiRead 0 _
push_stands fifo size len PushAt.BareAddress = by_word Refusal.SpiRead _
push_stands fifo size len (PushAt.BareWrite m) = by_done Refusal.SpiWrite 0 _
push_stands fifo size len PushAt.BareControl = by_word Refusal.SpiRead _
push_stands fifo size len PushAt.Done = refl
push_stands fifo size len (PushAt.Refused r) = tt

abbrev Any : Fetched → Type 0
Any x = Unit {0}

fetch_stands : (want : Want) (fifo : ℕ) (held : List ℕ) (at : FetchAt) → Stands Any (fetch_at want fifo held at)
fetch_stands want fifo held FetchAt.Control = by_word Refusal.SpiRead _
fetch_stands want fifo held FetchAt.Status = by_word Refusal.SpiRead _
fetch_stands want fifo held FetchAt.Address = by_word Refusal.SpiRead _
fetch_stands want fifo held (FetchAt.Header m) = by_pair Refusal.SpiRead _
fetch_stands want fifo held (FetchAt.Again m f) = by_word Refusal.SpiRead _
fetch_stands want fifo held (FetchAt.Time x f) = by_word Refusal.SpiRead _
fetch_stands want fifo held (FetchAt.Body x f) = by_done Refusal.SpiRead _ _
fetch_stands want fifo held (FetchAt.Next f) = by_word Refusal.SpiRead _
fetch_stands want fifo held (FetchAt.Commit w f) = by_done Refusal.SpiRead 0 _
fetch_stands want fifo held (FetchAt.Done f) = tt
fetch_stands want fifo held FetchAt.Empty = tt
fetch_stands want fifo held (FetchAt.Told next) = tt
fetch_stands want fifo held (FetchAt.Refused r) = tt

fetched_over : (x : Fetched) → Over (outcome_by x)
fetched_over (told true) = refl
fetched_over (told false) = refl
fetched_over (message m) = refl
fetched_over empty = refl

-- ---- any call: a wrong answer is told as 26, by a scrub step in its report

abbrev told26 : Talk Outcome → Type 0
told26 t = tells (ended (λ o. o) t) ≡ 26 ∷ []

abbrev Sound : Talk Outcome → Type 0
Sound (done x) = Over x
Sound (refused r) = Unit {0}
Sound (ask q k) = (is_nothing q ≡ false) × ((a : Answer) (rx : List ℕ) → answers q a rx ≡ false → told26 (k a rx))

sound_of : (t : Talk Outcome) → Stands Over t → Sound t
sound_of (done x) h = h
sound_of (refused r) h = tt
sound_of (ask q k) h = (h.0, λ a rx e. ap (λ (t : Talk Outcome). tells (ended (λ o. o) t)) (h.1 a rx e))

module _ (bad : Refusal → Talk Outcome) (says : (r : Refusal) → tells (ended (λ o. o) (bad r)) ≡ numbered r) where
  checked_wrong : (address : ℕ) (o : Talk Outcome) (k : ℕ → Talk Outcome) (a : Answer) (rx : List ℕ) → exchanged a (length rx) 6 ≡ false
      → told26 (on_checked bad (crc_reply Refusal.SpiRead address a rx) o k)
  checked_wrong address o k Answer.Exchanged rx e = rw e (says Refusal.WrongAnswer)
  checked_wrong address o k Answer.Failed rx e = absurd (true≢false e)
  checked_wrong address o k Answer.Waited rx e = says Refusal.WrongAnswer

  checked_sound : (address count left : ℕ) (k : ℕ → ℕ → Talk Outcome) → Sound (scrub_talks.checked_by address count left bad k)
  unfolding scrub_talks.checked_by
  checked_sound address count zero k = (refl, checked_wrong address (bad Refusal.CrcMismatch) (λ w. k w count))
  checked_sound address count (suc left) k = (refl, checked_wrong address (scrub_talks.checked_by address (count + 1) left bad k) (λ w. k w count))

  written_sound : (address word : ℕ) (t : Talk Outcome) → Sound (ask (Ask.Word address word) (λ a rx. on_done bad (done_reply Refusal.SpiRead a (length rx) 0) t))
  written_sound address word t = (refl, go)
    where
      go : (a : Answer) (rx : List ℕ) → exchanged a (length rx) 0 ≡ false → told26 (on_done bad (done_reply Refusal.SpiRead a (length rx) 0) t)
      go Answer.Exchanged rx e = rw e (says Refusal.WrongAnswer)
      go Answer.Failed rx e = absurd (true≢false e)
      go Answer.Waited rx e = says Refusal.WrongAnswer

scrub_sound : (at : ScrubAt) (w : Watch) (rewrite : Bool) → Sound (scrub_talks.talk_at at w rewrite)
scrub_sound (ScrubAt.Visit count) w rewrite = checked_sound _ (λ r. refl) w.address count (2 - count) _
scrub_sound (ScrubAt.Write read first) w rewrite = written_sound _ (λ r. refl) w.address (rewritten read w.wanted w.care) _
scrub_sound (ScrubAt.Back read first count) w rewrite = checked_sound _ (λ r. refl) w.address count (2 - count) _
scrub_sound (ScrubAt.Told r) w rewrite = refl
scrub_sound (ScrubAt.Refused r) w rewrite = tt

sound_at : (at : CallAt) (call : Call) → Sound (talk_at at call)
unfolding push_talks.talk_of fetch_of transmit_talk_of
sound_at (CallAt.Register r) call = sound_of (talk_at (CallAt.Register r) call) (register_stands r)
sound_at (CallAt.Ram r) call = sound_of (talk_at (CallAt.Ram r) call) (ram_stands r)
sound_at CallAt.Plan call = sound_of (talk_at CallAt.Plan call) (plan_stands call.plan.failed call.plan.at _)
sound_at CallAt.Push call = sound_of (talk_at CallAt.Push call) (push_stands call.push.fifo call.push.size call.push.object.len call.push.at)
sound_at CallAt.Transmit call =
    sound_of (talk_at CallAt.Transmit call)
    (then_stands Over Over _ _ (push_stands call.push.fifo call.push.size call.push.object.len call.push.at)
    (λ x h. plan_stands call.plan.failed call.plan.at _))
sound_at CallAt.Fetch call =
    sound_of (talk_at CallAt.Fetch call)
    (then_stands Any Over _ _ (fetch_stands call.fetch.want call.fetch.fifo call.fetch.held call.fetch.at) (λ x h. fetched_over x))
sound_at (CallAt.Scrub x) call = scrub_sound x.at x.entry x.rewrite

call_sound : (call : Call) → Sound (talk_of call)
unfolding talk_of
call_sound call = sound_at call.at call

-- ---- the laws

asks_something : (t : Talk Outcome) → Sound t → asks t ≡ Ask.Nothing → ended (λ o. o) t ≡ Outcome.Running → ⊥
asks_something (done x) h e d = true≢false (sym (ap is_running d) ∙ h)
asks_something (refused r) h e d = false≢true (ap is_running d)
asks_something (ask q k) h e d = true≢false (sym (ap is_nothing e) ∙ h.0)

runs_asking : (t : Talk Outcome) → (ended (λ o. o) t ≡ Outcome.Running → ⊥) → asks t ≡ Ask.Nothing
runs_asking (done x) h = refl
runs_asking (refused r) h = refl
runs_asking (ask q k) h = absurd (h refl)

pub over_agrees_lem : OverAgrees
over_agrees_lem call = (
  λ e d. asks_something (talk_of call) (call_sound call) (sym (follows.asked call) ∙ e) (sym (outcome_talk call) ∙ d),
  λ h. follows.asked call ∙ runs_asking (talk_of call) (λ e. h (outcome_talk call ∙ e)),
)

wrong_talk : (t : Talk Outcome) (a : Answer) (rx : List ℕ) → Sound t → answers (asks t) a rx ≡ false → told26 (answered t a rx)
unfolding answered
wrong_talk (done x) a rx h e = refl
wrong_talk (refused r) a rx h e = refl
wrong_talk (ask q k) a rx h e = h.1 a rx e

pub wrong_answers_lem : WrongAnswers
wrong_answers_lem call a rx e =
    ap tells (outcome_talk (step_of call a rx) ∙ ap (ended (λ o. o)) (follows.stepped call a rx))
    ∙ wrong_talk (talk_of call) a rx (call_sound call) (ap (λ q. answers q a rx) (sym (follows.asked call)) ∙ e)
