-- A call as started is its whole talk, and is refused before any exchange by the first test that it fails.
-- Assumes nothing.
use Rattle.std.specs.Prelude.{Option, Some, None}
use Prim.Native.Nat.{ℕ, ◌%◌, ◌^◌, ◌≤◌, ◌<◌}
use mathlib.Core.Path.{◌≡◌, refl, sym, ap, ◌∙◌}
use mathlib.Core.Bool.{Bool, true, false, ◌&&◌}
use mathlib.Core.List.{List, []}
use lib.ListN.{length}
use lib.Dec.{eqb, ltb, leb}
use native.Mathlib.Omega.{arith}
use borrow.Author.Tests.{ltb-false, lt-leb}
use Rattle.configuration.specs.CanControl.{REQOP, DNCNT}
use Rattle.fifo.specs.Control.{is_fifo}
use Rattle.header.specs.declared.Header.{Header}
use Rattle.header.specs.Dlc.{dlc_of}
use Rattle.header.specs.Header.{top_id}
use Rattle.message.specs.Message.{check_of, encoding}
use Rattle.spi.specs.declared.refusal.Refusal.{Refusal}
use Rattle.spi.specs.declared.ask.Ask.{Ask}
use Rattle.spi.specs.declared.ask.Answer.{Answer}
use Rattle.spi.specs.Ram.{in_range, access_of}
use Rattle.spi.specs.Talk.{Talk, refused, ask, and_then}
use Rattle.call.specs.declared.Outcome.{Outcome}
use Rattle.call.specs.Outcome.{ended}
use Rattle.call.specs.Numbers.{outcome_numbers}
use Rattle.register.specs.Talk.{read_call, write_call, checked_call, checked_talk}
use Rattle.register.proofs.Runs as register
use Rattle.ram.specs.Step.{inside}
use Rattle.ram.specs.Talk.{read_ram_talk, write_ram_talk, verify_long_talk}
use Rattle.ram.proofs.Runs as ram
use Rattle.plan.specs.Prepared.{talk_for, modify}
use Rattle.plan.specs.Talk.{plan_talk}
use Rattle.plan.proofs.Runs as plan
use Rattle.changes.specs.Changes.{fits, timing_fits}
use Rattle.areas.specs.Areas.{fifo_fits, queue_fits, is_identifier, is_filter, filter_check}
use Rattle.adjust.specs.Calls.{set_op_mode, configure_bit_timing, configure_fifo, configure_tx_queue, disable_filter, configure_filter}
use Rattle.configure.specs.Whole.{configure_all}
use Rattle.tx_fifo.specs.Step.{to_send}
use Rattle.tx_fifo.specs.Talk.{push_talk, with_encoding, push_call, enabled_talk, queue_push_call, bare_talk, queue_unchecked_call}
use Rattle.tx_fifo.proofs.Runs as push
use Rattle.transmit.specs.Transmit.{request_call, queue_request_call, transmit_call}
use Rattle.transmit.proofs.Transmits as transmit
use Rattle.fetch.specs.declared.Want.{Want}
use Rattle.rx_fifo.specs.Talk.{has_next_talk, lent_talk}
use Rattle.rx_fifo.proofs.Runs as fetch
use Rattle.watch.specs.Watch.{all_carried}
use Rattle.scrub.specs.Talk.{checked_by, scrub_call}
use Rattle.scrub.proofs.Runs as scrub
use Rattle.driver.specs.Talk.{told}
use Rattle.driver.specs.Calls.{Plans, Modify, Verify, SetOpMode, Osc, Io, BitTiming, Fifo, Queue, Filter, FilterOff, Configure, Start, Reset, OpMode, VerifyLong, Read, Checked, Write, ReadRam, WriteRam, Planned, Push, Transmit, Request, QueuePush, QueueUnchecked, QueueRequest, HasNext, Peek, Get, Scrub, prepared, fifo_number, started, whole_talk, first, writable, sendable, roomy, plan_tests, tests}
use Rattle.driver.specs.Demand1.{StartsAsTalk, RefusesFirst}
use Rattle.driver.proofs.Runs.{outcome_talk, register_talk, ram_talk_lem, plan_talk_lem, push_talk_lem, transmit_talk, fetch_talk_lem, scrub_talk}

by_bool : {G : Type 0} (b : Bool) → (b ≡ true → G) → (b ≡ false → G) → G
by_bool true f g = f refl
by_bool false f g = g refl

-- ---- a FIFO's number where a call keeps it

high_is_none : (n : ℕ) → 256 ≤ n → is_fifo n ≡ false
unfolding is_fifo
high_is_none n h = let g : 31 < n = omega arith in let l : leb n 31 ≡ false = lt-leb _ _ g in by_bool (leb 1 n) (λ e. simp (e, l)) (λ e. simp e)

-- what is the same for every number that is no FIFO's is the same for the number that is kept
as_kept : {A : Type 0} (f : ℕ → A) (r : A) → ((k : ℕ) → is_fifo k ≡ false → f k ≡ r) → (n : ℕ) → f (fifo_number n) ≡ f n
unfolding is_fifo
as_kept f r none n =
    by_bool (ltb n 256) (λ e. ap f (simp e))
    (λ e. ap f (simp e) ∙ none 0 refl ∙ sym (none n (high_is_none n (ltb-false n 256 e))))

push_kept : (n : ℕ) (header : Header) (seq : ℕ) (payload : List ℕ) → push_call (fifo_number n) header seq payload ≡ push_call n header seq payload
unfolding push_call
push_kept n header seq payload = as_kept (λ k. push_call k header seq payload) (refused Refusal.BadNumber) (λ k e. simp e) n

transmit_kept : (n : ℕ) (header : Header) (seq : ℕ) (payload : List ℕ) → transmit_call (fifo_number n) header seq payload ≡ transmit_call n header seq payload
unfolding transmit_call push_call and_then
transmit_kept n header seq payload = as_kept (λ k. transmit_call k header seq payload) (refused Refusal.BadNumber) (λ k e. simp e) n

next_kept : (n : ℕ) → has_next_talk (fifo_number n) ≡ has_next_talk n
unfolding has_next_talk
next_kept n = as_kept has_next_talk (refused Refusal.BadNumber) (λ k e. simp e) n

lent_kept : (want : Want) (n room : ℕ) → lent_talk want (fifo_number n) room ≡ lent_talk want n room
unfolding lent_talk
lent_kept want n room = as_kept (λ k. lent_talk want k room) (refused Refusal.BadNumber) (λ k e. simp e) n

-- ---- the whole talk

pub starts_as_talk_lem : StartsAsTalk
starts_as_talk_lem Reset = register_talk _
starts_as_talk_lem OpMode = register_talk _
starts_as_talk_lem VerifyLong = ram_talk_lem _
starts_as_talk_lem (Read address) = register_talk _ ∙ register.read_start_talk address
starts_as_talk_lem (Checked address) = register_talk _ ∙ register.checked_start_talk address
starts_as_talk_lem (Write address word) = register_talk _ ∙ register.write_start_talk address word
starts_as_talk_lem (ReadRam address room place count) = ram_talk_lem _ ∙ ram.read_ram_start_talk address room place count
starts_as_talk_lem (WriteRam address count) = ram_talk_lem _ ∙ ram.write_ram_start_talk address count
starts_as_talk_lem (Planned x) = plan_talk_lem _ ∙ plan.call_talk (prepared x)
starts_as_talk_lem (Push n header seq payload) = push_talk_lem _ ∙ push.start_talk (fifo_number n) header seq payload ∙ push_kept n header seq payload
starts_as_talk_lem (Transmit n header seq payload) = transmit_talk _ ∙ transmit.start_talk (fifo_number n) header seq payload ∙ transmit_kept n header seq payload
starts_as_talk_lem (Request n) = plan_talk_lem _ ∙ transmit.request_talk n
starts_as_talk_lem (QueuePush header seq payload) = push_talk_lem _ ∙ push.queue_start_talk header seq payload
starts_as_talk_lem (QueueUnchecked header seq payload) = push_talk_lem _ ∙ push.unchecked_start_talk header seq payload
starts_as_talk_lem QueueRequest = plan_talk_lem _ ∙ transmit.queue_request_talk
starts_as_talk_lem (HasNext n) = fetch_talk_lem _ ∙ ap told (fetch.has_next_start_talk (fifo_number n) ∙ next_kept n)
starts_as_talk_lem (Peek n room) = fetch_talk_lem _ ∙ ap told (fetch.lent_start_talk Want.Peek (fifo_number n) room ∙ lent_kept Want.Peek n room)
starts_as_talk_lem (Get n room) = fetch_talk_lem _ ∙ ap told (fetch.lent_start_talk Want.Get (fifo_number n) room ∙ lent_kept Want.Get n room)
starts_as_talk_lem (Scrub place list rewrite) = scrub_talk _ ∙ scrub.scrub_start_talk place list rewrite

-- ---- refusals before any exchange

abbrev answer : Talk Outcome → List ℕ
answer t = outcome_numbers (ended (λ o. o) t)

by_dlc_lem : {G : Type 0} (x : Option ℕ) → ((d : ℕ) → x ≡ Some d → G) → (x ≡ None → G) → G
by_dlc_lem (Some d) f g = f d refl
by_dlc_lem None f g = g refl

plan_first : (x : Plans) → answer (talk_for (prepared x)) ≡ first (plan_tests x)
unfolding modify set_op_mode configure_bit_timing configure_fifo configure_tx_queue configure_filter filter_check disable_filter configure_all plan_talk
plan_first (Modify address clear set) = by_bool (ltb address (2 ^ 12)) (λ e. simp e) (λ e. simp e)
plan_first Verify = refl
plan_first (SetOpMode mode) = by_bool (fits REQOP mode) (λ e. simp e) (λ e. simp e)
plan_first (Osc o) = refl
plan_first (Io c) = refl
plan_first (BitTiming b) = by_bool (timing_fits b) (λ e. simp e) (λ e. simp e)
plan_first (Fifo n c) = by_bool (is_fifo n) (λ e. by_bool (fifo_fits c) (λ d. simp (e, d)) (λ d. simp (e, d))) (λ e. simp e)
plan_first (Queue None) = refl
plan_first (Queue (Some c)) = by_bool (queue_fits c) (λ e. simp e) (λ e. simp e)
plan_first (Filter f c) =
    by_bool (is_filter f)
    (λ e. by_bool (is_fifo c.fifo) (λ d. by_bool (is_identifier c.object && is_identifier c.mask) (λ i. simp (e, d, i)) (λ i. simp (e, d, i))) (λ d. simp (e, d)))
    (λ e. simp e)
plan_first (FilterOff f) = by_bool (is_filter f) (λ e. simp e) (λ e. simp e)
plan_first (Configure s) =
    by_bool (timing_fits s.bittime) (λ e. by_bool (fits DNCNT s.dncnt) (λ d. simp (e, d)) (λ d. simp (e, d))) (λ e. simp e)

-- a push, and whatever it is the beginning of
module _ (f : Talk Outcome → Talk Outcome) (stops : (r : Refusal) → f (refused r) ≡ refused r) where
  message_first : (k : ℕ → Talk Outcome) → ((len : ℕ) → answer (f (k len)) ≡ []) → (header : Header) (seq : ℕ) (payload : List ℕ)
      → answer (f (with_encoding k (encoding (to_send header seq payload)))) ≡ first (writable header seq payload)
  unfolding encoding check_of
  message_first k goes header seq payload =
      by_bool (ltb (top_id header.extended) header.id) (λ i. simp (i, stops))
      (λ i. by_bool (leb (2 ^ 23) seq) (λ s. simp (i, s, stops))
      (λ s. by_dlc_lem (dlc_of header.fdf (length payload)) (λ d p. simp (i, s, p, goes)) (λ p. simp (i, s, p, stops))))

  push_first : ((q : Ask) (k : Answer → List ℕ → Talk Outcome) → answer (f (ask q k)) ≡ [])
      → (n : ℕ) (header : Header) (seq : ℕ) (payload : List ℕ) → answer (f (push_call n header seq payload)) ≡ first (sendable n header seq payload)
  unfolding push_call
  push_first goes n header seq payload =
      by_bool (is_fifo n) (λ e. simp e (message_first (push_talk n (length payload)) (λ len. goes _ _) header seq payload)) (λ e. simp (e, stops))

lent_first : (want : Want) (n room : ℕ) → answer (told (lent_talk want n room)) ≡ first (roomy n room)
unfolding lent_talk and_then
lent_first want n room = by_bool (is_fifo n) (λ e. by_bool (ltb room 64) (λ l. simp (e, l)) (λ l. simp (e, l))) (λ e. simp e)

talk_first : (x : Start) → answer (whole_talk x) ≡ first (tests x)
unfolding verify_long_talk read_call checked_call checked_talk write_call read_ram_talk write_ram_talk access_of request_call queue_request_call transmit_call queue_push_call queue_unchecked_call has_next_talk and_then scrub_call checked_by
talk_first Reset = refl
talk_first OpMode = refl
talk_first VerifyLong = refl
talk_first (Read address) = by_bool (ltb address (2 ^ 12)) (λ e. simp e) (λ e. simp e)
talk_first (Checked address) = by_bool (ltb address (2 ^ 12)) (λ e. simp e) (λ e. simp e)
talk_first (Write address word) = by_bool (ltb address (2 ^ 12)) (λ e. simp e) (λ e. simp e)
talk_first (ReadRam address room place count) =
    by_bool (inside place count room)
    (λ e. by_bool (in_range address count) (λ i. by_bool (eqb (count % 4) 0) (λ f. simp (e, i, f)) (λ f. simp (e, i, f))) (λ i. simp (e, i)))
    (λ e. simp e)
talk_first (WriteRam address count) = by_bool (in_range address count) (λ i. by_bool (eqb (count % 4) 0) (λ f. simp (i, f)) (λ f. simp (i, f))) (λ i. simp i)
talk_first (Planned x) = plan_first x
talk_first (Push n header seq payload) = push_first (λ t. t) (λ r. refl) (λ q k. refl) n header seq payload
talk_first (Transmit n header seq payload) = push_first (λ t. and_then t (λ x. request_call n)) (λ r. refl) (λ q k. refl) n header seq payload
talk_first (Request n) = by_bool (is_fifo n) (λ e. simp e) (λ e. simp e)
talk_first (QueuePush header seq payload) = message_first (λ t. t) (λ r. refl) (enabled_talk 0 (length payload)) (λ len. refl) header seq payload
talk_first (QueueUnchecked header seq payload) = message_first (λ t. t) (λ r. refl) (bare_talk 0) (λ len. refl) header seq payload
talk_first QueueRequest = refl
talk_first (HasNext n) = by_bool (is_fifo n) (λ e. simp e) (λ e. simp e)
talk_first (Peek n room) = lent_first Want.Peek n room
talk_first (Get n room) = lent_first Want.Get n room
talk_first (Scrub place list rewrite) =
    by_bool (eqb (length list) 0) (λ e. simp e) (λ e. by_bool (all_carried list) (λ d. simp (e, d)) (λ d. simp (e, d)))

pub refuses_first_lem : RefusesFirst
refuses_first_lem x = ap outcome_numbers (outcome_talk (started x) ∙ ap (ended (λ o. o)) (starts_as_talk_lem x)) ∙ talk_first x
