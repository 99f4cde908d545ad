-- Each exchange of an unchecked push to the queue, which does not stray, keeps what is true of the FIFOs; the queue's lists it ends.
-- Assumes nothing.
use Prim.Native.Nat.{ℕ, ◌+◌, ◌≤◌}
use native.Mathlib.Omega.{arith}
use mathlib.Core.Path.{◌≡◌, refl, sym, ap, ◌∙◌}
use mathlib.Core.Bool.{Bool, true, false, true≢false}
use mathlib.Core.List.{List, []}
use lib.ListN.{length}
use Rattle.field.specs.Field.{mark}
use Rattle.fifo.specs.Control.{CiFIFOCON, UINC, payload_of}
use Rattle.parts.specs.Parts.{zeroed}
use Rattle.spi.specs.declared.refusal.Refusal.{Refusal}
use Rattle.spi.specs.declared.ask.Ask.{Ask}
use Rattle.spi.specs.declared.ask.Answer.{Answer}
use Rattle.header.specs.declared.Header.{Header}
use Rattle.message.specs.Message.{Encoding, encoding}
use Rattle.call.specs.declared.Outcome.{Outcome}
use Rattle.plan.specs.Plan.{Plan}
use Rattle.tx_fifo.specs.PushAt.{PushAt}
use Rattle.tx_fifo.specs.Step as push
use Rattle.driver.specs.Start.{idle_plan, idle_fetch, of_push}
use Rattle.rx_fifo.specs.Fetch.{Fetch}
use Rattle.driver.specs.Call.{Call}
use Rattle.ring.specs.declared.queue.Queue.{Queue}
use Rattle.ring.specs.Layout.{size}
use Rattle.ring.specs.Queue as queue
use Rattle.state.specs.declared.Model.{Model}
use Rattle.state.specs.Model.{frozen_at, with_queue}
use Rattle.bank.specs.Registers.{queue_shown}
use Rattle.bus.specs.Held.{held}
use Rattle.bus.specs.Queue.{queue_slot}
use Rattle.history.specs.Command.{Command, QueueUnchecked, started}
use Rattle.history.specs.History.{Said, called, idle, World, hears, heard, settled, goes_on}
use Rattle.history.specs.Demand.{NotCaused}
use Rattle.history.specs.Queue.{overwriting}
use Rattle.history.proofs.Sound.{Sound, Asked}
use Rattle.history.proofs.Bus.{Listed, quiet}
use Rattle.history.proofs.Line.{spoken}
use Rattle.history.proofs.Kept.{spoken_sound}
use Rattle.history.proofs.Asks.{hear_queue, hear_queue_address, tell_queue, tell_ram}
use Rattle.history.proofs.Replies.{mark_small}
use Rattle.history.proofs.Pushing.{pushing, turned, failed, still_alone, refused_alone, done_alone}
use Rattle.history.proofs.PushSteps.{NotRefused, encoding_fine, body_whole, body_long, body_words}
use Rattle.history.proofs.Mid.{BareMid}
use Rattle.history.proofs.QueueSlots.{queue_filled, queue_held, queue_inside, queue_filled_held}
use Rattle.history.proofs.QueueReplies.{queue_gentle, shown_inside, next_bare_address, next_bare_control, queue_uinc}
use Rattle.history.proofs.QueueLists.{queue_called}
use Rattle.history.proofs.QueueSteps.{queue_fits_lem, queueing}
use Rattle.history.proofs.Inv.{bares, Tale, Inv, says_more, quiet_refusal}

module _ (X : ℕ → Type 0) {U : Type 0} (c : Model) (o : Sound c) (q : Asked X c) (t : List Said) (l : Listed c t) (e : Tale U c t) (no : U → ⊥)
    (header : Header) (seq : ℕ) (payload bs : List ℕ) (p : Plan) (f : Fetch) (coded : encoding (push.to_send header seq payload) ≡ Encoding.object bs)
    (well : (c.fixed.queue ≡ true) × (length payload ≤ payload_of (frozen_at c 0))) where
  abbrev k : Command
  k = QueueUnchecked header seq payload

  abbrev at : PushAt → Call
  at a = pushing false 0 (length payload) bs a p f

  abbrev After : Model → PushAt → List ℕ → Type 0
  After d a rx = Inv X U (settled d t k (at a) rx)

  fits : length bs ≤ size (frozen_at c 0)
  fits = queue_fits_lem c header seq payload bs coded well.1

  -- it goes on in a chip whose FIFOs hold the same
  goes_bare : (d : Model) (rx : List ℕ) (a : PushAt) → push.outcome_at a ≡ Outcome.Running → Sound d → Asked X d → ((j : ℕ) → held d j ≡ held c j) → BareMid d a → After d a rx
  goes_bare d rx a y s z h g =
      rw (still_alone k (λ s. refl) refl refl (length payload) bs p f t d rx a y)
      (record {
        sound = s;
        asked = z;
        lists = λ j i. rw (h j) (l j i);
        tale = record { tells = e.tells; queue = λ u. absurd (no u) };
        doing = bares header seq payload bs a p f coded g no refl refl;
      })

  ends : (rx : List ℕ) (x : Refusal) → NotCaused x → After c (PushAt.Refused x) rx
  ends rx x w =
      rw (refused_alone k (λ s. refl) refl refl (length payload) bs p f t c rx x)
      (says_more X c t l e c idle _ o q (quiet_refusal c k x []) (λ u. absurd (no u)) w tt)

  abbrev Exchanged : PushAt → Type 0
  Exchanged a = Inv X U (goes_on t k (at a) (heard true (at a) c))

  reads_address : Exchanged PushAt.BareAddress
  unfolding queue_shown queue_slot
  reads_address =
      let inside : queue_shown c + length bs ≤ 2048 = omega (arith, shown_inside c o well.0, fits) in
      rw (turned 0 (length payload) bs p f false PushAt.BareAddress refl t k c _ _ _ (hear_queue_address _ c)
      (next_bare_address c o well.0 (length payload) (length bs) inside))
      (goes_bare c _ (PushAt.BareWrite _) refl o q (λ j. refl) (c.queue.shown, o.valid.queue.shown, refl))

  writes_object : (a : ℕ) → BareMid c (PushAt.BareWrite a) → Exchanged (PushAt.BareWrite a)
  writes_object a (n, h, z) =
      let d : Model = queue_filled c n bs in
      let inside : queue_slot c n + length bs ≤ 2048 = omega (arith, queue_inside c o well.0 n h, fits) in
      let told : spoken (Ask.Body a (length bs)) (zeroed 76 bs) c ≡ hears Answer.Exchanged [] d
      = rw z (tell_ram (zeroed 76 bs) c (queue_slot c n) (length bs) inside (body_words header seq payload bs coded) (body_long bs) ∙ rw (body_whole bs)) in
      rw (turned 0 (length payload) bs p f false (PushAt.BareWrite a) refl t k c [] d PushAt.BareControl told refl)
      (goes_bare d [] PushAt.BareControl refl (spoken_sound _ _ c o _ told refl) q (queue_filled_held c o well.0 n h bs fits) tt)

  reads_control : Exchanged PushAt.BareControl
  reads_control =
      rw (turned 0 (length payload) bs p f false PushAt.BareControl refl t k c _ _ _ (hear_queue _ c) (next_bare_control c o (length payload) (length bs)))
      (goes_bare c _ (PushAt.Commit _) refl o q (λ j. refl) (queue_gentle c o))

  writes_control : (w : ℕ) → BareMid c (PushAt.Commit w) → Exchanged (PushAt.Commit w)
  writes_control w g =
      let (v, is, vh, vs) = queue_uinc c o well.0 w g in
      let y : Queue = queue.claimed (frozen_at c 0) v in
      let told : spoken (Ask.Word (CiFIFOCON.address 0) (mark UINC true w)) (zeroed 76 bs) c ≡ hears Answer.Exchanged [] (with_queue c y)
      = tell_queue (zeroed 76 bs) c (mark UINC true w) (mark_small w g.small) ∙ rw is in
      rw (
        turned 0 (length payload) bs p f false (PushAt.Commit w) refl t k c [] (with_queue c y) PushAt.Done told refl,
        done_alone k (λ s. refl) refl refl (length payload) bs p f t (with_queue c y) [],
      )
      (says_more X c t l e (with_queue c y) idle _ (spoken_sound _ _ c o _ told refl) q (quiet c (with_queue c y) (called k Outcome.Done []) (λ j. refl) (λ j. refl) (queue_held c y))
      (λ u. absurd (no u)) tt tt)

  exchanged : (a : PushAt) → BareMid c a → Exchanged a
  exchanged PushAt.BareAddress g = reads_address
  exchanged (PushAt.BareWrite a) g = writes_object a g
  exchanged PushAt.BareControl g = reads_control
  exchanged (PushAt.Commit w) g = writes_control w g
  exchanged PushAt.Enabled g = absurd g
  exchanged PushAt.Control g = absurd g
  exchanged (PushAt.Status w) g = absurd g
  exchanged (PushAt.Address w) g = absurd g
  exchanged (PushAt.Write w a) g = absurd g
  exchanged PushAt.Done g = absurd g
  exchanged (PushAt.Refused x) g = absurd g

  fails_at : (a : PushAt) → push.done_at a ≡ false → (x : Refusal) → push.next_at 0 (length payload) (length bs) a Answer.Failed [] ≡ PushAt.Refused x → NotCaused x
      → Inv X U (goes_on t k (at a) (heard false (at a) c))
  fails_at a d x n w = rw (failed 0 (length payload) bs p f false a d t k c, n) (ends [] x w)

  failing : (a : PushAt) → BareMid c a → Inv X U (goes_on t k (at a) (heard false (at a) c))
  failing PushAt.BareAddress g = fails_at PushAt.BareAddress refl Refusal.SpiRead refl refl
  failing (PushAt.BareWrite a) g = fails_at (PushAt.BareWrite a) refl Refusal.SpiWrite refl refl
  failing PushAt.BareControl g = fails_at PushAt.BareControl refl Refusal.SpiRead refl refl
  failing (PushAt.Commit w) g = fails_at (PushAt.Commit w) refl Refusal.SpiRead refl refl
  failing PushAt.Enabled g = absurd g
  failing PushAt.Control g = absurd g
  failing (PushAt.Status w) g = absurd g
  failing (PushAt.Address w) g = absurd g
  failing (PushAt.Write w a) g = absurd g
  failing PushAt.Done g = absurd g
  failing (PushAt.Refused x) g = absurd g

  pub bare_heard : (b : Bool) (a : PushAt) → BareMid c a → Inv X U (goes_on t k (at a) (heard b (at a) c))
  bare_heard true a g = exchanged a g
  bare_heard false a g = failing a g

-- ---- the beginning: where it goes on, nothing is claimed of the queue

module _ (X : ℕ → Type 0) {U : Type 0} (c : Model) (o : Sound c) (q : Asked X c) (t : List Said) (l : Listed c t) (e : Tale U c t) (header : Header) (seq : ℕ) (payload : List ℕ) where
  abbrev call : Command
  call = QueueUnchecked header seq payload

  begins_as : (x : Encoding) → encoding (push.to_send header seq payload) ≡ x → NotRefused x
      → (U → overwriting (settled c t call (queueing (length payload) PushAt.BareAddress x) []).doing ≡ false)
      → Inv X U (settled c t call (queueing (length payload) PushAt.BareAddress x) [])
  begins_as (Encoding.refused x) g h y =
      rw (refused_alone call (λ s. refl) refl refl (length payload) [] idle_plan idle_fetch t c [] x)
      (says_more X c t l e c idle _ o q (quiet_refusal c call x []) (λ u. queue_called c c call (Outcome.Refused x) [] refl refl) h tt)
  begins_as (Encoding.object bs) g h y =
      let is = still_alone call (λ s. refl) refl refl (length payload) bs idle_plan idle_fetch t c [] PushAt.BareAddress refl in
      let no : U → ⊥ = λ u. true≢false (sym (ap (λ (v : World). overwriting v.doing) is) ∙ y u) in
      rw is (record {
        sound = o;
        asked = q;
        lists = l;
        tale = e;
        doing = bares header seq payload bs PushAt.BareAddress idle_plan idle_fetch g tt no refl refl;
      })

  pub bare_begins : (U → overwriting (settled c t call (started call) []).doing ≡ false) → Inv X U (settled c t call (started call) [])
  unfolding of_push push.queue_start_at
  bare_begins = begins_as (encoding (push.to_send header seq payload)) refl (encoding_fine header seq payload)
