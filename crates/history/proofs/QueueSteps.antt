-- Each exchange of a checked push to the queue keeps what is true of the world.
-- Assumes nothing.
use Rattle.std.specs.Prelude.{None}
use Prim.Native.Nat.{ℕ, ◌+◌, ◌≤◌}
use native.Mathlib.Omega.{arith}
use borrow.Author.Tests.{ltb-false}
use mathlib.Core.Path.{◌≡◌, refl, ap, ◌∙◌, subst, ap₂}
use mathlib.Core.Bool.{Bool, true, false}
use mathlib.Core.List.Perm
use mathlib.Core.List.{List, [], ◌∷◌, ◌++◌, Perm, perm_append_singleton}
use lib.Dec.{ltb}
use lib.ListN.{length, get_or}
use Rattle.laws.proofs.Choice.{by_if}
use Rattle.field.specs.Field.{mark}
use Rattle.fifo.specs.Control.{CiFIFOCON, UINC, payload_of}
use Rattle.fifo.proofs.Sizes.{payload_whole}
use Rattle.parts.specs.Parts.{zeroed}
use Rattle.words.specs.Words.{le_bytes, round_up}
use Rattle.spi.specs.declared.refusal.Refusal.{Refusal}
use Rattle.spi.specs.declared.ask.Ask.{Ask}
use Rattle.spi.specs.declared.ask.Answer.{Answer}
use Rattle.header.specs.declared.Header.{Header}
use Rattle.message.specs.Structs.{encoded_as}
use Rattle.message.specs.Message.{Message, Encoding, encoding, Decoding, holds, decoding}
use Rattle.message.proofs.Round.{lengths_hold, round_trip_lem}
use Rattle.place.specs.declared.Register.{Register}
use Rattle.call.specs.declared.Outcome.{Outcome}
use Rattle.plan.specs.Plan.{Plan}
use Rattle.tx_fifo.specs.PushAt.{PushAt}
use Rattle.tx_fifo.specs.Step as push
use Rattle.driver.specs.Start.{idle_plan, idle_fetch, of_push}
use Rattle.rx_fifo.specs.Fetch.{Fetch}
use Rattle.driver.specs.CallAt.{CallAt}
use Rattle.driver.specs.Call.{Call}
use Rattle.ring.specs.declared.queue.Queue.{Queue}
use Rattle.ring.specs.Ring.{depth}
use Rattle.ring.specs.Layout.{size}
use Rattle.ring.specs.Queue as queue
use Rattle.ring.specs.Queue.{gather, is_held, full}
use Rattle.ring.proofs.Queues.{claimed_held}
use Rattle.state.specs.declared.Model.{Model}
use Rattle.state.specs.Model.{frozen_at, with_queue}
use Rattle.bank.specs.Registers.{queue_shown, word_of}
use Rattle.bus.specs.Queue.{queue_slot, queue_item}
use Rattle.reach.proofs.Queue.{held_on}
use Rattle.history.specs.Command.{Command, QueuePush, started}
use Rattle.history.specs.History.{Said, called, idle, hears, heard, settled, goes_on}
use Rattle.history.specs.Demand.{NotCaused}
use Rattle.history.proofs.Sound.{Sound, Asked}
use Rattle.history.proofs.Bus.{Listed, quiet}
use Rattle.history.proofs.Line.{spoken}
use Rattle.history.proofs.Kept.{spoken_sound}
use Rattle.history.proofs.Asks.{hear_enabled, hear_queue, hear_queue_status, hear_queue_address, tell_queue, tell_ram}
use Rattle.history.proofs.Replies.{mark_small}
use Rattle.history.proofs.Pushing.{pushing, turned, failed, still_alone, refused_alone, done_alone}
use Rattle.history.proofs.PushSteps.{NotRefused, encoding_fine, body_whole, body_long, body_words}
use Rattle.history.proofs.Mid.{QueueMid}
use Rattle.history.proofs.QueueSlots.{queue_filled, queue_held, queue_filled_held, queue_filled_queue, queue_filled_item}
use Rattle.history.proofs.QueueReplies.{queue_gentle, shown_inside, next_enabled, next_queue_control, next_queue_status, next_queue_address, queue_uinc}
use Rattle.history.proofs.QueueLists.{QueueMoves, queue_called}
use Rattle.history.proofs.Inv.{queues, Tale, Inv, goes_on_lem, says_more, quiet_refusal}

-- a payload that is not longer than PLSIZE means fits a slot with its header
pub queue_fits_lem : (c : Model) (header : Header) (seq : ℕ) (payload bs : List ℕ) → encoding (push.to_send header seq payload) ≡ Encoding.object bs
    → length payload ≤ payload_of (frozen_at c 0) → length bs ≤ size (frozen_at c 0)
unfolding size
queue_fits_lem c header seq payload bs e y =
    let long : length bs ≡ 8 + 0 + round_up (length payload) = lengths_hold (push.to_send header seq payload) bs e in
    omega (arith, long, payload_whole (frozen_at c 0), y)

-- what the chip answers to the object and to UINC, and what a push then knows
module _ (c : Model) (o : Sound c) (header : Header) (seq : ℕ) (payload bs : List ℕ) (coded : encoding (push.to_send header seq payload) ≡ Encoding.object bs) where
  abbrev sent : Message
  sent = push.to_send header seq payload

  -- the object in the slot shown
  abbrev pub shown_filled : Model
  shown_filled = queue_filled c c.queue.shown bs

  -- what the object decodes to
  decodes : (r : List ℕ) → decoding true false (bs ++ r) ≡ holds sent
  decodes r = round_trip_lem true false header seq None payload bs r coded (record { filter = refl; seq = refl; stamp = tt })

  pub shown_told : (w a : ℕ) → QueueMid c sent bs (PushAt.Write w a) → spoken (Ask.Body a (length bs)) (zeroed 76 bs) c ≡ hears Answer.Exchanged [] shown_filled
  unfolding queue_shown queue_slot
  shown_told w a g =
      let inside : queue_shown c + length bs ≤ 2048 = omega (arith, shown_inside c o g.0.on, g.0.fits) in
      rw g.2 (tell_ram (zeroed 76 bs) c (queue_shown c) (length bs) inside (body_words header seq payload bs coded) (body_long bs) ∙ rw (body_whole bs))

  pub shown_mid : (w a : ℕ) → QueueMid c sent bs (PushAt.Write w a) → QueueMid shown_filled sent bs (PushAt.Commit w)
  shown_mid w a g =
      (record { word = g.0.word; on = g.0.on; fits = g.0.fits }, g.1, queue_filled_item c o g.0.on c.queue.shown o.valid.queue.shown bs g.0.fits sent decodes)

  pub claim_told : (w : ℕ) → QueueMid c sent bs (PushAt.Commit w)
      → (v : Queue) × (spoken (Ask.Word (CiFIFOCON.address 0) (mark UINC true w)) (zeroed 76 bs) c ≡ hears Answer.Exchanged [] (with_queue c (queue.claimed (frozen_at c 0) v)))
      × (v.held ≡ c.queue.held) × (v.shown ≡ c.queue.shown)
  claim_told w g =
      let (v, is, vh, vs) = queue_uinc c o g.0.on w g.0.word in
      (v, tell_queue (zeroed 76 bs) c (mark UINC true w) (mark_small w g.0.word.small) ∙ rw is, vh, vs)

  -- one more is held
  claim_moves : (w : ℕ) → QueueMid c sent bs (PushAt.Commit w) → (v : Queue) → v.held ≡ c.queue.held → v.shown ≡ c.queue.shown
      → QueueMoves c (called (QueuePush header seq payload) Outcome.Done []) (with_queue c (queue.claimed (frozen_at c 0) v))
  unfolding queue.full queue.free queue_item queue_slot
  claim_moves w g v vh vs =
      let on = g.0.on in
      let z : ℕ = frozen_at c 0 in
      let vacant : full z v ≡ false = rw vh g.1 in
      let item : queue_item c v.shown ≡ holds sent = ap (queue_item c) vs ∙ g.2 in
      let more : Perm (gather (is_held (queue.claimed z v)) (queue_item c) 0 (depth z)) (queue_item c v.shown ∷ gather (is_held v) (queue_item c) 0 (depth z))
      = claimed_held z v (queue_item c) vacant (rw vs o.valid.queue.shown) (rw (vh, vs) (o.valid.queue.vacant g.1)) (ap length vh ∙ o.valid.queue.held) in
      rw (held_on c on, held_on (with_queue c (queue.claimed z v)) on)
      (Perm.trans (perm_append_singleton (holds sent) (gather (is_held c.queue) (queue_item c) 0 (depth z)))
      (subst (λ (x : List Decoding). Perm x (gather (is_held (queue.claimed z v)) (queue_item c) 0 (depth z)))
      (ap₂ (λ (x : Decoding) (y : List Bool). x ∷ gather (λ j. get_or y j false) (queue_item c) 0 (depth z)) item vh) (Perm.symm more)))

module _ (X : ℕ → Type 0) {U : Type 0} (c : Model) (o : Sound c) (q : Asked X c) (t : List Said) (l : Listed c t) (e : Tale U c t)
    (header : Header) (seq : ℕ) (payload bs : List ℕ) (p : Plan) (f : Fetch) (coded : encoding (push.to_send header seq payload) ≡ Encoding.object bs) where
  abbrev k : Command
  k = QueuePush header seq payload

  abbrev at : PushAt → Call
  at a = pushing false 0 (length payload) bs a p f

  abbrev m : Message
  m = push.to_send header seq payload

  abbrev After : Model → PushAt → List ℕ → Type 0
  After d a rx = Inv X U (settled d t k (at a) rx)

  -- it still asks for something, and nothing of the chip changed
  stays : (rx : List ℕ) (a : PushAt) → push.outcome_at a ≡ Outcome.Running → QueueMid c m bs a → After c a rx
  stays rx a y g =
      rw (still_alone k (λ s. refl) refl refl (length payload) bs p f t c rx a y)
      (goes_on_lem X c t l e c k (at a) o q (λ j. refl) refl (queues header seq payload bs a p f coded g refl refl))

  -- it is refused
  ends : (rx : List ℕ) (x : Refusal) → NotCaused x → After c (PushAt.Refused x) rx
  ends rx x w =
      rw (refused_alone k (λ s. refl) refl refl (length payload) bs p f t c rx x)
      (says_more X c t l e c idle _ o q (quiet_refusal c k x []) (λ u. queue_called c c k (Outcome.Refused x) [] refl refl) w tt)

  abbrev Exchanged : PushAt → Type 0
  Exchanged a = Inv X U (goes_on t k (at a) (heard true (at a) c))

  reads_enabled : Exchanged PushAt.Enabled
  reads_enabled =
      let rx : List ℕ = le_bytes (word_of c Register.Con) in
      rw (turned 0 (length payload) bs p f false PushAt.Enabled refl t k c _ _ _ (hear_enabled _ c) (next_enabled c o (length payload) (length bs)))
      (by_if (λ a. After c a rx) c.fixed.queue (λ x. stays rx PushAt.Control refl x) (λ x. ends rx Refusal.TxQueueDisabled refl))

  reads_control : QueueMid c m bs PushAt.Control → Exchanged PushAt.Control
  reads_control g =
      let rx : List ℕ = le_bytes (word_of c Register.QueueControl) in
      rw (turned 0 (length payload) bs p f false PushAt.Control refl t k c _ _ _ (hear_queue _ c) (next_queue_control c o (length payload) (length bs)))
      (by_if (λ a. After c a rx) (ltb (payload_of (frozen_at c 0)) (length payload))
      (λ y. ends rx Refusal.FifoTooSmall refl)
      (λ y. stays rx (PushAt.Status _) refl (record { word = queue_gentle c o; on = g; fits = queue_fits_lem c header seq payload bs coded (ltb-false _ _ y) })))

  reads_status : (w : ℕ) → QueueMid c m bs (PushAt.Status w) → Exchanged (PushAt.Status w)
  reads_status w g =
      let rx : List ℕ = le_bytes (word_of c Register.QueueStatus) in
      rw (turned 0 (length payload) bs p f false (PushAt.Status w) refl t k c _ _ _ (hear_queue_status _ c) (next_queue_status c o g.on (length payload) (length bs) w))
      (by_if (λ a. After c a rx) (full (frozen_at c 0) c.queue) (λ x. ends rx Refusal.FifoFull refl) (λ x. stays rx (PushAt.Address w) refl (g, x)))

  reads_address : (w : ℕ) → QueueMid c m bs (PushAt.Address w) → Exchanged (PushAt.Address w)
  reads_address w g =
      let inside : queue_shown c + length bs ≤ 2048 = omega (arith, shown_inside c o g.0.on, g.0.fits) in
      rw (turned 0 (length payload) bs p f false (PushAt.Address w) refl t k c _ _ _ (hear_queue_address _ c)
      (next_queue_address c o g.0.on (length payload) (length bs) w inside))
      (stays _ (PushAt.Write w _) refl (g.0, g.1, refl))

  writes_object : (w a : ℕ) → QueueMid c m bs (PushAt.Write w a) → Exchanged (PushAt.Write w a)
  writes_object w a g =
      let x = g.0 in
      let shown = o.valid.queue.shown in
      let d : Model = shown_filled c o header seq payload bs coded in
      let told = shown_told c o header seq payload bs coded w a g in
      rw (
        turned 0 (length payload) bs p f false (PushAt.Write w a) refl t k c [] d (PushAt.Commit w) told refl,
        still_alone k (λ s. refl) refl refl (length payload) bs p f t d [] (PushAt.Commit w) refl,
      )
      (goes_on_lem X c t l e d k (at (PushAt.Commit w)) (spoken_sound _ _ c o _ told refl) q (queue_filled_held c o x.on c.queue.shown shown bs x.fits)
      (queue_filled_queue c o x.on c.queue.shown shown bs x.fits (o.valid.queue.vacant g.1))
      (queues header seq payload bs (PushAt.Commit w) p f coded (shown_mid c o header seq payload bs coded w a g) refl refl))

  writes_control : (w : ℕ) → QueueMid c m bs (PushAt.Commit w) → Exchanged (PushAt.Commit w)
  writes_control w g =
      let (v, told, vh, vs) = claim_told c o header seq payload bs coded w g in
      let y : Queue = queue.claimed (frozen_at c 0) v in
      rw (
        turned 0 (length payload) bs p f false (PushAt.Commit w) refl t k c [] (with_queue c y) PushAt.Done told refl,
        done_alone k (λ s. refl) refl refl (length payload) bs p f t (with_queue c y) [],
      )
      (says_more X c t l e (with_queue c y) idle _ (spoken_sound _ _ c o _ told refl) q (quiet c (with_queue c y) (called k Outcome.Done []) (λ j. refl) (λ j. refl) (queue_held c y))
      (λ u. claim_moves c o header seq payload bs coded w g v vh vs) tt tt)

  pub queue_exchanged : (a : PushAt) → QueueMid c m bs a → Exchanged a
  queue_exchanged PushAt.Enabled g = reads_enabled
  queue_exchanged PushAt.Control g = reads_control g
  queue_exchanged (PushAt.Status w) g = reads_status w g
  queue_exchanged (PushAt.Address w) g = reads_address w g
  queue_exchanged (PushAt.Write w a) g = writes_object w a g
  queue_exchanged (PushAt.Commit w) g = writes_control w g
  queue_exchanged PushAt.BareAddress g = absurd g
  queue_exchanged (PushAt.BareWrite a) g = absurd g
  queue_exchanged PushAt.BareControl g = absurd g
  queue_exchanged PushAt.Done g = absurd g
  queue_exchanged (PushAt.Refused x) g = absurd g

  -- an exchange that fails is 2 at the RAM write, 1 elsewhere
  fails_at : (a : PushAt) → push.done_at a ≡ false → (x : Refusal) → push.next_at 0 (length payload) (length bs) a Answer.Failed [] ≡ PushAt.Refused x → NotCaused x
      → Inv X U (goes_on t k (at a) (heard false (at a) c))
  fails_at a d x n w = rw (failed 0 (length payload) bs p f false a d t k c, n) (ends [] x w)

  pub queue_failed : (a : PushAt) → QueueMid c m bs a → Inv X U (goes_on t k (at a) (heard false (at a) c))
  queue_failed PushAt.Enabled g = fails_at PushAt.Enabled refl Refusal.SpiRead refl refl
  queue_failed PushAt.Control g = fails_at PushAt.Control refl Refusal.SpiRead refl refl
  queue_failed (PushAt.Status w) g = fails_at (PushAt.Status w) refl Refusal.SpiRead refl refl
  queue_failed (PushAt.Address w) g = fails_at (PushAt.Address w) refl Refusal.SpiRead refl refl
  queue_failed (PushAt.Write w a) g = fails_at (PushAt.Write w a) refl Refusal.SpiWrite refl refl
  queue_failed (PushAt.Commit w) g = fails_at (PushAt.Commit w) refl Refusal.SpiRead refl refl
  queue_failed PushAt.BareAddress g = absurd g
  queue_failed (PushAt.BareWrite a) g = absurd g
  queue_failed PushAt.BareControl g = absurd g
  queue_failed PushAt.Done g = absurd g
  queue_failed (PushAt.Refused x) g = absurd g

-- ---- the beginning

-- the driver with a push to the queue of what a message is encoded as
abbrev pub queueing : (size : ℕ) → PushAt → Encoding → Call
queueing size first x = record { at = CallAt.Push; plan = idle_plan; push = push.begun 0 size first (encoded_as x); fetch = idle_fetch }

module _ (X : ℕ → Type 0) {U : Type 0} (c : Model) (o : Sound c) (q : Asked X c) (t : List Said) (l : Listed c t) (e : Tale U c t) (header : Header) (seq : ℕ) (payload : List ℕ) where
  begins_as : (x : Encoding) → encoding (push.to_send header seq payload) ≡ x → NotRefused x
      → Inv X U (settled c t (QueuePush header seq payload) (queueing (length payload) PushAt.Enabled x) [])
  begins_as (Encoding.refused x) g h =
      rw (refused_alone (QueuePush header seq payload) (λ s. refl) refl refl (length payload) [] idle_plan idle_fetch t c [] x)
      (says_more X c t l e c idle _ o q (quiet_refusal c (QueuePush header seq payload) x []) (λ u. queue_called c c (QueuePush header seq payload) (Outcome.Refused x) [] refl refl) h tt)
  begins_as (Encoding.object bs) g h =
      rw (still_alone (QueuePush header seq payload) (λ s. refl) refl refl (length payload) bs idle_plan idle_fetch t c [] PushAt.Enabled refl)
      (goes_on_lem X c t l e c _ _ o q (λ j. refl) refl (queues header seq payload bs PushAt.Enabled idle_plan idle_fetch g tt refl refl))

  pub queue_begins : Inv X U (settled c t (QueuePush header seq payload) (started (QueuePush header seq payload)) [])
  unfolding of_push push.queue_start_at
  queue_begins = begins_as (encoding (push.to_send header seq payload)) refl (encoding_fine header seq payload)
