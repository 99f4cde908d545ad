-- The transmit queue of a chip in order: what is held, and what a send takes.
-- Assumes nothing.
use Prim.Native.Nat.{ℕ, ◌+◌, ◌*◌, ◌<◌}
use mathlib.Core.Path.{◌≡◌, refl, sym, ap, ap₂, ◌∙◌}
use mathlib.Core.Bool.{Bool, true, false, ◌&&◌, not, false≢true}
use mathlib.Core.List.{List, [], ◌∷◌}
use native.Mathlib.Nat.{zero-add}
use native.Mathlib.Omega.{arith}
use borrow.Author.Tests.{lt-ltb, ltb-false, le-ltb, leb-false, eqb-true, eq-eqb, ne_eqb}
use lib.Dec.{ltb, eqb}
use lib.ListN.{length, get_or}
use Rattle.std.specs.Prelude.{if◌then◌else◌}
use Rattle.laws.proofs.Choice.{by_if}
use Rattle.laws.proofs.Table.{both}
use Rattle.field.specs.Field.{read, flag, digit}
use Rattle.configuration.specs.CanControl.{TXQEN}
use Rattle.fifo.specs.Control.{TXREQ, FSIZE}
use Rattle.message.specs.Message.{Decoding}
use Rattle.place.specs.declared.Register.{Register}
use Rattle.ring.specs.declared.queue.Queue.{Queue}
use Rattle.ring.specs.Ring.{depth, fresh}
use Rattle.ring.specs.Registers.{frozen_fields, control}
use Rattle.ring.specs.Queue as queue
use Rattle.ring.specs.Queue.{gather, is_held, no_slot}
use Rattle.ring.proofs.Laws.{frozen_kept, copied_off}
use Rattle.ring.proofs.Words.{depth_most}
use Rattle.ring.proofs.Places.{same?, first_fails, gather_none, best_found_lem}
use Rattle.ring.proofs.Gathers.{gather_some, gather_all, gather_less}
use Rattle.ring.proofs.Queues.{freed_flags, sent_flags, sent_held, full_means_lem, empty_means_lem, queue_status_bits_lem}
use Rattle.ring.proofs.QueueControl.{queue_send_txreq_lem}
use Rattle.state.specs.declared.Model.{Model}
use Rattle.state.specs.Model.{frozen_at, with_queue}
use Rattle.bank.specs.Registers.{word_of}
use Rattle.bank.proofs.QueueLaws.{txqen_reads_lem}
use Rattle.bus.specs.Bus.{nothing}
use Rattle.bus.specs.Queue.{queue_depth, queue_slot, queue_item, held_queue, queue_rank, winner, queue_sends, queue_output, queue_model}
use Rattle.bus.proofs.QueueLaws.{queue_winner_lem}
use Rattle.reach.specs.Chip.{QueueRequested, QueueSendTakes, QueueSendKeeps, QueueStatusReads}
use Rattle.reach.proofs.Kept.{always_valid_lem}

-- ---- none is held

pub none_queued : (m : Model) → ((k : ℕ) → is_held m.queue k ≡ false) → held_queue m ≡ []
unfolding held_queue
none_queued m h =
    by_if (λ (l : List Decoding). l ≡ []) m.fixed.queue (λ e. gather_none (is_held m.queue) (queue_item m) 0 (queue_depth m) (λ j a b. h j)) (λ e. refl)

-- ---- what is held where the queue is on

module _ (m : Model) where
  pub held_on : m.fixed.queue ≡ true → held_queue m ≡ gather (is_held m.queue) (queue_item m) 0 (queue_depth m)
  unfolding held_queue
  held_on e = rw e

  txreq_reads : read TXREQ (word_of m Register.QueueControl) ≡ read TXREQ m.queue.control
  unfolding word_of
  txreq_reads = copied_off TXREQ frozen_fields (frozen_at m 0) m.queue.control refl

  -- a digit that is 1
  on_is : read TXQEN (word_of m Register.Con) ≡ 1 → m.fixed.queue ≡ true
  on_is e = go m.fixed.queue (sym (txqen_reads_lem m) ∙ e)
    where
      go : (b : Bool) → digit b ≡ 1 → b ≡ true
      go true x = refl
      go false x = absurd (omega arith)

  pub sends_told : queue_sends m ≡ true → (m.fixed.queue ≡ true) × (flag TXREQ m.queue.control ≡ true) × (ltb (winner m) no_slot ≡ true)
  unfolding queue_sends
  sends_told e =
      let (a, b) = both (m.fixed.queue && flag TXREQ m.queue.control) (ltb (winner m) no_slot) e in
      let (x, y) = both m.fixed.queue (flag TXREQ m.queue.control) a in
      (x, y, b)

  requested : m.fixed.queue ≡ true → flag TXREQ m.queue.control ≡ true → QueueRequested m
  requested x y = (txqen_reads_lem m ∙ ap digit x, txreq_reads ∙ eqb-true _ 1 y)

-- no winner, none held
no_winner : (m : Model) → ltb (winner m) no_slot ≡ false → (j : ℕ) → j < queue_depth m → is_held m.queue j ≡ false
unfolding winner
no_winner m e =
    let b = best_found_lem (is_held m.queue) (queue_rank m) (queue_depth m) (depth_most (frozen_at m 0)) in
    same? (winner m) no_slot (λ z. b.1 z) (λ ne. let l = (b.0 ne).lt in absurd (omega (arith, ltb-false (winner m) no_slot e, depth_most (frozen_at m 0))))

pub queue_send_keeps_lem : QueueSendKeeps
unfolding queue_output queue_model
queue_send_keeps_lem m h = go (queue_sends m) refl
  where
    go : (b : Bool) → queue_sends m ≡ b → (queue_output m ≡ nothing) × (queue_model m ≡ m)
    go true e =
        let (x, y, z) = sends_told m e in
        let b = queue_winner_lem m e in
        absurd (gather_some (is_held m.queue) (queue_item m) 0 (queue_depth m) (winner m) (omega arith) (omega (arith, b.lt)) b.is
        (sym (held_on m x) ∙ h (requested m x y)))
    go false e = (rw e, rw e)

-- empty, as the messages held tell it
module _ (frozen : ℕ) (q : Queue) (f : ℕ → Decoding) where
  abbrev slots : List Decoding
  slots = gather (is_held q) f 0 (depth frozen)

  pub empty_told : slots ≡ [] → queue.empty frozen q ≡ true
  empty_told e = (empty_means_lem frozen q).1 (λ k l. go k l (is_held q k) refl)
    where
      go : (k : ℕ) → k < depth frozen → (b : Bool) → is_held q k ≡ b → is_held q k ≡ false
      go k l true h = absurd (gather_some (is_held q) f 0 (depth frozen) k (omega arith) (omega arith) h e)
      go k l false h = h

  pub empty_slots : queue.empty frozen q ≡ true → slots ≡ []
  empty_slots e = gather_none (is_held q) f 0 (depth frozen) (λ j a b. (empty_means_lem frozen q).0 e j (omega arith))

  pub empty_not : (slots ≡ [] → ⊥) → queue.empty frozen q ≡ false
  empty_not h = go (queue.empty frozen q) refl
    where
      go : (b : Bool) → queue.empty frozen q ≡ b → queue.empty frozen q ≡ false
      go true e = absurd (h (empty_slots e))
      go false e = e

  -- and full
  pub full_slots : queue.full frozen q ≡ true → length slots ≡ depth frozen
  full_slots e = gather_all (is_held q) f 0 (depth frozen) (λ j a b. (full_means_lem frozen q).0 e j (omega arith))

  -- or with a free slot
  pub full_not : queue.full frozen q ≡ false → length slots < depth frozen
  unfolding queue.full queue.free
  full_not e =
      let l : queue.free frozen q < depth frozen = leb-false (depth frozen) (queue.free frozen q) e in
      gather_less (is_held q) f 0 (depth frozen) (queue.free frozen q) (omega arith) (omega arith) (rw zero-add at (first_fails (is_held q) 0 (depth frozen) l))

-- a list of no length
no_slots : (l : List Decoding) → length l ≡ 0 → l ≡ []
no_slots [] e = refl
no_slots (x ∷ l) e = absurd (omega arith)

pub queue_send_takes_lem : QueueSendTakes
unfolding queue_output queue_model queue_sends queue_item queue_slot word_of
queue_send_takes_lem m r (q, t) some =
    let v = always_valid_lem m r in
    let on = on_is m q in
    let asks : flag TXREQ m.queue.control ≡ true = eq-eqb _ 1 (sym (txreq_reads m) ∙ t) in
    let e : queue_sends m ≡ true = asked_sends on asks in
    let b = queue_winner_lem m e in
    let k : ℕ = winner m in
    let w : ℕ = frozen_at m 0 in
    let is : queue_model m ≡ with_queue m (queue.sent w k m.queue) = rw e in
    let left : held_queue (queue_model m) ≡ gather (is_held (queue.sent w k m.queue)) (queue_item m) 0 (depth w) = ap held_queue is ∙ held_sent on w k in
    let freed : gather (is_held (queue.sent w k m.queue)) (queue_item m) 0 (depth w) ≡ gather (is_held (queue.freed w k m.queue)) (queue_item m) 0 (depth w)
    = ap (λ (l : List Bool). gather (λ j. get_or l j false) (queue_item m) 0 (depth w)) (sent_flags w m.queue k ∙ sym (freed_flags w m.queue k)) in
    let reads = ap (λ (x : Model). read TXREQ (word_of x Register.QueueControl)) is in
    record {
      slot = k;
      wins = b;
      out = rw e;
      stay = rw (left, held_on m on) (sent_held w m.queue (queue_item m) k b.lt b.is v.queue.held);
      last = λ z. reads ∙ (queue_send_txreq_lem w k m.queue).last (empty_told w _ (queue_item m) (sym freed ∙ sym left ∙ z));
      another = λ z. reads ∙ (queue_send_txreq_lem w k m.queue).another (empty_not w _ (queue_item m) (λ y. z (left ∙ freed ∙ y))) ∙ t;
    }
  where
    held_sent : m.fixed.queue ≡ true → (w k : ℕ) → held_queue (with_queue m (queue.sent w k m.queue)) ≡ gather (is_held (queue.sent w k m.queue)) (queue_item m) 0 (queue_depth m)
    held_sent on w k = held_on (with_queue m (queue.sent w k m.queue)) on

    asked_sends : m.fixed.queue ≡ true → flag TXREQ m.queue.control ≡ true → queue_sends m ≡ true
    asked_sends on asks = ap₂ ◌&&◌ (ap₂ ◌&&◌ on asks) (go (ltb (winner m) no_slot) refl)
      where
        go : (b : Bool) → ltb (winner m) no_slot ≡ b → ltb (winner m) no_slot ≡ true
        go true e = e
        go false e = absurd (some (held_on m on ∙ gather_none (is_held m.queue) (queue_item m) 0 (queue_depth m) (λ j a b. no_winner m e j (omega arith))))

-- ---- status

-- the word's bits, as the messages held tell them
slots_bits : (w : ℕ) (q : Queue) (f : ℕ → Decoding)
    → queue.status w q ≡ digit (ltb (length (gather (is_held q) f 0 (depth w))) (depth w)) + 4 * digit (eqb (length (gather (is_held q) f 0 (depth w))) 0)
slots_bits w q f = queue_status_bits_lem w q ∙ ap₂ (λ (x y : Bool). digit x + 4 * digit y) room none
  where
    room : not (queue.full w q) ≡ ltb (length (gather (is_held q) f 0 (depth w))) (depth w)
    room = go (queue.full w q) refl
      where
        go : (b : Bool) → queue.full w q ≡ b → not (queue.full w q) ≡ ltb (length (gather (is_held q) f 0 (depth w))) (depth w)
        go true e = rw (e, full_slots w q f e, le-ltb (depth w) (depth w) (omega arith))
        go false e = rw e (sym (lt-ltb _ _ (full_not w q f e)))

    none : queue.empty w q ≡ eqb (length (gather (is_held q) f 0 (depth w))) 0
    none = go (queue.empty w q) refl
      where
        go : (b : Bool) → queue.empty w q ≡ b → queue.empty w q ≡ eqb (length (gather (is_held q) f 0 (depth w))) 0
        go true e = rw (e, empty_slots w q f e)
        go false e = rw e (sym (ne_eqb _ 0 (λ z. false≢true (sym e ∙ empty_told w q f (no_slots _ z)))))

-- FSIZE of the control word is that of the frozen one
size_reads : (m : Model) → depth (frozen_at m 0) ≡ read FSIZE (word_of m Register.QueueControl) + 1
unfolding word_of depth control fresh
size_reads m = ap (λ (n : ℕ). n + 1) (sym (frozen_kept (frozen_at m 0) (fresh m.queue.control)).1.1.0)

pub queue_status_reads_lem : QueueStatusReads
unfolding word_of
queue_status_reads_lem m c = go m.fixed.queue refl
  where
    reads : word_of m Register.QueueStatus ≡ (if m.fixed.queue then queue.status (frozen_at m 0) m.queue else 0)
    reads = rw c

    go : (b : Bool) → m.fixed.queue ≡ b → word_of m Register.QueueStatus
        ≡ (if m.fixed.queue then digit (ltb (length (held_queue m)) (read FSIZE (word_of m Register.QueueControl) + 1)) + 4 * digit (eqb (length (held_queue m)) 0) else 0)
    go true e =
        reads ∙ ap (λ (b : Bool). if b then queue.status (frozen_at m 0) m.queue else 0) e ∙ slots_bits (frozen_at m 0) m.queue (queue_item m)
        ∙ ap₂ (λ (l : List Decoding) (n : ℕ). digit (ltb (length l) n) + 4 * digit (eqb (length l) 0)) (sym (held_on m e)) (size_reads m)
        ∙ ap (λ (b : Bool). if b then digit (ltb (length (held_queue m)) (read FSIZE (word_of m Register.QueueControl) + 1)) + 4 * digit (eqb (length (held_queue m)) 0) else 0) (sym e)
    go false e =
        reads ∙ ap (λ (b : Bool). if b then queue.status (frozen_at m 0) m.queue else 0) e
        ∙ ap (λ (b : Bool). if b then digit (ltb (length (held_queue m)) (read FSIZE (word_of m Register.QueueControl) + 1)) + 4 * digit (eqb (length (held_queue m)) 0) else 0) (sym e)
