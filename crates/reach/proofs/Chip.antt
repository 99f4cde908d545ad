-- Document 01's sentences about the modelled chip.
-- Assumes nothing.
use Prim.Native.Nat.{ℕ, ◌+◌, ◌*◌, ◌^◌, ◌<◌}
use mathlib.Core.Path.{◌≡◌, refl, sym, ap, ap₂, subst, ◌∙◌}
use mathlib.Core.Bool.{Bool, true, false, ◌&&◌}
use mathlib.Core.List.{List, [], ◌∷◌, ◌++◌}
use native.Mathlib.Omega.{arith}
use borrow.Author.Tests.{ltb-true, lt-ltb, ltb-false, leb-false, eqb-true, eq-eqb}
use lib.Dec.{ltb, leb, eqb}
use lib.ListN.{length}
use lib.Seq.{get_or-set_same}
use Rattle.std.specs.Prelude.{if◌then◌else◌, Ok, Result, Err}
use Rattle.laws.proofs.Choice.{by_if}
use Rattle.laws.proofs.Table.{both}
use Rattle.field.specs.Field.{read, flag, digit}
use Rattle.configuration.specs.CanControl.{REQOP}
use Rattle.fifo.specs.Control.{TXEN, TXREQ, payload_of, is_fifo, CiFIFOCON}
use Rattle.fifo.specs.TxQueueControl.{CiTXQCON}
use Rattle.fifo.specs.Status.{RXOVIF}
use Rattle.header.specs.declared.Header.{Header}
use Rattle.message.specs.Message.{arrival_check, arriving, Decoding, holds}
use Rattle.place.specs.declared.Register.{Register}
use Rattle.operation.specs.declared.operation.Operation.{Operation}
use Rattle.ring.specs.declared.ring.Fifo.{Fifo}
use Rattle.ring.specs.Ring.{sending, depth, fresh, claimed, overflowed, sent, turned}
use Rattle.ring.specs.Registers.{control, status}
use Rattle.ring.specs.Queue as queue
use Rattle.ring.proofs.Queues.{fresh_held}
use Rattle.ring.proofs.QueueControl.{queue_off, queue_entering_empties_lem}
use Rattle.ring.proofs.Laws.{frozen_kept, control_off, send_txreq_lem, entering_empties_lem, status_bits_lem}
use Rattle.state.specs.declared.Model.{Model}
use Rattle.state.specs.Model.{areas, blank, reset, fifo_at, frozen_at, with_fifo}
use Rattle.bank.specs.declared.writing.Written.{Written}
use Rattle.bank.specs.Registers.{mode_of, word_of, con_set, settled, turned_all, con_written, register_written}
use Rattle.bank.proofs.Laws.{opmod_is}
use Rattle.model.specs.Exchange.{performed, exchange}
use Rattle.bus.specs.declared.arrival.Undelivered.{Undelivered}
use Rattle.bus.specs.declared.arrival.Delivered.{Delivered}
use Rattle.bus.specs.Held.{item_at, row, held}
use Rattle.filters.specs.Filters.{filter_count}
use Rattle.bus.specs.Sort.{filter_for, target_for}
use Rattle.bus.specs.Bus.{nothing, output_of, sends, send_output, send_model, stamp_for, incoming, give}
use Rattle.bus.proofs.Laws.{oldest_sent_lem, held_length}
use Rattle.bus.proofs.Arriving.{by_deliver, by_give, receives_is}
use Rattle.bus.proofs.Fitting.{object_fits}
use Rattle.bus.proofs.Sorts.{by_sort}
use Rattle.reach.specs.Reach.{Reached, Valid}
use Rattle.reach.specs.Chip.{Requested, SendTakes, SendKeeps, SendInside, DeliverAppends, FullOverflows, SortAppends, SortOverflows, Entered, Entering, Resetting, InsideEmpty, QueueInsideEmpty, OpmodExactly}
use Rattle.reach.specs.Chip.{StatusReads}
use Rattle.reach.proofs.Kept.{at_replicate, turned_at, always_valid_lem}
use Rattle.reach.proofs.Queue.{none_queued}
use Rattle.reach.proofs.Sound.{Sound}
use Rattle.reach.proofs.Slots.{fifo_told, filled, filled_held, filled_item, filled_sound, next_fifo, more_held}
use Rattle.reach.proofs.Arrivals.{coming_back}

-- ---- what is held

none_held : (m : Model) (n : ℕ) → (fifo_at m n).count ≡ 0 → held m n ≡ []
unfolding held row
none_held m n e = by_if (λ (l : List Decoding). l ≡ []) (is_fifo n) (λ i. rw e) (λ i. refl)

-- as many are held as the FIFO counts
counted : (m : Model) (n : ℕ) → is_fifo n ≡ true → (l : List Decoding) → held m n ≡ l → (fifo_at m n).count ≡ length l
counted m n i l e = sym (held_length m n i) ∙ ap length e

-- ---- send

module _ (m : Model) (n : ℕ) where
  -- TXEN and TXREQ as they read, and as the send looks at them
  txen_reads : read TXEN (word_of m (Register.Control n)) ≡ read TXEN (frozen_at m n)
  unfolding word_of
  txen_reads = (frozen_kept (frozen_at m n) (fifo_at m n)).1.0

  txreq_reads : read TXREQ (word_of m (Register.Control n)) ≡ read TXREQ (fifo_at m n).control
  unfolding word_of
  txreq_reads = control_off TXREQ (frozen_at m n) (fifo_at m n) refl

  sends_asked : sends m n ≡ true → Requested m n × (0 < (fifo_at m n).count)
  unfolding sends sending
  sends_asked e =
      let (a, b) = both (flag TXEN (frozen_at m n) && flag TXREQ (fifo_at m n).control) (ltb 0 (fifo_at m n).count) e in
      let (c, d) = both (flag TXEN (frozen_at m n)) (flag TXREQ (fifo_at m n).control) a in
      ((txen_reads ∙ eqb-true _ 1 c, txreq_reads ∙ eqb-true _ 1 d), ltb-true 0 (fifo_at m n).count b)

  asked_sends : Requested m n → 0 < (fifo_at m n).count → sends m n ≡ true
  unfolding sends sending
  asked_sends q l =
      let a : flag TXEN (frozen_at m n) ≡ true = eq-eqb _ 1 (sym txen_reads ∙ q.0) in
      let b : flag TXREQ (fifo_at m n).control ≡ true = eq-eqb _ 1 (sym txreq_reads ∙ q.1) in
      rw (a, b, lt-ltb 0 (fifo_at m n).count l)

pub send_keeps_lem : SendKeeps
unfolding send_output send_model
send_keeps_lem m n i h = go (sends m n) refl
  where
    go : (b : Bool) → sends m n ≡ b → (send_output m n ≡ nothing) × (send_model m n ≡ m)
    go true e =
        let (q, l) = sends_asked m n e in
        absurd (omega (arith, counted m n i [] (h q)))
    go false e = (rw (i, e), rw (i, e))

pub inside_empty_lem : InsideEmpty
inside_empty_lem m r c n = none_held m n (((always_valid_lem m r).fifo n).empty c)

pub queue_inside_empty_lem : QueueInsideEmpty
queue_inside_empty_lem m r c = none_queued m ((always_valid_lem m r).queue.none c)

pub send_inside_lem : SendInside
send_inside_lem m r c n i = send_keeps_lem m n i (λ q. inside_empty_lem m r c n)

-- a send that takes one: its answer, and the control word after it
module _ (m : Model) (n : ℕ) (i : is_fifo n ≡ true) (v : Valid m) (e : sends m n ≡ true) where
  sent_out : send_output m n ≡ output_of (item_at m n 0)
  unfolding send_output
  sent_out = rw (i, e)

  sent_model : send_model m n ≡ with_fifo m n (sent (frozen_at m n) (fifo_at m n))
  unfolding send_model
  sent_model = rw (i, e)

  sent_word : word_of (send_model m n) (Register.Control n) ≡ control (frozen_at m n) (sent (frozen_at m n) (fifo_at m n))
  unfolding word_of
  sent_word =
      ap (λ (d : Model). control (frozen_at d n) (fifo_at d n)) sent_model
      ∙ ap (control (frozen_at m n)) (get_or-set_same m.fifo n (sent (frozen_at m n) (fifo_at m n)) blank (omega (arith, v.fifos, (fifo_told n i).1)))

no_entry : (l : List Decoding) → length l ≡ 0 → l ≡ []
no_entry [] e = refl
no_entry (x ∷ l) e = absurd (omega arith)

pub send_takes_lem : SendTakes
unfolding word_of
send_takes_lem m r n i q x rest e =
    let v = always_valid_lem m r in
    let k : (fifo_at m n).count ≡ length (x ∷ rest) = counted m n i (x ∷ rest) e in
    let s : sends m n ≡ true = asked_sends m n q (omega arith) in
    let o : x ∷ rest ≡ item_at m n 0 ∷ held (send_model m n) n = sym e ∙ oldest_sent_lem m n i s (v.fifo n).head (v.fifo n).count in
    let w = ap (read TXREQ) (sent_word m n i v s) in
    let t = send_txreq_lem (frozen_at m n) (fifo_at m n) in
    let first : item_at m n 0 ≡ x = cc in
    let one : rest ≡ [] → (fifo_at m n).count ≡ 1 = λ z. k ∙ ap (λ (l : List Decoding). length (x ∷ l)) z in
    let more : (rest ≡ [] → ⊥) → (fifo_at m n).count ≡ 1 → ⊥ = λ z c. z (no_entry rest (omega arith)) in
    record {
      out = sent_out m n i v s ∙ ap output_of first;
      stay = cc;
      last = λ z. w ∙ t.last (one z);
      another = λ z. w ∙ t.another (more z) ∙ q.1;
    }

-- ---- deliver

-- an answer that is not the one asked about
abbrev cause : Result (Unit {0}) Undelivered → ℕ
cause (Ok _) = 0
cause (Err Undelivered.Configuration) = 1
cause (Err Undelivered.NotReceiving) = 2
cause (Err Undelivered.TooLong) = 3
cause (Err Undelivered.Full) = 4
cause (Err (Undelivered.Refused r)) = 5

other : (X : Type 0) (x y : Result (Unit {0}) Undelivered) → (cause x ≡ cause y → ⊥) → x ≡ y → X
other X x y ne e = absurd (ne (ap cause e))

module _ (m : Model) (r : Reached m) (n hit : ℕ) (header : Header) (dlc time : ℕ) (payload : List ℕ) (small : time < 2 ^ 32) (k : ℕ) where
  abbrev Appends : Delivered → Type 0
  Appends x =
      x.delivery ≡ Ok tt → held x.model k ≡ held m k ++ (if eqb n k then holds (incoming m n hit header dlc time payload) ∷ [] else [])

  -- a frame that is delivered is put behind those held
  gives : hit < 32 → arrival_check header dlc (length payload) ≡ Ok tt → Appends (give m n hit dlc header time payload)
  unfolding claimed
  gives l e =
      by_give m n header dlc time payload Appends hit
      (λ a. other _ _ _ (λ z. omega arith)) (λ a b. other _ _ _ (λ z. omega arith)) (λ a b c. other _ _ _ (λ z. omega arith))
      (λ a b c f. other _ _ _ (λ z. omega arith))
      (λ a b c f z.
      let (i, t) = receives_is m n b in
      let s : Sound m = record { valid = always_valid_lem m r; out = a } in
      let free : (fifo_at m n).count < depth (frozen_at m n) = leb-false (depth (frozen_at m n)) (fifo_at m n).count f in
      let bs = arriving header dlc hit (stamp_for m n time) payload in
      let fits = object_fits m n hit dlc header time payload (ltb-false (payload_of (frozen_at m n)) (length payload) c) in
      let item = filled_item m s n i free bs fits (incoming m n hit header dlc time payload) (coming_back m n hit header dlc time payload small t l e) in
      sym (more_held (filled m n bs) (filled_sound m s n i free bs fits) n i (claimed (fifo_at m n)) refl refl k)
      ∙ ap₂ (λ (l : List Decoding) (x : Decoding). l ++ (if eqb n k then x ∷ [] else [])) (filled_held m s n i free bs fits k) item)

pub deliver_appends_lem : DeliverAppends
deliver_appends_lem m r n header dlc time payload small e k =
    by_deliver m n header dlc time payload (Appends m r n 0 header dlc time payload small k)
    (λ i. other _ _ _ (λ z. omega arith)) (λ i t. other _ _ _ (λ z. omega arith)) (λ i t d. other _ _ _ (λ z. omega arith))
    (λ i t f. gives m r n 0 header dlc time payload small k (omega arith))
    e

pub sort_appends_lem : SortAppends
sort_appends_lem m r header dlc time payload small e k =
    by_sort m header dlc time payload
    (λ s. s.delivery ≡ Ok tt → held s.model k ≡ held m k ++ (if eqb s.fifo k then holds (incoming m s.fifo s.filter header dlc time payload) ∷ [] else []))
    (λ t. other _ _ _ (λ z. omega arith)) (λ t f. other _ _ _ (λ z. omega arith)) (λ t f z. other _ _ _ (λ z. omega arith))
    (λ t f z g. other _ _ _ (λ z. omega arith))
    (λ t f z g. gives m r (target_for m (filter_for m header)) (filter_for m header) header dlc time payload small k (leb-false filter_count (filter_for m header) g))
    e

-- bit 3, by computing
bit_3 : (a b : Bool) → read RXOVIF (digit a + 4 * digit b + 8 * 1) ≡ 1
bit_3 true true = refl
bit_3 true false = refl
bit_3 false true = refl
bit_3 false false = refl

over_reads : (v : ℕ) (f : Fifo) → sending v ≡ false → f.over ≡ true → read RXOVIF (status v f) ≡ 1
over_reads v f e o =
    ap (read RXOVIF) (status_bits_lem v f ∙ rw (e, o)) ∙ bit_3 (ltb 0 f.count) (leb (depth v) f.count)

module _ (m : Model) (r : Reached m) (n : ℕ) (header : Header) (dlc time : ℕ) (payload : List ℕ) where
  abbrev Overflows : Delivered → Type 0
  Overflows x = x.delivery ≡ Err Undelivered.Full → read RXOVIF (word_of x.model (Register.Status n)) ≡ 1

  give_full : (hit : ℕ) → Overflows (give m n hit dlc header time payload)
  unfolding word_of overflowed
  give_full hit =
      by_give m n header dlc time payload Overflows hit
      (λ a. other _ _ _ (λ z. omega arith)) (λ a b. other _ _ _ (λ z. omega arith)) (λ a b c. other _ _ _ (λ z. omega arith))
      (λ a b c g q.
      let s : Sound m = record { valid = always_valid_lem m r; out = a } in
      let (i, t) = receives_is m n b in
      let h : Fifo = overflowed true (fifo_at m n) in
      rw a (over_reads (frozen_at m n) (fifo_at (with_fifo m n h) n) t (ap (λ (x : Fifo). x.over) (next_fifo m s n i h))))
      (λ a b c g. other _ _ _ (λ z. omega arith))

pub full_overflows_lem : FullOverflows
full_overflows_lem m r n header dlc time payload =
    by_deliver m n header dlc time payload (Overflows m r n header dlc time payload)
    (λ i. other _ _ _ (λ z. omega arith)) (λ i t. other _ _ _ (λ z. omega arith)) (λ i t d. other _ _ _ (λ z. omega arith))
    (λ i t f w. give_full m r n header dlc time payload 0)

pub sort_overflows_lem : SortOverflows
sort_overflows_lem m r header dlc time payload =
    by_sort m header dlc time payload (λ s. s.delivery ≡ Err Undelivered.Full → read RXOVIF (word_of s.model (Register.Status s.fifo)) ≡ 1)
    (λ t. other _ _ _ (λ z. omega arith)) (λ t f. other _ _ _ (λ z. omega arith)) (λ t f z. other _ _ _ (λ z. omega arith))
    (λ t f z g. other _ _ _ (λ z. omega arith))
    (λ t f z g w. give_full m r (target_for m (filter_for m header)) header dlc time payload (filter_for m header))

-- ---- Configuration

module _ (m : Model) (w : ℕ) (c : m.fixed.configuring ≡ false) (q : read REQOP w ≡ 4) where
  entered_is : con_written m w ≡ settled (con_set (turned_all true m) w true)
  unfolding con_written
  entered_is = rw (eq-eqb (read REQOP w) 4 q, c)

  entered : Entered (con_set (turned_all true m) w true)
  unfolding word_of
  entered =
      let t : (n : ℕ) → fifo_at (turned_all true m) n ≡ turned true (fifo_at m n) = turned_at true m in
      let e : (n : ℕ) → _ = λ n. entering_empties_lem (frozen_at m n) (fifo_at m n) in
      record {
        inside = refl;
        empty = λ n. none_held _ n (ap (λ (f : Fifo). f.count) (t n) ∙ (e n).empty);
        txreq = λ n. ap (λ (f : Fifo). read TXREQ (control (frozen_at m n) f)) (t n) ∙ (e n).txreq;
        overflow = λ n. ap (λ (f : Fifo). f.over) (t n) ∙ (e n).overflow;
        queue_empty = none_queued _ (queue_entering_empties_lem (frozen_at m 0) m.queue).none;
        queue_txreq = (queue_entering_empties_lem (frozen_at m 0) m.queue).txreq;
        queue_shows = (queue_entering_empties_lem (frozen_at m 0) m.queue).home;
      }

pub entering : Entering
unfolding exchange performed register_written
entering s want w m e c q =
    subst Entered (sym (ap (λ (o : Operation). (performed o s want m).model) e ∙ ap (λ (x : Written). x.model) (entered_is m w c q))) (entered m w c q)

reset_entered : (ram : List ℕ) → Entered (reset ram)
unfolding reset word_of fresh queue.fresh
reset_entered ram =
    let all : (P : Fifo → Type 0) → P (fresh CiFIFOCON.reset) → P blank → (n : ℕ) → P (fifo_at (reset ram) n)
    = λ P p q. at_replicate P areas (fresh CiFIFOCON.reset) blank p q in
    record {
      inside = refl;
      empty = λ n. none_held (reset ram) n (all (λ f. f.count ≡ 0) refl refl n);
      txreq = λ n. control_off TXREQ (frozen_at (reset ram) n) (fifo_at (reset ram) n) refl ∙ all (λ f. read TXREQ f.control ≡ 0) refl refl n;
      overflow = λ n. all (λ f. f.over ≡ false) refl refl n;
      queue_empty = none_queued (reset ram) (fresh_held CiTXQCON.reset);
      queue_txreq = queue_off TXREQ (frozen_at (reset ram) 0) (reset ram).queue refl;
      queue_shows = refl;
    }

pub resetting : Resetting
unfolding exchange performed
resetting s want m e = subst Entered (sym (ap (λ (o : Operation). (performed o s want m).model) e)) (reset_entered m.ram)

-- ---- the mode

pub opmod_exactly_lem : OpmodExactly
unfolding mode_of
opmod_exactly_lem m r = (λ e. go m.fixed.configuring refl (sym (opmod_is m) ∙ e), λ c. opmod_is m ∙ rw c)
  where
    go : (b : Bool) → m.fixed.configuring ≡ b → mode_of m ≡ 4 → m.fixed.configuring ≡ true
    go true c q = c
    go false c q = absurd ((always_valid_lem m r).mode c (rw c at q))

-- ---- status

pub status_reads_lem : StatusReads
unfolding word_of sending depth
status_reads_lem m c n i =
    let f = fifo_at m n in
    let k = frozen_kept (frozen_at m n) f in
    rw (held_length m n i, c)
    (status_bits_lem (frozen_at m n) f
    ∙ ap₂ (λ (t d : ℕ).
    if eqb t 1 then digit (ltb f.count (d + 1)) + 4 * digit (eqb f.count 0)
    else digit (ltb 0 f.count) + 4 * digit (leb (d + 1) f.count) + 8 * digit f.over)
    (sym k.1.0) (sym k.1.1.0))
