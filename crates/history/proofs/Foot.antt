-- Two chips that are the same but for the bytes of one place in RAM: a bus step keeps them so. Of RAM a step looks only at the identifiers
-- of the messages that the queue holds.
-- Assumes nothing.
use Rattle.spi.specs.declared.refusal.Refusal.{Refusal}
use Prim.Native.Nat.{ℕ, ◌+◌, ◌-◌, ◌%◌, ◌^◌, ◌≤◌, ◌<◌, min}
use mathlib.Core.Path.{◌≡◌, refl, sym, ap, ◌∙◌, subst}
use mathlib.Core.Bool.{Bool, true, false, ◌&&◌, not, false≢true}
use mathlib.Core.List.{List, [], ◌∷◌}
use native.Mathlib.Omega.{arith}
use lib.ListN.{length, get_or, take, length-take}
use lib.Dec.{ltb, leb, eqb}
use Rattle.std.specs.Prelude.{if◌then◌else◌, Result, Ok, Err}
use Rattle.field.specs.Field.{read, flag}
use Rattle.configuration.specs.CanControl.{DNCNT}
use Rattle.fifo.specs.Control.{payload_of, is_fifo, TXREQ}
use Rattle.parts.specs.Parts.{put}
use Rattle.header.specs.declared.Header.{Header}
use Rattle.message.specs.Message.{arrival_check}
use Rattle.ring.specs.declared.ring.Fifo.{Fifo}
use Rattle.ring.specs.Ring.{depth, overflowed, sent}
use Rattle.state.specs.declared.Model.{Model}
use Rattle.state.specs.Model.{fifo_at, frozen_at, with_fifo, written, with_queue}
use Rattle.state.proofs.Store.{put_front, put_behind}
use Rattle.filters.specs.Filters.{filter_count}
use Rattle.bus.specs.declared.arrival.Delivered.{Delivered}
use Rattle.bus.specs.declared.sorting.Sorted.{Sorted}
use Rattle.bus.specs.Sort.{filter_for, target_for, sorted_by, sort_of}
use Rattle.bus.specs.Held.{slot_of}
use Rattle.bus.specs.Bus.{sends, send_model, receives, appended, give, by_check, deliver_of}
use Rattle.reach.specs.Bus.{Bus, Send, SendQueue, Deliver, Sort, stepped}
use Rattle.history.specs.Demand.{buses, ButFor}
use Rattle.history.proofs.Bytes.{length_put, put_inside, byte_before, byte_within, byte_behind}
use Rattle.history.proofs.Slots.{split, Apart, before, behind}
use Rattle.bus.specs.Queue.{queue_depth, queue_slot, rank_at, queue_rank, winner, queue_sends, queue_model}
use Rattle.words.specs.Words.{le_at}
use Rattle.ring.specs.Queue as queue
use Rattle.ring.specs.Queue.{is_held, no_slot}
use Rattle.ring.proofs.Gathers.{best_same}
use Rattle.ring.proofs.Queues.{sent_flags}
use Rattle.reach.proofs.Kept.{at_set}
use Rattle.bus.proofs.Arriving.{by_deliver, by_give}
use Rattle.bus.proofs.Sorts.{by_sort}
use Rattle.laws.proofs.Choice.{by_if}
use native.Mathlib.Nat.{add-zero}

-- the same choice on both sides
by_both : {A : Type 0} (P : A → A → Type 0) (b : Bool) {x y x' y' : A} → P x x' → P y y' → P (if b then x else y) (if b then x' else y')
by_both P true f g = f
by_both P false f g = g

module _ (a n : ℕ) where
  -- the place is apart from the identifier of every message that the queue holds
  abbrev pub Clear : Model → Type 0
  Clear c = c.fixed.queue ≡ true → (k : ℕ) → k < queue_depth c → is_held c.queue k ≡ true → Apart (queue_slot c k) 8 a n

  pub but_same : (c : Model) → ButFor a n c c
  but_same c = record { fixed = refl; setup = refl; fifo = refl; queue = refl; long = refl; below = λ x h. refl; above = λ x h. refl }

  -- bytes written into the place
  pub but_written : (c : Model) (p : ℕ) (bs : List ℕ) → a ≤ p → p + length bs ≤ a + n → a + n ≤ length c.ram → ButFor a n c (written c p bs)
  but_written c p bs lo hi inside =
      let f : p + length bs ≤ length c.ram = omega arith in
      let e = put_inside c.ram p bs f in
      record {
        fixed = refl;
        setup = refl;
        fifo = refl;
        queue = refl;
        long = ap length e ∙ length_put c.ram p bs f;
        below = λ x h. ap (λ (l : List ℕ). get_or l x 0) e ∙ byte_before c.ram p bs f x (omega arith);
        above = λ x h. ap (λ (l : List ℕ). get_or l x 0) e ∙ byte_behind c.ram p bs f x (omega arith);
      }

  -- ---- RAM alone

  -- the same but for the bytes from place a to place a + n
  record Near (l m : List ℕ) : Type 0 where
    long : length m ≡ length l
    at : (x : ℕ) → (a ≤ x → x < a + n → ⊥) → get_or m x 0 ≡ get_or l x 0

  -- the same bytes put at the same place, inside
  put_near : (l m : List ℕ) → Near l m → (p : ℕ) (bs : List ℕ) → p + length bs ≤ length l → Near (put l p bs) (put m p bs)
  put_near l m s p bs f =
      let g : p + length bs ≤ length m = omega (arith, s.long) in
      record {
        long = length_put m p bs g ∙ s.long ∙ sym (length_put l p bs f);
        at = λ x o.
            split x p (λ lo. byte_before m p bs g x lo ∙ s.at x o ∙ sym (byte_before l p bs f x lo))
            (λ ge. split x (p + length bs)
            (λ lo. byte_within m p bs g x ge lo ∙ sym (byte_within l p bs f x ge lo))
            (λ hi. byte_behind m p bs g x hi ∙ s.at x o ∙ sym (byte_behind l p bs f x hi)));
      }

  -- anywhere: what would lie behind the end is lost in both
  stored_near : (l m : List ℕ) → Near l m → (p : ℕ) (bs : List ℕ) → Near (take (length l) (put l p bs)) (take (length m) (put m p bs))
  stored_near l m s p bs =
      split p (length l)
      (λ lo.
      let bs' : List ℕ = take (min (length bs) (length l - p)) bs in
      let i : p + length bs' ≤ length l = omega (arith, length-take (min (length bs) (length l - p)) bs) in
      let e : put l p bs' ≡ take (length l) (put l p bs) = put_front l bs p (omega arith) in
      let e' : put m p bs' ≡ take (length m) (put m p bs)
      = ap (λ (x : ℕ). put m p (take (min (length bs) (x - p)) bs)) (sym s.long) ∙ put_front m bs p (omega (arith, s.long)) in
      subst (λ (x : List ℕ). Near x (take (length m) (put m p bs))) e (subst (λ (x : List ℕ). Near (put l p bs') x) e' (put_near l m s p bs' i)))
      (λ hi. rw (put_behind l bs p hi, put_behind m bs p (omega (arith, s.long))) s)

  ram_near : (c d : Model) → ButFor a n c d → Near c.ram d.ram
  ram_near c d b = record {
    long = b.long;
    at = λ x o. split x a (b.below x) (λ ge. split x (a + n) (λ lo. absurd (o ge lo)) (b.above x));
  }

  -- the rest the same
  near_but : (c d : Model) → d.fixed ≡ c.fixed → d.setup ≡ c.setup → d.fifo ≡ c.fifo → d.queue ≡ c.queue → Near c.ram d.ram → ButFor a n c d
  near_but c d ex es ef eq b = record {
    fixed = ex;
    setup = es;
    fifo = ef;
    queue = eq;
    long = b.long;
    below = λ x h. b.at x (λ lo hi. omega arith);
    above = λ x h. b.at x (λ lo hi. omega arith);
  }

  -- ---- a bus step in two chips that differ in RAM alone

  module _ (c : Model) (r : List ℕ) (s : Near c.ram r) where
    abbrev other : Model
    other = record { fixed = c.fixed; setup = c.setup; fifo = c.fifo; queue = c.queue; ram = r }

    -- answers of the two chips
    abbrev Told : (x y : Delivered) → Type 0
    Told x y = ButFor a n x.model y.model

    -- the same change of a FIFO
    fifo_but : (j : ℕ) (g : Fifo) → ButFor a n (with_fifo c j g) (with_fifo other j g)
    fifo_but j g = near_but (with_fifo c j g) (with_fifo other j g) refl refl refl refl s

    same_but : ButFor a n c other
    same_but = near_but c other refl refl refl refl s

    sends_same : (j : ℕ) → sends other j ≡ sends c j
    unfolding sends
    sends_same j = refl

    send_but : (j : ℕ) → ButFor a n (send_model c j) (send_model other j)
    unfolding send_model
    send_but j = rw (sends_same j) (by_both (ButFor a n) (is_fifo j && sends c j) (fifo_but j (sent (frozen_at c j) (fifo_at c j))) same_but)

    appended_but : (j len : ℕ) (bs : List ℕ) → ButFor a n (appended c j len bs).model (appended other j len bs).model
    unfolding appended slot_of receives
    appended_but j len bs =
        by_both Told c.fixed.configuring same_but
        (by_both Told (not (receives c j)) same_but
        (by_both Told (ltb (payload_of (frozen_at c j)) len) same_but
        (by_both Told (leb (depth (frozen_at c j)) (fifo_at c j).count) (fifo_but j (overflowed true (fifo_at c j)))
        (near_but _ _ refl refl refl refl (stored_near c.ram r s (slot_of c j (fifo_at c j).count) bs)))))

    give_but : (j hit d : ℕ) (header : Header) (time : ℕ) (payload : List ℕ) → Told (give c j hit d header time payload) (give other j hit d header time payload)
    unfolding give
    give_but j hit d header time payload = appended_but j (length payload) _

    checked_but : (x : Result (Unit {0}) Refusal) (j : ℕ) (header : Header) (dlc time : ℕ) (payload : List ℕ)
        → Told (by_check x c j header dlc time payload) (by_check x other j header dlc time payload)
    checked_but (Err e) j header dlc time payload = same_but
    checked_but (Ok _) j header dlc time payload = give_but j 0 dlc header time payload

    deliver_but : (j : ℕ) (header : Header) (dlc time : ℕ) (payload : List ℕ) → Told (deliver_of c j header dlc time payload) (deliver_of other j header dlc time payload)
    unfolding deliver_of
    deliver_but j header dlc time payload =
        by_both Told (is_fifo j) (checked_but (arrival_check header dlc (length payload)) j header dlc time payload) same_but

    sorts_but : (x : Result (Unit {0}) Refusal) (header : Header) (dlc time : ℕ) (payload : List ℕ)
        → ButFor a n (sorted_by x c header dlc time payload).model (sorted_by x other header dlc time payload).model
    sorts_but (Err e) header dlc time payload = same_but
    sorts_but (Ok _) header dlc time payload =
        let P : Sorted → Sorted → Type 0 = λ x y. ButFor a n x.model y.model in
        by_both P (not (eqb (read DNCNT c.setup.con) 0)) same_but
        (by_both P (leb filter_count (filter_for c header)) same_but (give_but (target_for c (filter_for c header)) (filter_for c header) dlc header time payload))

    sort_but : (header : Header) (dlc time : ℕ) (payload : List ℕ) → ButFor a n (sort_of c header dlc time payload).model (sort_of other header dlc time payload).model
    unfolding sort_of
    sort_but header dlc time payload = sorts_but (arrival_check header dlc (length payload)) header dlc time payload

    -- the identifier's bytes at a place apart are the same
    rank_near : (p : ℕ) → Apart p 8 a n → rank_at r p ≡ rank_at c.ram p
    unfolding le_at
    rank_near p o =
        let f : (i : ℕ) → i < 8 → get_or r (p + i) 0 ≡ get_or c.ram (p + i) 0 = λ i h. s.at (p + i) (off p i h o) in
        let g : get_or r p 0 ≡ get_or c.ram p 0 = rw add-zero at (f 0 (omega arith)) in
        let e : (i : ℕ) → p + 4 + i ≡ p + (4 + i) = λ i. omega arith in
        rw (g, f 1 (omega arith), f 2 (omega arith), f 3 (omega arith), f 4 (omega arith), e 1, f 5 (omega arith), e 2, f 6 (omega arith), e 3, f 7 (omega arith))
      where
        off : (p i : ℕ) → i < 8 → Apart p 8 a n → a ≤ p + i → p + i < a + n → ⊥
        off p i h (before x) lo hi = omega arith
        off p i h (behind x) lo hi = omega arith

    module _ (clear : Clear c) where
      winner_near : c.fixed.queue ≡ true → winner other ≡ winner c
      unfolding winner queue_rank queue_slot
      winner_near on =
          best_same (is_held c.queue) (queue_rank other) (queue_rank c) 0 (queue_depth c) (λ j x y z. rank_near (queue_slot c j) (clear on j (omega arith) z))

      sends_off : (m : Model) → m.fixed.queue ≡ false → queue_sends m ≡ false
      unfolding queue_sends
      sends_off m e = ap (λ (b : Bool). b && flag TXREQ m.queue.control && ltb (winner m) no_slot) e

      sends_near : c.fixed.queue ≡ true → queue_sends other ≡ queue_sends c
      unfolding queue_sends
      sends_near e = ap (λ (k : ℕ). c.fixed.queue && flag TXREQ c.queue.control && ltb k no_slot) (winner_near e)

      queue_but : (b : Bool) → c.fixed.queue ≡ b → ButFor a n (queue_model c) (queue_model other)
      unfolding queue_model
      queue_but false e = rw (sends_off c e, sends_off other e) same_but
      queue_but true e =
          rw (sends_near e, winner_near e)
          (by_both (ButFor a n) (queue_sends c)
          (near_but (with_queue c (queue.sent (frozen_at c 0) (winner c) c.queue)) (with_queue other (queue.sent (frozen_at c 0) (winner c) c.queue)) refl refl refl refl s) same_but)

    step_near : Clear c → (b : Bus) → ButFor a n (stepped b c) (stepped b other)
    unfolding stepped
    step_near clear SendQueue = queue_but clear c.fixed.queue refl
    step_near clear (Send j) = send_but j
    step_near clear (Deliver j header dlc time payload) = deliver_but j header dlc (time % 2 ^ 32) payload
    step_near clear (Sort header dlc time payload) = sort_but header dlc (time % 2 ^ 32) payload

  -- no step holds another slot of the queue
  module _ (c : Model) (clear : Clear c) where
    abbrev Well : Delivered → Type 0
    Well d = Clear d.model

    give_clear : (j hit d : ℕ) (header : Header) (time : ℕ) (payload : List ℕ) → Well (give c j hit d header time payload)
    unfolding queue_slot
    give_clear j hit d header time payload =
        by_give c j header d time payload Well hit (λ a. clear) (λ a b. clear) (λ a b x. clear) (λ a b x y. clear) (λ a b x y. clear)

    sent_clear : Clear (with_queue c (queue.sent (frozen_at c 0) (winner c) c.queue))
    unfolding queue_slot
    sent_clear on k l h =
        clear on k l
        (at_set (λ i x. x ≡ true → is_held c.queue i ≡ true) c.queue.held (winner c) false false (λ z. absurd (false≢true z)) (λ i z. z) k
        (ap (λ (x : List Bool). get_or x k false) (sym (sent_flags (frozen_at c 0) c.queue (winner c))) ∙ h))

    step_clear : (b : Bus) → Clear (stepped b c)
    unfolding stepped send_model queue_model queue_slot
    step_clear (Send j) = by_if Clear (is_fifo j && sends c j) (λ e. clear) (λ e. clear)
    step_clear SendQueue = by_if Clear (queue_sends c) (λ e. sent_clear) (λ e. clear)
    step_clear (Deliver j header dlc time payload) =
        by_deliver c j header dlc (time % 2 ^ 32) payload Well (λ i. clear) (λ i t. clear) (λ i t d. clear) (λ i t e w. give_clear j 0 dlc header (time % 2 ^ 32) payload)
    step_clear (Sort header dlc time payload) =
        by_sort c header dlc (time % 2 ^ 32) payload (λ x. Clear x.model) (λ t. clear) (λ t e. clear) (λ t e z. clear) (λ t e z g. clear)
        (λ t e z g w. give_clear (target_for c (filter_for c header)) (filter_for c header) dlc header (time % 2 ^ 32) payload)

  pub but_step : (c d : Model) → Clear c → ButFor a n c d → (b : Bus) → ButFor a n (stepped b c) (stepped b d)
  but_step c d clear x b =
      let e : other c d.ram (ram_near c d x) ≡ d = λ i. record { fixed = sym x.fixed i; setup = sym x.setup i; fifo = sym x.fifo i; queue = sym x.queue i; ram = d.ram } in
      subst (λ (y : Model). ButFor a n (stepped b c) (stepped b y)) e (step_near c d.ram (ram_near c d x) clear b)

  pub but_buses : (bs : List Bus) (c d : Model) → Clear c → ButFor a n c d → ButFor a n (buses bs c) (buses bs d)
  unfolding buses
  but_buses [] c d clear x = x
  but_buses (b ∷ bs) c d clear x = but_buses bs (stepped b c) (stepped b d) (step_clear c clear b) (but_step c d clear x b)
