-- What a bus step does to the lists, and what it leaves to a call under way: of a FIFO that sends the free slot, of one that receives
-- the oldest.
-- Assumes nothing.
use Prim.Native.Nat.{ℕ, ◌+◌, ◌-◌, ◌%◌, ◌^◌, ◌≤◌, ◌<◌}
use mathlib.Core.Path.{◌≡◌, refl, sym, ap, ◌∙◌}
use mathlib.Core.Bool.{Bool, true, false, ◌&&◌}
use mathlib.Core.List.{List, [], ◌∷◌, ◌++◌, map, map-append, append-nil, append_assoc}
use native.Mathlib.Nat.{mod-lt}
use native.Mathlib.Omega.{arith}
use lib.ListN.{length}
use lib.Dec.{ltb, eqb}
use borrow.Author.Tests.{ltb-false, leb-false}
use Rattle.std.specs.Prelude.{if◌then◌else◌, Ok, Result}
use Rattle.laws.proofs.Choice.{by_if}
use Rattle.laws.proofs.Table.{both}
use Rattle.parts.specs.Parts.{part}
use Rattle.field.specs.Field.{flag}
use Rattle.fifo.specs.Control.{TXREQ, is_fifo}
use Rattle.spi.specs.declared.refusal.Refusal.{Refusal}
use Rattle.header.specs.declared.Header.{Header}
use Rattle.message.specs.Message.{Message, arrival_check, Decoding, holds, decoding}
use Rattle.ring.specs.declared.ring.Fifo.{Fifo}
use Rattle.ring.specs.Ring.{sending, depth, place, claimed, taken, controlled, overflowed, sent}
use Rattle.ring.specs.Layout.{stamped, size}
use Rattle.ring.specs.declared.queue.Queue.{Queue}
use Rattle.ring.specs.Queue as queue
use Rattle.ring.specs.Queue.{full}
use Rattle.ring.proofs.Gathers.{sent_shown}
use Rattle.ring.proofs.Queues.{shows}
use Rattle.state.specs.declared.Model.{Model}
use Rattle.state.specs.Model.{fifo_at, frozen_at, with_fifo, with_queue, written}
use Rattle.bank.specs.Registers.{queue_shown}
use Rattle.bus.specs.declared.arrival.Undelivered.{Undelivered}
use Rattle.bus.specs.declared.arrival.Delivered.{Delivered}
use Rattle.bus.specs.Held.{slot_of, item_at, held}
use Rattle.bus.specs.Bus.{nothing, refused, output_of, sends, send_output, send_model, incoming, delivered, give, deliver_of}
use Rattle.bus.proofs.Laws.{sends_one}
use Rattle.filters.specs.Filters.{filter_count}
use Rattle.bus.specs.Sort.{filter_for, target_for, sort_of}
use Rattle.bus.specs.Queue.{winner, queue_sends, queue_output, queue_model}
use Rattle.bus.proofs.QueueLaws.{queue_winner_lem}
use Rattle.bus.proofs.Arriving.{by_deliver, by_give, receives_is}
use Rattle.bus.proofs.Fitting.{object_fits}
use Rattle.bus.proofs.Sorts.{by_sort}
use Rattle.reach.specs.Bus.{Bus, Send, SendQueue, Deliver, Sort, stepped}
use Rattle.reach.proofs.Arrivals.{coming_back}
use Rattle.history.specs.History.{Said, left, left_queue, arrived, says}
use Rattle.history.specs.Lists.{accepted, accepted_in, handed_out, handed_out_in, only}
use Rattle.history.proofs.Sound.{Sound}
use Rattle.history.proofs.Slots.{same?, SlotStays, slot_like, item_like, filled, filled_part_lem, filled_held, filled_item, filled_sound, next_head, next_count}
use Rattle.history.proofs.QueueSlots.{queue_held, queue_slot_of, queue_item_at, filled_shown, sent_open}
use Rattle.history.proofs.Slots.{other_head, other_count, kept_head, kept_count, kept_held, more_held, less_count, less_slot, less_own, less_held}

-- ---- the lists

-- each FIFO's messages accepted are those handed out, and then those held
abbrev pub Listed : Model → List Said → Type 0
Listed c t = (j : ℕ) → is_fifo j ≡ true → map holds (accepted j t) ≡ map holds (handed_out j t) ++ held c j

-- a change of the chip, and what is said of it, fit together
abbrev pub Moves : Model → Said → Model → Type 0
Moves c x d = (j : ℕ) → is_fifo j ≡ true → held c j ++ map holds (accepted_in j x) ≡ map holds (handed_out_in j x) ++ held d j

-- messages that are gathered from what was said, one thing behind the other
module _ (all : List Said → List Message) (each : Said → List Message) (none : all [] ≡ []) (more : (x : Said) (t : List Said) → all (x ∷ t) ≡ each x ++ all t) where
  pub gathered : (s t : List Said) → all (s ++ t) ≡ all s ++ all t
  gathered [] t = rw none
  gathered (x ∷ s) t =
      more x (s ++ t) ∙ ap (λ (l : List Message). each x ++ l) (gathered s t) ∙ sym (append_assoc (each x) (all s) (all t))
      ∙ ap (λ (l : List Message). l ++ all t) (sym (more x s))

  pub one_more : (t : List Said) (x : Said) → all (t ++ (x ∷ [])) ≡ all t ++ each x
  one_more t x =
      gathered t (x ∷ []) ∙ ap (λ (l : List Message). all t ++ l) (more x [] ∙ ap (λ (l : List Message). each x ++ l) none ∙ append-nil (each x))

pub accepted_append : (j : ℕ) (s t : List Said) → accepted j (s ++ t) ≡ accepted j s ++ accepted j t
unfolding accepted
accepted_append j = gathered (accepted j) (accepted_in j) refl (λ x t. refl)

pub handed_out_append : (j : ℕ) (s t : List Said) → handed_out j (s ++ t) ≡ handed_out j s ++ handed_out j t
unfolding handed_out
handed_out_append j = gathered (handed_out j) (handed_out_in j) refl (λ x t. refl)

accepted_snoc : (j : ℕ) (t : List Said) (x : Said) → accepted j (t ++ (x ∷ [])) ≡ accepted j t ++ accepted_in j x
unfolding accepted
accepted_snoc j = one_more (accepted j) (accepted_in j) refl (λ x t. refl)

handed_out_snoc : (j : ℕ) (t : List Said) (x : Said) → handed_out j (t ++ (x ∷ [])) ≡ handed_out j t ++ handed_out_in j x
unfolding handed_out
handed_out_snoc j = one_more (handed_out j) (handed_out_in j) refl (λ x t. refl)

pub lists_snoc : (c d : Model) (t : List Said) (x : Said) → Listed c t → Moves c x d → Listed d (t ++ (x ∷ []))
lists_snoc c d t x l m j h =
    ap (map holds) (accepted_snoc j t x) ∙ map-append holds (accepted j t) (accepted_in j x)
    ∙ ap (λ (a : List Decoding). a ++ map holds (accepted_in j x)) (l j h)
    ∙ append_assoc (map holds (handed_out j t)) (held c j) (map holds (accepted_in j x))
    ∙ ap (λ (a : List Decoding). map holds (handed_out j t) ++ a) (m j h)
    ∙ sym (append_assoc (map holds (handed_out j t)) (map holds (handed_out_in j x)) (held d j))
    ∙ ap (λ (a : List Decoding). a ++ held d j) (sym (map-append holds (handed_out j t) (handed_out_in j x)) ∙ ap (map holds) (sym (handed_out_snoc j t x)))

-- what is held was accepted, so it can be decoded
holds_head : (xs ys : List Message) (x : Decoding) (r : List Decoding) → map holds xs ≡ map holds ys ++ (x ∷ r) → (m : Message) × (x ≡ holds m)
holds_head [] [] x r e = let z : ◌≡◌ {A = ℕ} 0 1 = cc in absurd (omega arith)
holds_head (m ∷ xs) [] x r e = (m, cc)
holds_head [] (y ∷ ys) x r e = let z : ◌≡◌ {A = ℕ} 0 1 = cc in absurd (omega arith)
holds_head (m ∷ xs) (y ∷ ys) x r e = holds_head xs ys x r cc

pub oldest : (c : Model) (s : Sound c) (t : List Said) → Listed c t → (n : ℕ) → is_fifo n ≡ true → 0 < (fifo_at c n).count
    → (m : Message) × (item_at c n 0 ≡ holds m)
unfolding taken
oldest c s t l n h some =
    let g : Fifo = taken (frozen_at c n) (fifo_at c n) in
    holds_head (accepted n t) (handed_out n t) (item_at c n 0) (held (with_fifo c n g) n) (l n h ∙ rw (less_own c s n h g refl refl some))

-- ---- what a bus step leaves

-- of a queue that is not full: a free slot, the same one shown, and that one's bytes
pub record ShownStays (c d : Model) : Type 0 where
  pub free : full (frozen_at d 0) d.queue ≡ false
  pub shown : d.queue.shown ≡ c.queue.shown
  pub bytes : part d.ram (queue_shown c) (size (frozen_at c 0)) ≡ part c.ram (queue_shown c) (size (frozen_at c 0))

-- the queue and RAM as they were
same_shown : (c : Model) → full (frozen_at c 0) c.queue ≡ false → ShownStays c c
same_shown c f = record { free = f; shown = refl; bytes = refl }

pub record Later (c d : Model) : Type 0 where
  pub fixed : d.fixed ≡ c.fixed
  pub setup : d.setup ≡ c.setup
  pub send_room : (n : ℕ) → is_fifo n ≡ true → sending (frozen_at c n) ≡ true → (fifo_at d n).count ≤ (fifo_at c n).count
  pub send_slot :
      (n : ℕ) → is_fifo n ≡ true → sending (frozen_at c n) ≡ true → (fifo_at c n).count < depth (frozen_at c n)
      → slot_of d n (fifo_at d n).count ≡ slot_of c n (fifo_at c n).count
  pub send_item :
      (n : ℕ) → is_fifo n ≡ true → sending (frozen_at c n) ≡ true → (fifo_at c n).count < depth (frozen_at c n)
      → item_at d n (fifo_at d n).count ≡ item_at c n (fifo_at c n).count
  pub get_some : (n : ℕ) → is_fifo n ≡ true → sending (frozen_at c n) ≡ false → (fifo_at c n).count ≤ (fifo_at d n).count
  pub get_slot : (n : ℕ) → is_fifo n ≡ true → sending (frozen_at c n) ≡ false → slot_of d n 0 ≡ slot_of c n 0
  pub get_part : (n : ℕ) → is_fifo n ≡ true → sending (frozen_at c n) ≡ false → 0 < (fifo_at c n).count → SlotStays c d n 0
  pub queue : c.fixed.queue ≡ true → full (frozen_at c 0) c.queue ≡ false → ShownStays c d

pub later_same : (c : Model) → Later c c
later_same c = record {
  fixed = refl;
  setup = refl;
  send_room = λ n h e. omega arith;
  send_slot = λ n h e f. refl;
  send_item = λ n h e f. refl;
  get_some = λ n h e. omega arith;
  get_slot = λ n h e. refl;
  get_part = λ n h e f. refl;
  queue = λ on f. same_shown c f;
}

-- one FIFO becomes another with the same ring
later_kept : (c : Model) (s : Sound c) (k : ℕ) → is_fifo k ≡ true → (g : Fifo) → g.head ≡ (fifo_at c k).head → g.count ≡ (fifo_at c k).count
    → Later c (with_fifo c k g)
later_kept c s k h g eh ec =
    let d : Model = with_fifo c k g in
    let slot : (n x : ℕ) → slot_of d n x ≡ slot_of c n x = λ n x. slot_like c d n refl x (kept_head c s k h g eh ec n) in
    let count : (n : ℕ) → (fifo_at d n).count ≡ (fifo_at c n).count = kept_count c s k h g eh ec in
    let free : (n : ℕ) → slot_of d n (fifo_at d n).count ≡ slot_of c n (fifo_at c n).count = λ n. ap (slot_of d n) (count n) ∙ slot n (fifo_at c n).count in
    record {
      fixed = refl;
      setup = refl;
      send_room = λ n i e. omega (arith, count n);
      send_slot = λ n i e f. free n;
      send_item = λ n i e f. item_like c d n refl (fifo_at c n).count (fifo_at d n).count (free n) refl;
      get_some = λ n i e. omega (arith, count n);
      get_slot = λ n i e. slot n 0;
      get_part = λ n i e f. refl;
      queue = λ on f. record { free = f; shown = refl; bytes = refl };
    }

-- a FIFO does not both send and receive
differ : (c : Model) (n k : ℕ) → sending (frozen_at c n) ≡ true → sending (frozen_at c k) ≡ false → n ≡ k → ⊥
differ c n k t e i = let z : ◌≡◌ {A = ℕ} 0 1 = cc in omega arith

-- the oldest of a FIFO that sends is taken
module _ (c : Model) (s : Sound c) (k : ℕ) (h : is_fifo k ≡ true) (t : sending (frozen_at c k) ≡ true) (some : 0 < (fifo_at c k).count) (g : Fifo)
    (eh : g.head ≡ place (depth (frozen_at c k)) (fifo_at c k).head 1) (ec : g.count ≡ (fifo_at c k).count - 1) where
  abbrev less : Model
  less = with_fifo c k g

  pub less_free : slot_of less k (fifo_at less k).count ≡ slot_of c k (fifo_at c k).count
  less_free =
      let e : (fifo_at c k).count - 1 + 1 ≡ (fifo_at c k).count = omega arith in
      ap (slot_of less k) (less_count c s k h g eh ec)
      ∙ less_slot c s k h g eh ec ((fifo_at c k).count - 1) (omega (arith, (s.valid.fifo k).count))
      ∙ ap (slot_of c k) e

  less_frees : (n : ℕ) → slot_of less n (fifo_at less n).count ≡ slot_of c n (fifo_at c n).count
  less_frees n =
      same? n k (λ i. rw i less_free)
      (λ ne. ap (slot_of less n) (other_count c s k h g n ne) ∙ slot_like c less n refl (fifo_at c n).count (other_head c s k h g n ne))

  later_sent : Later c less
  later_sent = record {
    fixed = refl;
    setup = refl;
    send_room = λ n i e.
        same? n k (λ j. rw j (omega (arith, less_count c s k h g eh ec))) (λ ne. omega (arith, other_count c s k h g n ne));
    send_slot = λ n i e f. less_frees n;
    send_item = λ n i e f. item_like c less n refl (fifo_at c n).count (fifo_at less n).count (less_frees n) refl;
    get_some = λ n i e. omega (arith, other_count c s k h g n (λ j. differ c k n t e (sym j)));
    get_slot = λ n i e. slot_like c less n refl 0 (other_head c s k h g n (λ j. differ c k n t e (sym j)));
    get_part = λ n i e f. refl;
    queue = λ on f. record { free = f; shown = refl; bytes = refl };
  }

-- an object is appended to a FIFO that receives
module _ (c : Model) (s : Sound c) (k : ℕ) (h : is_fifo k ≡ true) (t : sending (frozen_at c k) ≡ false) (free : (fifo_at c k).count < depth (frozen_at c k))
    (bs : List ℕ) (fits : length bs ≤ size (frozen_at c k)) where
  abbrev more : Model
  more = with_fifo (filled c k bs) k (claimed (fifo_at c k))

  later_delivered : Later c more
  unfolding claimed
  later_delivered =
      let g : Fifo = claimed (fifo_at c k) in
      let other : (n : ℕ) → sending (frozen_at c n) ≡ true → n ≡ k → ⊥ = λ n e. differ c n k e t in
      let slot : (n : ℕ) → sending (frozen_at c n) ≡ true → slot_of more n (fifo_at more n).count ≡ slot_of c n (fifo_at c n).count
      = λ n e. ap (slot_of more n) (other_count c s k h g n (other n e)) ∙ slot_like c more n refl (fifo_at c n).count (other_head c s k h g n (other n e)) in
      record {
        fixed = refl;
        setup = refl;
        send_room = λ n i e. omega (arith, other_count c s k h g n (other n e));
        send_slot = λ n i e f. slot n e;
        send_item = λ n i e f.
            item_like c more n refl (fifo_at c n).count (fifo_at more n).count (slot n e)
            (filled_part_lem c s k h free bs fits n (fifo_at c n).count i f (λ j x. other n e j));
        get_some = λ n i e.
            same? n k (λ j. rw j (omega (arith, next_count c s k h g))) (λ ne. omega (arith, other_count c s k h g n ne));
        get_slot = λ n i e.
            slot_like c more n refl 0 (same? n k (λ j. rw j (next_head c s k h g)) (other_head c s k h g n));
        get_part = λ n i e f.
            filled_part_lem c s k h free bs fits n 0 i (omega (arith, (s.valid.fifo n).count)) (λ j x. let f' : 0 < (fifo_at c k).count = rw j at f in omega arith);
        queue = λ on f. record { free = f; shown = refl; bytes = filled_shown c s k h free bs fits on };
      }

-- ---- each bus step

-- a change of the chip with what is said of it
pub record Step (c : Model) (x : Said) (d : Model) : Type 0 where
  pub later : Later c d
  pub moves : Moves c x d

abbrev pub Good : Model → Bus → Type 0
Good c b = Step c (says b c) (stepped b c)

pub only_none : (j n : ℕ) → only j n [] ≡ []
only_none j n = by_if (λ (l : List Message). l ≡ []) (eqb n j) (λ e. refl) (λ e. refl)

pub map_only : (j n : ℕ) (m : Message) → map holds (only j n (m ∷ [])) ≡ (if eqb n j then holds m ∷ [] else [])
map_only j n m = go (eqb n j)
  where
    go : (b : Bool) → map holds (if b then m ∷ [] else []) ≡ (if b then holds m ∷ [] else [])
    go true = refl
    go false = refl

-- what is said moves no message, and nothing held changed
module _ (c d : Model) (x : Said) (a : (j : ℕ) → accepted_in j x ≡ []) (b : (j : ℕ) → handed_out_in j x ≡ []) (e : (j : ℕ) → held d j ≡ held c j) where
  pub quiet : Moves c x d
  quiet j h = rw (a j, b j, e j) (append-nil (held c j))

  quiet_step : Later c d → Step c x d
  quiet_step l = record { later = l; moves = quiet }

module _ (c : Model) (s : Sound c) where
  -- what both ways of a send do to the ring
  sent_ring : (w : ℕ) (f : Fifo) → ((sent w f).head ≡ place (depth w) f.head 1) × ((sent w f).count ≡ f.count - 1)
  unfolding sent controlled taken
  sent_ring w f =
      by_if (λ (g : Fifo). (g.head ≡ place (depth w) f.head 1) × (g.count ≡ f.count - 1)) (eqb f.count 1) (λ e. (refl, refl)) (λ e. (refl, refl))

  sends_sends : (n : ℕ) → sends c n ≡ true → sending (frozen_at c n) ≡ true
  unfolding sends
  sends_sends n e =
      (both (sending (frozen_at c n)) (flag TXREQ (fifo_at c n).control)
      (both (sending (frozen_at c n) && flag TXREQ (fifo_at c n).control) (ltb 0 (fifo_at c n).count) e).0).0

  sent_step : (n : ℕ) → is_fifo n ≡ true → sends c n ≡ true → (m : Message) → item_at c n 0 ≡ holds m
      → Step c (left n (output_of (item_at c n 0))) (with_fifo c n (sent (frozen_at c n) (fifo_at c n)))
  sent_step n h e m i =
      let some = sends_one c n e in
      let g : Fifo = sent (frozen_at c n) (fifo_at c n) in
      let (eh, ec) = sent_ring (frozen_at c n) (fifo_at c n) in
      record {
        later = later_sent c s n h (sends_sends n e) some g eh ec;
        moves = λ j k. append-nil (held c j) ∙ less_held c s n h g eh ec some j ∙ rw (i, map_only);
      }

  send_step : (t : List Said) → Listed c t → (n : ℕ) (a b : Bool) → is_fifo n ≡ a → sends c n ≡ b
      → Step c (left n (if a then if b then output_of (item_at c n 0) else nothing else refused Refusal.BadNumber))
      (if a && b then with_fifo c n (sent (frozen_at c n) (fifo_at c n)) else c)
  send_step t l n true true h e = let (m, i) = oldest c s t l n h (sends_one c n e) in sent_step n h e m i
  send_step t l n true false h e = quiet_step c c _ (λ j. refl) (λ j. only_none j n) (λ j. refl) (later_same c)
  send_step t l n false b h e = quiet_step c c _ (λ j. refl) (λ j. only_none j n) (λ j. refl) (later_same c)

  module _ (n hit : ℕ) (header : Header) (dlc time : ℕ) (payload : List ℕ) where
    -- what an answer to a frame comes to, where filter `hit` took it
    abbrev pub Answered : Delivered → Type 0
    Answered r = Step c (arrived n (incoming c n hit header dlc time payload) r.delivery) r.model

    -- one that says that nothing changed
    pub unmoved : (d : Result (Unit {0}) Undelivered) → ((j : ℕ) → accepted_in j (arrived n (incoming c n hit header dlc time payload) d) ≡ []) → Answered (delivered d c)
    unmoved d e = quiet_step c c _ e (λ j. refl) (λ j. refl) (later_same c)

    delivered_step : is_fifo n ≡ true → sending (frozen_at c n) ≡ false → (fifo_at c n).count < depth (frozen_at c n)
        → (bs : List ℕ) → length bs ≤ size (frozen_at c n)
        → ((r : List ℕ) → decoding (sending (frozen_at c n)) (stamped (frozen_at c n)) (bs ++ r) ≡ holds (incoming c n hit header dlc time payload))
        → Answered (delivered (Ok tt) (with_fifo (written c (slot_of c n (fifo_at c n).count) bs) n (claimed (fifo_at c n))))
    unfolding claimed
    delivered_step h r free bs fits back = record {
      later = later_delivered c s n h r free bs fits;
      moves = λ j k.
          rw map_only
          (rw (filled_held c s n h free bs fits j, filled_item c s n h free bs fits (incoming c n hit header dlc time payload) back)
          at (more_held (filled c n bs) (filled_sound c s n h free bs fits) n h (claimed (fifo_at c n)) refl refl j));
    }

    -- a frame that a filter took
    pub give_step : time < 2 ^ 32 → hit < 32 → arrival_check header dlc (length payload) ≡ Ok tt → Answered (give c n hit dlc header time payload)
    unfolding overflowed
    give_step small l e =
        by_give c n header dlc time payload Answered hit
        (λ a. unmoved _ (λ j. only_none j n)) (λ a b. unmoved _ (λ j. only_none j n)) (λ a b x. unmoved _ (λ j. only_none j n))
        (λ a b x z.
        let (h, r) = receives_is c n b in
        quiet_step c _ _ (λ j. only_none j n) (λ j. refl) (kept_held c s n h (overflowed true (fifo_at c n)) refl refl)
        (later_kept c s n h (overflowed true (fifo_at c n)) refl refl))
        (λ a b x z.
        let (h, r) = receives_is c n b in
        delivered_step h r (leb-false _ _ z) _ (object_fits c n hit dlc header time payload (ltb-false _ _ x)) (coming_back c n hit header dlc time payload small r l e))

  -- one that names its FIFO
  deliver_step : (n : ℕ) (header : Header) (dlc time : ℕ) (payload : List ℕ) → time < 2 ^ 32
      → Answered n 0 header dlc time payload (deliver_of c n header dlc time payload)
  deliver_step n header dlc time payload small =
      let none : (d : Result (Unit {0}) Undelivered) → ((j : ℕ) → accepted_in j (arrived n (incoming c n 0 header dlc time payload) d) ≡ []) → Answered n 0 header dlc time payload (delivered d c)
      = unmoved n 0 header dlc time payload in
      by_deliver c n header dlc time payload (Answered n 0 header dlc time payload)
      (λ i. none _ (λ j. only_none j n)) (λ i t. none _ (λ j. only_none j n)) (λ i t d. none _ (λ j. only_none j n))
      (λ i t e. give_step n 0 header dlc time payload small (omega arith))

  -- one that the filters sort
  sort_step : (header : Header) (dlc time : ℕ) (payload : List ℕ) → time < 2 ^ 32
      → let r = sort_of c header dlc time payload in Step c (arrived r.fifo (incoming c r.fifo r.filter header dlc time payload) r.delivery) r.model
  sort_step header dlc time payload small =
      let n = target_for c (filter_for c header) in
      by_sort c header dlc time payload (λ r. Step c (arrived r.fifo (incoming c r.fifo r.filter header dlc time payload) r.delivery) r.model)
      (λ t. unmoved 0 0 header dlc time payload _ (λ j. only_none j 0)) (λ t e. unmoved 0 0 header dlc time payload _ (λ j. only_none j 0))
      (λ t e z. unmoved 0 0 header dlc time payload _ (λ j. only_none j 0)) (λ t e z g. unmoved 0 0 header dlc time payload _ (λ j. only_none j 0))
      (λ t e z g. give_step n (filter_for c header) header dlc time payload small (leb-false filter_count (filter_for c header) g))

-- a send from the queue: no FIFO changes, and where a slot is free the one shown stays
queue_step : (c : Model) → Sound c → (b : Bool) → queue_sends c ≡ b
    → Step c (left_queue (queue_output c)) (if b then with_queue c (queue.sent (frozen_at c 0) (winner c) c.queue) else c)
queue_step c s false e = quiet_step c c _ (λ j. refl) (λ j. refl) (λ j. refl) (later_same c)
queue_step c s true e =
    let b = queue_winner_lem c e in
    let g : Queue = queue.sent (frozen_at c 0) (winner c) c.queue in
    let d : Model = with_queue c g in
    quiet_step c d _ (λ j. refl) (λ j. refl) (λ j. queue_held c g j)
    (record {
      fixed = refl;
      setup = refl;
      send_room = λ n h x. omega arith;
      send_slot = λ n h x f. queue_slot_of c g n _;
      send_item = λ n h x f. queue_item_at c g n _;
      get_some = λ n h x. omega arith;
      get_slot = λ n h x. queue_slot_of c g n 0;
      get_part = λ n h x f. refl;
      queue = λ on f. record { free = sent_open c s (winner c) b.lt f; shown = sent_shown (frozen_at c 0) (winner c) c.queue ∙ (shows (frozen_at c 0) c.queue).stays f (winner c); bytes = refl };
    })

pub bus_good : (c : Model) → Sound c → (t : List Said) → Listed c t → (b : Bus) → Good c b
unfolding stepped send_output send_model queue_model
bus_good c s t l (Send n) = send_step c s t l n (is_fifo n) (sends c n) refl refl
bus_good c s t l SendQueue = queue_step c s (queue_sends c) refl
bus_good c s t l (Deliver n header dlc time payload) = deliver_step c s n header dlc (time % 2 ^ 32) payload (mod-lt time (omega arith))
bus_good c s t l (Sort header dlc time payload) = sort_step c s header dlc (time % 2 ^ 32) payload (mod-lt time (omega arith))
