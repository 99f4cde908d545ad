-- The queue's slots in a sound chip: where they lie, and what each change of the chip does to the messages held.
-- Assumes nothing.
use Prim.Native.Nat.{ℕ, ◌+◌, ◌≤◌, ◌<◌}
use mathlib.Core.Path.{◌≡◌, refl, sym, ap, ◌∙◌}
use mathlib.Core.Bool.{Bool, true, false, false≢true}
use mathlib.Core.List.{List, [], ◌++◌}
use native.Mathlib.Omega.{arith}
use lib.ListN.{length, get_or}
use Rattle.std.specs.Prelude.{if◌then◌else◌}
use Rattle.parts.specs.Parts.{part}
use Rattle.fifo.specs.Control.{is_fifo}
use Rattle.message.specs.Message.{Message, Decoding, holds, decoding}
use Rattle.ring.specs.declared.ring.Fifo.{Fifo}
use Rattle.ring.specs.declared.queue.Queue.{Queue}
use Rattle.ring.specs.Ring.{depth}
use Rattle.ring.specs.Layout.{size, slot_at}
use Rattle.ring.specs.Queue as queue
use Rattle.ring.specs.Queue.{gather, is_held, full}
use Rattle.ring.proofs.Laws.{slots_apart_lem, fifos_apart_lem, in_ram_lem}
use Rattle.ring.proofs.Places.{gather_same}
use Rattle.ring.proofs.Words.{depth_most}
use Rattle.ring.proofs.Queues.{full_means_lem, flag_same, sent_flags}
use Rattle.state.specs.declared.Fixed.{Fixed}
use Rattle.state.specs.declared.Setup.{Setup}
use Rattle.state.specs.declared.Model.{Model}
use Rattle.state.specs.Model.{fifo_at, frozen_at, with_setup, with_fifo, with_queue, written}
use Rattle.bank.specs.Registers.{queue_shown}
use Rattle.bus.specs.Held.{slot_of, item_at, held}
use Rattle.bus.specs.Queue.{queue_depth, queue_slot, queue_item, held_queue}
use Rattle.reach.proofs.Bytes.{put_inside, part_same}
use Rattle.history.proofs.Sound.{Sound}
use Rattle.history.proofs.Slots.{split, fifo_told, SlotStays, held_like, Apart, before, behind, frame, ram_long, slot_inside, filled}

-- ---- what the messages that the queue holds depend on

-- of what is fixed, the queue and RAM
abbrev held_in : Fixed → Queue → List ℕ → List Decoding
held_in x q ram =
    if x.queue then gather (is_held q) (λ k. decoding true false (part ram (slot_at x.queue x.frozen 0 k) (size (get_or x.frozen 0 0)))) 0 (depth (get_or x.frozen 0 0))
    else []

held_in_lem : (c : Model) → held_queue c ≡ held_in c.fixed c.queue c.ram
unfolding held_queue queue_item queue_slot
held_in_lem c = refl

-- the slots that are held, and their bytes
pub queue_like : (c d : Model) → d.fixed ≡ c.fixed → d.queue.held ≡ c.queue.held
    → (c.fixed.queue ≡ true → (k : ℕ) → k < queue_depth c → is_held c.queue k ≡ true
    → part d.ram (queue_slot c k) (size (frozen_at c 0)) ≡ part c.ram (queue_slot c k) (size (frozen_at c 0)))
    → held_queue d ≡ held_queue c
unfolding queue_slot
queue_like c d e h b = held_in_lem d ∙ ap (λ (x : Fixed). held_in x d.queue d.ram) e ∙ go c.fixed.queue b ∙ sym (held_in_lem c)
  where
    go : (on : Bool)
        → (on ≡ true → (k : ℕ) → k < queue_depth c → is_held c.queue k ≡ true
        → part d.ram (slot_at c.fixed.queue c.fixed.frozen 0 k) (size (frozen_at c 0)) ≡ part c.ram (slot_at c.fixed.queue c.fixed.frozen 0 k) (size (frozen_at c 0)))
        → (if on then gather (is_held d.queue) (λ k. decoding true false (part d.ram (slot_at c.fixed.queue c.fixed.frozen 0 k) (size (frozen_at c 0)))) 0 (queue_depth c) else [])
        ≡ (if on then gather (is_held c.queue) (λ k. decoding true false (part c.ram (slot_at c.fixed.queue c.fixed.frozen 0 k) (size (frozen_at c 0)))) 0 (queue_depth c) else [])
    go true b =
        gather_same (is_held c.queue) (is_held d.queue) _ _ 0 (queue_depth c) (λ j x y. ap (λ (l : List Bool). get_or l j false) h)
        (λ j x y z. ap (decoding true false) (b refl j (omega arith) z))
    go false b = refl

pub setup_queue : (c : Model) (x : Setup) → held_queue (with_setup c x) ≡ held_queue c
setup_queue c x = queue_like c (with_setup c x) refl refl (λ on k l h. refl)

pub fifo_queue : (c : Model) (n : ℕ) (g : Fifo) → held_queue (with_fifo c n g) ≡ held_queue c
fifo_queue c n g = queue_like c (with_fifo c n g) refl refl (λ on k l h. refl)

-- another queue leaves the FIFOs
module _ (c : Model) (g : Queue) where
  pub queue_slot_of : (n k : ℕ) → slot_of (with_queue c g) n k ≡ slot_of c n k
  unfolding slot_of
  queue_slot_of n k = refl

  pub queue_item_at : (n k : ℕ) → item_at (with_queue c g) n k ≡ item_at c n k
  unfolding item_at slot_of
  queue_item_at n k = refl

  pub queue_held : (j : ℕ) → held (with_queue c g) j ≡ held c j
  queue_held j = held_like c (with_queue c g) j refl refl refl (λ i k l. refl)

-- ---- where slots lie

module _ (c : Model) (s : Sound c) (on : c.fixed.queue ≡ true) where
  pub queue_inside : (k : ℕ) → k < queue_depth c → queue_slot c k + size (frozen_at c 0) ≤ 2048
  unfolding queue_slot
  queue_inside k l = in_ram_lem c.fixed.queue c.fixed.frozen 0 k (s.valid.layout s.out) on (omega arith) l

  -- a slot of the queue stands before every slot of a FIFO
  pub queue_before : (k : ℕ) → k < queue_depth c → (j l : ℕ) → is_fifo j ≡ true → queue_slot c k + size (frozen_at c 0) ≤ slot_of c j l
  unfolding queue_slot slot_of
  queue_before k h j l i = fifos_apart_lem c.fixed.queue c.fixed.frozen 0 j k _ on (omega (arith, (fifo_told j i).0)) h

  -- two slots of the queue, not the same
  pub queue_apart : (k l : ℕ) → (k ≡ l → ⊥) → Apart (queue_slot c k) (size (frozen_at c 0)) (queue_slot c l) (size (frozen_at c 0))
  unfolding queue_slot
  queue_apart k l ne =
      split k l
      (λ lo. before (slots_apart_lem c.fixed.queue c.fixed.frozen 0 k l lo))
      (λ ge. behind (slots_apart_lem c.fixed.queue c.fixed.frozen 0 l k (omega arith)))

-- ---- a write into the free slot of FIFO n

module _ (c : Model) (s : Sound c) (n : ℕ) (h : is_fifo n ≡ true) (free : (fifo_at c n).count < depth (frozen_at c n)) (bs : List ℕ) (fits : length bs ≤ size (frozen_at c n)) where
  filled_slot : c.fixed.queue ≡ true → (k : ℕ) → k < queue_depth c
      → part (filled c n bs).ram (queue_slot c k) (size (frozen_at c 0)) ≡ part c.ram (queue_slot c k) (size (frozen_at c 0))
  filled_slot on k l =
      frame c.ram bs (slot_of c n (fifo_at c n).count) (size (frozen_at c n)) (queue_slot c k) (size (frozen_at c 0))
      (before (queue_before c s on k l n (fifo_at c n).count h)) fits
      (omega (arith, ram_long c s, slot_inside c s n (fifo_at c n).count h (s.valid.fifo n).count))

  pub filled_queue : held_queue (filled c n bs) ≡ held_queue c
  filled_queue = queue_like c (filled c n bs) refl refl (λ on k l x. filled_slot on k l)

  pub filled_shown : c.fixed.queue ≡ true → part (filled c n bs).ram (queue_shown c) (size (frozen_at c 0)) ≡ part c.ram (queue_shown c) (size (frozen_at c 0))
  unfolding queue_shown queue_slot
  filled_shown on = filled_slot on c.queue.shown s.valid.queue.shown

-- ---- a write into a slot of the queue

abbrev pub queue_filled : Model → ℕ → List ℕ → Model
queue_filled c k bs = written c (queue_slot c k) bs

module _ (c : Model) (s : Sound c) (on : c.fixed.queue ≡ true) (k : ℕ) (l : k < queue_depth c) (bs : List ℕ) (fits : length bs ≤ size (frozen_at c 0)) where
  slot_fits : queue_slot c k + size (frozen_at c 0) ≤ length c.ram
  slot_fits = omega (arith, ram_long c s, queue_inside c s on k l)

  -- every FIFO's slot stays
  queue_filled_part : (j x : ℕ) → is_fifo j ≡ true → SlotStays c (queue_filled c k bs) j x
  queue_filled_part j x i =
      frame c.ram bs (queue_slot c k) (size (frozen_at c 0)) (slot_of c j x) (size (frozen_at c j)) (behind (queue_before c s on k l j x i)) fits slot_fits

  pub queue_filled_held : (j : ℕ) → held (queue_filled c k bs) j ≡ held c j
  queue_filled_held j = held_like c (queue_filled c k bs) j refl refl refl (λ i x y. queue_filled_part j x i)

  -- and, where the slot was free, every message that the queue holds
  pub queue_filled_queue : is_held c.queue k ≡ false → held_queue (queue_filled c k bs) ≡ held_queue c
  queue_filled_queue free =
      queue_like c (queue_filled c k bs) refl refl
      (λ o x y z. frame c.ram bs (queue_slot c k) (size (frozen_at c 0)) (queue_slot c x) (size (frozen_at c 0))
      (queue_apart c s on x k (λ e. false≢true (sym free ∙ ap (is_held c.queue) (sym e) ∙ z))) fits slot_fits)

  -- what is written there is what it decodes to
  pub queue_filled_item : (m : Message) → ((r : List ℕ) → decoding true false (bs ++ r) ≡ holds m) → queue_item (queue_filled c k bs) k ≡ holds m
  unfolding queue_item queue_slot
  queue_filled_item m back =
      let inside : queue_slot c k + length bs ≤ length c.ram = omega (arith, slot_fits) in
      ap (λ (r : List ℕ). decoding true false (part r (queue_slot c k) (size (frozen_at c 0)))) (put_inside c.ram (queue_slot c k) bs inside)
      ∙ ap (decoding true false) (part_same c.ram (queue_slot c k) bs inside (size (frozen_at c 0)) fits)
      ∙ back _

-- ---- a send

-- a slot that is freed is free
pub sent_open : (c : Model) → Sound c → (k : ℕ) → k < queue_depth c → full (frozen_at c 0) c.queue ≡ false → full (frozen_at c 0) (queue.sent (frozen_at c 0) k c.queue) ≡ false
unfolding queue.freed
sent_open c s k l f = go (full (frozen_at c 0) (queue.sent (frozen_at c 0) k c.queue)) refl
  where
    free : is_held (queue.sent (frozen_at c 0) k c.queue) k ≡ false
    free = ap (λ (x : List Bool). get_or x k false) (sent_flags (frozen_at c 0) c.queue k) ∙ flag_same c.queue.held k false (omega (arith, s.valid.queue.held, depth_most (frozen_at c 0)))

    go : (b : Bool) → full (frozen_at c 0) (queue.sent (frozen_at c 0) k c.queue) ≡ b → full (frozen_at c 0) (queue.sent (frozen_at c 0) k c.queue) ≡ false
    go true e = absurd (false≢true (sym free ∙ (full_means_lem (frozen_at c 0) (queue.sent (frozen_at c 0) k c.queue)).0 e k l))
    go false e = e

-- ---- the identifiers of the messages held

-- a slot's first bytes
shorter : {p a n : ℕ} (z : ℕ) → Apart p (size z) a n → Apart p 8 a n
unfolding size
shorter z (before h) = before (omega arith)
shorter z (behind h) = behind h

-- lie apart from a FIFO's free slot, and from a free slot of the queue
pub clear_fifo : (c : Model) → Sound c → (n : ℕ) → is_fifo n ≡ true → c.fixed.queue ≡ true → (k : ℕ) → k < queue_depth c → is_held c.queue k ≡ true
    → Apart (queue_slot c k) 8 (slot_of c n (fifo_at c n).count) (size (frozen_at c n))
clear_fifo c s n i on k l h = shorter (frozen_at c 0) (before (queue_before c s on k l n (fifo_at c n).count i))

pub clear_queue : (c : Model) → Sound c → (n : ℕ) → is_held c.queue n ≡ false → c.fixed.queue ≡ true → (k : ℕ) → k < queue_depth c → is_held c.queue k ≡ true
    → Apart (queue_slot c k) 8 (queue_slot c n) (size (frozen_at c 0))
clear_queue c s n free on k l h = shorter (frozen_at c 0) (queue_apart c s on k n (λ e. false≢true (sym free ∙ ap (is_held c.queue) (sym e) ∙ h)))
