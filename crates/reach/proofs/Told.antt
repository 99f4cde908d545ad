-- What follows from the order: what control words read, and what leaving Configuration leaves.
-- Assumes nothing.
use Prim.Native.Nat.{ℕ}
use mathlib.Core.Path.{◌≡◌, refl, ap, ◌∙◌}
use mathlib.Core.Bool.{true, false}
use borrow.Author.Tests.{ne_eqb}
use Rattle.field.specs.Field.{read}
use Rattle.configuration.specs.CanControl.{REQOP}
use Rattle.fifo.specs.Control.{UINC, FRESET}
use Rattle.ring.specs.declared.ring.Fifo.{Fifo}
use Rattle.ring.specs.Ring.{controlled}
use Rattle.ring.specs.Registers.{frozen_fields}
use Rattle.ring.proofs.Laws.{copied_off, control_off}
use Rattle.ring.specs.Queue as queue
use Rattle.ring.specs.Queue.{is_held}
use Rattle.state.specs.declared.Model.{Model}
use Rattle.state.specs.Model.{fifo_at, frozen_at}
use Rattle.bank.specs.declared.writing.Written.{Written}
use Rattle.bank.specs.Registers.{word_of, granted, con_set, settled, turned_all, con_written}
use Rattle.reach.specs.Reach.{Valid, UincReads0, FresetReads0, QueueReads0}
use Rattle.reach.proofs.Kept.{turned_at, always_valid_lem}

-- ---- control words: neither field is among those frozen

pub uinc_reads_0 : UincReads0
unfolding word_of
uinc_reads_0 m r n = control_off UINC (frozen_at m n) (fifo_at m n) refl ∙ ((always_valid_lem m r).fifo n).uinc

pub freset_reads_0 : FresetReads0
unfolding word_of
freset_reads_0 m r c n = control_off FRESET (frozen_at m n) (fifo_at m n) refl ∙ ((always_valid_lem m r).fifo n).freset c

-- of the queue's too
pub queue_reads_0 : QueueReads0
unfolding word_of
queue_reads_0 m r =
    let o = (always_valid_lem m r).queue in
    (copied_off UINC frozen_fields (frozen_at m 0) m.queue.control refl ∙ o.uinc, λ c. copied_off FRESET frozen_fields (frozen_at m 0) m.queue.control refl ∙ o.freset c)

-- ---- a CiCON write that leaves Configuration

module _ (m : Model) (w : ℕ) (c : m.fixed.configuring ≡ true) (other : read REQOP w ≡ 4 → ⊥) (g : granted m.fixed w ≡ true) where
  pub leaving_is : con_written m w ≡ settled (con_set (turned_all false m) w false)
  unfolding con_written
  leaving_is = rw (ne_eqb (read REQOP w) 4 other, g, c)

  pub leaving_outside : (con_written m w).model.fixed.configuring ≡ false
  leaving_outside = ap (λ (x : Written). x.model.fixed.configuring) leaving_is

  -- every FIFO holds nothing
  pub leaving_empty : Valid m → (n : ℕ) → (fifo_at (con_written m w).model n).count ≡ 0
  unfolding controlled
  leaving_empty v n =
      ap (λ (x : Written). (fifo_at x.model n).count) leaving_is ∙ ap (λ (f : Fifo). f.count) (turned_at false m n) ∙ (v.fifo n).empty c

  -- and the queue
  pub leaving_free : Valid m → (k : ℕ) → is_held (con_written m w).model.queue k ≡ false
  unfolding queue.controlled
  leaving_free v k = ap (λ (x : Written). is_held x.model.queue k) leaving_is ∙ v.queue.none c k
