-- What a write of a register does to the transmit queue, and how its registers read.
-- Assumes nothing.
use Prim.Native.Nat.{ℕ}
use mathlib.Core.Path.{◌≡◌, refl, sym, ap, ◌∙◌}
use mathlib.Core.Logic.{⊎_elim}
use mathlib.Core.Bool.{false, not, and-false, false≢true}
use native.Mathlib.Omega.{arith}
use lib.Seq.{get_or-set_same}
use Rattle.laws.proofs.Choice.{by_if}
use Rattle.field.specs.Field.{read, write, flag, digit}
use Rattle.field.proofs.Laws.{read_write, digit_lt}
use Rattle.configuration.specs.CanControl.{OPMOD, TXQEN}
use Rattle.fifo.specs.Control.{TXEN, FRESET}
use Rattle.place.specs.declared.Register.{Register}
use Rattle.ring.specs.declared.queue.Queue.{Queue}
use Rattle.ring.specs.Ring.{fresh}
use Rattle.ring.specs.Registers.{frozen_fields, copied, control}
use Rattle.ring.specs.Queue.{controlled, commanded}
use Rattle.ring.proofs.Laws.{frozen_kept}
use Rattle.ring.proofs.QueueControl.{queue_uinc_inside_lem}
use Rattle.state.specs.declared.Model.{Model}
use Rattle.state.specs.Model.{frozen_at}
use Rattle.bank.specs.Registers.{mode_of, queue_acts, word_of, queue_written, register_written}
use Rattle.bank.specs.Laws.{Resting, TxqenReads, TxqenOutside, TxqenInside, QueueSilent, QueueUincIdle, QueueTxen}
use Rattle.bank.proofs.Laws.{con_fixed, fixed_outside}

-- ---- TXQEN

pub txqen_reads_lem : TxqenReads
unfolding word_of
txqen_reads_lem m = read_write TXQEN (digit m.fixed.queue) (write OPMOD (mode_of m) m.setup.con) (digit_lt m.fixed.queue)

pub txqen_outside_lem : TxqenOutside
txqen_outside_lem m r w c = (fixed_outside m r w c).1

pub txqen_inside_lem : TxqenInside
txqen_inside_lem m w c = (con_fixed m w).1 ∙ rw c

-- ---- the queue's own registers

resting : (m : Model) → Resting m → queue_acts m.fixed ≡ false
resting m = ⊎_elim (λ c. rw c) (λ e. rw e (and-false (not m.fixed.configuring)))

pub queue_silent_lem : QueueSilent
unfolding word_of
queue_silent_lem m r = rw (resting m r) (refl, refl)

-- UINC does nothing where the queue is off
off_keeps : (v w : ℕ) (q : Queue) → flag FRESET w ≡ false → ((commanded false v w q).held ≡ q.held) × ((commanded false v w q).shown ≡ q.shown)
unfolding controlled commanded
off_keeps v w q f = rw f (refl, refl)

pub queue_uinc_idle_lem : QueueUincIdle
unfolding register_written queue_written
queue_uinc_idle_lem m r w f =
    by_if (λ (x : Model). (x.queue.held ≡ m.queue.held) × (x.queue.shown ≡ m.queue.shown)) m.fixed.configuring
    (λ c. queue_uinc_inside_lem w m.queue)
    (λ c. ⊎_elim (λ d. absurd (false≢true (sym c ∙ d))) (λ e. rw e (off_keeps (frozen_at m 0) w m.queue f)) r)

-- TXEN reads as it was last written in Configuration
txen_frozen : (v w : ℕ) → read TXEN (copied frozen_fields v w) ≡ read TXEN v
unfolding control fresh
txen_frozen v w = (frozen_kept v (fresh w)).1.0

pub queue_txen_lem : QueueTxen
unfolding word_of register_written queue_written
queue_txen_lem m w l t =
    by_if (λ (x : Model). read TXEN (word_of x Register.QueueControl) ≡ 1) m.fixed.configuring
    (λ c. txen_frozen _ _ ∙ ap (read TXEN) (get_or-set_same m.fixed.frozen 0 (write TXEN 1 w) 0 l) ∙ read_write TXEN 1 w (omega arith))
    (λ c. txen_frozen _ _ ∙ t)
