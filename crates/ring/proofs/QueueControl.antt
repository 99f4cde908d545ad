-- The queue's control word as it reads.
-- Assumes nothing.
use Prim.Native.Nat.{ℕ}
use mathlib.Core.Path.{◌≡◌, refl, ap, ◌∙◌}
use mathlib.Core.Bool.{Bool, true, false, ◌&&◌}
use native.Mathlib.Omega.{arith}
use Rattle.laws.specs.All.{all}
use Rattle.std.specs.Prelude.{if◌then◌else◌}
use Rattle.laws.proofs.Choice.{by_if}
use Rattle.field.specs.Field.{Field, read, flag, write, apart}
use Rattle.field.specs.Settings.{settings}
use Rattle.field.proofs.Laws.{read_write, write_other, write_write}
use Rattle.field.proofs.Sets.{own}
use Rattle.fifo.specs.Control.{UINC, TXREQ, FRESET}
use Rattle.ring.specs.declared.queue.Queue.{Queue}
use Rattle.ring.specs.Registers.{frozen_fields}
use Rattle.ring.specs.Queue.{full, fresh, controlled, emptied, marked, showing, claimed, freed, sent, configured, commanded, turned}
use Rattle.ring.specs.QueueLaws.{queue_control, QueueUincReads0, QueueFresetReads0, QueueUincInside, UincOff, QueueSendTxreq, QueueEnteringEmpties}
use Rattle.ring.proofs.Quiet.{dropped, dropped_fit}
use Rattle.ring.proofs.Laws.{copied_off}
use Rattle.ring.proofs.Queues.{fresh_held}

-- a field that is not frozen reads as last written
pub queue_off : (g : Field) (frozen : ℕ) (q : Queue) → all (apart g) frozen_fields ≡ true → read g (queue_control frozen q) ≡ read g q.control
queue_off g frozen q e = copied_off g frozen_fields frozen q.control e

-- a claim is of slots alone
pub claimed_control : (frozen : ℕ) (q : Queue) → (claimed frozen q).control ≡ q.control
unfolding marked showing claimed
claimed_control frozen q =
    by_if (λ (r : Queue). r.control ≡ q.control) (full frozen q) (λ e. refl)
    (λ e. by_if (λ (r : Queue). r.control ≡ q.control) (full frozen (marked q)) (λ f. refl) (λ f. refl))

-- after a write of w outside Configuration every field but TXREQ and those frozen reads so
commanded_off : (g : Field) (on : Bool) (frozen w : ℕ) (q : Queue) → all (apart g) frozen_fields ≡ true → apart TXREQ g ≡ true
    → read g (queue_control frozen (commanded on frozen w q)) ≡ read g (settings dropped w)
unfolding fresh controlled emptied commanded
commanded_off g on frozen w q e d =
    let P : Queue → Type 0 = λ x. read g x.control ≡ read g (settings dropped w) in
    let a : Queue = controlled (settings dropped w) q in
    let b : P (if on && flag UINC w then claimed frozen a else a) = by_if P (on && flag UINC w) (λ t. ap (read g) (claimed_control frozen a)) (λ t. refl) in
    queue_off g frozen (commanded on frozen w q) e ∙ by_if P (flag FRESET w) (λ t. write_other TXREQ g 0 _ (omega arith) d ∙ b) (λ t. b)

pub queue_uinc_reads_0 : QueueUincReads0
unfolding controlled configured
queue_uinc_reads_0 on frozen w q = (
  queue_off UINC frozen (configured w q) refl ∙ read_write UINC 0 w (omega arith),
  commanded_off UINC on frozen w q refl refl ∙ own dropped w 0 refl dropped_fit (omega arith),
)

pub queue_freset_reads_0 : QueueFresetReads0
unfolding controlled
queue_freset_reads_0 on frozen w q = (
  commanded_off FRESET on frozen w q refl refl ∙ own dropped w 1 refl dropped_fit (omega arith),
  queue_off FRESET frozen (turned false q) refl ∙ read_write FRESET 0 q.control (omega arith),
)

pub queue_uinc_inside_lem : QueueUincInside
unfolding controlled configured
queue_uinc_inside_lem w q = (refl, refl)

pub uinc_off_lem : UincOff
unfolding commanded
uinc_off_lem frozen w q = rw (write_other UINC FRESET 0 w (omega arith) refl, write_write UINC 0 0 w (omega arith))

pub queue_send_txreq_lem : QueueSendTxreq
unfolding controlled freed sent
queue_send_txreq_lem frozen k q = record {
  last = λ e. rw e (copied_off TXREQ frozen_fields frozen _ refl ∙ read_write TXREQ 0 q.control (omega arith));
  another = λ e. rw e;
}

pub queue_entering_empties_lem : QueueEnteringEmpties
unfolding fresh emptied
queue_entering_empties_lem frozen q = record {
  none = fresh_held (write TXREQ 0 q.control);
  home = refl;
  txreq = queue_off TXREQ frozen (turned true q) refl ∙ read_write TXREQ 0 q.control (omega arith);
}
