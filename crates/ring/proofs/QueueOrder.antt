-- What happens to the queue leaves it in order.
-- Assumes nothing.
use Prim.Native.Nat.{ℕ, ◌<◌}
use mathlib.Core.Path.{◌≡◌, refl, sym, ◌∙◌}
use mathlib.Core.Bool.{Bool, true, false, ◌&&◌, false≢true}
use native.Mathlib.Nat.{zero-add}
use native.Mathlib.Omega.{arith}
use borrow.Author.Tests.{leb-false}
use lib.ListN.{length-set, length-replicate}
use Rattle.std.specs.Prelude.{if◌then◌else◌}
use Rattle.laws.proofs.Choice.{by_if}
use Rattle.field.specs.Field.{flag}
use Rattle.field.specs.Settings.{settings}
use Rattle.field.proofs.Laws.{read_write, write_other}
use Rattle.fifo.specs.Control.{UINC, FRESET}
use Rattle.ring.specs.declared.queue.Queue.{Queue}
use Rattle.ring.specs.Ring.{depth}
use Rattle.ring.specs.Queue.{is_held, free, full, empty, fresh, controlled, emptied, marked, showing, claimed, freed, sent, configured, commanded, turned}
use Rattle.ring.specs.QueueOrder.{InOrder}
use Rattle.ring.proofs.Words.{depth_least, depth_most}
use Rattle.ring.proofs.Quiet.{Quiet, quiet_inside, unrequested, dropped, dropped_quiet}
use Rattle.ring.proofs.Places.{same?, clash, first_fails}
use Rattle.ring.proofs.Queues.{flag_same, flag_other, fresh_held}

abbrev pub queue_quiet : {b on : Bool} {v : ℕ} {q : Queue} → InOrder b on v q → Quiet b q.control
queue_quiet o = record { uinc = o.uinc; freset = o.freset }

pub fresh_order : (b on : Bool) (v w : ℕ) → Quiet b w → InOrder b on v (fresh w)
unfolding fresh
fresh_order b on v w c = record {
  held = length-replicate {A = Bool} 32 false;
  shown = depth_least v;
  vacant = λ e. refl;
  uinc = c.uinc;
  freset = c.freset;
  home = λ e. refl;
  none = λ e. fresh_held w;
  off = λ e. fresh_held w;
}

module _ (b on : Bool) (v : ℕ) (q : Queue) (o : InOrder b on v q) where
  controlled_order : (w : ℕ) → Quiet b w → InOrder b on v (controlled w q)
  unfolding full free controlled
  controlled_order w c = record {
    held = o.held;
    shown = o.shown;
    vacant = o.vacant;
    uinc = c.uinc;
    freset = c.freset;
    home = o.home;
    none = o.none;
    off = o.off;
  }

  emptied_order : InOrder b on v (emptied q)
  unfolding emptied
  emptied_order = fresh_order b on v _ (unrequested b q.control (queue_quiet o))

-- ---- outside Configuration

-- the lowest free slot is one of the queue's, and it is free
free_lt : (v : ℕ) (q : Queue) → full v q ≡ false → free v q < depth v
unfolding full
free_lt v q e = leb-false (depth v) (free v q) e

free_vacant : (v : ℕ) (q : Queue) → full v q ≡ false → is_held q (free v q) ≡ false
unfolding free
free_vacant v q e = rw zero-add at (first_fails (is_held q) 0 (depth v) (free_lt v q e))

module _ (v : ℕ) (q : Queue) (o : InOrder false true v q) where
  -- the slot shown is the last to be claimed
  marked_order : full v (marked q) ≡ true → InOrder false true v (marked q)
  unfolding marked
  marked_order e = record {
    held = length-set q.held q.shown true ∙ o.held;
    shown = o.shown;
    vacant = λ f. clash f e;
    uinc = o.uinc;
    freset = o.freset;
    home = λ x. absurd (false≢true x);
    none = λ x. absurd (false≢true x);
    off = λ x. absurd (false≢true (sym x));
  }

  -- another is free, and the lowest is shown
  next_order : full v (marked q) ≡ false → InOrder false true v (showing (free v (marked q)) (marked q))
  unfolding marked showing
  next_order e = record {
    held = length-set q.held q.shown true ∙ o.held;
    shown = free_lt v (marked q) e;
    vacant = λ f. free_vacant v (marked q) e;
    uinc = o.uinc;
    freset = o.freset;
    home = λ x. absurd (false≢true x);
    none = λ x. absurd (false≢true x);
    off = λ x. absurd (false≢true (sym x));
  }

  pub claimed_order : InOrder false true v (claimed v q)
  unfolding claimed
  claimed_order = by_if (InOrder false true v) (full v q) (λ e. o) (λ e. by_if (InOrder false true v) (full v (marked q)) marked_order next_order)

module _ (on : Bool) (v : ℕ) (q : Queue) (o : InOrder false on v q) where
  pub freed_order : (k : ℕ) → k < depth v → InOrder false on v (freed v k q)
  unfolding freed
  freed_order k l =
      let at = flag_same q.held k false (omega (arith, depth_most v, o.held)) in
      let kept : (j : ℕ) → is_held q j ≡ false → is_held (freed v k q) j ≡ false = λ j h. same? j k (λ i. rw i at) (λ ne. flag_other q.held k false j ne ∙ h) in
      record {
        held = length-set q.held k false ∙ o.held;
        shown = by_if (λ (j : ℕ). j < depth v) (full v q) (λ e. l) (λ e. o.shown);
        vacant = λ x. by_if (λ (j : ℕ). is_held (freed v k q) j ≡ false) (full v q) (λ e. at) (λ e. kept q.shown (o.vacant e));
        uinc = o.uinc;
        freset = o.freset;
        home = λ x. absurd (false≢true x);
        none = λ x. absurd (false≢true x);
        off = λ x j. kept j (o.off x j);
      }

  pub sent_order : (k : ℕ) → k < depth v → InOrder false on v (sent v k q)
  unfolding sent
  sent_order k l =
      by_if (InOrder false on v) (empty v (freed v k q))
      (λ e. controlled_order false on v (freed v k q) (freed_order k l) _ (unrequested false q.control (queue_quiet o)))
      (λ e. freed_order k l)

pub commanded_order : (on : Bool) (v w : ℕ) (q : Queue) → InOrder false on v q → InOrder false on v (commanded on v w q)
unfolding commanded
commanded_order on v w q o =
    let P : Queue → Type 0 = InOrder false on v in
    let a : Queue = controlled (settings dropped w) q in
    let a' : P a = controlled_order false on v q o _ (dropped_quiet false w) in
    let b : Queue = if on && flag UINC w then claimed v a else a in
    let b' : P b = by_if P (on && flag UINC w) (λ t. claims on t a a') (λ t. a') in
    by_if P (flag FRESET w) (λ t. emptied_order false on v b b') (λ t. b')
  where
    claims : (x : Bool) → (x && flag UINC w) ≡ true → (p : Queue) → InOrder false x v p → InOrder false x v (claimed v p)
    claims true t p h = claimed_order v p h
    claims false t p h = absurd (false≢true t)

-- ---- in Configuration and in and out of it

-- the queue fits any size, and is in order on and off
pub any_size : (on on' : Bool) (v w : ℕ) (q : Queue) → InOrder true on v q → InOrder true on' w q
any_size on on' v w q o = record {
  held = o.held;
  shown = omega (arith, o.home refl, depth_least w);
  vacant = λ e. o.none refl q.shown;
  uinc = o.uinc;
  freset = o.freset;
  home = o.home;
  none = o.none;
  off = λ e. o.none refl;
}

pub configured_order : (on : Bool) (v w : ℕ) (q : Queue) → InOrder true on v q → InOrder true on v (configured w q)
unfolding configured
configured_order on v w q o = controlled_order true on v q o _ (quiet_inside _ (read_write UINC 0 w (omega arith)))

pub entered_order : (on : Bool) (v : ℕ) (q : Queue) → InOrder false on v q → InOrder true on v (turned true q)
unfolding emptied
entered_order on v q o = fresh_order true on v _ (quiet_inside _ (unrequested false q.control (queue_quiet o)).uinc)

pub left_order : (on : Bool) (v : ℕ) (q : Queue) → InOrder true on v q → InOrder false on v (turned false q)
unfolding full free controlled
left_order on v q o = record {
  held = o.held;
  shown = o.shown;
  vacant = o.vacant;
  uinc = write_other FRESET UINC 0 q.control (omega arith) refl ∙ o.uinc;
  freset = λ e. read_write FRESET 0 q.control (omega arith);
  home = λ e. absurd (false≢true e);
  none = λ e. absurd (false≢true e);
  off = o.off;
}
