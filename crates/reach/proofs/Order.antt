-- What happens to one FIFO leaves it in order.
-- Assumes nothing.
use Prim.Native.Nat.{ℕ, ◌<◌}
use mathlib.Core.Path.{refl, ◌∙◌}
use mathlib.Core.Bool.{Bool, true, false, false≢true}
use native.Mathlib.Omega.{arith}
use borrow.Author.Tests.{ltb-true}
use lib.Dec.{ltb, eqb}
use Rattle.std.specs.Prelude.{if◌then◌else◌}
use Rattle.laws.proofs.Choice.{by_if}
use Rattle.field.specs.Field.{flag}
use Rattle.field.specs.Settings.{settings}
use Rattle.field.proofs.Laws.{read_write, write_other}
use Rattle.fifo.specs.Control.{UINC, FRESET}
use Rattle.ring.specs.declared.ring.Fifo.{Fifo}
use Rattle.ring.specs.Ring.{sending, depth, fresh, claimed, taken, increased, controlled, overflowed, emptied, sent, configured, commanded, turned}
use Rattle.ring.proofs.Laws.{place_lt}
use Rattle.ring.proofs.Words.{depth_least}
use Rattle.ring.proofs.Quiet.{Quiet, unrequested, dropped, dropped_quiet}
pub use Rattle.ring.proofs.Quiet.{quiet_inside}
use Rattle.reach.specs.Reach.{InOrder}

-- what is asked of its control word
abbrev pub quiet : {b : Bool} {v : ℕ} {f : Fifo} → InOrder b v f → Quiet b f.control
quiet o = record { uinc = o.uinc; freset = o.freset }

pub fresh_order : (b : Bool) (v w : ℕ) → Quiet b w → InOrder b v (fresh w)
unfolding fresh
fresh_order b v w q = record {
  head = depth_least v;
  count = omega (arith, depth_least v);
  uinc = q.uinc;
  home = λ e. refl;
  empty = λ e. refl;
  freset = q.freset;
}

module _ (b : Bool) (v : ℕ) (f : Fifo) (o : InOrder b v f) where
  controlled_order : (w : ℕ) → Quiet b w → InOrder b v (controlled w f)
  unfolding controlled
  controlled_order w q = record { head = o.head; count = o.count; uinc = q.uinc; home = o.home; empty = o.empty; freset = q.freset }

  pub overflowed_order : (x : Bool) → InOrder b v (overflowed x f)
  unfolding overflowed
  overflowed_order x = record { head = o.head; count = o.count; uinc = o.uinc; home = o.home; empty = o.empty; freset = o.freset }

  emptied_order : InOrder b v (emptied f)
  unfolding emptied
  emptied_order = fresh_order b v _ (unrequested b f.control (quiet o))

-- ---- outside Configuration

module _ (v : ℕ) (f : Fifo) (o : InOrder false v f) where
  pub claimed_order : f.count < depth v → InOrder false v (claimed f)
  unfolding claimed
  claimed_order l = record {
    head = o.head;
    count = omega arith;
    uinc = o.uinc;
    home = λ e. absurd (false≢true e);
    empty = λ e. absurd (false≢true e);
    freset = o.freset;
  }

  taken_order : InOrder false v (taken v f)
  unfolding taken
  taken_order = record {
    head = place_lt (depth v) f.head o.head 1 (depth_least v);
    count = omega (arith, o.count);
    uinc = o.uinc;
    home = λ e. absurd (false≢true e);
    empty = λ e. absurd (false≢true e);
    freset = o.freset;
  }

  increased_order : InOrder false v (increased v f)
  unfolding increased
  increased_order =
      let P : Fifo → Type 0 = InOrder false v in
      by_if P (sending v)
      (λ e. by_if P (ltb f.count (depth v)) (λ l. claimed_order (ltb-true f.count (depth v) l)) (λ l. o))
      (λ e. by_if P (ltb 0 f.count) (λ l. taken_order) (λ l. o))

  pub sent_order : InOrder false v (sent v f)
  unfolding sent
  sent_order =
      by_if (InOrder false v) (eqb f.count 1)
      (λ e. controlled_order false v (taken v f) taken_order _ (unrequested false f.control (quiet o)))
      (λ e. taken_order)

pub commanded_order : (v w : ℕ) (f : Fifo) → InOrder false v f → InOrder false v (commanded v w f)
unfolding commanded
commanded_order v w f o =
    let P : Fifo → Type 0 = InOrder false v in
    let a : Fifo = controlled (settings dropped w) f in
    let a' : P a = controlled_order false v f o _ (dropped_quiet false w) in
    let b : Fifo = if flag UINC w then increased v a else a in
    let b' : P b = by_if P (flag UINC w) (λ t. increased_order v a a') (λ t. a') in
    by_if P (flag FRESET w) (λ t. emptied_order false v b b') (λ t. b')

-- ---- in Configuration and in and out of it

-- the ring fits any size
pub any_size : (v w : ℕ) (f : Fifo) → InOrder true v f → InOrder true w f
any_size v w f o = record {
  head = omega (arith, o.home refl, depth_least w);
  count = omega (arith, o.empty refl, depth_least w);
  uinc = o.uinc;
  home = o.home;
  empty = o.empty;
  freset = o.freset;
}

pub configured_order : (v w : ℕ) (f : Fifo) → InOrder true v f → InOrder true v (configured w f)
unfolding configured
configured_order v w f o = controlled_order true v f o _ (quiet_inside _ (read_write UINC 0 w (omega arith)))

pub entered_order : (v : ℕ) (f : Fifo) → InOrder false v f → InOrder true v (turned true f)
unfolding emptied
entered_order v f o = fresh_order true v _ (quiet_inside _ (unrequested false f.control (quiet o)).uinc)

pub left_order : (v : ℕ) (f : Fifo) → InOrder true v f → InOrder false v (turned false f)
unfolding controlled
left_order v f o = record {
  head = o.head;
  count = o.count;
  uinc = write_other FRESET UINC 0 f.control (omega arith) refl ∙ o.uinc;
  home = λ e. absurd (false≢true e);
  empty = λ e. absurd (false≢true e);
  freset = λ e. read_write FRESET 0 f.control (omega arith);
}
