-- A control word whose UINC reads 0, and FRESET too outside Configuration: what keeps it so.
-- Assumes nothing.
use Prim.Native.Nat.{ℕ}
use mathlib.Core.Path.{◌≡◌, refl, sym, ◌∙◌}
use mathlib.Core.Bool.{Bool, true, false, false≢true}
use mathlib.Core.List.{List, [], ◌∷◌}
use native.Mathlib.Omega.{arith}
use Rattle.field.specs.Field.{read, write}
use Rattle.field.specs.Settings.{Setting, ◌:=◌, settings, AllFit}
use Rattle.field.proofs.Laws.{write_other}
use Rattle.field.proofs.Sets.{own}
use Rattle.fifo.specs.Control.{UINC, TXREQ, FRESET}

pub record Quiet (configuring : Bool) (w : ℕ) : Type 0 where
  pub uinc : read UINC w ≡ 0
  pub freset : configuring ≡ false → read FRESET w ≡ 0

-- in Configuration it is UINC alone
pub quiet_inside : (w : ℕ) → read UINC w ≡ 0 → Quiet true w
quiet_inside w e = record { uinc = e; freset = λ c. absurd (false≢true (sym c)) }

-- clearing TXREQ leaves it so
pub unrequested : (b : Bool) (w : ℕ) → Quiet b w → Quiet b (write TXREQ 0 w)
unrequested b w q = record {
  uinc = write_other TXREQ UINC 0 w (omega arith) refl ∙ q.uinc;
  freset = λ e. write_other TXREQ FRESET 0 w (omega arith) refl ∙ q.freset e;
}

-- what of a control word is changed outside Configuration
abbrev pub dropped : List Setting
dropped = UINC := 0 ∷ FRESET := 0 ∷ []

pub dropped_fit : AllFit dropped
dropped_fit = (omega arith, (omega arith, tt))

pub dropped_quiet : (b : Bool) (w : ℕ) → Quiet b (settings dropped w)
dropped_quiet b w = record { uinc = own dropped w 0 refl dropped_fit (omega arith); freset = λ e. own dropped w 1 refl dropped_fit (omega arith) }
