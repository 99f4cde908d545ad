-- A FIFO's registers as they read outside Configuration, and the control word anywhere.
-- Assumes nothing.
use Rattle.std.specs.Prelude.{ℕ, Bool, false, List, [], ◌∷◌, ltb, leb, eqb, if◌then◌else◌}
use Rattle.field.specs.Field.{Field, read, write, digit}
use Rattle.field.specs.Settings.{◌:=◌, settings}
use Rattle.fifo.specs.Control.{RXTSEN, TXEN, FSIZE, PLSIZE}
use Rattle.fifo.specs.Status.{TFNRFNIF, TFERFFIF, RXOVIF}
use Rattle.ring.specs.declared.ring.Fifo.{Fifo}
use Rattle.ring.specs.Ring.{sending, depth}

-- the fields that change only in Configuration
abbrev pub frozen_fields : List Field
frozen_fields = RXTSEN ∷ TXEN ∷ FSIZE ∷ PLSIZE ∷ []

-- w with the fields of v
abbrev pub copied : List Field → (v w : ℕ) → ℕ
copied [] v w = w
copied (f ∷ fs) v w = copied fs v (write f (read f v) w)

-- control: as last written, but for these fields
unfoldable pub control : ℕ → Fifo → ℕ
control frozen f = copied frozen_fields frozen f.control

-- status bit 0: not full when sending, not empty when receiving
unfoldable pub ready : ℕ → Fifo → Bool
ready frozen f = if sending frozen then ltb f.count (depth frozen) else ltb 0 f.count

-- status bit 2: empty when sending, full when receiving
unfoldable pub edge : ℕ → Fifo → Bool
edge frozen f = if sending frozen then eqb f.count 0 else leb (depth frozen) f.count

-- status: bit 3 is receive overflow; other bits read 0
unfoldable pub status : ℕ → Fifo → ℕ
status frozen f =
    settings
    (TFNRFNIF := digit (ready frozen f)
    ∷ TFERFFIF := digit (edge frozen f)
    ∷ RXOVIF := digit (if sending frozen then false else f.over)
    ∷ [])
    0
