-- One FIFO of the modelled chip: a ring of slots. Its depth and its direction are those of `frozen`, the control word as it was last
-- written in Configuration.
-- Assumes nothing.
use Rattle.std.specs.Prelude.{ℕ, ◌+◌, ◌-◌, Bool, true, false, [], ◌∷◌, ltb, eqb, if◌then◌else◌}
use Rattle.field.specs.Field.{read, flag, write}
use Rattle.field.specs.Settings.{◌:=◌, settings}
use Rattle.fifo.specs.Control.{TXEN, UINC, TXREQ, FRESET, FSIZE}
use Rattle.ring.specs.declared.ring.Fifo.{Fifo}

-- TXEN: the FIFO transmits
unfoldable pub sending : ℕ → Bool
sending frozen = flag TXEN frozen

-- how many slots there are
unfoldable pub depth : ℕ → ℕ
depth frozen = read FSIZE frozen + 1

-- the slot k places behind slot head, round the ring
unfoldable pub place : (depth head k : ℕ) → ℕ
place depth head k = if ltb (head + k) depth then head + k else head + k - depth

-- the slot shown: the next free one when sending, the oldest when receiving
unfoldable pub shown : ℕ → Fifo → ℕ
shown frozen f = place (depth frozen) f.head (if sending frozen then f.count else 0)

-- empty, with the ring at slot 0, as after RESET
unfoldable pub fresh : ℕ → Fifo
fresh control = record { control = control; head = 0; count = 0; over = false }

-- ---- changes

-- the slot shown holds one more message
unfoldable pub claimed : Fifo → Fifo
claimed f = record { control = f.control; head = f.head; count = f.count + 1; over = f.over }

-- the oldest message is gone
unfoldable pub taken : ℕ → Fifo → Fifo
taken frozen f = record { control = f.control; head = place (depth frozen) f.head 1; count = f.count - 1; over = f.over }

-- UINC: on a full transmit or an empty receive FIFO it does nothing
unfoldable pub increased : ℕ → Fifo → Fifo
increased frozen f =
    if sending frozen then if ltb f.count (depth frozen) then claimed f else f
    else if ltb 0 f.count then taken frozen f else f

-- another control word
unfoldable pub controlled : ℕ → Fifo → Fifo
controlled w f = record { control = w; head = f.head; count = f.count; over = f.over }

-- status bit 3, receive overflow
unfoldable pub overflowed : Bool → Fifo → Fifo
overflowed over f = record { control = f.control; head = f.head; count = f.count; over = over }

-- emptied: TXREQ and status bit 3 are cleared
unfoldable pub emptied : Fifo → Fifo
emptied f = fresh (write TXREQ 0 f.control)

-- the oldest is sent; TXREQ is cleared when none is left
unfoldable pub sent : ℕ → Fifo → Fifo
sent frozen f =
    if eqb f.count 1 then controlled (write TXREQ 0 f.control) (taken frozen f) else taken frozen f

-- ---- the control word written

-- in Configuration every bit holds as written but UINC, which does nothing
unfoldable pub configured : ℕ → Fifo → Fifo
configured w f = controlled (write UINC 0 w) f

-- outside it UINC takes effect, then FRESET; both read 0
unfoldable pub commanded : (frozen w : ℕ) → Fifo → Fifo
commanded frozen w f =
    let a = controlled (settings (UINC := 0 ∷ FRESET := 0 ∷ []) w) f in
    let b = if flag UINC w then increased frozen a else a in
    if flag FRESET w then emptied b else b

-- ---- the mode changes

-- entering Configuration empties the FIFO, leaving it clears FRESET
abbrev pub turned : (entering : Bool) → Fifo → Fifo
turned true f = emptied f
turned false f = controlled (write FRESET 0 f.control) f
