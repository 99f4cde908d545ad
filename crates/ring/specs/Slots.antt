-- What the definitions of a FIFO and of the transmit queue have alike: the laws of `Slots`.
-- Assumes nothing.
use mathlib.Core.Path.{refl}
use Rattle.std.specs.Prelude.{ℕ, ◌≡◌, Bool, true, false, [], ◌∷◌, if◌then◌else◌}
use Rattle.field.specs.Field.{flag, write}
use Rattle.field.specs.Settings.{◌:=◌, settings}
use Rattle.fifo.specs.Control.{UINC, FRESET, TXREQ}
use Rattle.ring.specs.declared.ring.Fifo.{Fifo}
use Rattle.ring.specs.declared.queue.Queue.{Queue}
use Rattle.ring.specs.Ring as ring
use Rattle.ring.specs.Queue as queue

-- a control word written outside Configuration: UINC, where `increased` is what it does, then FRESET; both read 0
abbrev pub commanded : {S : Type 0} → (S → ℕ) → (ℕ → S) → (ℕ → S → S) → (S → S) → ℕ → S → S
commanded word fresh controlled increased w s =
    let a = controlled (settings (UINC := 0 ∷ FRESET := 0 ∷ []) w) s in
    let b = if flag UINC w then increased a else a in
    if flag FRESET w then fresh (write TXREQ 0 (word b)) else b

abbrev pub fifo_word : Fifo → ℕ
fifo_word f = f.control

abbrev pub queue_word : Queue → ℕ
queue_word q = q.control

-- the queue's UINC takes effect where it is on
abbrev pub queue_increased : Bool → ℕ → Queue → Queue
queue_increased on frozen q = if on then queue.claimed frozen q else q

pub fifo_configures : (w : ℕ) (f : Fifo) → ring.configured w f ≡ ring.controlled (write UINC 0 w) f
unfolding ring.configured
fifo_configures w f = refl

pub fifo_commands : (on : Bool) (frozen w : ℕ) (f : Fifo)
    → ring.commanded frozen w f ≡ commanded fifo_word ring.fresh ring.controlled (ring.increased frozen) w f
unfolding ring.commanded ring.emptied
fifo_commands on frozen w f = refl

pub fifo_enters : (f : Fifo) → ring.turned true f ≡ ring.fresh (write TXREQ 0 f.control)
unfolding ring.emptied
fifo_enters f = refl

pub fifo_leaves : (f : Fifo) → ring.turned false f ≡ ring.controlled (write FRESET 0 f.control) f
fifo_leaves f = refl

pub queue_configures : (w : ℕ) (q : Queue) → queue.configured w q ≡ queue.controlled (write UINC 0 w) q
unfolding queue.configured
queue_configures w q = refl

pub queue_commands : (on : Bool) (frozen w : ℕ) (q : Queue)
    → queue.commanded on frozen w q ≡ commanded queue_word queue.fresh queue.controlled (queue_increased on frozen) w q
unfolding queue.commanded queue.emptied
queue_commands true frozen w q = refl
queue_commands false frozen w q = go (flag UINC w)
  where
    go : (b : Bool)
        → (let a = queue.controlled (settings (UINC := 0 ∷ FRESET := 0 ∷ []) w) q in if flag FRESET w then queue.fresh (write TXREQ 0 a.control) else a)
        ≡ (let a = queue.controlled (settings (UINC := 0 ∷ FRESET := 0 ∷ []) w) q in
        let c : Queue = if b then a else a in
        if flag FRESET w then queue.fresh (write TXREQ 0 c.control) else c)
    go true = refl
    go false = refl

pub queue_enters : (q : Queue) → queue.turned true q ≡ queue.fresh (write TXREQ 0 q.control)
unfolding queue.emptied
queue_enters q = refl

pub queue_leaves : (q : Queue) → queue.turned false q ≡ queue.controlled (write FRESET 0 q.control) q
queue_leaves q = refl
