-- What stays true of the transmit queue, whatever happens to it.
-- Assumes nothing.
use Rattle.std.specs.Prelude.{ℕ, ◌<◌, ◌≡◌, Bool, true, false, length}
use Rattle.field.specs.Field.{read}
use Rattle.fifo.specs.Control.{UINC, FRESET}
use Rattle.ring.specs.declared.queue.Queue.{Queue}
use Rattle.ring.specs.Ring.{depth}
use Rattle.ring.specs.Queue.{is_held, full}

-- a queue of 32 flags that shows one of its slots, a free one while there is one, and whose UINC reads 0; in Configuration no slot is
-- held and slot 0 is shown, and outside FRESET reads 0; where the queue is off no slot is held
pub record InOrder (configuring on : Bool) (frozen : ℕ) (q : Queue) : Type 0 where
  pub held : length q.held ≡ 32
  pub shown : q.shown < depth frozen
  pub vacant : full frozen q ≡ false → is_held q q.shown ≡ false
  pub uinc : read UINC q.control ≡ 0
  pub freset : configuring ≡ false → read FRESET q.control ≡ 0
  pub home : configuring ≡ true → q.shown ≡ 0
  pub none : configuring ≡ true → (k : ℕ) → is_held q k ≡ false
  pub off : on ≡ false → (k : ℕ) → is_held q k ≡ false
