-- What the generated proof of `rx_fifo::held::hold` leaves to show.
-- Assumes nothing.
use Rattle.rx_fifo.proofs.Bytes.{take_short, held_front}
use Rattle.rx_fifo.proofs.held.hold.Goals.{in-Body, in_default}
use Rattle.rx_fifo.proofs.held.hold.Goals as goal

pub returns-then-matches : goal.returns-then-matches
returns-then-matches c =
    elim c.match-matches.branch [
      | in-Body w ↦
          simp (c.put_at.ensures, c.at_most_64.ensures.0, w.in-Body.is, take_short) (held_front c.args.body.now c.args.rx.now)
      | in_default w ↦ cc (w.matches-is, c.if-matches.true)
    ]
