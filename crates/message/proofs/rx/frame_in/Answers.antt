-- Each part of the frame is what the definition has for it.
use native.Mathlib.Nat.{add-sub_cancel_left}
use Rattle.message.specs.Message.{body_at, message_in}
use Rattle.message.proofs.rx.frame_in.Goals as goal

pub returns : goal.returns
unfolding message_in
returns c =
    simp (c.seq_in.ensures, c.filter_in.ensures, c.dlc_of.ensures.0, c.hold.ensures, c.stamp_in.ensures, c.header_of.ensures, c.le_at.ensures, c.le_at-w.ensures, add-sub_cancel_left (body_at c.args.stamped) c.args.n, c.requires.0)
