-- What is left of `send::put_body`: that a buffer that is too short stays, and what it holds otherwise.
-- Assumes nothing.
use mathlib.Core.Path.{sym, ◌∙◌}
use lib.ListN.{take}
use borrow.Author.Tests.{le-leb, lt-leb}
use Rattle.parts.proofs.Laws.{put_behind}
use Rattle.words.specs.Words.{be_bytes}
use Rattle.spi.specs.declared.instruction.OpCode.{OpCode}
use Rattle.spi.specs.Instruction.{command_of}
use Rattle.spi.specs.Ask.{sent}
use Rattle.send.proofs.Puts.{too_short, all_put}
use Rattle.send.proofs.put_body.Goals.{then-body-n-via-then-body-n, then-body-n-via-else-body-n+then-not-has_room}
use Rattle.send.proofs.put_body.Goals as goal

pub returns-then-body-n : goal.returns-then-body-n
unfolding sent command_of be_bytes
returns-then-body-n c =
    too_short _ _ _
    (elim c.then-body-n.branch [
      | then-body-n-via-then-body-n w ↦ simp (lt-leb _ _ w.if-body-n.true)
      | then-body-n-via-else-body-n+then-not-has_room w ↦ simp (le-leb _ _ w.if-body-n.false, sym w.has_room.ensures ∙ w.if-not-has_room.true)
    ])

pub returns : goal.returns
unfolding sent command_of be_bytes
returns c =
    let a = c.args in
    all_put _ _ _ (simp (le-leb _ _ c.if-body-n.false, sym c.has_room.ensures ∙ c.if-not-has_room.false))
    (rw (c.put_at-2.ensures, c.put_at.ensures, c.command.ensures) (put_behind a.tx.now (command_of OpCode.Write a.address) (take a.n a.body.now)))
