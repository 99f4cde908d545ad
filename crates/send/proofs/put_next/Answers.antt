-- What is left of `send::put_next`: the head of each ask, and an ask with no bytes.
-- Assumes nothing.
use mathlib.Core.Path.{refl, sym}
use Rattle.spi.specs.declared.ask.Ask.{Ask}
use Rattle.send.proofs.Puts.{alone, idle}
use Rattle.send.proofs.put_next.Goals as goal

pub returns-in-Read : goal.returns-in-Read
returns-in-Read c = alone _ _ _ c.in-Read.is c.command.ensures refl refl refl c.put_head.ensures

pub returns-in-Checked : goal.returns-in-Checked
returns-in-Checked c = alone _ _ _ c.in-Checked.is c.checked_read.ensures refl refl refl c.put_head-in-Checked.ensures

pub returns-in-Word : goal.returns-in-Word
returns-in-Word c = alone _ _ _ c.in-Word.is c.write_word.ensures refl refl refl c.put_head-in-Word.ensures

pub returns-in-Reset : goal.returns-in-Reset
returns-in-Reset c = alone Ask.Reset _ _ c.in-Reset.is c.command-in-Reset.ensures refl refl refl c.put_head-in-Reset.ensures

pub returns-in-Wait : goal.returns-in-Wait
returns-in-Wait c = rw c.in-Wait.is (refl, sym (idle Ask.Wait _ _ refl refl))

pub returns-in-Nothing : goal.returns-in-Nothing
returns-in-Nothing c = rw c.in-Nothing.is (refl, sym (idle Ask.Nothing _ _ refl refl))
