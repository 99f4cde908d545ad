-- Each arm's bytes are what the definition has for that ask.
use Rattle.spi.specs.Ask.{exchange_of}
use Rattle.parts.specs.Parts.{zeroed}
use Rattle.spi.specs.Instruction.{command_of}
use Rattle.words.specs.Words.{be_bytes, le_bytes}
use Rattle.spi.proofs.ask.exchange_of.Goals as goal

pub returns-in-Read : goal.returns-in-Read
unfolding exchange_of zeroed command_of be_bytes le_bytes
returns-in-Read c = simp (c.command_head.ensures, c.in-Read.is)

pub returns-in-Checked : goal.returns-in-Checked
unfolding exchange_of zeroed command_of be_bytes le_bytes
returns-in-Checked c = simp (c.checked_head.ensures, c.in-Checked.is)

pub returns-in-Word : goal.returns-in-Word
unfolding exchange_of zeroed command_of be_bytes le_bytes
returns-in-Word c = simp (c.write_word.ensures, c.in-Word.is)

pub returns-in-Body : goal.returns-in-Body
unfolding exchange_of zeroed command_of be_bytes le_bytes
returns-in-Body c = simp (c.command_head-in-Body.ensures, c.in-Body.is)

pub returns-in-Reset : goal.returns-in-Reset
unfolding exchange_of zeroed command_of be_bytes le_bytes
returns-in-Reset c = simp (c.command_head-in-Reset.ensures, c.in-Reset.is)
