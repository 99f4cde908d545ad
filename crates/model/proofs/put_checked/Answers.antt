-- `model::put_checked` meets its contract.
-- Assumes nothing.
use Rattle.std.proofs.Common.{◌++◌}
use Rattle.words.specs.Words.{le_bytes, be_bytes}
use Rattle.words.proofs.Laws.{le_length}
use Rattle.crc.specs.Crc.{crc_of}
use Rattle.parts.proofs.Laws.{put_behind}
use Rattle.model.specs.Exchange.{checked_bytes}
use Rattle.model.proofs.put_checked.Goals as goal

pub returns : goal.returns
unfolding checked_bytes
returns c =
    let a = c.args in
    rw (c.put_at.ensures, c.put_word.ensures, c.be_bytes-b.ensures, c.crc_of.ensures, ← le_length a.w)
    (put_behind a.rx.now (le_bytes a.w) (be_bytes (crc_of (a.sent.now ++ le_bytes a.w))))
