-- `lines::Writer::message` meets its contract: seven times more is put.
-- Assumes nothing.
use Rattle.lines.proofs.Appends.{more}
use Rattle.lines.proofs.Writer.message.Goals as goal

pub returns : goal.returns
returns c =
    let z = more _ _ _ c.value.ensures (more _ _ _ c.byte-2.ensures c.bytes.ensures) in
    more _ _ _ c.put.ensures (more _ _ _ c.identifier.ensures (more _ _ _ c.byte.ensures (more _ _ _ c.flags.ensures z)))
