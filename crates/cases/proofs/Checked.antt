-- The table of checked cases holds: one computation.
-- Assumes nothing.
use mathlib.Core.Path.{refl}
use Rattle.words.specs.Words as W
use Rattle.fifo.specs.Control as C
use Rattle.ring.specs.Ring as N
use Rattle.ring.specs.Layout as L
use Rattle.place.specs.Place as P
use Rattle.operation.specs.Operation as A
use Rattle.state.specs.Model as S
use Rattle.bank.specs.Registers as G
use Rattle.model.specs.Exchange as X
use Rattle.field.specs.Field as F
use Rattle.header.specs.Dlc as D
use Rattle.header.specs.Header as H
use Rattle.message.specs.Object as O
use Rattle.message.specs.Message as M
use Rattle.spi.specs.Instruction as I
use Rattle.spi.specs.Ram as R
use Rattle.cases.specs.Cases.{cases, AsSaid}

pub checked : AsSaid
unfolding cases F.with_field W.le_bytes W.be_bytes W.le_at W.be_at I.command_of R.in_range R.access_of D.dlc_of H.word0 H.word1 O.padded O.object_bytes M.check_of M.encoding C.payload_of N.sending N.depth L.stamped L.size L.room L.end A.in_ram A.write_at A.asked P.single P.register_at S.reset N.fresh N.controlled N.configured G.mode_of G.granted G.con_written G.control_written G.register_written X.performed X.exchange
checked = refl
