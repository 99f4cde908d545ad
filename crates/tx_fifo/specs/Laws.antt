-- Why a push to FIFO 0 is one to the transmit queue, as a statement.
-- Assumes nothing.
use Rattle.std.specs.Prelude.{◌≡◌}
use Rattle.fifo.specs.Control.{CiFIFOCON}
use Rattle.fifo.specs.Status.{CiFIFOSTA, TFNRFNIF}
use Rattle.fifo.specs.UserAddress.{CiFIFOUA}
use Rattle.fifo.specs.TxQueueControl.{CiTXQCON}
use Rattle.fifo.specs.TxQueueStatus.{CiTXQSTA, TXQNIF}
use Rattle.fifo.specs.TxQueueUserAddress.{CiTXQUA}

-- the queue's registers are at that number's addresses, and the bit of status that says whether there is room is the same
abbrev pub QueueIsZero : Type 0
QueueIsZero =
    (CiFIFOCON.address 0 ≡ CiTXQCON.address 0)
    × (CiFIFOSTA.address 0 ≡ CiTXQSTA.address 0)
    × (CiFIFOUA.address 0 ≡ CiTXQUA.address 0)
    × (TFNRFNIF ≡ TXQNIF)

pub record Laws : Type 0 where
  pub queue_is_zero : QueueIsZero
