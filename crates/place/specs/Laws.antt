-- What is proved of the registers' addresses, as statements.
-- Assumes nothing.
use Rattle.std.specs.Prelude.{ℕ, ◌^◌, ◌≤◌, ◌<◌, ◌≡◌, Bool, true, false, ◌||◌, List, [], ◌∷◌, eqb, Some}
use Rattle.fifo.specs.Control.{CiFIFOCON}
use Rattle.fifo.specs.Status.{CiFIFOSTA}
use Rattle.fifo.specs.UserAddress.{CiFIFOUA}
use Rattle.fifo.specs.TxQueueControl.{CiTXQCON}
use Rattle.fifo.specs.TxQueueStatus.{CiTXQSTA}
use Rattle.fifo.specs.TxQueueUserAddress.{CiTXQUA}
use Rattle.configuration.specs.CanControl.{CiCON}
use Rattle.configuration.specs.TimeStampControl.{CiTSCON}
use Rattle.bit_timing.specs.Nominal.{CiNBTCFG}
use Rattle.bit_timing.specs.Data.{CiDBTCFG}
use Rattle.bit_timing.specs.Delay.{CiTDC}
use Rattle.filter.specs.Control.{CiFLTCON}
use Rattle.filter.specs.Object.{CiFLTOBJ}
use Rattle.filter.specs.Mask.{CiMASK}
use Rattle.interrupt.specs.Interrupt.{CiINT}
use Rattle.chip.specs.OscillatorControl.{OSC}
use Rattle.chip.specs.IoControl.{IOCON}
use Rattle.registers.specs.Registers.{kinds, addresses_of}
use Rattle.place.specs.declared.Register.{Register}
use Rattle.place.specs.Place.{register_at, is_carried}

-- the registers with the numbers from low to high stand at these addresses
abbrev pub Stand : (low high : ℕ) → (ℕ → ℕ) → (ℕ → Register) → Type 0
Stand low high address r = (n : ℕ) → low ≤ n → n ≤ high → register_at (address n) ≡ Some (r n)

-- every register of the table is carried, at its address
pub record Carried : Type 0 where
  pub control : Stand 1 31 CiFIFOCON.address Register.Control
  pub status : Stand 1 31 CiFIFOSTA.address Register.Status
  pub user_address : Stand 1 31 CiFIFOUA.address Register.Address
  pub filter : Stand 0 7 CiFLTCON.address Register.Filter
  pub object : Stand 0 31 CiFLTOBJ.address Register.Object
  pub mask : Stand 0 31 CiMASK.address Register.Mask
  pub con : register_at (CiCON.address 0) ≡ Some Register.Con
  pub osc : register_at (OSC.address 0) ≡ Some Register.Osc
  pub nominal : register_at (CiNBTCFG.address 0) ≡ Some (Register.Plain 0)
  pub data_phase : register_at (CiDBTCFG.address 0) ≡ Some (Register.Plain 1)
  pub delay : register_at (CiTDC.address 0) ≡ Some (Register.Plain 2)
  pub stamp : register_at (CiTSCON.address 0) ≡ Some (Register.Plain 3)
  pub interrupt : register_at (CiINT.address 0) ≡ Some (Register.Plain 4)
  pub queue_control : register_at (CiTXQCON.address 0) ≡ Some Register.QueueControl
  pub queue_status : register_at (CiTXQSTA.address 0) ≡ Some Register.QueueStatus
  pub queue_address : register_at (CiTXQUA.address 0) ≡ Some Register.QueueAddress
  pub pins : register_at (IOCON.address 0) ≡ Some (Register.Plain 5)

-- a number is one of a list
abbrev pub among : List ℕ → ℕ → Bool
among [] a = false
among (x ∷ xs) a = eqb a x || among xs a

-- of all addresses, the table's are carried and no others
abbrev pub Exactly : Type 0
Exactly = (a : ℕ) → is_carried a ≡ among (addresses_of kinds) a

-- a register's address has 12 bits: no command cuts it
abbrev pub Short : Type 0
Short = (a : ℕ) → is_carried a ≡ true → a < 2 ^ 12

pub record Laws : Type 0 where
  pub carried : Carried
  pub exactly : Exactly
  pub short : Short
