-- The modelled chip: its state after RESET, how its parts are looked at, and the few ways in which they change.
-- Assumes nothing.
use Rattle.std.specs.Prelude.{ℕ, true, List, [], ◌∷◌, length, get_or, set, take, replicate}
use Rattle.field.specs.Field.{flag}
use Rattle.parts.specs.Parts.{put}
use Rattle.configuration.specs.CanControl.{CiCON, TXQEN}
use Rattle.configuration.specs.TimeStampControl.{CiTSCON}
use Rattle.bit_timing.specs.Nominal.{CiNBTCFG}
use Rattle.bit_timing.specs.Data.{CiDBTCFG}
use Rattle.bit_timing.specs.Delay.{CiTDC}
use Rattle.interrupt.specs.Interrupt.{CiINT}
use Rattle.chip.specs.OscillatorControl.{OSC}
use Rattle.chip.specs.IoControl.{IOCON}
use Rattle.filter.specs.Control.{CiFLTCON}
use Rattle.filter.specs.Object.{CiFLTOBJ}
use Rattle.filter.specs.Mask.{CiMASK}
use Rattle.fifo.specs.Control.{CiFIFOCON}
use Rattle.fifo.specs.TxQueueControl.{CiTXQCON}
use Rattle.ring.specs.declared.ring.Fifo.{Fifo}
use Rattle.ring.specs.declared.queue.Queue.{Queue}
use Rattle.ring.specs.Ring.{fresh}
use Rattle.ring.specs.Queue as queue
use Rattle.state.specs.declared.Fixed.{Fixed}
use Rattle.state.specs.declared.Setup.{Setup}
use Rattle.state.specs.declared.Model.{Model}

-- ---- RESET

-- FIFO n is entry n of a list of 32; entry 0 is no FIFO, and of the control words it is the queue's
abbrev pub areas : ℕ
areas = 32

-- the chip is in Configuration, and every control word is the data sheet's
abbrev pub fixed₀ : Fixed
fixed₀ = record { configuring = true; queue = flag TXQEN CiCON.reset; frozen = set (replicate areas CiFIFOCON.reset) 0 CiTXQCON.reset }

-- registers that hold what is written
abbrev pub setup₀ : Setup
setup₀ = record {
  con = CiCON.reset;
  osc = OSC.reset;
  plain = CiNBTCFG.reset ∷ CiDBTCFG.reset ∷ CiTDC.reset ∷ CiTSCON.reset ∷ CiINT.reset ∷ IOCON.reset ∷ [];
  filter = replicate 8 CiFLTCON.reset;
  object = replicate 32 CiFLTOBJ.reset;
  mask = replicate 32 CiMASK.reset;
}

-- registers to data sheet reset words, RAM kept
unfoldable pub reset : List ℕ → Model
reset ram = record {
  fixed = fixed₀;
  setup = setup₀;
  fifo = replicate areas (fresh CiFIFOCON.reset);
  queue = queue.fresh CiTXQCON.reset;
  ram = ram;
}

-- ---- the parts

-- what stands for a FIFO beyond the list
abbrev pub blank : Fifo
blank = fresh 0

abbrev pub fifo_at : Model → ℕ → Fifo
fifo_at m n = get_or m.fifo n blank

-- FIFO n's control word as it was last written in Configuration
abbrev pub frozen_at : Model → ℕ → ℕ
frozen_at m n = get_or m.fixed.frozen n 0

-- ---- changes

-- of what is fixed outside Configuration
abbrev pub with_fixed : Model → Fixed → Model
with_fixed m x = record { fixed = x; setup = m.setup; fifo = m.fifo; queue = m.queue; ram = m.ram }

-- of what only holds as written
abbrev pub with_setup : Model → Setup → Model
with_setup m s = record { fixed = m.fixed; setup = s; fifo = m.fifo; queue = m.queue; ram = m.ram }

-- of FIFO n
abbrev pub with_fifo : Model → ℕ → Fifo → Model
with_fifo m n f = record { fixed = m.fixed; setup = m.setup; fifo = set m.fifo n f; queue = m.queue; ram = m.ram }

-- of the transmit queue
abbrev pub with_queue : Model → Queue → Model
with_queue m q = record { fixed = m.fixed; setup = m.setup; fifo = m.fifo; queue = q; ram = m.ram }

-- of RAM: bytes from place a on; what would lie behind its end is lost
abbrev pub written : Model → ℕ → List ℕ → Model
written m a bs = record { fixed = m.fixed; setup = m.setup; fifo = m.fifo; queue = m.queue; ram = take (length m.ram) (put m.ram a bs) }
