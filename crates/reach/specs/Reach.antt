-- The states that the modelled chip gets into, whatever is exchanged with it and whatever happens on the bus.
-- Assumes nothing.
use Rattle.std.specs.Prelude.{ℕ, ◌≤◌, ◌<◌, ◌≡◌, Bool, true, false, List, [], ◌∷◌, length}
use Rattle.field.specs.Field.{read}
use Rattle.configuration.specs.CanControl.{REQOP}
use Rattle.fifo.specs.Control.{UINC, FRESET}
use Rattle.ring.specs.declared.ring.Fifo.{Fifo}
use Rattle.ring.specs.Ring.{depth}
use Rattle.ring.specs.Layout.{end}
use Rattle.ring.specs.QueueOrder.{InOrder as QueueInOrder}
use Rattle.state.specs.declared.Setup.{Setup}
use Rattle.state.specs.declared.Model.{Model}
use Rattle.state.specs.Model.{areas, reset, fifo_at, frozen_at}
use Rattle.place.specs.declared.Register.{Register}
use Rattle.bank.specs.Registers.{word_of}
use Rattle.model.specs.Exchange.{exchange}
use Rattle.reach.specs.Bus.{Bus, stepped}

-- what a chip meets: bytes sent and how many are wanted, or a bus step
pub data Happening : Type 0 where
  Exchange : List ℕ → ℕ → Happening
  On : Bus → Happening

abbrev pub happens : Happening → Model → Model
happens (Exchange s want) m = (exchange s want m).model
happens (On b) m = stepped b m

-- one after the other
unfoldable pub lived : List Happening → Model → Model
lived [] m = m
lived (x ∷ xs) m = lived xs (happens x m)

-- a chip that was reset with any bytes in its RAM, and has met anything since
pub record Reached (m : Model) : Type 0 where
  pub ram : List ℕ
  pub size : length ram ≡ 2048
  pub since : List Happening
  pub is : m ≡ lived since (reset ram)

-- ---- what is true of every such chip

-- a FIFO whose oldest stands in one of its slots, which holds no more than it has slots, and whose UINC reads 0; in Configuration it
-- is empty, with the ring at slot 0, and outside FRESET reads 0
pub record InOrder (configuring : Bool) (frozen : ℕ) (f : Fifo) : Type 0 where
  pub head : f.head < depth frozen
  pub count : f.count ≤ depth frozen
  pub uinc : read UINC f.control ≡ 0
  pub home : configuring ≡ true → f.head ≡ 0
  pub empty : configuring ≡ true → f.count ≡ 0
  pub freset : configuring ≡ false → read FRESET f.control ≡ 0

-- the registers that hold what is written are all there
pub record AllThere (s : Setup) : Type 0 where
  pub plain : length s.plain ≡ 6
  pub filter : length s.filter ≡ 8
  pub object : length s.object ≡ 32
  pub mask : length s.mask ≡ 32

-- every FIFO is in order and so is the queue; outside Configuration all their slots are in RAM, and REQOP asks for another mode
pub record Valid (m : Model) : Type 0 where
  pub frozens : length m.fixed.frozen ≡ areas
  pub fifos : length m.fifo ≡ areas
  pub ram : length m.ram ≡ 2048
  pub setup : AllThere m.setup
  pub fifo : (n : ℕ) → InOrder m.fixed.configuring (frozen_at m n) (fifo_at m n)
  pub layout : m.fixed.configuring ≡ false → end m.fixed.queue m.fixed.frozen 31 ≤ 2048
  pub queue : QueueInOrder m.fixed.configuring m.fixed.queue (frozen_at m 0) m.queue
  pub mode : m.fixed.configuring ≡ false → read REQOP m.setup.con ≡ 4 → ⊥

abbrev pub AlwaysValid : Type 0
AlwaysValid = (m : Model) → Reached m → Valid m

-- UINC of every control word reads 0
abbrev pub UincReads0 : Type 0
UincReads0 = (m : Model) → Reached m → (n : ℕ) → read UINC (word_of m (Register.Control n)) ≡ 0

-- outside Configuration so does FRESET
abbrev pub FresetReads0 : Type 0
FresetReads0 = (m : Model) → Reached m → m.fixed.configuring ≡ false → (n : ℕ) → read FRESET (word_of m (Register.Control n)) ≡ 0

-- and so it is of the queue's
abbrev pub QueueReads0 : Type 0
QueueReads0 =
    (m : Model) → Reached m
    → (read UINC (word_of m Register.QueueControl) ≡ 0) × (m.fixed.configuring ≡ false → read FRESET (word_of m Register.QueueControl) ≡ 0)
