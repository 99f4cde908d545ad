-- What is proved of the registers' writes, as statements.
-- Assumes nothing.
use Rattle.std.specs.Prelude.{ℕ, ◌≤◌, ◌<◌, ◌≡◌, ◌⊎◌, Bool, true, false, List, length, get_or, eqb, if◌then◌else◌}
use Rattle.field.specs.Field.{read, flag, digit}
use Rattle.configuration.specs.CanControl.{TXQEN, OPMOD, REQOP}
use Rattle.chip.specs.OscillatorControl.{PLLEN, PLLRDY}
use Rattle.fifo.specs.Control.{TXEN, FRESET}
use Rattle.place.specs.declared.Register.{Register}
use Rattle.ring.specs.Ring.{depth}
use Rattle.ring.specs.Layout.{is_area}
use Rattle.ring.specs.Laws.{slot_end}
use Rattle.state.specs.declared.Model.{Model}
use Rattle.state.specs.Model.{fifo_at, frozen_at}
use Rattle.bank.specs.Registers.{word_of, con_set, con_written, register_written}

-- outside Configuration no write changes FSIZE, PLSIZE, TXEN and RXTSEN of any FIFO, nor of the queue
abbrev pub FrozenOutside : Type 0
FrozenOutside =
    (m : Model) (r : Register) (w : ℕ) → m.fixed.configuring ≡ false → (register_written m r w).model.fixed.frozen ≡ m.fixed.frozen

-- every slot of FIFOs 1 to 31, and of the queue where it is on, lies in RAM; that they stand in order and share no byte holds of any control words (ring's laws)
abbrev pub Laid : Bool → List ℕ → Type 0
Laid q ws = (n k : ℕ) → is_area q n ≡ true → n ≤ 31 → k < depth (get_or ws n 0) → slot_end q ws n k ≤ 2048

-- a CiCON write that leaves Configuration: granted, the chip is outside and the slots are laid out; not granted, the write is done and the
-- mode stays
pub record Leaves (m : Model) (w : ℕ) : Type 0 where
  pub outside : (con_written m w).granted ≡ true → (con_written m w).model.fixed.configuring ≡ false
  pub laid : (con_written m w).granted ≡ true → Laid (con_written m w).model.fixed.queue (con_written m w).model.fixed.frozen
  pub denied : (con_written m w).granted ≡ false → (con_written m w).model ≡ con_set m w true

abbrev pub Leaving : Type 0
Leaving = (m : Model) (w : ℕ) → m.fixed.configuring ≡ true → eqb (read REQOP w) 4 ≡ false → Leaves m w

-- ---- the mode

-- OPMOD reads 4 in Configuration, and outside it what REQOP reads
abbrev pub OpmodShows : Type 0
OpmodShows = (m : Model) → read OPMOD (word_of m Register.Con) ≡ (if m.fixed.configuring then 4 else read REQOP (word_of m Register.Con))

-- REQOP is taken at once: after the write OPMOD shows it, and Configuration where leaving is not granted
abbrev pub ModeTaken : Type 0
ModeTaken = (m : Model) (w : ℕ) → read OPMOD (word_of (con_written m w).model Register.Con) ≡ (if (con_written m w).granted then read REQOP w else 4)

-- in Configuration status and user address read 0
abbrev pub Silent : Type 0
Silent = (m : Model) → m.fixed.configuring ≡ true → (n : ℕ) → (word_of m (Register.Status n) ≡ 0) × (word_of m (Register.Address n) ≡ 0)

-- and no write of a control word, UINC set or not, moves a ring
abbrev pub UincInside : Type 0
UincInside =
    (m : Model) → m.fixed.configuring ≡ true → (n w k : ℕ)
    → ((fifo_at (register_written m (Register.Control n) w).model k).head ≡ (fifo_at m k).head)
    × ((fifo_at (register_written m (Register.Control n) w).model k).count ≡ (fifo_at m k).count)

-- ---- the transmit queue

-- TXQEN reads whether the queue is on
abbrev pub TxqenReads : Type 0
TxqenReads = (m : Model) → read TXQEN (word_of m Register.Con) ≡ digit m.fixed.queue

-- a write that finds the chip outside Configuration leaves it, also one that enters
abbrev pub TxqenOutside : Type 0
TxqenOutside = (m : Model) (r : Register) (w : ℕ) → m.fixed.configuring ≡ false → (register_written m r w).model.fixed.queue ≡ m.fixed.queue

-- one of CiCON that finds it in Configuration takes it, also where it leaves or asks to and is not granted
abbrev pub TxqenInside : Type 0
TxqenInside = (m : Model) (w : ℕ) → m.fixed.configuring ≡ true → (con_written m w).model.fixed.queue ≡ flag TXQEN w

-- in Configuration, or with TXQEN at 0
abbrev pub Resting : Model → Type 0
Resting m = (m.fixed.configuring ≡ true) ⊎ (m.fixed.queue ≡ false)

-- the queue's status and user address read 0
abbrev pub QueueSilent : Type 0
QueueSilent = (m : Model) → Resting m → (word_of m Register.QueueStatus ≡ 0) × (word_of m Register.QueueAddress ≡ 0)

-- and no write of its control word, UINC set or not, claims a slot or shows another; outside Configuration FRESET empties the queue
abbrev pub QueueUincIdle : Type 0
QueueUincIdle =
    (m : Model) → Resting m → (w : ℕ) → flag FRESET w ≡ false
    → ((register_written m Register.QueueControl w).model.queue.held ≡ m.queue.held)
    × ((register_written m Register.QueueControl w).model.queue.shown ≡ m.queue.shown)

-- its TXEN reads 1 after any write of its control word, if it did before
abbrev pub QueueTxen : Type 0
QueueTxen =
    (m : Model) (w : ℕ) → 0 < length m.fixed.frozen → read TXEN (frozen_at m 0) ≡ 1
    → read TXEN (word_of (register_written m Register.QueueControl w).model Register.QueueControl) ≡ 1

-- ---- the oscillator: PLLRDY reads as PLLEN

abbrev pub PllrdyFollows : Type 0
PllrdyFollows = (m : Model) → read PLLRDY (word_of m Register.Osc) ≡ read PLLEN (word_of m Register.Osc)

-- ---- all of these

pub record Laws : Type 0 where
  pub frozen_outside : FrozenOutside
  pub leaving : Leaving
  pub opmod_shows : OpmodShows
  pub mode_taken : ModeTaken
  pub silent : Silent
  pub uinc_inside : UincInside
  pub txqen_reads : TxqenReads
  pub txqen_outside : TxqenOutside
  pub txqen_inside : TxqenInside
  pub queue_silent : QueueSilent
  pub queue_uinc_idle : QueueUincIdle
  pub queue_txen : QueueTxen
  pub pllrdy_follows : PllrdyFollows
