-- The modelled chip's registers: how they read, and what writing them does.
-- Assumes nothing.
use Rattle.std.specs.Prelude.{ℕ, Bool, true, false, ◌&&◌, not, map, get_or, set, leb, eqb, if◌then◌else◌}
use Rattle.field.specs.Field.{read, write, flag, digit}
use Rattle.configuration.specs.CanControl.{STEF, TXQEN, OPMOD, REQOP}
use Rattle.chip.specs.OscillatorControl.{PLLEN, PLLRDY}
use Rattle.fifo.specs.Control.{TXEN}
use Rattle.fifo.specs.Status.{RXOVIF}
use Rattle.place.specs.declared.Register.{Register}
use Rattle.ring.specs.Ring.{shown, configured, commanded, turned, overflowed}
use Rattle.ring.specs.Registers.{frozen_fields, copied, control, status}
use Rattle.ring.specs.Queue as queue
use Rattle.ring.specs.Layout.{end, slot_at}
use Rattle.state.specs.declared.Fixed.{Fixed}
use Rattle.state.specs.declared.Model.{Model}
use Rattle.bank.specs.declared.writing.Written.{Written}
use Rattle.state.specs.Model.{fifo_at, frozen_at, with_fixed, with_setup, with_fifo, with_queue}

-- ---- reading

-- Configuration is mode 4; outside it the mode is the one last asked for
unfoldable pub mode_of : Model → ℕ
mode_of m = if m.fixed.configuring then 4 else read REQOP m.setup.con

-- the slot that FIFO n shows
unfoldable pub shown_at : Model → ℕ → ℕ
shown_at m n = slot_at m.fixed.queue m.fixed.frozen n (shown (frozen_at m n) (fifo_at m n))

-- the queue acts outside Configuration with TXQEN at 1
abbrev pub queue_acts : Fixed → Bool
queue_acts x = not x.configuring && x.queue

-- the slot that the queue shows
unfoldable pub queue_shown : Model → ℕ
queue_shown m = slot_at m.fixed.queue m.fixed.frozen 0 m.queue.shown

-- OPMOD always shows the mode, and TXQEN whether the queue is on; PLLRDY follows PLLEN; in Configuration status and user address read 0,
-- and with TXQEN at 0 the queue's do
unfoldable pub word_of : Model → Register → ℕ
word_of m Register.Con = write TXQEN (digit m.fixed.queue) (write OPMOD (mode_of m) m.setup.con)
word_of m Register.Osc = write PLLRDY (read PLLEN m.setup.osc) m.setup.osc
word_of m (Register.Plain k) = get_or m.setup.plain k 0
word_of m (Register.Filter k) = get_or m.setup.filter k 0
word_of m (Register.Object k) = get_or m.setup.object k 0
word_of m (Register.Mask k) = get_or m.setup.mask k 0
word_of m (Register.Control n) = control (frozen_at m n) (fifo_at m n)
word_of m (Register.Status n) = if m.fixed.configuring then 0 else status (frozen_at m n) (fifo_at m n)
word_of m (Register.Address n) = if m.fixed.configuring then 0 else shown_at m n
word_of m Register.QueueControl = copied frozen_fields (frozen_at m 0) m.queue.control
word_of m Register.QueueStatus = if queue_acts m.fixed then queue.status (frozen_at m 0) m.queue else 0
word_of m Register.QueueAddress = if queue_acts m.fixed then queue_shown m else 0

-- ---- writing CiCON

-- TXQEN changes only in Configuration: it counts by the mode that the write finds
abbrev pub queue_after : Fixed → ℕ → Bool
queue_after x w = if x.configuring then flag TXQEN w else x.queue

-- another CiCON, in Configuration or outside it
abbrev pub con_set : Model → ℕ → Bool → Model
con_set m w configuring =
    let s = m.setup in
    record {
      fixed = record { configuring = configuring; queue = queue_after m.fixed w; frozen = m.fixed.frozen };
      setup = record { con = w; osc = s.osc; plain = s.plain; filter = s.filter; object = s.object; mask = s.mask };
      fifo = m.fifo;
      queue = m.queue;
      ram = m.ram;
    }

-- leaving is granted: STEF at 0, and all FIFOs, with the queue where the word written has TXQEN, within 2,048 bytes
unfoldable pub granted : Fixed → ℕ → Bool
granted x w = not (flag STEF w) && leb (end (flag TXQEN w) x.frozen 31) 2048

-- every FIFO's part of entering Configuration or leaving it, and the queue's
abbrev pub turned_all : (entering : Bool) → Model → Model
turned_all entering m = record {
  fixed = m.fixed;
  setup = m.setup;
  fifo = map (turned entering) m.fifo;
  queue = queue.turned entering m.queue;
  ram = m.ram;
}

-- a write that is all done; one that asked to leave and was not granted
abbrev pub settled : Model → Written
settled m = record { model = m; granted = true }

abbrev pub denied : Model → Written
denied m = record { model = m; granted = false }

-- where leaving is asked for and not granted the write is done and the mode stays. Otherwise REQOP is taken at once; asking for the mode
-- one is in changes no FIFO
unfoldable pub con_written : Model → ℕ → Written
con_written m w =
    if m.fixed.configuring && not (eqb (read REQOP w) 4) && not (granted m.fixed w) then denied (con_set m w true)
    else if eqb (read REQOP w) 4 then if m.fixed.configuring then settled (con_set m w true) else settled (con_set (turned_all true m) w true)
    else if m.fixed.configuring then settled (con_set (turned_all false m) w false)
    else settled (con_set m w false)

-- ---- writing the others

abbrev pub frozen_set : Model → (n w : ℕ) → Model
frozen_set m n w = with_fixed m (record { configuring = m.fixed.configuring; queue = m.fixed.queue; frozen = set m.fixed.frozen n w })

-- FSIZE, PLSIZE, TXEN and RXTSEN change only in Configuration
unfoldable pub control_written : Model → (n w : ℕ) → Model
control_written m n w =
    if m.fixed.configuring then with_fifo (frozen_set m n w) n (configured w (fifo_at m n))
    else with_fifo m n (commanded (frozen_at m n) w (fifo_at m n))

-- bit 3 is cleared by writing 0 there
unfoldable pub status_written : Model → (n w : ℕ) → Model
status_written m n w = if flag RXOVIF w then m else with_fifo m n (overflowed false (fifo_at m n))

-- the queue's: TXEN is 1 whatever is written
unfoldable pub queue_written : Model → ℕ → Model
queue_written m w =
    if m.fixed.configuring then with_queue (frozen_set m 0 (write TXEN 1 w)) (queue.configured w m.queue)
    else with_queue m (queue.commanded m.fixed.queue (frozen_at m 0) w m.queue)

-- registers that hold as written
module _ (m : Model) where
  abbrev pub osc_set : ℕ → Model
  osc_set w =
      let s = m.setup in
      with_setup m (record { con = s.con; osc = w; plain = s.plain; filter = s.filter; object = s.object; mask = s.mask })

  abbrev pub plain_set : (k w : ℕ) → Model
  plain_set k w =
      let s = m.setup in
      with_setup m (record { con = s.con; osc = s.osc; plain = set s.plain k w; filter = s.filter; object = s.object; mask = s.mask })

  abbrev pub filter_set : (k w : ℕ) → Model
  filter_set k w =
      let s = m.setup in
      with_setup m (record { con = s.con; osc = s.osc; plain = s.plain; filter = set s.filter k w; object = s.object; mask = s.mask })

  abbrev pub object_set : (k w : ℕ) → Model
  object_set k w =
      let s = m.setup in
      with_setup m (record { con = s.con; osc = s.osc; plain = s.plain; filter = s.filter; object = set s.object k w; mask = s.mask })

  abbrev pub mask_set : (k w : ℕ) → Model
  mask_set k w =
      let s = m.setup in
      with_setup m (record { con = s.con; osc = s.osc; plain = s.plain; filter = s.filter; object = s.object; mask = set s.mask k w })

-- a register written; user address writes do nothing, nor do those of the queue's status
unfoldable pub register_written : Model → Register → ℕ → Written
register_written m Register.Con w = con_written m w
register_written m Register.Osc w = settled (osc_set m w)
register_written m (Register.Plain k) w = settled (plain_set m k w)
register_written m (Register.Filter k) w = settled (filter_set m k w)
register_written m (Register.Object k) w = settled (object_set m k w)
register_written m (Register.Mask k) w = settled (mask_set m k w)
register_written m (Register.Control n) w = settled (control_written m n w)
register_written m (Register.Status n) w = settled (status_written m n w)
register_written m (Register.Address n) w = settled m
register_written m Register.QueueControl w = settled (queue_written m w)
register_written m Register.QueueStatus w = settled m
register_written m Register.QueueAddress w = settled m
