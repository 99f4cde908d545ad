-- Two chips that are the same but for some fields of a register, and act alike.
-- Assumes nothing.
use Rattle.std.specs.Prelude.{ℕ, ◌≡◌, List, [], ◌∷◌, length, if◌then◌else◌}
use Rattle.laws.specs.All.{all}
use Rattle.field.specs.Field.{Field, ◌‥◌, bit, read, apart}
use Rattle.configuration.specs.CanControl.{CiCON, OPMOD, REQOP}
use Rattle.fifo.specs.Control.{CiFIFOCON, RTREN}
use Rattle.header.specs.declared.Header.{Header}
use Rattle.place.specs.declared.Register.{Register}
use Rattle.operation.specs.declared.operation.Operation.{Operation}
use Rattle.operation.specs.Operation.{asked}
use Rattle.ring.specs.declared.ring.Fifo.{Fifo}
use Rattle.ring.specs.Laws.{Alike}
use Rattle.state.specs.declared.Setup.{Setup}
use Rattle.state.specs.declared.Model.{Model}
use Rattle.state.specs.Model.{fifo_at, frozen_at}
use Rattle.bank.specs.Registers.{word_of, con_written, register_written}
use Rattle.model.specs.Exchange.{exchange}
use Rattle.bus.specs.Bus.{send_output, deliver_of}
use Rattle.bus.specs.Queue.{queue_output}
use Rattle.bus.specs.Sort.{sort_of}
use Rattle.bus.specs.Numbers.{sorted_numbers}
use Rattle.reach.specs.Reach.{Happening, happens}

-- ---- what is the same, and what acting alike is

-- two FIFOs that are the same but for what W leaves open in their control words
pub record SameFifo (W : ℕ → ℕ → Type 0) (f g : Fifo) : Type 0 where
  pub control : W f.control g.control
  pub head : f.head ≡ g.head
  pub count : f.count ≡ g.count
  pub over : f.over ≡ g.over

-- the registers that hold what is written, but CiCON
abbrev pub but_con : Setup → Setup
but_con s = record { con = 0; osc = s.osc; plain = s.plain; filter = s.filter; object = s.object; mask = s.mask }

-- two chips that are the same but for what C leaves open in CiCON, and W in the FIFOs' control words and in those that are frozen
pub record Same (C W : ℕ → ℕ → Type 0) (c d : Model) : Type 0 where
  pub con : C c.setup.con d.setup.con
  pub configuring : c.fixed.configuring ≡ d.fixed.configuring
  pub on : c.fixed.queue ≡ d.fixed.queue
  pub frozens : length c.fixed.frozen ≡ length d.fixed.frozen
  pub frozen : (n : ℕ) → W (frozen_at c n) (frozen_at d n)
  pub setup : but_con c.setup ≡ but_con d.setup
  pub fifos : length c.fifo ≡ length d.fifo
  pub fifo : (n : ℕ) → SameFifo W (fifo_at c n) (fifo_at d n)
  pub queue : c.queue ≡ d.queue
  pub ram : c.ram ≡ d.ram

-- reading a register of these, plain or checked
abbrev pub Reads : (Register → Type 0) → Operation → Type 0
Reads R (Operation.Read r) = R r
Reads R (Operation.Checked r) = R r
Reads R (Operation.Write r w) = ⊥
Reads R (Operation.ReadRam a) = ⊥
Reads R (Operation.WriteRam a) = ⊥
Reads R Operation.Reset = ⊥
Reads R Operation.None = ⊥

-- whatever is exchanged with both, and whatever happens to both on the bus: they answer the same, but that a register of R reads the same in
-- the fields fs only; and they stay two such chips
pub record ActAlike (Alikes : Model → Model → Type 0) (R : Register → Type 0) (fs : List Field) (c d : Model) : Type 0 where
  pub exchanges : (s : List ℕ) (want : ℕ) → (Reads R (asked s want) → ⊥) → (exchange s want c).reply ≡ (exchange s want d).reply
  pub words : (r : Register) → R r → Alike fs (word_of c r) (word_of d r)
  pub sends : (n : ℕ) → send_output c n ≡ send_output d n
  pub sends_queue : queue_output c ≡ queue_output d
  pub delivers :
      (n : ℕ) (header : Header) (dlc time : ℕ) (payload : List ℕ)
      → (deliver_of c n header dlc time payload).delivery ≡ (deliver_of d n header dlc time payload).delivery
  pub sorts :
      (header : Header) (dlc time : ℕ) (payload : List ℕ)
      → sorted_numbers (sort_of c header dlc time payload) ≡ sorted_numbers (sort_of d header dlc time payload)
  pub after : (x : Happening) → Alikes (happens x c) (happens x d)

-- those of some fields that share no bit with any of others
abbrev pub but_for : List Field → List Field → List Field
but_for gs [] = []
but_for gs (f ∷ fs) = if all (apart f) gs then f ∷ but_for gs fs else but_for gs fs

-- ---- modes other than Configuration

abbrev pub IsCon : Register → Type 0
IsCon Register.Con = Unit {0}
IsCon Register.Osc = ⊥
IsCon (Register.Plain k) = ⊥
IsCon (Register.Filter k) = ⊥
IsCon (Register.Object k) = ⊥
IsCon (Register.Mask k) = ⊥
IsCon (Register.Control n) = ⊥
IsCon (Register.Status n) = ⊥
IsCon (Register.Address n) = ⊥
IsCon Register.QueueControl = ⊥
IsCon Register.QueueStatus = ⊥
IsCon Register.QueueAddress = ⊥

-- all of CiCON but OPMOD and REQOP: its fields, and the bits without a name
abbrev pub con_others : List Field
con_others = bit 7 ∷ (15 ‥ 13) ∷ but_for (OPMOD ∷ REQOP ∷ []) CiCON.fields

-- both in Configuration or both outside it, and the same but for OPMOD and REQOP
abbrev pub ButMode : Model → Model → Type 0
ButMode c d = Same (Alike con_others) (λ v w. v ≡ w) c d

-- CiCON written with any two modes other than 4, and the same otherwise, leaves two such chips
abbrev pub ModeAsked : Type 0
ModeAsked =
    (m : Model) (v w : ℕ) → (read REQOP v ≡ 4 → ⊥) → (read REQOP w ≡ 4 → ⊥) → Alike con_others v w
    → ButMode (con_written m v).model (con_written m w).model

-- which act alike
abbrev pub ModesAlike : Type 0
ModesAlike = (c d : Model) → ButMode c d → ActAlike ButMode IsCon con_others c d

-- ---- RTREN

abbrev pub IsControl : Register → Type 0
IsControl Register.Con = ⊥
IsControl Register.Osc = ⊥
IsControl (Register.Plain k) = ⊥
IsControl (Register.Filter k) = ⊥
IsControl (Register.Object k) = ⊥
IsControl (Register.Mask k) = ⊥
IsControl (Register.Control n) = Unit {0}
IsControl (Register.Status n) = ⊥
IsControl (Register.Address n) = ⊥
IsControl Register.QueueControl = ⊥
IsControl Register.QueueStatus = ⊥
IsControl Register.QueueAddress = ⊥

-- all of a control word but RTREN: its fields, and the bits without a name
abbrev pub control_others : List Field
control_others = (15 ‥ 11) ∷ bit 23 ∷ but_for (RTREN ∷ []) CiFIFOCON.fields

-- the same but for RTREN of the FIFOs' control words
abbrev pub ButRtren : Model → Model → Type 0
ButRtren c d = Same (λ v w. v ≡ w) (Alike control_others) c d

-- control words written that differ in RTREN alone leave two such chips
abbrev pub RtrenWritten : Type 0
RtrenWritten =
    (m : Model) (n v w : ℕ) → Alike control_others v w
    → ButRtren (register_written m (Register.Control n) v).model (register_written m (Register.Control n) w).model

-- RTREN has no effect
abbrev pub RtrenIdle : Type 0
RtrenIdle = (c d : Model) → ButRtren c d → ActAlike ButRtren IsControl control_others c d
