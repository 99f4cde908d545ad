-- The registers that are carried, in one table: each kind with the numbers of its registers.
-- Assumes nothing.
use Rattle.std.specs.Prelude.{ℕ, zero, suc, ◌+◌, ◌*◌, ◌^◌, ◌<◌, ◌≡◌, Bool, true, ◌&&◌, not, List, [], ◌∷◌, ◌++◌, map, length, get_or, ltb, eqb}
use Rattle.laws.specs.All.{all}
use Rattle.field.specs.Field.{Field, place, bit, read, write, Fits, all_apart, within}
use Rattle.field.specs.Register.{Register}
use Rattle.fifo.specs.Control.{CiFIFOCON}
use Rattle.fifo.specs.Status.{CiFIFOSTA}
use Rattle.fifo.specs.UserAddress.{CiFIFOUA}
use Rattle.fifo.specs.TxQueueControl.{CiTXQCON}
use Rattle.fifo.specs.TxQueueStatus.{CiTXQSTA}
use Rattle.fifo.specs.TxQueueUserAddress.{CiTXQUA}
use Rattle.configuration.specs.CanControl.{CiCON}
use Rattle.configuration.specs.TimeStampControl.{CiTSCON}
use Rattle.bit_timing.specs.Nominal.{CiNBTCFG}
use Rattle.bit_timing.specs.Data.{CiDBTCFG}
use Rattle.bit_timing.specs.Delay.{CiTDC}
use Rattle.filter.specs.Control.{CiFLTCON}
use Rattle.filter.specs.Object.{CiFLTOBJ}
use Rattle.filter.specs.Mask.{CiMASK}
use Rattle.interrupt.specs.Interrupt.{CiINT}
use Rattle.chip.specs.OscillatorControl.{OSC}
use Rattle.chip.specs.IoControl.{IOCON}

-- a kind, and the numbers of its registers
pub record Kind : Type 0 where
  pub register : Register
  pub numbers : List ℕ

-- n numbers from k on
abbrev pub from : ℕ → ℕ → List ℕ
from k zero = []
from k (suc n) = k ∷ from (k + 1) n

-- a kind that is there once
abbrev pub once : Register → Kind
once r = record { register = r; numbers = from 0 1 }

-- a FIFO has number 1 to 31, a filter 0 to 31; four filters share a control word
abbrev pub each_fifo : Register → Kind
each_fifo r = record { register = r; numbers = from 1 31 }

abbrev pub each_filter : Register → Kind
each_filter r = record { register = r; numbers = from 0 32 }

-- all kinds
unfoldable pub kinds : List Kind
kinds =
    once CiCON
    ∷ once CiNBTCFG
    ∷ once CiDBTCFG
    ∷ once CiTDC
    ∷ once CiTSCON
    ∷ once CiINT
    ∷ once CiTXQCON
    ∷ once CiTXQSTA
    ∷ once CiTXQUA
    ∷ each_fifo CiFIFOCON
    ∷ each_fifo CiFIFOSTA
    ∷ each_fifo CiFIFOUA
    ∷ record { register = CiFLTCON; numbers = from 0 8 }
    ∷ each_filter CiFLTOBJ
    ∷ each_filter CiMASK
    ∷ once OSC
    ∷ once IOCON
    ∷ []

-- the addresses of all registers that are carried
abbrev pub addresses_of : List Kind → List ℕ
addresses_of [] = []
addresses_of (k ∷ ks) = map k.register.address k.numbers ++ addresses_of ks

-- ---- what is asked of the table

-- a field has a bit, and all its bits in the word
abbrev pub inside : Field → Bool
inside (place p k) = ltb 0 k && within 32 (place p k)

-- no number stands twice
abbrev pub distinct : List ℕ → Bool
distinct [] = true
distinct (x ∷ xs) = all (λ y. not (eqb x y)) xs && distinct xs

-- the fields' values in a word, each at its place: what is left of the word without its reserved bits
abbrev pub fielded : List Field → ℕ → ℕ
fielded [] w = 0
fielded (place p k ∷ fs) w = read (place p k) w * 2 ^ p + fielded fs w

-- a kind's fields lie in the word, apart, and its reset word has 0 in every reserved bit
abbrev pub sound : Kind → Bool
sound k =
    all inside k.register.fields && all_apart k.register.fields
    && eqb (fielded k.register.fields k.register.reset) k.register.reset

-- setting any field of a kind leaves what every other field of the kind reads
abbrev pub Neighbours : Kind → Type 0
Neighbours k =
    let fs : List Field = k.register.fields in
    (i j : ℕ) → i < length fs → j < length fs → (i ≡ j → ⊥) → (v w : ℕ) → Fits (get_or fs i (bit 0)) v
    → read (get_or fs j (bit 0)) (write (get_or fs i (bit 0)) v w) ≡ read (get_or fs j (bit 0)) w
