-- The changes that configuration calls make: which fields of which register are set, to what. Every other bit is as read.
-- `To`: the change of the same fields to bits of a word, which is what a plan keeps of a change.
-- Assumes nothing.
use Rattle.std.specs.Prelude.{ℕ, ◌-◌, ◌^◌, Bool, true, ◌&&◌, List, [], ◌∷◌, ◌++◌, ltb, if◌then◌else◌}
use Rattle.field.specs.Field.{Field, place, digit}
use Rattle.field.specs.Settings.{Setting, ◌:=◌}
use Rattle.configuration.specs.CanControl.{CiCON, REQOP, STEF, TXQEN, DNCNT, RTXAT}
use Rattle.configuration.specs.TimeStampControl.{CiTSCON, TBCEN}
use Rattle.chip.specs.OscillatorControl.{OSC, PLLEN, OSCDIS, SCLKDIV}
use Rattle.chip.specs.IoControl.{IOCON, XSTBYEN, TXCANOD, SOF, INTOD}
use Rattle.bit_timing.specs.BitTime as bt
use Rattle.bit_timing.specs.Nominal as nbt
use Rattle.bit_timing.specs.Data as dbt
use Rattle.bit_timing.specs.Delay.{CiTDC, TDCV, TDCO, TDCMOD}
use Rattle.bit_timing.specs.Signed.{is_small, seven_of}
use Rattle.interrupt.specs.Interrupt.{CiINT, IE}
use Rattle.interrupt.specs.declared.Cause.{Cause}
use Rattle.plan.specs.declared.change.Change.{Change}
use Rattle.plan.specs.declared.item.Item.{Item}
use Rattle.plan.specs.Change.{change_of, change_to}
use Rattle.changes.specs.declared.settings.OscillatorConfiguration.{OscillatorConfiguration}
use Rattle.changes.specs.declared.settings.IoConfiguration.{IoConfiguration}
use Rattle.changes.specs.declared.settings.NominalBitTime.{NominalBitTime}
use Rattle.changes.specs.declared.settings.DataBitTime.{DataBitTime}
use Rattle.changes.specs.declared.settings.BitTimeConfiguration.{BitTimeConfiguration}
use Rattle.changes.specs.declared.settings.Settings.{Settings}

-- a value that is not wider than its field, and all values of a list
abbrev pub fits : Field → ℕ → Bool
fits (place p k) v = ltb v (2 ^ k)

abbrev pub all_fit : List Setting → Bool
all_fit [] = true
all_fit (f := v ∷ ss) = fits f v && all_fit ss

-- an item that is there only if it is asked for
abbrev pub when_asked : Bool → Item → Item
when_asked on item = if on then item else Item.Nothing

-- ---- mode, oscillator, IO

abbrev pub mode_settings : ℕ → List Setting
mode_settings m = REQOP := m ∷ []

abbrev pub mode_change : ℕ → Change
mode_change m = change_of (CiCON.address 0) (mode_settings m)

abbrev pub mode_to : ℕ → Change
mode_to bits = change_to (CiCON.address 0) (REQOP ∷ []) bits

abbrev pub oscillator_settings : OscillatorConfiguration → List Setting
oscillator_settings o = PLLEN := digit o.pll ∷ SCLKDIV := digit o.divide ∷ OSCDIS := 0 ∷ []

abbrev pub oscillator_change : OscillatorConfiguration → Change
oscillator_change o = change_of (OSC.address 0) (oscillator_settings o)

abbrev pub oscillator_to : ℕ → Change
oscillator_to bits = change_to (OSC.address 0) (PLLEN ∷ SCLKDIV ∷ OSCDIS ∷ []) bits

abbrev pub io_settings : IoConfiguration → List Setting
io_settings c = XSTBYEN := digit c.xstbyen ∷ TXCANOD := digit c.txcanod ∷ SOF := digit c.sof ∷ INTOD := digit c.intod ∷ []

abbrev pub io_change : IoConfiguration → Change
io_change c = change_of (IOCON.address 0) (io_settings c)

abbrev pub io_to : ℕ → Change
io_to bits = change_to (IOCON.address 0) (XSTBYEN ∷ TXCANOD ∷ SOF ∷ INTOD ∷ []) bits

-- ---- bit timing

-- the four fields of a bit time of n bits
abbrev pub times : (n brp tseg1 tseg2 sjw : ℕ) → List Setting
times n brp tseg1 tseg2 sjw = bt.BRP := brp ∷ bt.TSEG1 n := tseg1 ∷ bt.TSEG2 n := tseg2 ∷ bt.SJW n := sjw ∷ []

abbrev pub nominal_settings : NominalBitTime → List Setting
nominal_settings n = nbt.BRP := n.brp ∷ nbt.TSEG1 := n.tseg1 ∷ nbt.TSEG2 := n.tseg2 ∷ nbt.SJW := n.sjw ∷ []

abbrev pub nominal_change : NominalBitTime → Change
nominal_change n = change_of ((nbt.CiNBTCFG).address 0) (nominal_settings n)

abbrev pub nominal_to : ℕ → Change
nominal_to bits = change_to ((nbt.CiNBTCFG).address 0) (nbt.BRP ∷ nbt.TSEG1 ∷ nbt.TSEG2 ∷ nbt.SJW ∷ []) bits

abbrev pub data_settings : DataBitTime → List Setting
data_settings d = dbt.BRP := d.brp ∷ dbt.TSEG1 := d.tseg1 ∷ dbt.TSEG2 := d.tseg2 ∷ dbt.SJW := d.sjw ∷ []

abbrev pub data_change : DataBitTime → Change
data_change d = change_of ((dbt.CiDBTCFG).address 0) (data_settings d)

abbrev pub data_to : ℕ → Change
data_to bits = change_to ((dbt.CiDBTCFG).address 0) (dbt.BRP ∷ dbt.TSEG1 ∷ dbt.TSEG2 ∷ dbt.SJW ∷ []) bits

-- TDCO is from -64 to 63
unfoldable pub timing_fits : BitTimeConfiguration → Bool
timing_fits b = all_fit (nominal_settings b.nominal) && (all_fit (data_settings b.data) && is_small b.data.tdco)

-- TDCMOD 2 is automatic; TDCO by its seven bits, two's complement
abbrev pub delay_settings : DataBitTime → List Setting
delay_settings d = TDCMOD := 2 ∷ TDCO := seven_of d.tdco ∷ TDCV := 0 ∷ []

abbrev pub delay_change : DataBitTime → Change
delay_change d = change_of (CiTDC.address 0) (delay_settings d)

abbrev pub delay_to : ℕ → Change
delay_to bits = change_to (CiTDC.address 0) (TDCMOD ∷ TDCO ∷ TDCV ∷ []) bits

-- ---- what else `configure` changes: event FIFO and transmit queue off, counter on, the data bits, attempts by RTXAT

abbrev pub stef_settings : List Setting
stef_settings = STEF := 0 ∷ []

abbrev pub stef_change : Change
stef_change = change_of (CiCON.address 0) stef_settings

abbrev pub txqen_settings : List Setting
txqen_settings = TXQEN := 0 ∷ []

abbrev pub txqen_change : Change
txqen_change = change_of (CiCON.address 0) txqen_settings

-- the queue on, or off as above
abbrev pub txqen_to : Bool → Change
txqen_to on = change_of (CiCON.address 0) (TXQEN := digit on ∷ [])

abbrev pub counter_settings : List Setting
counter_settings = TBCEN := 1 ∷ []

abbrev pub counter_change : Change
counter_change = change_of (CiTSCON.address 0) counter_settings

abbrev pub dncnt_settings : ℕ → List Setting
dncnt_settings n = DNCNT := n ∷ []

abbrev pub dncnt_change : ℕ → Change
dncnt_change n = change_of (CiCON.address 0) (dncnt_settings n)

abbrev pub dncnt_to : ℕ → Change
dncnt_to bits = change_to (CiCON.address 0) (DNCNT ∷ []) bits

abbrev pub rtxat_settings : List Setting
rtxat_settings = RTXAT := 1 ∷ []

abbrev pub rtxat_change : Change
rtxat_change = change_of (CiCON.address 0) rtxat_settings

-- interrupts: what is not asked for stays as read
abbrev pub asked : Bool → List Setting → List Setting
asked on ss = if on then ss else []

abbrev pub interrupt_settings : Settings → List Setting
interrupt_settings s =
    IE Cause.Rx := 1 ∷ IE Cause.Tx := 1
    ∷ asked s.canerrors (IE Cause.Ivm := 1 ∷ IE Cause.Cerr := 1 ∷ IE Cause.Serr := 1 ∷ [])
    ++ asked s.spierror (IE Cause.SpiCrc := 1 ∷ [])
    ++ asked s.eccerror (IE Cause.Ecc := 1 ∷ [])
    ++ asked s.counter (IE Cause.Tbc := 1 ∷ [])

abbrev pub interrupt_change : Settings → Change
interrupt_change s = change_of (CiINT.address 0) (interrupt_settings s)

-- an enable is only set to 1
abbrev pub interrupt_to : ℕ → Change
interrupt_to bits = record { address = CiINT.address 0; keep = 2 ^ 32 - 1 - bits; set = bits }
