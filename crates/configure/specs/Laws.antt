-- What the calls that set the chip up write: the fields that they set, one after the other, and every other bit as read.
-- Assumes nothing.
use Rattle.std.specs.Prelude.{ℕ, ◌^◌, ◌<◌, ◌≡◌, Bool, true, List, Ok}
use Rattle.field.specs.Field.{read}
use Rattle.field.specs.Settings.{Setting, settings, AllFit}
use Rattle.configuration.specs.CanControl.{REQOP, DNCNT}
use Rattle.bit_timing.specs.Delay.{TDCO}
use Rattle.bit_timing.specs.Signed.{number_of}
use Rattle.plan.specs.declared.change.Change.{Change}
use Rattle.plan.specs.Change.{modified}
use Rattle.changes.specs.declared.settings.OscillatorConfiguration.{OscillatorConfiguration}
use Rattle.changes.specs.declared.settings.IoConfiguration.{IoConfiguration}
use Rattle.changes.specs.declared.settings.BitTimeConfiguration.{BitTimeConfiguration}
use Rattle.changes.specs.declared.settings.Settings.{Settings}
use Rattle.areas.specs.declared.settings.FifoConfiguration.{FifoConfiguration}
use Rattle.areas.specs.declared.settings.TxQueueConfiguration.{TxQueueConfiguration}
use Rattle.areas.specs.declared.settings.FilterConfiguration.{FilterConfiguration}
use Rattle.changes.specs.Changes.{fits, mode_change, mode_settings, oscillator_change, oscillator_settings, io_change, io_settings, timing_fits, nominal_change, nominal_settings, data_change, data_settings, delay_change, delay_settings, stef_change, stef_settings, txqen_change, txqen_settings, counter_change, counter_settings, dncnt_change, dncnt_settings, rtxat_change, rtxat_settings, interrupt_change, interrupt_settings}
use Rattle.areas.specs.Areas.{fifo_fits, fifo_change, fifo_settings, enable_change, enable_settings, queue_fits, queue_change, queue_settings, off_change, off_settings, object_change, object_settings, mask_change, mask_settings, on_change, on_settings, filter_check}

-- no value is wider than its field, and for every word read the change writes what these settings make of it
abbrev pub Writes : Change → List Setting → Type 0
Writes c ss = AllFit ss × ((w : ℕ) → w < 2 ^ 32 → modified c w ≡ settings ss w)

-- ---- the changes of each call, where none of its settings is refused

abbrev pub ModeWrites : Type 0
ModeWrites = (m : ℕ) → fits REQOP m ≡ true → Writes (mode_change m) (mode_settings m)

abbrev pub OscillatorWrites : Type 0
OscillatorWrites = (o : OscillatorConfiguration) → Writes (oscillator_change o) (oscillator_settings o)

abbrev pub IoWrites : Type 0
IoWrites = (c : IoConfiguration) → Writes (io_change c) (io_settings c)

abbrev pub TimingWrites : Type 0
TimingWrites =
    (b : BitTimeConfiguration) → timing_fits b ≡ true
    → Writes (nominal_change b.nominal) (nominal_settings b.nominal)
    × Writes (data_change b.data) (data_settings b.data)
    × Writes (delay_change b.data) (delay_settings b.data)

-- TDCO as written stands for the number given, in two's complement
abbrev pub OffsetReads : Type 0
OffsetReads =
    (b : BitTimeConfiguration) (w : ℕ) → timing_fits b ≡ true → w < 2 ^ 32
    → number_of (read TDCO (modified (delay_change b.data) w)) ≡ b.data.tdco

-- what `configure` does beside these four
abbrev pub ConfigureWrites : Type 0
ConfigureWrites =
    (s : Settings) → fits DNCNT s.dncnt ≡ true
    → Writes stef_change stef_settings
    × Writes txqen_change txqen_settings
    × Writes counter_change counter_settings
    × Writes (dncnt_change s.dncnt) (dncnt_settings s.dncnt)
    × Writes rtxat_change rtxat_settings
    × Writes (interrupt_change s) (interrupt_settings s)

abbrev pub FifoWrites : Type 0
FifoWrites = (n : ℕ) (c : FifoConfiguration) → fifo_fits c ≡ true → Writes (fifo_change n c) (fifo_settings c)

abbrev pub EnableWrites : Type 0
EnableWrites = (on : Bool) → Writes (enable_change on) (enable_settings on)

abbrev pub QueueWrites : Type 0
QueueWrites = (c : TxQueueConfiguration) → queue_fits c ≡ true → Writes (queue_change c) (queue_settings c)

abbrev pub OffWrites : Type 0
OffWrites = (f : ℕ) → Writes (off_change f) (off_settings f)

-- what a filter's configuration does after that
abbrev pub FilterWrites : Type 0
FilterWrites =
    (f : ℕ) (c : FilterConfiguration) → filter_check f c ≡ Ok tt
    → Writes (object_change f c.object c.mode) (object_settings c.object c.mode)
    × Writes (mask_change f c.mask c.mode) (mask_settings c.mask c.mode)
    × Writes (on_change f c.fifo) (on_settings f c.fifo)

-- all of them
pub record Laws : Type 0 where
  pub mode_writes : ModeWrites
  pub oscillator_writes : OscillatorWrites
  pub io_writes : IoWrites
  pub timing_writes : TimingWrites
  pub offset_reads : OffsetReads
  pub configure_writes : ConfigureWrites
  pub fifo_writes : FifoWrites
  pub enable_writes : EnableWrites
  pub queue_writes : QueueWrites
  pub off_writes : OffWrites
  pub filter_writes : FilterWrites
