-- What the calls that set the chip up write.
-- Assumes nothing.
use Prim.Native.Nat.{ℕ, ◌/◌, ◌^◌, ◌≤◌, ◌<◌}
use mathlib.Core.Path.{◌≡◌, refl, ap, ◌∙◌}
use mathlib.Core.Bool.{Bool, true, false}
use mathlib.Core.List.{List, [], ◌∷◌, ◌++◌}
use native.Mathlib.Omega.{arith}
use lib.Dec.{lit<}
use lib.ListN.{length}
use Rattle.laws.specs.All.{all}
use Rattle.laws.proofs.Choice.{by_if}
use Rattle.field.specs.Field.{Field, read, digit, apart, all_apart}
use Rattle.field.specs.Settings.{Setting, ◌:=◌, fields_of, AllFit}
use Rattle.field.proofs.Sets.{field_at, value_at, off, own}
use Rattle.configuration.specs.CanControl.{CiCON, REQOP, DNCNT}
use Rattle.configuration.specs.TimeStampControl.{CiTSCON}
use Rattle.chip.specs.OscillatorControl.{OSC}
use Rattle.chip.specs.IoControl.{IOCON}
use Rattle.bit_timing.specs.Nominal.{CiNBTCFG}
use Rattle.bit_timing.specs.Data.{CiDBTCFG}
use Rattle.bit_timing.specs.Delay.{CiTDC}
use Rattle.bit_timing.specs.Signed.{number_of}
use Rattle.bit_timing.proofs.Twos.{seven_lt, number_seven}
use Rattle.interrupt.specs.Interrupt.{CiINT}
use Rattle.fifo.specs.Control.{CiFIFOCON}
use Rattle.fifo.specs.TxQueueControl.{CiTXQCON}
use Rattle.filter.specs.Control.{CiFLTCON}
use Rattle.filter.specs.Object.{CiFLTOBJ, SID, EID, EXIDE}
use Rattle.filter.specs.Mask.{CiMASK}
use Rattle.header.specs.Header.{top_id, sid_of, eid_of}
use Rattle.plan.specs.declared.change.Change.{Change}
use Rattle.plan.specs.Change.{modified, change_of}
use Rattle.plan.proofs.Changes.{change_sets_lem}
use Rattle.areas.specs.declared.settings.FifoMode.{FifoMode}
use Rattle.changes.specs.Changes.{delay_change, mode_settings, oscillator_settings, io_settings, nominal_settings, data_settings, delay_settings, stef_settings, txqen_settings, counter_settings, dncnt_settings, rtxat_settings, asked, interrupt_settings}
use Rattle.areas.specs.Areas.{direction_settings, direction_fits, fifo_settings, enable_settings, queue_settings, off_settings, object_settings, mask_settings, on_settings}
use Rattle.configure.specs.Laws.{Writes, ModeWrites, OscillatorWrites, IoWrites, TimingWrites, OffsetReads, ConfigureWrites, FifoWrites, EnableWrites, QueueWrites, OffWrites, FilterWrites}
use Rattle.changes.proofs.Tests.{fits_told, timing_told}
use Rattle.areas.proofs.Tests.{transmit_told, fifo_told, queue_told, filter_told_lem}

-- settings that fit their fields are written
writes : (address : ℕ) (ss : List Setting) → AllFit ss → Writes (change_of address ss) ss
writes address ss h = (h, λ w l. change_sets_lem address ss w l h)

-- so a field that shares no bit with those that are set reads as before, and each of these its value
module _ (c : Change) (ss : List Setting) (h : Writes c ss) (w : ℕ) (l : w < 2 ^ 32) where
  pub written_keeps : (g : Field) → all (apart g) (fields_of ss) ≡ true → read g (modified c w) ≡ read g w
  written_keeps g e = ap (read g) (h.1 w l) ∙ off g ss w e h.0

  pub written_sets : (i : ℕ) → all_apart (fields_of ss) ≡ true → i < length ss → read (field_at ss i) (modified c w) ≡ value_at ss i
  written_sets i e j = ap (read (field_at ss i)) (h.1 w l) ∙ own ss w i e h.0 j

-- ---- what fits

flag_fits : (b : Bool) → digit b < 2
flag_fits true = lit< tt
flag_fits false = lit< tt

parts_fit : (ss ts : List Setting) → AllFit ss → AllFit ts → AllFit (ss ++ ts)
parts_fit [] ts h l = l
parts_fit (f := v ∷ ss) ts h l = (h.0, parts_fit ss ts h.1 l)

asked_fit : (on : Bool) (ss : List Setting) → AllFit ss → AllFit (asked on ss)
asked_fit on ss h = by_if AllFit on (λ e. h) (λ e. tt)

direction_fit : (mode : FifoMode) → direction_fits mode ≡ true → AllFit (direction_settings mode)
direction_fit (FifoMode.Transmit t) e = let h = transmit_told t e in search (flag_fits, arith) depth 9
direction_fit (FifoMode.Receive r) e = search (flag_fits, arith) depth 9

-- an identifier and a flag, in an object or in a mask
identifier_fit : (extended : Bool) (id : ℕ) (on : Bool) → id ≤ top_id extended
    → AllFit (SID := sid_of extended id ∷ EID := eid_of extended id ∷ EXIDE := digit on ∷ [])
identifier_fit true id on h = search (flag_fits, arith)
identifier_fit false id on h = search (flag_fits, arith)

ruleset fitting = (lit<, flag_fits, parts_fit, asked_fit, direction_fit, identifier_fit, arith)

-- ---- the calls

pub mode_writes_lem : ModeWrites
mode_writes_lem m e = let h = fits_told REQOP m e in writes (CiCON.address 0) (mode_settings m) (search fitting)

pub oscillator_writes_lem : OscillatorWrites
oscillator_writes_lem o = writes (OSC.address 0) (oscillator_settings o) (search fitting)

pub io_writes_lem : IoWrites
io_writes_lem c = writes (IOCON.address 0) (io_settings c) (search fitting)

pub timing_writes_lem : TimingWrites
timing_writes_lem b e =
    let h = timing_told b e in
    let seven = seven_lt b.data.tdco h.2 in (
      writes (CiNBTCFG.address 0) (nominal_settings b.nominal) h.0,
      writes (CiDBTCFG.address 0) (data_settings b.data) h.1,
      writes (CiTDC.address 0) (delay_settings b.data) (search fitting),
    )

pub offset_reads_lem : OffsetReads
offset_reads_lem b w e l =
    let set = written_sets (delay_change b.data) (delay_settings b.data) (timing_writes_lem b e).2 w l 1 refl (lit< tt) in
    ap number_of set ∙ number_seven b.data.tdco (timing_told b e).2

pub configure_writes_lem : ConfigureWrites
configure_writes_lem s e =
    let h = fits_told DNCNT s.dncnt e in (
      writes (CiCON.address 0) stef_settings (search fitting),
      writes (CiCON.address 0) txqen_settings (search fitting),
      writes (CiTSCON.address 0) counter_settings (search fitting),
      writes (CiCON.address 0) (dncnt_settings s.dncnt) (search fitting),
      writes (CiCON.address 0) rtxat_settings (search fitting),
      writes (CiINT.address 0) (interrupt_settings s) (search fitting depth 12),
    )

pub fifo_writes_lem : FifoWrites
fifo_writes_lem n c e = let h = fifo_told c e in writes (CiFIFOCON.address n) (fifo_settings c) (search fitting)

pub enable_writes_lem : EnableWrites
enable_writes_lem on = writes (CiCON.address 0) (enable_settings on) (search fitting)

pub queue_writes_lem : QueueWrites
queue_writes_lem c e = let h = queue_told c e in writes (CiTXQCON.address 0) (queue_settings c) (search fitting depth 9)

pub off_writes_lem : OffWrites
off_writes_lem f = writes (CiFLTCON.address (f / 4)) (off_settings f) (search fitting)

pub filter_writes_lem : FilterWrites
filter_writes_lem f c e =
    let h = filter_told_lem f c e in (
      writes (CiFLTOBJ.address f) (object_settings c.object c.mode) (search fitting),
      writes (CiMASK.address f) (mask_settings c.mask c.mode) (search fitting),
      writes (CiFLTCON.address (f / 4)) (on_settings f c.fifo) (search fitting),
    )
