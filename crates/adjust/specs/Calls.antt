-- The calls that set one part of the chip up: their items, one after the other, and what is refused before any exchange.
-- Assumes nothing.
use Rattle.areas.specs.declared.settings.TxQueueConfiguration.{TxQueueConfiguration}
use Rattle.std.specs.Prelude.{ℕ, true, false, not, List, [], ◌∷◌, if◌then◌else◌, Option, Some, None}
use Rattle.configuration.specs.CanControl.{REQOP}
use Rattle.fifo.specs.Control.{is_fifo}
use Rattle.spi.specs.declared.refusal.Refusal.{Refusal}
use Rattle.spi.specs.Talk.{on_done}
use Rattle.plan.specs.declared.item.Poll.{Poll}
use Rattle.plan.specs.declared.item.Item.{Item}
use Rattle.plan.specs.Prepared.{Prepared, ready, turned_down}
use Rattle.changes.specs.declared.settings.OscillatorConfiguration.{OscillatorConfiguration}
use Rattle.changes.specs.declared.settings.IoConfiguration.{IoConfiguration}
use Rattle.changes.specs.declared.settings.BitTimeConfiguration.{BitTimeConfiguration}
use Rattle.areas.specs.declared.settings.FifoConfiguration.{FifoConfiguration}
use Rattle.areas.specs.declared.settings.FilterConfiguration.{FilterConfiguration}
use Rattle.changes.specs.Changes.{fits, when_asked, mode_change, oscillator_change, io_change, timing_fits, nominal_change, data_change, delay_change}
use Rattle.areas.specs.Areas.{fifo_fits, fifo_change, enable_change, queue_change, setting_fits, off_change, object_change, mask_change, on_change, is_filter, filter_check}

-- what a failed exchange means here, but to `configure_fifo` and `configure_filter`
abbrev pub failed : Refusal
failed = Refusal.ConfigurationModeTimeout

-- ---- the items

-- REQOP written, then at most five polls with four waits
abbrev pub mode_items : ℕ → Refusal → List Item
mode_items m late = Item.Change (mode_change m) ∷ Item.Poll (Poll.Mode m late) 4 ∷ []

-- OSC written, with the PLL at most three polls with two waits
abbrev pub oscillator_items : OscillatorConfiguration → List Item
oscillator_items o = Item.Change (oscillator_change o) ∷ when_asked o.pll (Item.Poll Poll.Pll 2) ∷ []

abbrev pub timing_items : BitTimeConfiguration → List Item
timing_items b = Item.Change (nominal_change b.nominal) ∷ Item.Change (data_change b.data) ∷ Item.Change (delay_change b.data) ∷ []

-- TXQEN written; where the queue is on, its control
abbrev pub queue_items : Option TxQueueConfiguration → List Item
queue_items None = Item.Change (enable_change false) ∷ []
queue_items (Some c) = Item.Change (enable_change true) ∷ Item.Change (queue_change c) ∷ []

abbrev pub filter_items : ℕ → FilterConfiguration → List Item
filter_items f c =
    Item.Change (off_change f)
    ∷ Item.Change (object_change f c.object c.mode)
    ∷ Item.Change (mask_change f c.mask c.mode)
    ∷ Item.Change (on_change f c.fifo)
    ∷ []

-- ---- the calls: 20, 21, 24 before any exchange

unfoldable pub set_op_mode : ℕ → Prepared
set_op_mode m = if fits REQOP m then ready failed (mode_items m Refusal.ChangeOpModeTimeout) else turned_down Refusal.BadSetting

abbrev pub configure_osc : OscillatorConfiguration → Prepared
configure_osc o = ready failed (oscillator_items o)

abbrev pub configure_io : IoConfiguration → Prepared
configure_io c = ready failed (Item.Change (io_change c) ∷ [])

unfoldable pub configure_bit_timing : BitTimeConfiguration → Prepared
configure_bit_timing b = if timing_fits b then ready failed (timing_items b) else turned_down Refusal.BadSetting

unfoldable pub configure_fifo : ℕ → FifoConfiguration → Prepared
configure_fifo n c =
    if not (is_fifo n) then turned_down Refusal.BadNumber
    else if not (fifo_fits c) then turned_down Refusal.BadSetting
    else ready Refusal.SpiRead (Item.Change (fifo_change n c) ∷ [])

unfoldable pub configure_tx_queue : Option TxQueueConfiguration → Prepared
configure_tx_queue q = if setting_fits q then ready failed (queue_items q) else turned_down Refusal.BadSetting

-- "off" is only the first change
unfoldable pub disable_filter : ℕ → Prepared
disable_filter f = if is_filter f then ready Refusal.SpiRead (Item.Change (off_change f) ∷ []) else turned_down Refusal.BadNumber

unfoldable pub configure_filter : ℕ → FilterConfiguration → Prepared
configure_filter f c = on_done turned_down (filter_check f c) (ready Refusal.SpiRead (filter_items f c))
