-- `configure`: its items, one after the other, and what is refused before any exchange.
-- Assumes nothing.
use Rattle.std.specs.Prelude.{List, [], ◌∷◌, ◌++◌, eqb, if◌then◌else◌}
use Rattle.configuration.specs.CanControl.{DNCNT}
use Rattle.spi.specs.declared.refusal.Refusal.{Refusal}
use Rattle.plan.specs.declared.item.Item.{Item}
use Rattle.plan.specs.Prepared.{Prepared, ready, turned_down}
use Rattle.changes.specs.declared.settings.Settings.{Settings}
use Rattle.changes.specs.Changes.{fits, when_asked, io_change, timing_fits, stef_change, txqen_change, counter_change, dncnt_change, rtxat_change, interrupt_change}
use Rattle.adjust.specs.Calls.{failed, mode_items, oscillator_items, timing_items}

-- Configuration mode, the echo, oscillator, IO, bit timing; STEF and TXQEN off; what is asked for; RTXAT; interrupts
abbrev pub configure_items : Settings → List Item
configure_items s =
    mode_items 4 Refusal.ConfigurationModeTimeout
    ++ (Item.Echo ∷ [])
    ++ oscillator_items s.oscillator
    ++ (Item.Change (io_change s.io) ∷ [])
    ++ timing_items s.bittime
    ++ (Item.Change stef_change
    ∷ Item.Change txqen_change
    ∷ when_asked s.counter (Item.Change counter_change)
    ∷ (if eqb s.dncnt 0 then Item.Nothing else Item.Change (dncnt_change s.dncnt))
    ∷ Item.Change rtxat_change
    ∷ Item.Change (interrupt_change s)
    ∷ [])

unfoldable pub configure_all : Settings → Prepared
configure_all s =
    if timing_fits s.bittime then if fits DNCNT s.dncnt then ready failed (configure_items s) else turned_down Refusal.BadSetting
    else turned_down Refusal.BadSetting
