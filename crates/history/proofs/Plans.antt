-- The calls of a history that are plans do no harm: request, and every call that sets a part of the chip up.
-- Assumes nothing.
use Rattle.std.specs.Prelude.{Option, Some, None, Result}
use Prim.Native.Nat.{ℕ, ◌/◌, ◌<◌}
use mathlib.Core.Path.{◌≡◌, refl, ap, ◌∙◌, sym}
use mathlib.Core.Bool.{Bool, true, false, not, ◌&&◌}
use mathlib.Core.List.{List, [], ◌∷◌}
use native.Mathlib.Omega.{arith}
use borrow.Author.Tests.{ltb-true, lt-leb, not-false}
use Rattle.std.specs.Prelude.{Some}
use Rattle.laws.specs.All.{all}
use Rattle.laws.proofs.Choice.{by_if}
use Rattle.laws.proofs.Table.{both}
use Rattle.field.specs.Field.{place, digit, read, Fits, apart, within}
use Rattle.field.specs.Settings.{Setting as FieldSetting, ◌:=◌, fields_of, settings, AllFit}
use Rattle.field.proofs.Laws.{read_write}
use Rattle.field.proofs.Sets.{off, settings_lt}
use Rattle.fifo.specs.Control.{CiFIFOCON, UINC, FRESET, TXREQ, FSIZE, PLSIZE, stored_size, is_fifo}
use Rattle.chip.specs.OscillatorControl.{OSC}
use Rattle.chip.specs.IoControl.{IOCON}
use Rattle.bit_timing.specs.Nominal.{CiNBTCFG}
use Rattle.bit_timing.specs.Data.{CiDBTCFG}
use Rattle.bit_timing.specs.Delay.{CiTDC}
use Rattle.filter.specs.Control.{CiFLTCON}
use Rattle.filter.specs.Object.{CiFLTOBJ}
use Rattle.filter.specs.Mask.{CiMASK}
use Rattle.place.specs.declared.Register.{Register}
use Rattle.place.specs.Place.{register_at}
use Rattle.operation.specs.Operation.{in_ram}
use Rattle.place.proofs.Laws.{all_carried_lem}
use Rattle.spi.specs.Ram.{in_range}
use Rattle.spi.specs.Talk.{on_done}
use Rattle.spi.specs.declared.refusal.Refusal.{Refusal}
use Rattle.plan.specs.declared.change.Change.{Change}
use Rattle.plan.specs.declared.item.Item.{Item}
use Rattle.plan.specs.Change.{modified, setting, setting_all, change_of}
use Rattle.plan.specs.Prepared.{Prepared, ready, turned_down, plan_for}
use Rattle.plan.proofs.Changes.{change_sets_lem}
use Rattle.changes.specs.Changes.{io_change, timing_fits}
use Rattle.changes.specs.declared.settings.BitTimeConfiguration.{BitTimeConfiguration}
use Rattle.changes.specs.declared.settings.OscillatorConfiguration.{OscillatorConfiguration}
use Rattle.areas.specs.declared.settings.FifoMode.{FifoMode}
use Rattle.areas.specs.declared.settings.FifoConfiguration.{FifoConfiguration}
use Rattle.areas.specs.declared.settings.FilterConfiguration.{FilterConfiguration}
use Rattle.areas.specs.Areas.{direction_settings, fifo_settings, fifo_change, direction_fits, fifo_fits, off_change, is_identifier, is_filter, filter_check, enable_settings, enable_change, queue_settings, queue_fits, setting_fits}
use Rattle.areas.proofs.Tests.{transmit_told, fifo_told, queue_told}
use Rattle.adjust.specs.Calls.{failed, oscillator_items, timing_items, filter_items, configure_osc, configure_bit_timing, configure_fifo, disable_filter, configure_filter, queue_items, configure_tx_queue}
use Rattle.transmit.specs.Transmit.{request_change, request_start, queue_request_start}
use Rattle.history.specs.Command.{Setting, Fifo, Filter, FilterOff, Osc, Io, BitTiming, sets, TxQueue}
use Rattle.history.proofs.Harmless.{Setup, Aside, aside, control, Careful, HarmlessChange, HarmlessItem, Harmless, plan_harmless, refused_harmless, queue_control, con, HarmlessItems}
use Rattle.areas.specs.declared.settings.TxQueueConfiguration.{TxQueueConfiguration}
use Rattle.configuration.specs.CanControl.{CiCON, REQOP}

-- ---- control words: fields other than UINC and FRESET are set

module _ (ss : List FieldSetting) where
  pub record Spared : Type 0 where
    pub fit : AllFit ss
    pub inside : all (within 32) (fields_of ss) ≡ true
    pub uinc : all (apart UINC) (fields_of ss) ≡ true
    pub freset : all (apart FRESET) (fields_of ss) ≡ true
    pub asked : (w : ℕ) → read TXREQ w ≡ 1 → read TXREQ (settings ss w) ≡ 1

  careful_change : (X : ℕ → Type 0) (n : ℕ) → Spared → (a w : ℕ) → Careful X n w → Careful X n (modified (change_of a ss) w)
  careful_change X n h a w (g, x) =
      let e : modified (change_of a ss) w ≡ settings ss w = change_sets_lem a ss w g.small h.fit in (
        record {
          small = rw e (settings_lt 32 ss w h.inside h.fit g.small);
          uinc = rw e (off UINC ss w h.uinc h.fit ∙ g.uinc);
          freset = rw e (off FRESET ss w h.freset h.fit ∙ g.freset);
        },
        λ y. ap (read TXREQ) e ∙ h.asked w (x y),
      )

-- setting fields leaves the address
address_of_lem : (ss : List FieldSetting) (c : Change) → (setting_all ss c).address ≡ c.address
address_of_lem [] c = refl
address_of_lem (place p k := v ∷ ss) c = address_of_lem ss (setting (place p k := v) c)

control_harmless : (X : ℕ → Type 0) (n : ℕ) (ss : List FieldSetting) → is_fifo n ≡ true → Spared ss → HarmlessChange X (change_of (CiFIFOCON.address n) ss)
control_harmless X n ss i h = control n i (address_of_lem ss _) (careful_change ss X n h (CiFIFOCON.address n))

-- the queue's
queue_control_harmless : (X : ℕ → Type 0) (ss : List FieldSetting) → Spared ss → HarmlessChange X (change_of (CiFIFOCON.address 0) ss)
queue_control_harmless X ss h = queue_control (address_of_lem ss _) (λ w g. (careful_change ss (λ n. ⊥) 0 h (CiFIFOCON.address 0) w (g, λ x. absurd x)).0)

request_spared : Spared (TXREQ := 1 ∷ [])
request_spared = record { fit = (omega arith, tt); inside = refl; uinc = refl; freset = refl; asked = λ w x. read_write TXREQ 1 w (omega arith) }

flag_fits : (b : Bool) → digit b < 2
flag_fits true = omega arith
flag_fits false = omega arith

-- TXREQ is not among them either
spared : (ss : List FieldSetting) → AllFit ss → all (within 32) (fields_of ss) ≡ true → all (apart UINC) (fields_of ss) ≡ true
    → all (apart FRESET) (fields_of ss) ≡ true → all (apart TXREQ) (fields_of ss) ≡ true → Spared ss
spared ss fit inside uinc freset txreq =
    record { fit = fit; inside = inside; uinc = uinc; freset = freset; asked = λ w x. off TXREQ ss w txreq fit ∙ x }

fifo_spared : (c : FifoConfiguration) → fifo_fits c ≡ true → Spared (fifo_settings c)
fifo_spared c e = go (fifo_told c e).1 c.mode (fifo_told c e).2
  where
    go : Fits PLSIZE c.plsize → (m : FifoMode) → direction_fits m ≡ true → Spared (FSIZE := stored_size c.size ∷ PLSIZE := c.plsize ∷ direction_settings m)
    go f (FifoMode.Transmit t) d =
        let h = transmit_told t d in
        spared (FSIZE := stored_size c.size ∷ PLSIZE := c.plsize ∷ direction_settings (FifoMode.Transmit t)) (search (flag_fits, arith) depth 12) refl refl refl refl
    go f (FifoMode.Receive r) d =
        spared (FSIZE := stored_size c.size ∷ PLSIZE := c.plsize ∷ direction_settings (FifoMode.Receive r)) (search (flag_fits, arith) depth 12) refl refl refl refl

pub queue_spared : (c : TxQueueConfiguration) → queue_fits c ≡ true → Spared (queue_settings c)
queue_spared c e =
    let h = queue_told c e in
    spared (queue_settings c) (search (flag_fits, arith) depth 12) refl refl refl refl

-- ---- CiCON: TXQEN alone is set

enable_harmless : (X : ℕ → Type 0) (on : Bool) → HarmlessChange X (enable_change on)
enable_harmless X on =
    let ss : List FieldSetting = enable_settings on in
    let fit : AllFit ss = (flag_fits on, tt) in
    con (address_of_lem (enable_settings on) (change_of (CiCON.address 0) []))
    (λ w g.
    let e : modified (enable_change on) w ≡ settings ss w = change_sets_lem (CiCON.address 0) ss w g.small fit in
    record { small = rw e (settings_lt 32 ss w refl fit g.small); asks = λ x. g.asks (sym (off REQOP ss w refl fit) ∙ ap (read REQOP) (sym e) ∙ x) })

-- ---- registers that hold as written

-- below the RAM
low_aside : (a : ℕ) (r : Register) → register_at a ≡ Some r → Setup r → a < 0x400 → Aside a
unfolding in_ram in_range
low_aside a r e s h = record { register = r; is = e; setup = s; outside = simp (lt-leb 0x400 a h); small = omega arith }

-- above it
osc_aside : Aside (OSC.address 0)
unfolding in_ram in_range
osc_aside = record { register = Register.Osc; is = all_carried_lem.osc; setup = tt; outside = refl; small = omega arith }

pins_aside : Aside (IOCON.address 0)
unfolding in_ram in_range
pins_aside = record { register = Register.Plain 5; is = all_carried_lem.pins; setup = tt; outside = refl; small = omega arith }

filter_aside : (f : ℕ) → f < 32 → Aside (CiFLTCON.address (f / 4))
filter_aside f h = low_aside (CiFLTCON.address (f / 4)) (Register.Filter (f / 4)) (all_carried_lem.filter (f / 4) (omega arith) (omega arith)) tt (omega arith)

object_aside : (f : ℕ) → f < 32 → Aside (CiFLTOBJ.address f)
object_aside f h = low_aside (CiFLTOBJ.address f) (Register.Object f) (all_carried_lem.object f (omega arith) (omega arith)) tt (omega arith)

mask_aside : (f : ℕ) → f < 32 → Aside (CiMASK.address f)
mask_aside f h = low_aside (CiMASK.address f) (Register.Mask f) (all_carried_lem.mask f (omega arith) (omega arith)) tt (omega arith)

-- ---- the calls

module _ (X : ℕ → Type 0) where
  abbrev Spare : Prepared → Type 0
  Spare p = Harmless X (plan_for p)

  fifo_harmless : (n : ℕ) (c : FifoConfiguration) → Spare (configure_fifo n c)
  unfolding configure_fifo
  fifo_harmless n c =
      by_if Spare (not (is_fifo n)) (λ i. refused_harmless X Refusal.BadNumber)
      (λ i. by_if Spare (not (fifo_fits c)) (λ e. refused_harmless X Refusal.BadSetting)
      (λ e. plan_harmless X Refusal.SpiRead (Item.Change (fifo_change n c) ∷ []) (control_harmless X n (fifo_settings c) (not-false _ i) (fifo_spared c (not-false _ e)), tt)))

  filter_harmless : (f : ℕ) (c : FilterConfiguration) → Spare (configure_filter f c)
  unfolding configure_filter filter_check
  filter_harmless f c =
      let P : Result (Unit {0}) Refusal → Type 0 = λ d. Spare (on_done turned_down d (ready Refusal.SpiRead (filter_items f c))) in
      by_if P (not (is_filter f && is_fifo c.fifo)) (λ e. refused_harmless X Refusal.BadNumber)
      (λ e. by_if P (not (is_identifier c.object && is_identifier c.mask)) (λ j. refused_harmless X Refusal.BadIdentifier)
      (λ j. let h = ltb-true f 32 (both (is_filter f) (is_fifo c.fifo) (not-false _ e)).0 in
      plan_harmless X Refusal.SpiRead (filter_items f c) (aside (filter_aside f h), (aside (object_aside f h), (aside (mask_aside f h), (aside (filter_aside f h), tt))))))

  off_harmless : (f : ℕ) → Spare (disable_filter f)
  unfolding disable_filter
  off_harmless f =
      by_if Spare (is_filter f)
      (λ e. plan_harmless X Refusal.SpiRead (Item.Change (off_change f) ∷ []) (aside (filter_aside f (ltb-true f 32 e)), tt))
      (λ e. refused_harmless X Refusal.BadNumber)

  osc_harmless : (o : OscillatorConfiguration) → Spare (configure_osc o)
  osc_harmless o =
      plan_harmless X failed (oscillator_items o) (aside osc_aside, (by_if (HarmlessItem X) o.pll (λ e. tt) (λ e. tt), tt))

  timing_harmless : (b : BitTimeConfiguration) → Spare (configure_bit_timing b)
  unfolding configure_bit_timing
  timing_harmless b =
      by_if Spare (timing_fits b)
      (λ e. plan_harmless X failed (timing_items b) (
        aside (low_aside (CiNBTCFG.address 0) (Register.Plain 0) all_carried_lem.nominal tt (omega arith)),
        (
          aside (low_aside (CiDBTCFG.address 0) (Register.Plain 1) all_carried_lem.data_phase tt (omega arith)),
          (aside (low_aside (CiTDC.address 0) (Register.Plain 2) all_carried_lem.delay tt (omega arith)), tt),
        ),
      ))
      (λ e. refused_harmless X Refusal.BadSetting)

  queue_harmless : (q : Option TxQueueConfiguration) → Spare (configure_tx_queue q)
  unfolding configure_tx_queue
  queue_harmless q = by_if Spare (setting_fits q) (λ e. plan_harmless X failed (queue_items q) (go q e)) (λ e. refused_harmless X Refusal.BadSetting)
    where
      go : (q : Option TxQueueConfiguration) → setting_fits q ≡ true → HarmlessItems X (queue_items q)
      go None e = (enable_harmless X false, tt)
      go (Some c) e = (enable_harmless X true, (queue_control_harmless X (queue_settings c) (queue_spared c e), tt))

  pub set_harmless : (x : Setting) → Harmless X (plan_for (sets x))
  set_harmless (Fifo n c) = fifo_harmless n c
  set_harmless (Filter f c) = filter_harmless f c
  set_harmless (FilterOff f) = off_harmless f
  set_harmless (Osc o) = osc_harmless o
  set_harmless (Io c) = plan_harmless X failed (Item.Change (io_change c) ∷ []) (aside pins_aside, tt)
  set_harmless (BitTiming b) = timing_harmless b
  set_harmless (TxQueue q) = queue_harmless q

  pub request_harmless : (n : ℕ) → Harmless X (request_start n)
  unfolding request_start
  request_harmless n =
      by_if (Harmless X) (is_fifo n)
      (λ i. plan_harmless X Refusal.SpiRead (Item.Change (request_change n) ∷ [])
      (control_harmless X n (TXREQ := 1 ∷ []) i request_spared, tt))
      (λ i. refused_harmless X Refusal.BadNumber)

  pub queue_request_harmless : Harmless X queue_request_start
  unfolding queue_request_start
  queue_request_harmless = plan_harmless X Refusal.SpiRead (Item.Change (request_change 0) ∷ []) (queue_control_harmless X (TXREQ := 1 ∷ []) request_spared, tt)
