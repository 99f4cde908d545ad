-- How the calls that are plans begin: the words put into the body are the bits of their changes.
-- Assumes nothing.
use Prim.Native.Nat.{ℕ, ◌/◌, ◌≤◌, ◌<◌}
use mathlib.Core.Path.{◌≡◌, refl, ap, ◌∙◌}
use mathlib.Core.Bool.{Bool, true, false, not, ◌&&◌}
use mathlib.Core.List.{List, [], ◌∷◌}
use native.Mathlib.Omega.{arith}
use lib.Dec.{eqb, leb, lit<}
use borrow.Author.Tests.{lt-ltb, le-ltb, ltb-true, leb-true}
use Rattle.std.specs.Prelude.{if◌then◌else◌, Some, Result, Ok, Err}
use Rattle.laws.proofs.Table.{both}
use Rattle.field.specs.Field.{with_field, flag, mark}
use Rattle.field.specs.Settings.{Setting, fields_of}
use Rattle.field.proofs.Laws.{read_write}
use Rattle.configuration.specs.CanControl.{CiCON}
use Rattle.chip.specs.OscillatorControl.{OSC, PLLEN}
use Rattle.chip.specs.IoControl.{IOCON}
use Rattle.bit_timing.specs.Nominal.{CiNBTCFG}
use Rattle.bit_timing.specs.Data.{CiDBTCFG}
use Rattle.bit_timing.specs.Delay.{CiTDC}
use Rattle.interrupt.specs.Interrupt.{IE}
use Rattle.interrupt.specs.declared.Cause.{Cause}
use Rattle.fifo.specs.Control.{is_fifo}
use Rattle.fifo.specs.TxQueueControl.{CiTXQCON}
use Rattle.filter.specs.Control.{CiFLTCON}
use Rattle.filter.specs.Object.{CiFLTOBJ}
use Rattle.filter.specs.Mask.{CiMASK}
use Rattle.spi.specs.declared.refusal.Refusal.{Refusal}
use Rattle.plan.specs.declared.change.Change.{Change}
use Rattle.plan.specs.declared.item.Poll.{Poll}
use Rattle.plan.specs.declared.item.Item.{Item}
use Rattle.plan.specs.PlanAt.{PlanAt}
use Rattle.plan.specs.Change.{change_of, change_to}
use Rattle.plan.specs.Step.{arrived_at, filled, plan_of, refused_plan}
use Rattle.plan.specs.Prepared.{plan_for}
use Rattle.plan.proofs.Changes.{change_is_lem}
use Rattle.changes.specs.declared.settings.OscillatorConfiguration.{OscillatorConfiguration}
use Rattle.changes.specs.declared.settings.BitTimeConfiguration.{BitTimeConfiguration}
use Rattle.changes.specs.declared.settings.Settings.{Settings}
use Rattle.areas.specs.declared.settings.TxQueueConfiguration.{TxQueueConfiguration}
use Rattle.areas.specs.declared.settings.FilterConfiguration.{FilterConfiguration}
use Rattle.changes.specs.Changes.{when_asked, mode_change, mode_settings, mode_to, oscillator_change, oscillator_settings, io_change, io_settings, nominal_change, nominal_settings, nominal_to, data_change, data_settings, data_to, delay_change, delay_settings, delay_to, stef_change, txqen_change, counter_change, dncnt_change, dncnt_settings, rtxat_change, interrupt_change, interrupt_to}
use Rattle.changes.proofs.Enables.{enables_is, interrupt_to_lem}
use Rattle.areas.specs.Areas.{enable_change, queue_change, queue_settings, queue_to, off_change, object_change, object_settings, object_to, mask_change, mask_settings, mask_to, on_change, on_settings, on_to, is_identifier, is_filter, filter_check}
use Rattle.adjust.specs.Calls.{timing_items, queue_items, filter_items, set_op_mode}
use Rattle.configure.specs.Whole.{configure_items}
use Rattle.configure.specs.declared.planned.PlanKind.{PlanKind}
use Rattle.configure.specs.declared.planned.PlanNumbers.{PlanNumbers}
use Rattle.configure.specs.Numbers.{failed_in, word, items_for, plan_in}
use Rattle.configure.specs.Moves.{begun_with}

-- a plan whose first item is the change that its numbers have under way
pub begins_with : (kind : PlanKind) (n : ℕ) (x : Change) (body : List ℕ) (items : List Item) → items_for kind n x body ≡ Item.Change x ∷ items
    → plan_in (begun_with kind n x) body ≡ plan_of (failed_in kind) (Item.Change x ∷ items)
unfolding plan_in arrived_at
begins_with kind n x body items e = ap (λ l. record { failed = failed_in kind; items = filled l; next = 1; at = PlanAt.Read x }) e

-- the change to the bits that settings make is the change of the settings
pub made : (address : ℕ) (ss : List Setting) (bits : ℕ) → bits ≡ (change_of address ss).set → change_to address (fields_of ss) bits ≡ change_of address ss
made address ss bits e = ap (change_to address (fields_of ss)) e ∙ change_is_lem address ss

-- what sets a mode begins where its definition does, and any other number is refused
pub mode_begins : (c : PlanNumbers) (m : ℕ) (body : List ℕ) → m < 8 → c ≡ begun_with PlanKind.Mode m (mode_to (mode_change m).set)
    → plan_in c body ≡ plan_for (set_op_mode m)
unfolding set_op_mode items_for
mode_begins c m body l e =
    let x = made (CiCON.address 0) (mode_settings m) _ refl in
    simp (e, x, lt-ltb _ _ l) (begins_with PlanKind.Mode m (mode_change m) body _ refl)

pub mode_refused : (c : PlanNumbers) (m : ℕ) (body : List ℕ) → 8 ≤ m → plan_in c body ≡ refused_plan Refusal.BadSetting → plan_in c body ≡ plan_for (set_op_mode m)
unfolding set_op_mode
mode_refused c m body l e = simp (le-ltb _ _ l) e

-- ---- what the tests tell

-- numbers that are not refused are small
pub fifo_number_lem : (n : ℕ) → is_fifo n ≡ true → n ≤ 31
unfolding is_fifo
fifo_number_lem n e = leb-true n 31 (both (leb 1 n) (leb n 31) e).1

pub filter_number : (f : ℕ) (c : FilterConfiguration) → filter_check f c ≡ Ok tt → f < 32
unfolding filter_check
filter_number f c = go (is_filter f) refl
  where
    go : (b : Bool) → is_filter f ≡ b
        → ◌≡◌ {A = Result (Unit {0}) Refusal} (if not (b && is_fifo c.fifo) then Err Refusal.BadNumber else if not (is_identifier c.object && is_identifier c.mask) then Err Refusal.BadIdentifier else Ok tt) (Ok tt)
        → f < 32
    go true e h = ltb-true f 32 e
    go false e h = cc

-- two tests, one after the other, are one
pub one_test : {A : Type 0} (a b : Bool) (x y : A) → (if a then if b then x else y else y) ≡ (if a && b then x else y)
one_test true b x y = refl
one_test false b x y = refl

-- ---- what the bits say of the settings

pub pll_asked : (o : OscillatorConfiguration) → flag PLLEN (oscillator_change o).set ≡ o.pll
unfolding with_field
pll_asked o = go o.pll o.divide
  where
    go : (p d : Bool) → flag PLLEN (oscillator_change (record { pll = p; divide = d })).set ≡ p
    go true true = refl
    go true false = refl
    go false true = refl
    go false false = refl

-- the counter's interrupt is enabled where the counter is asked for
counter_asked : (s : Settings) → flag (IE Cause.Tbc) (interrupt_change s).set ≡ s.counter
counter_asked s = ap (λ c. flag (IE Cause.Tbc) c.set) (enables_is s) ∙ marked s.counter _
  where
    marked : (on : Bool) (w : ℕ) → flag (IE Cause.Tbc) (mark (IE Cause.Tbc) on w) ≡ on
    marked true w = ap (λ (v : ℕ). eqb v 1) (read_write (IE Cause.Tbc) 1 w (lit< tt))
    marked false w = ap (λ (v : ℕ). eqb v 1) (read_write (IE Cause.Tbc) 0 w (lit< tt))

-- the bits of DNCNT are its value
dncnt_is : (n : ℕ) → (dncnt_change n).set ≡ n
unfolding with_field
dncnt_is n = omega arith

-- ---- the items, by the words

module _ (b : BitTimeConfiguration) (u v w : ℕ) (p : u ≡ (nominal_change b.nominal).set) (q : v ≡ (data_change b.data).set) (r : w ≡ (delay_change b.data).set) where
  pub timing_made : (Item.Change (nominal_to u) ∷ Item.Change (data_to v) ∷ Item.Change (delay_to w) ∷ []) ≡ timing_items b
  timing_made =
      let n = made (CiNBTCFG.address 0) (nominal_settings b.nominal) u p in
      let d = made (CiDBTCFG.address 0) (data_settings b.data) v q in
      let t = made (CiTDC.address 0) (delay_settings b.data) w r in
      λ i. Item.Change (n i) ∷ Item.Change (d i) ∷ Item.Change (t i) ∷ []

pub queue_made : (c : TxQueueConfiguration) (u : ℕ) → u ≡ (queue_change c).set
    → (Item.Change (enable_change true) ∷ Item.Change (queue_to u) ∷ []) ≡ queue_items (Some c)
queue_made c u p = ap (λ x. Item.Change (enable_change true) ∷ Item.Change x ∷ []) (made (CiTXQCON.address 0) (queue_settings c) u p)

module _ (f : ℕ) (c : FilterConfiguration) (u v w : ℕ) (p : u ≡ (object_change f c.object c.mode).set) (q : v ≡ (mask_change f c.mask c.mode).set) (r : w ≡ (on_change f c.fifo).set) where
  pub filter_made : (Item.Change (off_change f) ∷ Item.Change (object_to f u) ∷ Item.Change (mask_to f v) ∷ Item.Change (on_to f w) ∷ []) ≡ filter_items f c
  filter_made =
      let o = made (CiFLTOBJ.address f) (object_settings c.object c.mode) u p in
      let m = made (CiMASK.address f) (mask_settings c.mask c.mode) v q in
      let n = made (CiFLTCON.address (f / 4)) (on_settings f c.fifo) w r in
      λ i. Item.Change (off_change f) ∷ Item.Change (o i) ∷ Item.Change (m i) ∷ Item.Change (n i) ∷ []

module _ (s : Settings) (x : Change) (body : List ℕ)
    (o : word 0 body ≡ (oscillator_change s.oscillator).set)
    (p : word 1 body ≡ (io_change s.io).set)
    (n : word 2 body ≡ (nominal_change s.bittime.nominal).set)
    (d : word 3 body ≡ (data_change s.bittime.data).set)
    (t : word 4 body ≡ (delay_change s.bittime.data).set)
    (k : word 5 body ≡ (dncnt_change s.dncnt).set)
    (q : word 6 body ≡ (interrupt_change s).set) where
  pub whole_made : items_for PlanKind.Configure 4 x body ≡ configure_items s
  unfolding items_for
  whole_made =
      let oscillator = made (OSC.address 0) (oscillator_settings s.oscillator) (word 0 body) o in
      let pll = ap (flag PLLEN) o ∙ pll_asked s.oscillator in
      let io = made (IOCON.address 0) (io_settings s.io) (word 1 body) p in
      let nominal = made (CiNBTCFG.address 0) (nominal_settings s.bittime.nominal) (word 2 body) n in
      let fast = made (CiDBTCFG.address 0) (data_settings s.bittime.data) (word 3 body) d in
      let delay = made (CiTDC.address 0) (delay_settings s.bittime.data) (word 4 body) t in
      let counter = ap (flag (IE Cause.Tbc)) q ∙ counter_asked s in
      let none = ap (λ (v : ℕ). eqb v 0) (k ∙ dncnt_is s.dncnt) in
      let dncnt = made (CiCON.address 0) (dncnt_settings s.dncnt) (word 5 body) k in
      let interrupt = ap interrupt_to q ∙ interrupt_to_lem s in
      λ i. Item.Change (mode_change 4) ∷ Item.Poll (Poll.Mode 4 Refusal.ConfigurationModeTimeout) 4 ∷ Item.Echo
      ∷ Item.Change (oscillator i) ∷ when_asked (pll i) (Item.Poll Poll.Pll 2) ∷ Item.Change (io i)
      ∷ Item.Change (nominal i) ∷ Item.Change (fast i) ∷ Item.Change (delay i)
      ∷ Item.Change stef_change ∷ Item.Change txqen_change ∷ when_asked (counter i) (Item.Change counter_change)
      ∷ (if none i then Item.Nothing else Item.Change (dncnt i)) ∷ Item.Change rtxat_change ∷ Item.Change (interrupt i) ∷ []
