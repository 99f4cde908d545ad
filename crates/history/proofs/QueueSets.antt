-- What configure_tx_queue does to a chip in Configuration.
-- Assumes nothing.
use Prim.Native.Nat.{ℕ, ◌%◌, ◌^◌, ◌<◌}
use native.Mathlib.Omega.{arith}
use native.Mathlib.Nat.{mod-lt}
use borrow.Author.Tests.{eq-eqb}
use mathlib.Core.Path.{◌≡◌, refl, sym, ap, ap₂, ◌∙◌}
use mathlib.Core.Bool.{Bool, true, false, not, ◌&&◌, false≢true}
use mathlib.Core.List.{List, [], ◌∷◌}
use lib.Dec.{eqb}
use lib.ListN.{length}
use lib.Pow.{pow_pos}
use lib.Seq.{get_or-set_same}
use Rattle.std.specs.Prelude.{if◌then◌else◌, Option, Some, None}
use Rattle.laws.proofs.Choice.{by_if}
use Rattle.words.specs.Words.{le_bytes}
use Rattle.field.specs.Field.{read, flag, write, digit}
use Rattle.field.specs.Settings.{Setting, settings, AllFit}
use Rattle.field.proofs.Laws.{write_other, digit_lt, digit_back}
use Rattle.field.proofs.Sets.{own, off, settings_lt}
use Rattle.configuration.specs.CanControl.{CiCON, TXQEN, OPMOD, REQOP}
use Rattle.fifo.specs.Control.{CiFIFOCON, TXEN, FSIZE, PLSIZE, stored_size}
use Rattle.place.specs.declared.Register.{Register}
use Rattle.place.proofs.Laws.{all_carried_lem}
use Rattle.spi.specs.declared.ask.Ask.{Ask}
use Rattle.spi.specs.declared.ask.Answer.{Answer}
use Rattle.call.specs.declared.Outcome.{Outcome}
use Rattle.plan.specs.declared.change.Change.{Change}
use Rattle.plan.specs.PlanAt.{PlanAt}
use Rattle.plan.specs.Plan.{Plan}
use Rattle.plan.specs.Change.{modified}
use Rattle.plan.specs.Step.{arrived_at, filled, step_of}
use Rattle.plan.specs.Step as plan
use Rattle.plan.specs.Prepared.{plan_for}
use Rattle.plan.proofs.Changes.{change_sets_lem}
use Rattle.areas.specs.declared.settings.TxQueueConfiguration.{TxQueueConfiguration}
use Rattle.areas.specs.Areas.{enable_settings, enable_change, queue_settings, queue_change, queue_fits, setting_fits}
use Rattle.adjust.specs.Calls.{failed, queue_items, configure_tx_queue}
use Rattle.driver.specs.Start.{idle_push, idle_fetch, of_plan}
use Rattle.ring.specs.Ring.{fresh}
use Rattle.ring.specs.Registers.{control}
use Rattle.ring.proofs.Laws.{frozen_kept}
use Rattle.state.specs.declared.Model.{Model}
use Rattle.state.specs.Model.{frozen_at}
use Rattle.bank.specs.declared.writing.Written.{Written}
use Rattle.bank.specs.Registers.{mode_of, word_of, granted, con_set, turned_all, settled as done, denied, con_written, queue_written, register_written}
use Rattle.bank.proofs.Laws.{mode_fits}
use Rattle.bank.proofs.QueueLaws.{txqen_reads_lem}
use Rattle.reach.specs.Reach.{Reached}
use Rattle.reach.proofs.Kept.{always_valid_lem}
use Rattle.history.specs.Command.{Command, Configuring, TxQueue}
use Rattle.history.specs.History.{Event, Begin, Exchange, called, idle, busy, World, hears, waits, by_reply, settled, event, after}
use Rattle.history.specs.Queue.{is_on, setting_up, QueueEnabled, QueueSetUp}
use Rattle.history.proofs.Line.{world, spoken}
use Rattle.history.proofs.Asks.{hear_enabled, hear_queue, tell_queue, tell_low}
use Rattle.history.proofs.Replies.{sent_field, le_said}
use Rattle.history.proofs.Planning as planning
use Rattle.history.proofs.Planning.{planned, Ready}
use Rattle.history.proofs.Plans.{Spared, queue_spared}
use Rattle.history.proofs.PlanSteps.{alone}
use Rattle.history.proofs.PushFails.{settled_chip}

-- ---- the plan

-- the call's plan where it stands there
abbrev setting : Option TxQueueConfiguration → (next : ℕ) → PlanAt → Plan
setting q next at = record { failed = failed; items = filled (queue_items q); next = next; at = at }

begins : (q : Option TxQueueConfiguration) → setting_fits q ≡ true → plan_for (configure_tx_queue q) ≡ setting q 1 (PlanAt.Read (enable_change (is_on q)))
unfolding configure_tx_queue arrived_at
begins None e = refl
begins (Some x) e = rw e

-- a word comes back, and is written changed
read_there : (q : Option TxQueueConfiguration) (next : ℕ) (ch : Change) (x : ℕ)
    → step_of (setting q next (PlanAt.Read ch)) Answer.Exchanged (le_bytes x) ≡ setting q next (PlanAt.Write ch.address (modified ch (x % 2 ^ 32)))
unfolding step_of le_bytes
read_there q next ch x = ap (λ (w : ℕ). setting q next (PlanAt.Write ch.address (modified ch w))) (le_said x)

-- where it goes behind its first write, and behind its second
abbrev behind : Option TxQueueConfiguration → Plan
behind None = setting None 15 PlanAt.Done
behind (Some x) = setting (Some x) 2 (PlanAt.Read (queue_change x))

first_written : (q : Option TxQueueConfiguration) (a w : ℕ) → step_of (setting q 1 (PlanAt.Write a w)) Answer.Exchanged [] ≡ behind q
unfolding step_of arrived_at
first_written None a w = refl
first_written (Some x) a w = refl

second_written : (x : TxQueueConfiguration) (a w : ℕ) → step_of (setting (Some x) 2 (PlanAt.Write a w)) Answer.Exchanged [] ≡ setting (Some x) 15 PlanAt.Done
unfolding step_of arrived_at
second_written x a w = refl

-- ---- the exchanges

abbrev ready : Ready idle_push idle_fetch false
ready = alone idle_push idle_fetch

abbrev call : Option TxQueueConfiguration → Command
call q = Configuring (TxQueue q)

abbrev at : Option TxQueueConfiguration → Plan → Model → World
at q p c = world c (busy (call q) (planned false p idle_push idle_fetch)) []

-- an exchange takes the call from p to z
next : (q : Option TxQueueConfiguration) (p z : Plan) (c d : Model) (rx : List ℕ) (es : List Event) → ((b : List ℕ) → spoken (plan.ask_of p) b c ≡ hears Answer.Exchanged rx d)
    → waits (plan.ask_of p) ≡ false → step_of p Answer.Exchanged rx ≡ z
    → after (Exchange ∷ es) (at q p c) ≡ after es (settled d [] (call q) (planned false z idle_push idle_fetch) rx)
unfolding after event
next q p z c d rx es h w e = ap (after es) (planning.turned idle_push idle_fetch false ready p [] (call q) c rx d w h ∙ rw e)

-- and it goes on there
goes : (q : Option TxQueueConfiguration) (p z : Plan) (c d : Model) (rx : List ℕ) (es : List Event) → ((b : List ℕ) → spoken (plan.ask_of p) b c ≡ hears Answer.Exchanged rx d)
    → waits (plan.ask_of p) ≡ false → step_of p Answer.Exchanged rx ≡ z → plan.outcome_of z ≡ Outcome.Running
    → after (Exchange ∷ es) (at q p c) ≡ after es (at q z d)
goes q p z c d rx es h w e r = next q p z c d rx es h w e ∙ ap (after es) (planning.still idle_push idle_fetch false ready z [] (call q) d rx r refl)

-- CiCON written: done, or done and not granted
con_told : (b : List ℕ) (c : Model) (w : ℕ) → w < 2 ^ 32 → spoken (Ask.Word (CiCON.address 0) w) b c ≡ hears Answer.Exchanged [] (con_written c w).model
unfolding register_written
con_told b c w l =
    tell_low b c (CiCON.address 0) Register.Con all_carried_lem.con (omega arith) w l
    ∙ by_if (λ r. by_reply r (con_written c w).model ≡ hears Answer.Exchanged [] (con_written c w).model) (con_written c w).granted (λ e. refl) (λ e. refl)

module _ (c : Model) (q : Option TxQueueConfiguration) (fits : setting_fits q ≡ true) where
  -- CiCON as it is read, and as it is written
  abbrev seen : ℕ
  seen = word_of c Register.Con % 2 ^ 32

  abbrev w : ℕ
  w = modified (enable_change (is_on q)) seen

  abbrev ss : List Setting
  ss = enable_settings (is_on q)

  fit : AllFit ss
  fit = (digit_lt (is_on q), tt)

  w_is : w ≡ settings ss seen
  w_is = change_sets_lem (CiCON.address 0) ss seen (mod-lt _ (pow_pos 32)) fit

  w_small : w < 2 ^ 32
  w_small = rw w_is (settings_lt 32 ss seen refl fit (mod-lt _ (pow_pos 32)))

  w_reqop : read REQOP w ≡ read REQOP c.setup.con
  unfolding word_of
  w_reqop =
      ap (read REQOP) w_is ∙ off REQOP ss seen refl fit ∙ sent_field 32 REQOP (word_of c Register.Con) refl
      ∙ write_other TXQEN REQOP (digit c.fixed.queue) _ (digit_lt c.fixed.queue) refl ∙ write_other OPMOD REQOP (mode_of c) c.setup.con (mode_fits c) refl

  w_txqen : flag TXQEN w ≡ is_on q
  w_txqen = ap (λ (x : ℕ). eqb x 1) (ap (read TXQEN) w_is ∙ own ss seen 0 refl fit (omega arith)) ∙ digit_back (is_on q)

  -- the chip after it
  abbrev c₁ : Model
  c₁ = (con_written c w).model

  begun : (es : List Event) → after (Begin (call q) ∷ es) (record { chip = c; doing = idle; said = [] }) ≡ after es (at q (setting q 1 (PlanAt.Read (enable_change (is_on q)))) c)
  unfolding after event of_plan
  begun es =
      ap (λ (p : Plan). after es (settled c [] (call q) (planned false p idle_push idle_fetch) [])) (begins q fits)
      ∙ ap (after es) (planning.still idle_push idle_fetch false ready (setting q 1 (PlanAt.Read (enable_change (is_on q)))) [] (call q) c [] refl refl)

  -- its first two exchanges
  two : (es : List Event) → after (Begin (call q) ∷ Exchange ∷ Exchange ∷ es) (record { chip = c; doing = idle; said = [] })
      ≡ after es (settled c₁ [] (call q) (planned false (behind q) idle_push idle_fetch) [])
  two es =
      begun (Exchange ∷ Exchange ∷ es)
      ∙ goes q _ (setting q 1 (PlanAt.Write (CiCON.address 0) w)) c c (le_bytes (word_of c Register.Con)) (Exchange ∷ es) (λ b. hear_enabled b c) refl (read_there q 1 (enable_change (is_on q)) _) refl
      ∙ next q (setting q 1 (PlanAt.Write (CiCON.address 0) w)) (behind q) c c₁ [] es (λ b. con_told b c w w_small) refl (first_written q (CiCON.address 0) w)

pub queue_enabled_lem : QueueEnabled
unfolding after
queue_enabled_lem c q fits = record {
  word = w c q fits;
  reqop = w_reqop c q fits;
  txqen = w_txqen c q fits;
  written = ap (λ (v : World). v.chip) (two c q fits []) ∙ settled_chip _ [] (call q) _ [];
}

-- ---- in Configuration with REQOP 4

module _ (c : Model) (r : Reached c) (inside : c.fixed.configuring ≡ true) (mode : read REQOP c.setup.con ≡ 4) (q : Option TxQueueConfiguration) (fits : setting_fits q ≡ true) where
  stays : c₁ c q fits ≡ con_set c (w c q fits) true
  unfolding con_written
  stays =
      let v = w c q fits in
      ap (λ (x : Written). x.model)
      (ap₂ (λ (i b : Bool).
      if i && not b && not (granted c.fixed v) then denied (con_set c v true)
      else if b then if i then done (con_set c v true) else done (con_set (turned_all true c) v true)
      else if i then done (con_set (turned_all false c) v false)
      else done (con_set c v false))
      inside (eq-eqb (read REQOP v) 4 (w_reqop c q fits ∙ mode)))

  -- what the chip then is
  still_inside : (c₁ c q fits).fixed.configuring ≡ true
  still_inside = ap (λ (x : Model). x.fixed.configuring) stays

  taken : (c₁ c q fits).fixed.queue ≡ is_on q
  taken = ap (λ (x : Model). x.fixed.queue) stays ∙ ap (λ (i : Bool). if i then flag TXQEN (w c q fits) else c.fixed.queue) inside ∙ w_txqen c q fits

  frozens : length (c₁ c q fits).fixed.frozen ≡ 32
  frozens = ap (λ (x : Model). length x.fixed.frozen) stays ∙ (always_valid_lem c r).frozens

-- the queue's control written in Configuration
module _ (c : Model) (inside : c.fixed.configuring ≡ true) (frozens : length c.fixed.frozen ≡ 32) (x : TxQueueConfiguration) (fits : queue_fits x ≡ true) where
  abbrev held : ℕ
  held = word_of c Register.QueueControl % 2 ^ 32

  abbrev new : ℕ
  new = modified (queue_change x) held

  sp : Spared (queue_settings x)
  sp = queue_spared x fits

  new_is : new ≡ settings (queue_settings x) held
  new_is = change_sets_lem (CiFIFOCON.address 0) (queue_settings x) held (mod-lt _ (pow_pos 32)) sp.fit

  new_small : new < 2 ^ 32
  new_small = rw new_is (settings_lt 32 (queue_settings x) held sp.inside sp.fit (mod-lt _ (pow_pos 32)))

  abbrev d : Model
  d = queue_written c new

  frozen_is : frozen_at d 0 ≡ write TXEN 1 new
  unfolding queue_written
  frozen_is =
      by_if (λ (m : Model). frozen_at m 0 ≡ write TXEN 1 new) c.fixed.configuring
      (λ e. get_or-set_same c.fixed.frozen 0 (write TXEN 1 new) 0 (omega (arith, frozens))) (λ e. absurd (false≢true (sym e ∙ inside)))

  fsize : read FSIZE (word_of d Register.QueueControl) ≡ stored_size x.size
  unfolding word_of control fresh
  fsize =
      (frozen_kept (frozen_at d 0) (fresh d.queue.control)).1.1.0 ∙ ap (read FSIZE) frozen_is ∙ write_other TXEN FSIZE 1 new (omega arith) refl
      ∙ ap (read FSIZE) new_is ∙ own (queue_settings x) held 2 refl sp.fit (omega arith)

  plsize : read PLSIZE (word_of d Register.QueueControl) ≡ x.plsize
  unfolding word_of control fresh
  plsize =
      (frozen_kept (frozen_at d 0) (fresh d.queue.control)).1.1.1.0 ∙ ap (read PLSIZE) frozen_is ∙ write_other TXEN PLSIZE 1 new (omega arith) refl
      ∙ ap (read PLSIZE) new_is ∙ own (queue_settings x) held 3 refl sp.fit (omega arith)

  -- the rest stays
  d_inside : d.fixed.configuring ≡ true
  unfolding queue_written
  d_inside = by_if (λ (m : Model). m.fixed.configuring ≡ true) c.fixed.configuring (λ e. inside) (λ e. inside)

  d_queue : d.fixed.queue ≡ c.fixed.queue
  unfolding queue_written
  d_queue = by_if (λ (m : Model). m.fixed.queue ≡ c.fixed.queue) c.fixed.configuring (λ e. refl) (λ e. refl)

  -- the last two exchanges
  more : (es : List Event) → after (Exchange ∷ Exchange ∷ es) (at (Some x) (behind (Some x)) c)
      ≡ after es (world d idle (called (call (Some x)) Outcome.Done [] ∷ []))
  more es =
      let q : (Option TxQueueConfiguration) = Some x in
      goes q _ (setting q 2 (PlanAt.Write (CiFIFOCON.address 0) new)) c c (le_bytes (word_of c Register.QueueControl)) (Exchange ∷ es) (λ b. hear_queue b c) refl (read_there q 2 (queue_change x) _) refl
      ∙ next q (setting q 2 (PlanAt.Write (CiFIFOCON.address 0) new)) (setting q 15 PlanAt.Done) c d [] es (λ b. tell_queue b c new new_small) refl (second_written x (CiFIFOCON.address 0) new)
      ∙ ap (after es) (planning.over idle_push idle_fetch false ready (setting q 15 PlanAt.Done) [] (call q) d [] refl)

pub queue_set_up_lem : QueueSetUp
unfolding after event
queue_set_up_lem c r inside mode None fits =
    let q : (Option TxQueueConfiguration) = None in
    let is : setting_up c q 4 ≡ world (c₁ c q fits) idle (called (call q) Outcome.Done [] ∷ [])
    = two c q fits (Exchange ∷ Exchange ∷ []) ∙ ap (after (Exchange ∷ Exchange ∷ [])) (planning.over idle_push idle_fetch false ready (setting q 15 PlanAt.Done) [] (call q) (c₁ c q fits) [] refl) in
    rw is (record {
      said = refl;
      inside = still_inside c r inside mode q fits;
      txqen = txqen_reads_lem _ ∙ ap digit (taken c r inside mode q fits);
      control = λ x e. let z : ◌≡◌ {A = ℕ} 0 1 = cc in absurd (omega arith);
    })
queue_set_up_lem c r inside mode (Some x) fits =
    let q : (Option TxQueueConfiguration) = Some x in
    let c₁ : Model = c₁ c q fits in
    let i = still_inside c r inside mode q fits in
    let f = frozens c r inside mode q fits in
    let is : setting_up c q 4 ≡ world (d c₁ i f x fits) idle (called (call q) Outcome.Done [] ∷ [])
    = two c q fits (Exchange ∷ Exchange ∷ [])
    ∙ ap (after (Exchange ∷ Exchange ∷ [])) (planning.still idle_push idle_fetch false ready (behind q) [] (call q) c₁ [] refl refl) ∙ more c₁ i f x fits [] in
    rw is (record {
      said = refl;
      inside = d_inside c₁ i f x fits;
      txqen = txqen_reads_lem _ ∙ ap digit (d_queue c₁ i f x fits ∙ taken c r inside mode q fits);
      control = λ y e. let z : x ≡ y = cc in (fsize c₁ i f x fits ∙ ap (λ (k : TxQueueConfiguration). stored_size k.size) z, plsize c₁ i f x fits ∙ ap (λ (k : TxQueueConfiguration). k.plsize) z);
    })
