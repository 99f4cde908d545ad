-- What the queue's registers and CiCON say outside Configuration, what a control word written back does to the queue, and where its pushes
-- go next.
-- Assumes nothing.
use Prim.Native.Nat.{ℕ, ◌+◌, ◌%◌, ◌^◌, ◌≤◌}
use mathlib.Core.Path.{◌≡◌, refl, sym, ap, ◌∙◌, ap₂}
use mathlib.Core.Bool.{Bool, true, false, not, ◌&&◌}
use mathlib.Core.List.{[], ◌∷◌}
use native.Mathlib.Nat.{mod-lt, mod-eq_of_lt}
use native.Mathlib.Omega.{arith}
use borrow.Author.Tests.{le-ltb, ne_eqb}
use lib.Dec.{ltb, eqb}
use lib.ListN.{get_or}
use Rattle.std.specs.Prelude.{if◌then◌else◌}
use Rattle.field.specs.Field.{read, flag, digit, mark}
use Rattle.field.specs.Settings.{◌:=◌, settings}
use Rattle.field.proofs.Laws.{read_write, write_other, digit_lt, digit_back}
use Rattle.field.proofs.Sets.{own}
use Rattle.words.specs.Words.{le_bytes}
use Rattle.configuration.specs.CanControl.{TXQEN, OPMOD, REQOP}
use Rattle.fifo.specs.Control.{UINC, FRESET, PLSIZE, payloads, payload_of}
use Rattle.fifo.specs.Status.{TFNRFNIF, TFERFFIF}
use Rattle.spi.specs.declared.refusal.Refusal.{Refusal}
use Rattle.spi.specs.declared.ask.Answer.{Answer}
use Rattle.place.specs.declared.Register.{Register}
use Rattle.tx_fifo.specs.PushAt.{PushAt}
use Rattle.tx_fifo.specs.Step.{after_enabled, after_control, after_status, after_address, next_at}
use Rattle.ring.specs.declared.queue.Queue.{Queue}
use Rattle.ring.specs.Ring.{fresh}
use Rattle.ring.specs.Registers.{control}
use Rattle.ring.specs.Layout.{size}
use Rattle.ring.specs.Queue as queue
use Rattle.ring.specs.Queue.{full, status}
use Rattle.ring.proofs.Laws.{frozen_kept}
use Rattle.ring.proofs.QueueControl.{queue_off}
use Rattle.state.specs.declared.Model.{Model}
use Rattle.state.specs.Model.{frozen_at, with_setup, with_queue}
use Rattle.bank.specs.declared.writing.Written.{Written}
use Rattle.bank.specs.Registers.{mode_of, queue_shown, word_of, con_set, con_written, queue_written, register_written, granted, settled, denied, turned_all}
use Rattle.bank.proofs.Laws.{mode_fits}
use Rattle.bank.proofs.QueueLaws.{txqen_reads_lem}
use Rattle.bus.specs.Queue.{queue_slot}
use Rattle.history.proofs.Sound.{Sound}
use Rattle.history.proofs.Asks.{range_in}
use Rattle.history.proofs.Replies.{Gentle, sent_field, word_said}
use Rattle.history.proofs.Harmless.{Staying}
use Rattle.history.proofs.QueueSlots.{queue_inside}
use lib.Pow.{pow_pos}

module _ (c : Model) (s : Sound c) where
  -- ---- CiCON

  -- REQOP asks for another mode than Configuration
  pub con_stays : Staying (word_of c Register.Con % 2 ^ 32)
  unfolding word_of
  con_stays = record {
    small = mod-lt _ (pow_pos 32);
    asks = λ e.
        s.valid.mode s.out
        (sym (sent_field 32 REQOP (word_of c Register.Con) refl ∙ write_other TXQEN REQOP (digit c.fixed.queue) _ (digit_lt c.fixed.queue) refl
        ∙ write_other OPMOD REQOP (mode_of c) c.setup.con (mode_fits c) refl) ∙ e);
  }

  -- a word that does not ask to enter it changes what holds as written
  pub con_staying : (w : ℕ) → (read REQOP w ≡ 4 → ⊥)
      → (register_written c Register.Con w).model
      ≡ with_setup c (record { con = w; osc = c.setup.osc; plain = c.setup.plain; filter = c.setup.filter; object = c.setup.object; mask = c.setup.mask })
  unfolding register_written con_written
  con_staying w h =
      ap (λ (x : Written). x.model)
      (ap₂ (λ (i b : Bool).
      if i && not b && not (granted c.fixed w) then denied (con_set c w true)
      else if b then if i then settled (con_set c w true) else settled (con_set (turned_all true c) w true)
      else if i then settled (con_set (turned_all false c) w false)
      else settled (con_set c w false))
      s.out (ne_eqb (read REQOP w) 4 h))
      ∙ out_same s.out
    where
      out_same : c.fixed.configuring ≡ false → con_set c w false ≡ with_setup c (record { con = w; osc = c.setup.osc; plain = c.setup.plain; filter = c.setup.filter; object = c.setup.object; mask = c.setup.mask })
      out_same e = λ i. record {
        fixed = record { configuring = sym e i; queue = (if e i then flag TXQEN w else c.fixed.queue); frozen = c.fixed.frozen };
        setup = record { con = w; osc = c.setup.osc; plain = c.setup.plain; filter = c.setup.filter; object = c.setup.object; mask = c.setup.mask };
        fifo = c.fifo;
        queue = c.queue;
        ram = c.ram;
      }

  pub enabled_told : flag TXQEN (word_of c Register.Con % 2 ^ 32) ≡ c.fixed.queue
  enabled_told = ap (λ (x : ℕ). eqb x 1) (sent_field 32 TXQEN (word_of c Register.Con) refl ∙ txqen_reads_lem c) ∙ digit_back c.fixed.queue

  -- ---- the control word

  abbrev word : ℕ
  word = word_of c Register.QueueControl

  pub queue_gentle : Gentle (word % 2 ^ 32)
  unfolding word_of
  queue_gentle = record {
    small = mod-lt word (pow_pos 32);
    uinc = sent_field 32 UINC word refl ∙ queue_off UINC (frozen_at c 0) c.queue refl ∙ s.valid.queue.uinc;
    freset = sent_field 32 FRESET word refl ∙ queue_off FRESET (frozen_at c 0) c.queue refl ∙ s.valid.queue.freset s.out;
  }

  pub queue_payload : payload_of (word % 2 ^ 32) ≡ payload_of (frozen_at c 0)
  unfolding word_of payload_of control fresh
  queue_payload = ap (λ (x : ℕ). get_or payloads x 0) (sent_field 32 PLSIZE word refl ∙ (frozen_kept (frozen_at c 0) (fresh c.queue.control)).1.1.1.0)

  -- ---- the status, and the user address, where the queue is on

  module _ (on : c.fixed.queue ≡ true) where
    status_told : flag TFNRFNIF (word_of c Register.QueueStatus % 2 ^ 32) ≡ not (full (frozen_at c 0) c.queue)
    unfolding word_of status
    status_told =
        let q = c.queue in
        let v = frozen_at c 0 in
        rw (s.out, on)
        (ap (λ (x : ℕ). eqb x 1)
        (sent_field 32 TFNRFNIF (status v q) refl
        ∙ own (TFNRFNIF := digit (not (full v q)) ∷ TFERFFIF := digit (queue.empty v q) ∷ []) 0 0 refl (digit_lt (not (full v q)), (digit_lt (queue.empty v q), tt)) (omega arith))
        ∙ digit_back (not (full v q)))

    pub shown_inside : queue_shown c + size (frozen_at c 0) ≤ 2048
    unfolding queue_shown queue_slot
    shown_inside = queue_inside c s on c.queue.shown s.valid.queue.shown

    address_told : word_of c Register.QueueAddress % 2 ^ 32 ≡ queue_shown c
    unfolding word_of
    address_told = ap₂ (λ (i q : Bool). (if not i && q then queue_shown c else 0) % 2 ^ 32) s.out on ∙ mod-eq_of_lt (omega (arith, shown_inside))

    -- ---- where a push goes next

    pub next_queue_status : (size len v : ℕ) → next_at 0 size len (PushAt.Status v) Answer.Exchanged (le_bytes (word_of c Register.QueueStatus))
        ≡ (if full (frozen_at c 0) c.queue then PushAt.Refused Refusal.FifoFull else PushAt.Address v)
    unfolding after_status
    next_queue_status size len v = rw (word_said Refusal.SpiRead (word_of c Register.QueueStatus), status_told) (go (full (frozen_at c 0) c.queue))
      where
        go : (b : Bool) → (if not b then PushAt.Address v else PushAt.Refused Refusal.FifoFull) ≡ (if b then PushAt.Refused Refusal.FifoFull else PushAt.Address v)
        go true = refl
        go false = refl

    -- where the user address leads, `to` with it
    next_shown : (len : ℕ) (to : ℕ → PushAt) → queue_shown c + len ≤ 2048 → after_address len to (word_of c Register.QueueAddress % 2 ^ 32) ≡ to (queue_shown c + 0x400)
    unfolding after_address
    next_shown len to h = rw (address_told, le-ltb 0xFBFF (queue_shown c) (omega arith), range_in (queue_shown c) len h)

    pub next_queue_address : (size len w : ℕ) → queue_shown c + len ≤ 2048
        → next_at 0 size len (PushAt.Address w) Answer.Exchanged (le_bytes (word_of c Register.QueueAddress)) ≡ PushAt.Write w (queue_shown c + 0x400)
    next_queue_address size len w h = rw (word_said Refusal.SpiRead (word_of c Register.QueueAddress)) (next_shown len (PushAt.Write w) h)

    pub next_bare_address : (size len : ℕ) → queue_shown c + len ≤ 2048
        → next_at 0 size len PushAt.BareAddress Answer.Exchanged (le_bytes (word_of c Register.QueueAddress)) ≡ PushAt.BareWrite (queue_shown c + 0x400)
    next_bare_address size len h = rw (word_said Refusal.SpiRead (word_of c Register.QueueAddress)) (next_shown len PushAt.BareWrite h)

  pub next_bare_control : (size len : ℕ) → next_at 0 size len PushAt.BareControl Answer.Exchanged (le_bytes word) ≡ PushAt.Commit (word % 2 ^ 32)
  next_bare_control size len = rw (word_said Refusal.SpiRead word)

  pub next_enabled : (size len : ℕ) → next_at 0 size len PushAt.Enabled Answer.Exchanged (le_bytes (word_of c Register.Con))
      ≡ (if c.fixed.queue then PushAt.Control else PushAt.Refused Refusal.TxQueueDisabled)
  unfolding after_enabled
  next_enabled size len = rw (word_said Refusal.SpiRead (word_of c Register.Con), enabled_told)

  pub next_queue_control : (size len : ℕ) → next_at 0 size len PushAt.Control Answer.Exchanged (le_bytes word)
      ≡ (if ltb (payload_of (frozen_at c 0)) size then PushAt.Refused Refusal.FifoTooSmall else PushAt.Status (word % 2 ^ 32))
  unfolding after_control
  next_queue_control size len = rw (word_said Refusal.SpiRead word, queue_payload)

  -- ---- what a control word written back does

  written_out : (w : ℕ) → queue_written c w ≡ with_queue c (queue.commanded c.fixed.queue (frozen_at c 0) w c.queue)
  unfolding queue_written
  written_out w = rw s.out

  -- the queue with the control word that is kept of w
  abbrev kept : ℕ → Queue
  kept w = queue.controlled (settings (UINC := 0 ∷ FRESET := 0 ∷ []) w) c.queue

  -- with UINC, where the queue is on, the slot shown is claimed
  pub queue_uinc : c.fixed.queue ≡ true → (v : ℕ) → Gentle v
      → (g : Queue) × (queue_written c (mark UINC true v) ≡ with_queue c (queue.claimed (frozen_at c 0) g)) × (g.held ≡ c.queue.held) × (g.shown ≡ c.queue.shown)
  unfolding queue.controlled queue.commanded
  queue_uinc on v g =
      let w : ℕ = mark UINC true v in
      let u : flag UINC w ≡ true = ap (λ (x : ℕ). eqb x 1) (read_write UINC 1 v (omega arith)) in
      let r : flag FRESET w ≡ false = ap (λ (x : ℕ). eqb x 1) (write_other UINC FRESET 1 v (omega arith) refl ∙ g.freset) in
      (kept w, written_out w ∙ rw (on, u, r), refl, refl)

  -- without it only the control word is another
  pub queue_plain : (v : ℕ) → read UINC v ≡ 0 → read FRESET v ≡ 0
      → (g : Queue) × (queue_written c v ≡ with_queue c g) × (g.held ≡ c.queue.held) × (g.shown ≡ c.queue.shown)
  unfolding queue.controlled queue.commanded
  queue_plain v y z =
      let u : flag UINC v ≡ false = ap (λ (x : ℕ). eqb x 1) y in
      let r : flag FRESET v ≡ false = ap (λ (x : ℕ). eqb x 1) z in
      (kept v, written_out v ∙ rw (u, r) (go c.fixed.queue), refl, refl)
    where
      go : (b : Bool) → with_queue c (if b && false then queue.claimed (frozen_at c 0) (kept v) else kept v) ≡ with_queue c (kept v)
      go true = refl
      go false = refl
