-- What happens to two chips that are the same but for fields which nothing looks at leaves them so, and they answer the same.
-- Assumes nothing.
use Rattle.spi.specs.declared.refusal.Refusal.{Refusal}
use Prim.Native.Nat.{ℕ, zero, suc, ◌+◌, ◌-◌, ◌*◌, ◌%◌, ◌^◌}
use mathlib.Core.Path.{◌≡◌, refl, sym, ap, ap₂, subst, ◌∙◌}
use mathlib.Core.Bool.{Bool, true, false, ◌&&◌, not, false≢true}
use mathlib.Core.List.{List, [], ◌∷◌}
use native.Mathlib.Omega.{arith}
use lib.Dec.{ltb, leb, eqb}
use lib.ListN.{length, get_or, set, take, drop, length-set, length-map}
use Rattle.std.specs.Prelude.{if◌then◌else◌, Some, None, Result, Ok, Err}
use Rattle.field.specs.Field.{read, flag, write}
use Rattle.parts.specs.Parts.{part, put}
use Rattle.words.specs.Words.{le_bytes}
use Rattle.configuration.specs.CanControl.{DNCNT, REQOP, TXQEN, STEF}
use Rattle.fifo.specs.Control.{RXTSEN, TXEN, UINC, TXREQ, FRESET, FSIZE, PLSIZE, payloads, payload_of, is_fifo}
use Rattle.fifo.specs.Status.{RXOVIF}
use Rattle.header.specs.declared.Header.{Header}
use Rattle.header.specs.Header.{sid_of, eid_of}
use Rattle.message.specs.Message.{arrival_check, arriving}
use Rattle.place.specs.declared.Register.{Register}
use Rattle.operation.specs.declared.operation.Operation.{Operation}
use Rattle.operation.specs.Operation.{asked}
use Rattle.ring.specs.declared.ring.Fifo.{Fifo}
use Rattle.ring.specs.Ring.{sending, depth, place, shown, fresh, claimed, taken, increased, controlled, overflowed, emptied, sent, configured, commanded, turned}
use Rattle.ring.specs.Registers.{frozen_fields, copied, control, ready, edge, status}
use Rattle.ring.specs.Layout.{stamped, size, room, end, base, slot_at}
use Rattle.ring.specs.declared.queue.Queue.{Queue}
use Rattle.ring.specs.Queue as queue
use Rattle.ring.specs.Queue.{is_held, no_slot, best}
use Rattle.ring.proofs.Gathers.{best_same}
use Rattle.state.specs.declared.Model.{Model}
use Rattle.state.specs.declared.Setup.{Setup}
use Rattle.state.specs.Model.{blank, reset, fifo_at, frozen_at, with_setup, with_fifo, with_queue, written}
use Rattle.bank.specs.declared.writing.Written.{Written}
use Rattle.bank.specs.Registers.{shown_at, queue_acts, queue_shown, word_of, granted, con_set, turned_all, con_written, frozen_set, control_written, status_written, queue_written, register_written}
use Rattle.model.specs.Exchange.{received, no_layout, checked_bytes, performed, exchange}
use Rattle.filters.specs.Filters.{target_of, filter_count, filter_of}
use Rattle.bus.specs.declared.arrival.Delivered.{Delivered}
use Rattle.bus.specs.declared.sorting.Sorted.{Sorted}
use Rattle.bus.specs.Held.{slot_of, item_at}
use Rattle.bus.specs.Bus.{Output, output_of, sends, send_output, send_model, receives, appended, give, by_check, deliver_of}
use Rattle.bus.specs.Queue.{queue_depth, queue_slot, queue_item, queue_rank, winner, queue_sends, queue_output, queue_model}
use Rattle.bus.specs.Sort.{target_for, by_filter, taken_by, filtered, sorted_by, sort_of}
use Rattle.bus.specs.Numbers.{sorting_numbers, sorted_numbers}
use Rattle.reach.specs.Bus.{Send, SendQueue, Deliver, Sort, stepped}
use Rattle.reach.specs.Reach.{Happening, Exchange, On, happens}
use Rattle.reach.specs.Twins.{SameFifo, but_con, Same, Reads}
use Rattle.reach.proofs.Kept.{turned_at}

-- ---- two choices by equal tests, two lists with an entry set

by_ifs : {A B : Type 0} (P : A → B → Type 0) (b c : Bool) {x y : A} {u v : B} → b ≡ c → P x u → P y v → P (if b then x else y) (if c then u else v)
by_ifs P true true e f g = f
by_ifs P true false e f g = absurd (false≢true (sym e))
by_ifs P false true e f g = absurd (false≢true e)
by_ifs P false false e f g = g

at_sets : {A : Type 0} (P : A → A → Type 0) (l k : List A) → length l ≡ length k → (n : ℕ) (x y d : A) → P x y → ((i : ℕ) → P (get_or l i d) (get_or k i d))
    → (i : ℕ) → P (get_or (set l n x) i d) (get_or (set k n y) i d)
at_sets P [] [] e n x y d p f i = f i
at_sets P [] (b ∷ k) e n x y d p f i = absurd (omega arith)
at_sets P (a ∷ l) [] e n x y d p f i = absurd (omega arith)
at_sets P (a ∷ l) (b ∷ k) e zero x y d p f zero = p
at_sets P (a ∷ l) (b ∷ k) e zero x y d p f (suc i) = f (suc i)
at_sets P (a ∷ l) (b ∷ k) e (suc n) x y d p f zero = f zero
at_sets P (a ∷ l) (b ∷ k) e (suc n) x y d p f (suc i) = at_sets P l k (omega arith) n x y d p (λ j. f (suc j)) i

-- ---- what W may leave open: nothing that is looked at

pub record Blind (W : ℕ → ℕ → Type 0) : Type 0 where
  pub same : (w : ℕ) → W w w
  pub rxtsen : (v w : ℕ) → W v w → read RXTSEN v ≡ read RXTSEN w
  pub txen : (v w : ℕ) → W v w → read TXEN v ≡ read TXEN w
  pub fsize : (v w : ℕ) → W v w → read FSIZE v ≡ read FSIZE w
  pub plsize : (v w : ℕ) → W v w → read PLSIZE v ≡ read PLSIZE w
  pub uinc : (v w : ℕ) → W v w → read UINC v ≡ read UINC w
  pub txreq : (v w : ℕ) → W v w → read TXREQ v ≡ read TXREQ w
  pub freset : (v w : ℕ) → W v w → read FRESET v ≡ read FRESET w
  pub no_uinc : (v w : ℕ) → W v w → W (write UINC 0 v) (write UINC 0 w)
  pub no_txreq : (v w : ℕ) → W v w → W (write TXREQ 0 v) (write TXREQ 0 w)
  pub no_freset : (v w : ℕ) → W v w → W (write FRESET 0 v) (write FRESET 0 w)
  pub control : (v w x y : ℕ) → W v w → W x y → W (copied frozen_fields v x) (copied frozen_fields w y)

module _ (W : ℕ → ℕ → Type 0) (z : Blind W) where
  -- ---- FIFOs

  module _ (v w : ℕ) (a : W v w) where
    sending_like : sending v ≡ sending w
    unfolding sending
    sending_like = ap (λ (n : ℕ). eqb n 1) (z.txen v w a)

    depth_like : depth v ≡ depth w
    unfolding depth
    depth_like = ap (λ (n : ℕ). n + 1) (z.fsize v w a)

    payload_like : payload_of v ≡ payload_of w
    unfolding payload_of
    payload_like = ap (λ (n : ℕ). get_or payloads n 0) (z.plsize v w a)

    stamped_like : stamped v ≡ stamped w
    unfolding stamped
    stamped_like = ap₂ (λ (s : Bool) (r : ℕ). if s then false else eqb r 1) sending_like (z.rxtsen v w a)

    size_like : size v ≡ size w
    unfolding size
    size_like = ap₂ (λ (s : Bool) (p : ℕ). 8 + (if s then 4 else 0) + p) stamped_like payload_like

    room_like : room v ≡ room w
    unfolding room
    room_like = ap₂ ◌*◌ depth_like size_like

  module _ (v w : ℕ) (a : W v w) (f g : Fifo) (s : SameFifo W f g) where
    claimed_like : SameFifo W (claimed f) (claimed g)
    unfolding claimed
    claimed_like = record { control = s.control; head = s.head; count = ap (λ (n : ℕ). n + 1) s.count; over = s.over }

    taken_like : SameFifo W (taken v f) (taken w g)
    unfolding taken
    taken_like = record {
      control = s.control;
      head = ap₂ (λ (d h : ℕ). place d h 1) (depth_like v w a) s.head;
      count = ap (λ (n : ℕ). n - 1) s.count;
      over = s.over;
    }

    increased_like : SameFifo W (increased v f) (increased w g)
    unfolding increased
    increased_like =
        by_ifs (SameFifo W) (sending v) (sending w) (sending_like v w a)
        (by_ifs (SameFifo W) (ltb f.count (depth v)) (ltb g.count (depth w)) (ap₂ ltb s.count (depth_like v w a)) claimed_like s)
        (by_ifs (SameFifo W) (ltb 0 f.count) (ltb 0 g.count) (ap (ltb 0) s.count) taken_like s)

  module _ (f g : Fifo) (s : SameFifo W f g) where
    controlled_like : (x y : ℕ) → W x y → SameFifo W (controlled x f) (controlled y g)
    unfolding controlled
    controlled_like x y b = record { control = b; head = s.head; count = s.count; over = s.over }

    overflowed_like : (o : Bool) → SameFifo W (overflowed o f) (overflowed o g)
    unfolding overflowed
    overflowed_like o = record { control = s.control; head = s.head; count = s.count; over = refl }

    emptied_like : SameFifo W (emptied f) (emptied g)
    unfolding emptied fresh
    emptied_like = record { control = z.no_txreq _ _ s.control; head = refl; count = refl; over = refl }

    configured_like : (x y : ℕ) → W x y → SameFifo W (configured x f) (configured y g)
    unfolding configured
    configured_like x y b = controlled_like _ _ (z.no_uinc x y b)

    turned_like : (b : Bool) → SameFifo W (turned b f) (turned b g)
    turned_like true = emptied_like
    turned_like false = controlled_like _ _ (z.no_freset _ _ s.control)

  module _ (v w : ℕ) (a : W v w) (f g : Fifo) (s : SameFifo W f g) where
    sent_like : SameFifo W (sent v f) (sent w g)
    unfolding sent
    sent_like =
        let t = taken_like v w a f g s in
        by_ifs (SameFifo W) (eqb f.count 1) (eqb g.count 1) (ap (λ (n : ℕ). eqb n 1) s.count)
        (controlled_like (taken v f) (taken w g) t _ _ (z.no_txreq _ _ s.control)) t

    commanded_like : (x y : ℕ) → W x y → SameFifo W (commanded v x f) (commanded w y g)
    unfolding commanded
    commanded_like x y b =
        let P : Fifo → Fifo → Type 0 = SameFifo W in
        let k = controlled_like f g s _ _ (z.no_freset _ _ (z.no_uinc x y b)) in
        let i = by_ifs P (flag UINC x) (flag UINC y) (ap (λ (n : ℕ). eqb n 1) (z.uinc x y b)) (increased_like v w a _ _ k) k in
        by_ifs P (flag FRESET x) (flag FRESET y) (ap (λ (n : ℕ). eqb n 1) (z.freset x y b)) (emptied_like _ _ i) i

    shown_like : shown v f ≡ shown w g
    unfolding shown
    shown_like = rw (depth_like v w a, sending_like v w a, s.head, s.count)

    status_like : status v f ≡ status w g
    unfolding status ready edge
    status_like = rw (depth_like v w a, sending_like v w a, s.count, s.over)

    control_like : W (control v f) (control w g)
    unfolding control
    control_like = z.control v w _ _ a s.control

  -- ---- the queue: its depth is all that it takes from its control word

  module _ (v w : ℕ) (a : W v w) (p q : Queue) (e : p ≡ q) where
    queue_status_lem : queue.status v p ≡ queue.status w q
    unfolding queue.status queue.full queue.free queue.empty
    queue_status_lem = rw (depth_like v w a, e)

    queue_sent_lem : (k : ℕ) → queue.sent v k p ≡ queue.sent w k q
    unfolding queue.sent queue.freed queue.full queue.free queue.empty
    queue_sent_lem k = rw (depth_like v w a, e)

    commanded_on : (b c : Bool) → b ≡ c → (x : ℕ) → queue.commanded b v x p ≡ queue.commanded c w x q
    unfolding queue.commanded queue.claimed queue.full queue.free
    commanded_on b c o x = rw (depth_like v w a, e, o)

    -- and the fields that it reads from it
    queue_control_lem : copied frozen_fields v p.control ≡ copied frozen_fields w q.control
    queue_control_lem = rw (z.rxtsen v w a, z.txen v w a, z.fsize v w a, z.plsize v w a, e)

  -- ---- the layout

  module _ (q p : Bool) (e : q ≡ p) (ws us : List ℕ) (h : (n : ℕ) → W (get_or ws n 0) (get_or us n 0)) where
    end_like : (n : ℕ) → end q ws n ≡ end p us n
    unfolding end
    end_like zero = ap₂ (λ (b : Bool) (x : ℕ). if b then x else 0) e (room_like _ _ (h 0))
    end_like (suc n) = ap₂ ◌+◌ (end_like n) (room_like _ _ (h (suc n)))

    slot_like : (n k : ℕ) → slot_at q ws n k ≡ slot_at p us n k
    unfolding slot_at base
    slot_like n k = ap₂ (λ (b s : ℕ). (if eqb n 0 then 0 else b) + k * s) (end_like (n - 1)) (size_like _ _ (h n))

  -- ---- chips; of CiCON only what is written is looked at

  module _ (C : ℕ → ℕ → Type 0) (kept : (w : ℕ) → C w w) where
    pub same_self : (m : Model) → Same C W m m
    same_self m = record {
      con = kept _;
      configuring = refl;
      on = refl;
      frozens = refl;
      frozen = λ n. z.same _;
      setup = refl;
      fifos = refl;
      fifo = λ n. record { control = z.same _; head = refl; count = refl; over = refl };
      queue = refl;
      ram = refl;
    }

    module _ (c d : Model) (t : Same C W c d) where
      with_fifo_lem : (n : ℕ) (f g : Fifo) → SameFifo W f g → Same C W (with_fifo c n f) (with_fifo d n g)
      with_fifo_lem n f g s = record {
        con = t.con;
        configuring = t.configuring;
        on = t.on;
        frozens = t.frozens;
        frozen = t.frozen;
        setup = t.setup;
        fifos = length-set c.fifo n f ∙ t.fifos ∙ sym (length-set d.fifo n g);
        fifo = at_sets (SameFifo W) c.fifo d.fifo t.fifos n f g blank s t.fifo;
        queue = t.queue;
        ram = t.ram;
      }

      with_frozen : (n x y : ℕ) → W x y → Same C W (frozen_set c n x) (frozen_set d n y)
      with_frozen n x y b = record {
        con = t.con;
        configuring = t.configuring;
        on = t.on;
        frozens = length-set c.fixed.frozen n x ∙ t.frozens ∙ sym (length-set d.fixed.frozen n y);
        frozen = at_sets W c.fixed.frozen d.fixed.frozen t.frozens n x y 0 b t.frozen;
        setup = t.setup;
        fifos = t.fifos;
        fifo = t.fifo;
        queue = t.queue;
        ram = t.ram;
      }

      with_con : (x y : ℕ) → C x y → flag TXQEN x ≡ flag TXQEN y → (b : Bool) → Same C W (con_set c x b) (con_set d y b)
      with_con x y e a b = record {
        con = e;
        configuring = refl;
        on = ap₂ (λ (i : Bool) (p : Bool × Bool). if i then p.0 else p.1) t.configuring (λ k. (a k, t.on k));
        frozens = t.frozens;
        frozen = t.frozen;
        setup = t.setup;
        fifos = t.fifos;
        fifo = t.fifo;
        queue = t.queue;
        ram = t.ram;
      }

      with_queue_lem : (p q : Queue) → p ≡ q → Same C W (with_queue c p) (with_queue d q)
      with_queue_lem p q e = record {
        con = t.con;
        configuring = t.configuring;
        on = t.on;
        frozens = t.frozens;
        frozen = t.frozen;
        setup = t.setup;
        fifos = t.fifos;
        fifo = t.fifo;
        queue = e;
        ram = t.ram;
      }

      with_turned : (b : Bool) → Same C W (turned_all b c) (turned_all b d)
      with_turned b = record {
        con = t.con;
        configuring = t.configuring;
        on = t.on;
        frozens = t.frozens;
        frozen = t.frozen;
        setup = t.setup;
        fifos = length-map c.fifo (turned b) ∙ t.fifos ∙ sym (length-map d.fifo (turned b));
        fifo = λ n.
            subst (λ (f : Fifo). SameFifo W f (fifo_at (turned_all b d) n)) (sym (turned_at b c n))
            (subst (SameFifo W (turned b (fifo_at c n))) (sym (turned_at b d n)) (turned_like (fifo_at c n) (fifo_at d n) (t.fifo n) b));
        queue = ap (queue.turned b) t.queue;
        ram = t.ram;
      }

      with_setup_lem : (x y : Setup) → C x.con y.con → but_con x ≡ but_con y → Same C W (with_setup c x) (with_setup d y)
      with_setup_lem x y e b = record {
        con = e;
        configuring = t.configuring;
        on = t.on;
        frozens = t.frozens;
        frozen = t.frozen;
        setup = b;
        fifos = t.fifos;
        fifo = t.fifo;
        queue = t.queue;
        ram = t.ram;
      }

      with_bytes : (a b : ℕ) (bs : List ℕ) → a ≡ b → Same C W (written c a bs) (written d b bs)
      with_bytes a b bs e = record {
        con = t.con;
        configuring = t.configuring;
        on = t.on;
        frozens = t.frozens;
        frozen = t.frozen;
        setup = t.setup;
        fifos = t.fifos;
        fifo = t.fifo;
        queue = t.queue;
        ram = ap₂ (λ (l : List ℕ) (x : ℕ). take (length l) (put l x bs)) t.ram e;
      }

    -- ---- registers

    abbrev SameWritten : Written → Written → Type 0
    SameWritten x y = (x.granted ≡ y.granted) × Same C W x.model y.model

    module _ (c d : Model) (t : Same C W c d) where
      -- CiCON written with two words that ask alike
      pub con_like : (x y : ℕ) → C x y → eqb (read REQOP x) 4 ≡ eqb (read REQOP y) 4 → flag TXQEN x ≡ flag TXQEN y → flag STEF x ≡ flag STEF y
          → SameWritten (con_written c x) (con_written d y)
      unfolding con_written granted
      con_like x y e q a b =
          let P : Written → Written → Type 0 = SameWritten in
          let g : granted c.fixed x ≡ granted d.fixed y = rw (b, end_like (flag TXQEN x) (flag TXQEN y) a c.fixed.frozen d.fixed.frozen t.frozen 31) in
          by_ifs P _ _ (ap₂ ◌&&◌ (ap₂ (λ (i j : Bool). i && not j) t.configuring q) (ap not g)) (refl, with_con c d t x y e a true)
          (by_ifs P _ _ q
          (by_ifs P _ _ t.configuring (refl, with_con c d t x y e a true) (refl, with_con _ _ (with_turned c d t true) x y e a true))
          (by_ifs P _ _ t.configuring (refl, with_con _ _ (with_turned c d t false) x y e a false) (refl, with_con c d t x y e a false)))

      -- a control word written with two words that are alike
      pub control_written_lem : (n x y : ℕ) → W x y → Same C W (control_written c n x) (control_written d n y)
      unfolding control_written
      control_written_lem n x y b =
          by_ifs (Same C W) _ _ t.configuring
          (with_fifo_lem _ _ (with_frozen c d t n x y b) n _ _ (configured_like _ _ (t.fifo n) x y b))
          (with_fifo_lem c d t n _ _ (commanded_like _ _ (t.frozen n) _ _ (t.fifo n) x y b))

      status_written_lem : (n w : ℕ) → Same C W (status_written c n w) (status_written d n w)
      unfolding status_written
      status_written_lem n w = by_ifs (Same C W) (flag RXOVIF w) _ refl t (with_fifo_lem c d t n _ _ (overflowed_like _ _ (t.fifo n) false))

      -- the control word of the queue written, in two chips whose frozen words are alike
      queue_written_lem : (w : ℕ) → Same C W (queue_written c w) (queue_written d w)
      unfolding queue_written
      queue_written_lem w =
          by_ifs (Same C W) _ _ t.configuring
          (with_queue_lem _ _ (with_frozen c d t 0 _ _ (z.same (write TXEN 1 w))) _ _ (ap (queue.configured w) t.queue))
          (with_queue_lem c d t _ _ (commanded_on _ _ (t.frozen 0) _ _ t.queue _ _ t.on w))

      written_like : (r : Register) (w : ℕ) → SameWritten (register_written c r w) (register_written d r w)
      unfolding register_written
      written_like Register.Con w = con_like w w (kept w) refl refl refl
      written_like Register.Osc w = (
        refl,
        with_setup_lem c d t _ _ t.con (ap (λ (s : Setup). record { con = 0; osc = w; plain = s.plain; filter = s.filter; object = s.object; mask = s.mask }) t.setup),
      )
      written_like (Register.Plain k) w = (
        refl,
        with_setup_lem c d t _ _ t.con (ap (λ (s : Setup). record { con = 0; osc = s.osc; plain = set s.plain k w; filter = s.filter; object = s.object; mask = s.mask }) t.setup),
      )
      written_like (Register.Filter k) w = (
        refl,
        with_setup_lem c d t _ _ t.con (ap (λ (s : Setup). record { con = 0; osc = s.osc; plain = s.plain; filter = set s.filter k w; object = s.object; mask = s.mask }) t.setup),
      )
      written_like (Register.Object k) w = (
        refl,
        with_setup_lem c d t _ _ t.con (ap (λ (s : Setup). record { con = 0; osc = s.osc; plain = s.plain; filter = s.filter; object = set s.object k w; mask = s.mask }) t.setup),
      )
      written_like (Register.Mask k) w = (
        refl,
        with_setup_lem c d t _ _ t.con (ap (λ (s : Setup). record { con = 0; osc = s.osc; plain = s.plain; filter = s.filter; object = s.object; mask = set s.mask k w }) t.setup),
      )
      written_like (Register.Control n) w = (refl, control_written_lem n w w (z.same w))
      written_like (Register.Status n) w = (refl, status_written_lem n w)
      written_like (Register.Address n) w = (refl, t)
      written_like Register.QueueControl w = (refl, queue_written_lem w)
      written_like Register.QueueStatus w = (refl, t)
      written_like Register.QueueAddress w = (refl, t)

      -- ---- exchanges

      performed_like : (o : Operation) (s : List ℕ) (want : ℕ) → Same C W (performed o s want c).model (performed o s want d).model
      unfolding performed
      performed_like Operation.Reset s want = subst (λ (l : List ℕ). Same C W (reset c.ram) (reset l)) t.ram (same_self (reset c.ram))
      performed_like (Operation.Read r) s want = t
      performed_like (Operation.Checked r) s want = t
      performed_like (Operation.Write r w) s want = (written_like r w).1
      performed_like (Operation.ReadRam a) s want = t
      performed_like (Operation.WriteRam a) s want = with_bytes c d t a a (drop 2 s) refl
      performed_like Operation.None s want = t

      -- registers outside R read the same, and then so do the replies
      replies_like : (R : Register → Type 0) → ((r : Register) → (R r → ⊥) → word_of c r ≡ word_of d r)
          → (o : Operation) (s : List ℕ) (want : ℕ) → (Reads R o → ⊥) → (performed o s want c).reply ≡ (performed o s want d).reply
      unfolding performed
      replies_like R h Operation.Reset s want n = refl
      replies_like R h (Operation.Read r) s want n = ap (λ (w : ℕ). received (le_bytes w)) (h r n)
      replies_like R h (Operation.Checked r) s want n = ap (λ (w : ℕ). received (checked_bytes s w)) (h r n)
      replies_like R h (Operation.Write r w) s want n = ap (λ (b : Bool). if b then received [] else no_layout) (written_like r w).0
      replies_like R h (Operation.ReadRam a) s want n = ap (λ (l : List ℕ). received (part l a want)) t.ram
      replies_like R h (Operation.WriteRam a) s want n = refl
      replies_like R h Operation.None s want n = refl

      -- ---- what registers read

      shown_at_lem : (n : ℕ) → shown_at c n ≡ shown_at d n
      unfolding shown_at
      shown_at_lem n =
          ap (slot_at c.fixed.queue c.fixed.frozen n) (shown_like _ _ (t.frozen n) _ _ (t.fifo n))
          ∙ slot_like c.fixed.queue d.fixed.queue t.on c.fixed.frozen d.fixed.frozen t.frozen n _

      osc_like : c.setup.osc ≡ d.setup.osc
      osc_like = ap (λ (s : Setup). s.osc) t.setup

      acts_like : queue_acts c.fixed ≡ queue_acts d.fixed
      acts_like = ap₂ (λ (i j : Bool). not i && j) t.configuring t.on

      queue_slot_lem : (k : ℕ) → slot_at c.fixed.queue c.fixed.frozen 0 k ≡ slot_at d.fixed.queue d.fixed.frozen 0 k
      queue_slot_lem k = slot_like c.fixed.queue d.fixed.queue t.on c.fixed.frozen d.fixed.frozen t.frozen 0 k

      queue_shown_lem : queue_shown c ≡ queue_shown d
      unfolding queue_shown
      queue_shown_lem = ap (λ (q : Queue). slot_at c.fixed.queue c.fixed.frozen 0 q.shown) t.queue ∙ queue_slot_lem _

      -- all registers outside R, where CiCON and the control words do
      words_like : (R : Register → Type 0) → ((R Register.Con → ⊥) → word_of c Register.Con ≡ word_of d Register.Con)
          → ((n : ℕ) → (R (Register.Control n) → ⊥) → word_of c (Register.Control n) ≡ word_of d (Register.Control n))
          → (r : Register) → (R r → ⊥) → word_of c r ≡ word_of d r
      unfolding word_of
      words_like R e f Register.Con h = e h
      words_like R e f Register.Osc h = rw osc_like
      words_like R e f (Register.Plain k) h = ap (λ (s : Setup). get_or s.plain k 0) t.setup
      words_like R e f (Register.Filter k) h = ap (λ (s : Setup). get_or s.filter k 0) t.setup
      words_like R e f (Register.Object k) h = ap (λ (s : Setup). get_or s.object k 0) t.setup
      words_like R e f (Register.Mask k) h = ap (λ (s : Setup). get_or s.mask k 0) t.setup
      words_like R e f (Register.Control n) h = f n h
      words_like R e f (Register.Status n) h = by_ifs (λ (x y : ℕ). x ≡ y) _ _ t.configuring refl (status_like _ _ (t.frozen n) _ _ (t.fifo n))
      words_like R e f (Register.Address n) h = by_ifs (λ (x y : ℕ). x ≡ y) _ _ t.configuring refl (shown_at_lem n)
      words_like R e f Register.QueueControl h = queue_control_lem _ _ (t.frozen 0) _ _ t.queue
      words_like R e f Register.QueueStatus h = by_ifs (λ (x y : ℕ). x ≡ y) _ _ acts_like (queue_status_lem _ _ (t.frozen 0) _ _ t.queue) refl
      words_like R e f Register.QueueAddress h = by_ifs (λ (x y : ℕ). x ≡ y) _ _ acts_like queue_shown_lem refl

      pub control_read : (n : ℕ) → W (word_of c (Register.Control n)) (word_of d (Register.Control n))
      unfolding word_of
      control_read n = control_like _ _ (t.frozen n) _ _ (t.fifo n)

      -- ---- the bus

      slots_like : (n k : ℕ) → slot_of c n k ≡ slot_of d n k
      unfolding slot_of
      slots_like n k =
          ap₂ (λ (e h : ℕ). slot_at c.fixed.queue c.fixed.frozen n (place e h k)) (depth_like _ _ (t.frozen n)) (t.fifo n).head
          ∙ slot_like c.fixed.queue d.fixed.queue t.on c.fixed.frozen d.fixed.frozen t.frozen n _

      items_like : (n k : ℕ) → item_at c n k ≡ item_at d n k
      unfolding item_at
      items_like n k =
          let a = t.frozen n in
          rw (sending_like _ _ a, stamped_like _ _ a, size_like _ _ a, slots_like n k, t.ram)

      sends_like : (n : ℕ) → sends c n ≡ sends d n
      unfolding sends
      sends_like n =
          ap₂ ◌&&◌ (ap₂ ◌&&◌ (sending_like _ _ (t.frozen n)) (ap (λ (x : ℕ). eqb x 1) (z.txreq _ _ (t.fifo n).control))) (ap (ltb 0) (t.fifo n).count)

      pub outputs_like : (n : ℕ) → send_output c n ≡ send_output d n
      unfolding send_output
      outputs_like n =
          let P : Output → Output → Type 0 = λ x y. x ≡ y in
          by_ifs P (is_fifo n) _ refl (by_ifs P _ _ (sends_like n) (ap output_of (items_like n 0)) refl) refl

      send_like : (n : ℕ) → Same C W (send_model c n) (send_model d n)
      unfolding send_model
      send_like n =
          by_ifs (Same C W) _ _ (ap (λ (b : Bool). is_fifo n && b) (sends_like n)) (with_fifo_lem c d t n _ _ (sent_like _ _ (t.frozen n) _ _ (t.fifo n))) t

      queue_item_lem : (k : ℕ) → queue_item c k ≡ queue_item d k
      unfolding queue_item queue_slot
      queue_item_lem k = rw (size_like _ _ (t.frozen 0), queue_slot_lem k, t.ram)

      queue_rank_lem : (k : ℕ) → queue_rank c k ≡ queue_rank d k
      unfolding queue_rank queue_slot
      queue_rank_lem k = rw (queue_slot_lem k, t.ram)

      winners_like : winner c ≡ winner d
      unfolding winner
      winners_like =
          best_same (is_held c.queue) (queue_rank c) (queue_rank d) 0 (queue_depth c) (λ j x y z. queue_rank_lem j)
          ∙ ap₂ (λ (q : Queue) (n : ℕ). best (is_held q) (queue_rank d) 0 n) t.queue (depth_like _ _ (t.frozen 0))

      queue_sends_lem : queue_sends c ≡ queue_sends d
      unfolding queue_sends
      queue_sends_lem =
          ap₂ ◌&&◌ (ap₂ (λ (i : Bool) (q : Queue). i && flag TXREQ q.control) t.on t.queue) (ap (λ (k : ℕ). ltb k no_slot) winners_like)

      pub queue_outputs : queue_output c ≡ queue_output d
      unfolding queue_output
      queue_outputs =
          let P : Output → Output → Type 0 = λ x y. x ≡ y in
          by_ifs P _ _ queue_sends_lem (ap output_of (queue_item_lem (winner c) ∙ ap (queue_item d) winners_like)) refl

      queue_send : Same C W (queue_model c) (queue_model d)
      unfolding queue_model
      queue_send =
          by_ifs (Same C W) _ _ queue_sends_lem
          (with_queue_lem c d t _ _ (queue_sent_lem _ _ (t.frozen 0) _ _ t.queue (winner c) ∙ ap (λ (k : ℕ). queue.sent (frozen_at d 0) k d.queue) winners_like)) t

      abbrev SameDelivered : Delivered → Delivered → Type 0
      SameDelivered x y = (x.delivery ≡ y.delivery) × Same C W x.model y.model

      receives_like : (n : ℕ) → receives c n ≡ receives d n
      unfolding receives
      receives_like n = ap (λ (b : Bool). is_fifo n && not b) (sending_like _ _ (t.frozen n))

      appended_like : (n len : ℕ) (bs : List ℕ) → SameDelivered (appended c n len bs) (appended d n len bs)
      unfolding appended
      appended_like n len bs =
          let P : Delivered → Delivered → Type 0 = SameDelivered in
          let a = t.frozen n in
          let s = t.fifo n in
          by_ifs P _ _ t.configuring (refl, t)
          (by_ifs P _ _ (ap not (receives_like n)) (refl, t)
          (by_ifs P _ _ (ap (λ (x : ℕ). ltb x len) (payload_like _ _ a)) (refl, t)
          (by_ifs P _ _ (ap₂ leb (depth_like _ _ a) s.count) (refl, with_fifo_lem c d t n _ _ (overflowed_like _ _ s true))
          (refl, with_fifo_lem _ _ (with_bytes c d t _ _ bs (ap (slot_of c n) s.count ∙ slots_like n _)) n _ _ (claimed_like _ _ a _ _ s)))))

      give_like : (n hit k : ℕ) (header : Header) (time : ℕ) (payload : List ℕ)
          → SameDelivered (give c n hit k header time payload) (give d n hit k header time payload)
      unfolding give
      give_like n hit k header time payload =
          let bs : Bool → List ℕ = λ b. arriving header k hit (if b then Some time else None) payload in
          subst (λ (b : Bool). SameDelivered (give c n hit k header time payload) (appended d n (length payload) (bs b)))
          (stamped_like _ _ (t.frozen n)) (appended_like n (length payload) _)

      checked_like : (x : Result (Unit {0}) Refusal) (n : ℕ) (header : Header) (dlc time : ℕ) (payload : List ℕ)
          → SameDelivered (by_check x c n header dlc time payload) (by_check x d n header dlc time payload)
      checked_like (Err r) n header dlc time payload = (refl, t)
      checked_like (Ok _) n header dlc time payload = give_like n 0 dlc header time payload

      pub delivers_like : (n : ℕ) (header : Header) (dlc time : ℕ) (payload : List ℕ)
          → SameDelivered (deliver_of c n header dlc time payload) (deliver_of d n header dlc time payload)
      unfolding deliver_of
      delivers_like n header dlc time payload =
          by_ifs SameDelivered (is_fifo n) _ refl (checked_like (arrival_check header dlc (length payload)) n header dlc time payload) (refl, t)

      -- ---- sorted frames, where C leaves DNCNT the same

      abbrev pub SameSorted : Sorted → Sorted → Type 0
      SameSorted x y = (x.delivery ≡ y.delivery) × (x.fifo ≡ y.fifo) × (x.filter ≡ y.filter) × Same C W x.model y.model

      module _ (dncnt : read DNCNT c.setup.con ≡ read DNCNT d.setup.con) (header : Header) (dlc time : ℕ) (payload : List ℕ) where
        abbrev filter_in : Setup → ℕ
        filter_in s = filter_of s.filter s.object s.mask header.extended (sid_of header.extended header.id) (eid_of header.extended header.id)

        given_like : (n f : ℕ) → SameSorted (by_filter (give c n f dlc header time payload) n f) (by_filter (give d n f dlc header time payload) n f)
        given_like n f = let (a, b) = give_like n f dlc header time payload in (a, refl, refl, b)

        filtered_like : SameSorted (filtered c dlc header time payload) (filtered d dlc header time payload)
        filtered_like =
            by_ifs SameSorted _ _ (ap (λ (x : ℕ). not (eqb x 0)) dncnt) (refl, refl, refl, t)
            (by_ifs SameSorted _ _ (ap (λ (s : Setup). leb filter_count (filter_in s)) t.setup) (refl, refl, refl, t)
            (subst (λ (s : Setup). SameSorted (taken_by c (filter_in c.setup) dlc header time payload)
            (by_filter (give d (target_of s.filter (filter_in s)) (filter_in s) dlc header time payload) (target_of s.filter (filter_in s)) (filter_in s)))
            t.setup (given_like (target_for c (filter_in c.setup)) (filter_in c.setup))))

        pub sorts_like : SameSorted (sort_of c header dlc time payload) (sort_of d header dlc time payload)
        unfolding sort_of
        sorts_like = go (arrival_check header dlc (length payload))
          where
            go : (x : Result (Unit {0}) Refusal) → SameSorted (sorted_by x c header dlc time payload) (sorted_by x d header dlc time payload)
            go (Err r) = (refl, refl, refl, t)
            go (Ok _) = filtered_like

        pub sorted_like : sorted_numbers (sort_of c header dlc time payload) ≡ sorted_numbers (sort_of d header dlc time payload)
        sorted_like = let (a, b, e, m) = sorts_like in λ i. sorting_numbers (a i) (b i) (e i)

      pub happens_like : read DNCNT c.setup.con ≡ read DNCNT d.setup.con → (x : Happening) → Same C W (happens x c) (happens x d)
      unfolding exchange stepped
      happens_like e (Exchange s want) = performed_like (asked s want) s want
      happens_like e (On (Send n)) = send_like n
      happens_like e (On SendQueue) = queue_send
      happens_like e (On (Deliver n header dlc time payload)) = (delivers_like n header dlc (time % 2 ^ 32) payload).1
      happens_like e (On (Sort header dlc time payload)) = (sorts_like e header dlc (time % 2 ^ 32) payload).3

      pub exchanges_like : (R : Register → Type 0) → ((R Register.Con → ⊥) → word_of c Register.Con ≡ word_of d Register.Con)
          → ((n : ℕ) → (R (Register.Control n) → ⊥) → word_of c (Register.Control n) ≡ word_of d (Register.Control n))
          → (s : List ℕ) (want : ℕ) → (Reads R (asked s want) → ⊥) → (exchange s want c).reply ≡ (exchange s want d).reply
      unfolding exchange
      exchanges_like R e f s want = replies_like R (words_like R e f) (asked s want) s want
