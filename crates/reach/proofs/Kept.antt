-- Whatever happens to a chip that is in order leaves it in order.
-- Assumes nothing.
use Rattle.std.specs.Prelude.{Result, Ok, Err}
use Rattle.spi.specs.declared.refusal.Refusal.{Refusal}
use Prim.Native.Nat.{ℕ, zero, suc, ◌%◌, ◌^◌, ◌≤◌, ◌<◌}
use mathlib.Core.Path.{◌≡◌, refl, sym, ap, subst, ◌∙◌}
use mathlib.Core.Bool.{Bool, true, false, ◌&&◌, not, false≢true}
use mathlib.Core.List.{List, [], ◌∷◌, map}
use native.Mathlib.Omega.{arith}
use borrow.Author.Tests.{leb-false, not-false, eqb-false}
use lib.Dec.{eqb, leb, ltb}
use lib.ListN.{length, get_or, set, take, drop, replicate, length-set, length-map, length-take, length-append, length-drop, get_or-map}
use Rattle.laws.proofs.Choice.{by_if}
use Rattle.laws.proofs.Table.{both}
use Rattle.field.specs.Field.{with_field, read, flag, write}
use Rattle.parts.specs.Parts.{put}
use Rattle.configuration.specs.CanControl.{REQOP}
use Rattle.fifo.specs.Control.{TXEN, payload_of, is_fifo, CiFIFOCON}
use Rattle.fifo.specs.TxQueueControl.{CiTXQCON}
use Rattle.fifo.specs.Status.{RXOVIF}
use Rattle.header.specs.declared.Header.{Header}
use Rattle.message.specs.Message.{arrival_check}
use Rattle.place.specs.declared.Register.{Register}
use Rattle.operation.specs.declared.operation.Operation.{Operation}
use Rattle.operation.specs.Operation.{asked}
use Rattle.ring.specs.declared.ring.Fifo.{Fifo}
use Rattle.ring.specs.Ring.{depth, fresh, emptied, controlled, overflowed, turned}
use Rattle.ring.specs.declared.queue.Queue.{Queue}
use Rattle.ring.specs.Queue as queue
use Rattle.ring.specs.Queue.{is_held}
use Rattle.ring.specs.Layout.{end}
use Rattle.ring.specs.QueueOrder.{InOrder as QueueInOrder}
use Rattle.ring.proofs.QueueOrder as queues
use Rattle.state.specs.declared.Setup.{Setup}
use Rattle.state.specs.declared.Model.{Model}
use Rattle.state.specs.Model.{areas, blank, reset, fifo_at, frozen_at, with_fifo, with_setup, with_queue, written}
use Rattle.bank.specs.declared.writing.Written.{Written}
use Rattle.bank.specs.Registers.{queue_after, granted, con_set, turned_all, con_written, frozen_set, control_written, status_written, queue_written, register_written}
use Rattle.bank.proofs.Laws.{granted_fits}
use Rattle.model.specs.Exchange.{performed, exchange}
use Rattle.bus.specs.declared.arrival.Delivered.{Delivered}
use Rattle.bus.specs.Held.{slot_of}
use Rattle.bus.specs.Bus.{sends, send_model, receives, appended, give, by_check, deliver_of}
use Rattle.bus.specs.Sort.{filter_for, target_for, sort_of}
use Rattle.bus.specs.Queue.{winner, queue_sends, queue_model}
use Rattle.bus.proofs.Laws.{sends_one}
use Rattle.bus.proofs.QueueLaws.{queue_winner_lem}
use Rattle.bus.proofs.Sorts.{by_sort}
use Rattle.reach.specs.Bus.{Bus, Send, SendQueue, Deliver, Sort, stepped}
use Rattle.reach.specs.Reach.{Happening, Exchange, On, happens, lived, InOrder, Valid, AlwaysValid, AllThere}
use Rattle.reach.proofs.Order.{quiet_inside, fresh_order, overflowed_order, claimed_order, sent_order, commanded_order, any_size, configured_order, entered_order, left_order}

-- ---- lists

-- what holds of the entry set and of the others; beyond the end nothing is set
pub at_set : {A : Type 0} (P : ℕ → A → Type 0) (l : List A) (n : ℕ) (x d : A) → P n x → ((i : ℕ) → P i (get_or l i d)) → (i : ℕ) → P i (get_or (set l n x) i d)
at_set P [] n x d p f i = f i
at_set P (y ∷ l) zero x d p f zero = p
at_set P (y ∷ l) zero x d p f (suc i) = f (suc i)
at_set P (y ∷ l) (suc n) x d p f zero = f zero
at_set P (y ∷ l) (suc n) x d p f (suc i) = at_set (λ k. P (suc k)) l n x d p (λ k. f (suc k)) i

-- a list of one thing, and what stands beyond it
pub at_replicate : {A : Type 0} (P : A → Type 0) (k : ℕ) (x d : A) → P x → P d → (i : ℕ) → P (get_or (replicate k x) i d)
at_replicate P zero x d p q i = q
at_replicate P (suc k) x d p q zero = p
at_replicate P (suc k) x d p q (suc i) = at_replicate P k x d p q i

-- bytes stored leave the RAM's length
written_length : (l bs : List ℕ) (a : ℕ) → length (take (length l) (put l a bs)) ≡ length l
unfolding put
written_length l bs a = rw (length-take (length l) (put l a bs)) (simp (length-append, length-take, length-drop) (omega arith))

-- ---- the parts of a chip

-- what stands for a FIFO beyond the list is not changed by a turn
turned_blank : (b : Bool) → turned b blank ≡ blank
unfolding emptied controlled fresh with_field
turned_blank true = refl
turned_blank false = refl

pub turned_at : (b : Bool) (m : Model) (n : ℕ) → fifo_at (turned_all b m) n ≡ turned b (fifo_at m n)
turned_at b m n = ap (get_or (map (turned b) m.fifo) n) (sym (turned_blank b)) ∙ get_or-map (turned b) m.fifo n blank

module _ (m : Model) (v : Valid m) where
  -- a FIFO in a mode that is known
  in_mode : (b : Bool) → m.fixed.configuring ≡ b → (n : ℕ) → InOrder b (frozen_at m n) (fifo_at m n)
  in_mode b e n = subst (λ (c : Bool). InOrder c (frozen_at m n) (fifo_at m n)) e (v.fifo n)

  queue_mode : (b : Bool) → m.fixed.configuring ≡ b → QueueInOrder b m.fixed.queue (frozen_at m 0) m.queue
  queue_mode b e = subst (λ (c : Bool). QueueInOrder c m.fixed.queue (frozen_at m 0) m.queue) e v.queue

  -- another queue
  with_queue_lem : (b : Bool) → m.fixed.configuring ≡ b → (q : Queue) → QueueInOrder b m.fixed.queue (frozen_at m 0) q → Valid (with_queue m q)
  with_queue_lem b e q o = record {
    frozens = v.frozens;
    fifos = v.fifos;
    ram = v.ram;
    setup = v.setup;
    fifo = v.fifo;
    layout = v.layout;
    queue = subst (λ (c : Bool). QueueInOrder c m.fixed.queue (frozen_at m 0) q) (sym e) o;
    mode = v.mode;
  }

  -- another FIFO n
  with_fifo_lem : (b : Bool) → m.fixed.configuring ≡ b → (n : ℕ) (f : Fifo) → InOrder b (frozen_at m n) f → Valid (with_fifo m n f)
  with_fifo_lem b e n f o = record {
    frozens = v.frozens;
    fifos = length-set m.fifo n f ∙ v.fifos;
    ram = v.ram;
    setup = v.setup;
    fifo = at_set (λ i x. InOrder m.fixed.configuring (frozen_at m i) x) m.fifo n f blank (subst (λ (c : Bool). InOrder c (frozen_at m n) f) (sym e) o) v.fifo;
    layout = v.layout;
    queue = v.queue;
    mode = v.mode;
  }

  -- status bit 3
  with_over : (n : ℕ) (over : Bool) → Valid (with_fifo m n (overflowed over (fifo_at m n)))
  with_over n over = with_fifo_lem m.fixed.configuring refl n _ (overflowed_order _ _ (fifo_at m n) (v.fifo n) over)

  -- in Configuration the ring fits any size
  with_frozen : m.fixed.configuring ≡ true → (n w : ℕ) → Valid (frozen_set m n w)
  with_frozen c n w =
      let k : Model = frozen_set m n w in
      record {
        frozens = length-set m.fixed.frozen n w ∙ v.frozens;
        fifos = v.fifos;
        ram = v.ram;
        setup = v.setup;
        fifo = λ i. subst (λ (b : Bool). InOrder b (frozen_at k i) (fifo_at m i)) (sym c) (any_size (frozen_at m i) (frozen_at k i) (fifo_at m i) (in_mode true c i));
        layout = λ e. absurd (false≢true (sym e ∙ c));
        queue = subst (λ (b : Bool). QueueInOrder b m.fixed.queue (frozen_at k 0) m.queue) (sym c) (queues.any_size _ _ _ _ m.queue (queue_mode true c));
        mode = v.mode;
      }

  -- other bytes in RAM
  with_bytes : (a : ℕ) (bs : List ℕ) → Valid (written m a bs)
  with_bytes a bs = record { frozens = v.frozens; fifos = v.fifos; ram = written_length m.ram bs a ∙ v.ram; setup = v.setup; fifo = v.fifo; layout = v.layout; queue = v.queue; mode = v.mode }

  -- other registers that only hold
  with_setup_lem : (s : Setup) → s.con ≡ m.setup.con → AllThere s → Valid (with_setup m s)
  with_setup_lem s e h = record {
    frozens = v.frozens;
    fifos = v.fifos;
    ram = v.ram;
    setup = h;
    fifo = v.fifo;
    layout = v.layout;
    queue = v.queue;
    mode = λ c. rw e (v.mode c);
  }

  -- another CiCON
  all_there : (w : ℕ) (b : Bool) → AllThere (con_set m w b).setup
  all_there w b = let h = v.setup in record { plain = h.plain; filter = h.filter; object = h.object; mask = h.mask }

  -- in the same mode
  with_con : (b : Bool) → m.fixed.configuring ≡ b → (w : ℕ) → (b ≡ false → read REQOP w ≡ 4 → ⊥) → Valid (con_set m w b)
  with_con b e w other = record {
    frozens = v.frozens;
    fifos = v.fifos;
    ram = v.ram;
    setup = all_there w b;
    fifo = in_mode b e;
    layout = λ c. rw (e ∙ c) (v.layout (e ∙ c));
    queue = go b e;
    mode = other;
  }
    where
      go : (b : Bool) → m.fixed.configuring ≡ b → QueueInOrder b (queue_after m.fixed w) (frozen_at m 0) m.queue
      go true e = queues.any_size _ _ _ _ m.queue (queue_mode true e)
      go false e = rw e (queue_mode false e)

  -- and in the other, every FIFO turned, and the queue
  with_turned : (b : Bool) (w : ℕ) → ((n : ℕ) → InOrder b (frozen_at m n) (turned b (fifo_at m n)))
      → QueueInOrder b (queue_after m.fixed w) (frozen_at m 0) (queue.turned b m.queue)
      → (b ≡ false → end (queue_after m.fixed w) m.fixed.frozen 31 ≤ 2048) → (b ≡ false → read REQOP w ≡ 4 → ⊥) → Valid (con_set (turned_all b m) w b)
  with_turned b w f q fits other = record {
    frozens = v.frozens;
    fifos = length-map m.fifo (turned b) ∙ v.fifos;
    ram = v.ram;
    setup = all_there w b;
    fifo = λ n. subst (InOrder b (frozen_at m n)) (sym (turned_at b m n)) (f n);
    layout = fits;
    queue = q;
    mode = other;
  }

-- ---- registers written

-- a write that asks to leave and is not denied is granted
grants : (a b g : Bool) → a ≡ true → b ≡ false → (a && not b && not g) ≡ false → g ≡ true
grants true false g p q d = not-false g d
grants true true g p q d = absurd (false≢true (sym q))
grants false b g p q d = absurd (false≢true p)

-- in Configuration nothing is asked of REQOP
inside : {X : Type 0} → true ≡ false → X
inside z = absurd (false≢true (sym z))

pub leaving_valid : (m : Model) (w : ℕ) → Valid m → Valid (con_written m w).model
unfolding con_written
leaving_valid m w v =
    let P : Written → Type 0 = λ x. Valid x.model in
    let asks : Bool = m.fixed.configuring && not (eqb (read REQOP w) 4) in
    let other : eqb (read REQOP w) 4 ≡ false → read REQOP w ≡ 4 → ⊥ = eqb-false (read REQOP w) 4 in
    by_if P (asks && not (granted m.fixed w))
    (λ d. with_con m v true (both m.fixed.configuring (not (eqb (read REQOP w) 4)) (both asks (not (granted m.fixed w)) d).0).0 w inside)
    (λ d. by_if P (eqb (read REQOP w) 4)
    (λ e. by_if P m.fixed.configuring (λ c. with_con m v true c w inside)
    (λ c. with_turned m v true w (λ n. entered_order _ (fifo_at m n) (in_mode m v false c n)) (rw c (queues.entered_order _ _ m.queue (queue_mode m v false c))) inside inside))
    (λ e. by_if P m.fixed.configuring
    (λ c. with_turned m v false w (λ n. left_order _ (fifo_at m n) (in_mode m v true c n)) (queues.left_order _ _ m.queue (queues.any_size _ _ _ _ m.queue (queue_mode m v true c)))
    (λ z. rw c (granted_fits m.fixed w (grants m.fixed.configuring (eqb (read REQOP w) 4) (granted m.fixed w) c e d))) (λ z. other e))
    (λ c. with_con m v false c w (λ z. other e))))

module _ (m : Model) (v : Valid m) where
  control_valid : (n w : ℕ) → Valid (control_written m n w)
  unfolding control_written
  control_valid n w =
      by_if Valid m.fixed.configuring
      (λ c. let u = with_frozen m v c n w in with_fifo_lem _ u true c n _ (configured_order _ w (fifo_at m n) (in_mode _ u true c n)))
      (λ c. with_fifo_lem m v false c n _ (commanded_order _ w (fifo_at m n) (in_mode m v false c n)))

  queue_valid : (w : ℕ) → Valid (queue_written m w)
  unfolding queue_written
  queue_valid w =
      by_if Valid m.fixed.configuring
      (λ c. let u = with_frozen m v c 0 (write TXEN 1 w) in with_queue_lem _ u true c _ (queues.configured_order _ _ w m.queue (queue_mode _ u true c)))
      (λ c. with_queue_lem m v false c _ (queues.commanded_order _ _ w m.queue (queue_mode m v false c)))

  status_valid : (n w : ℕ) → Valid (status_written m n w)
  unfolding status_written
  status_valid n w = by_if Valid (flag RXOVIF w) (λ e. v) (λ e. with_over m v n false)

  register_valid : (r : Register) (w : ℕ) → Valid (register_written m r w).model
  unfolding register_written
  register_valid Register.Con w = leaving_valid m w v
  register_valid Register.Osc w = let h = v.setup in with_setup_lem m v _ refl (record { plain = h.plain; filter = h.filter; object = h.object; mask = h.mask })
  register_valid (Register.Plain k) w =
      let h = v.setup in
      with_setup_lem m v _ refl (record { plain = length-set m.setup.plain k w ∙ h.plain; filter = h.filter; object = h.object; mask = h.mask })
  register_valid (Register.Filter k) w =
      let h = v.setup in
      with_setup_lem m v _ refl (record { plain = h.plain; filter = length-set m.setup.filter k w ∙ h.filter; object = h.object; mask = h.mask })
  register_valid (Register.Object k) w =
      let h = v.setup in
      with_setup_lem m v _ refl (record { plain = h.plain; filter = h.filter; object = length-set m.setup.object k w ∙ h.object; mask = h.mask })
  register_valid (Register.Mask k) w =
      let h = v.setup in
      with_setup_lem m v _ refl (record { plain = h.plain; filter = h.filter; object = h.object; mask = length-set m.setup.mask k w ∙ h.mask })
  register_valid (Register.Control n) w = control_valid n w
  register_valid (Register.Status n) w = status_valid n w
  register_valid (Register.Address n) w = v
  register_valid Register.QueueControl w = queue_valid w
  register_valid Register.QueueStatus w = v
  register_valid Register.QueueAddress w = v

-- ---- RESET

reset_order : (v n : ℕ) → InOrder true v (get_or (replicate areas (fresh CiFIFOCON.reset)) n blank)
reset_order v =
    at_replicate (InOrder true v) areas (fresh CiFIFOCON.reset) blank
    (fresh_order true v _ (quiet_inside CiFIFOCON.reset refl)) (fresh_order true v _ (quiet_inside 0 refl))

pub reset_valid : (ram : List ℕ) → length ram ≡ 2048 → Valid (reset ram)
unfolding reset
reset_valid ram e = record {
  frozens = refl;
  fifos = refl;
  ram = e;
  setup = record { plain = refl; filter = refl; object = refl; mask = refl };
  fifo = λ n. reset_order (frozen_at (reset ram) n) n;
  layout = λ c. absurd (false≢true (sym c));
  queue = queues.fresh_order true _ _ CiTXQCON.reset (quiet_inside CiTXQCON.reset refl);
  mode = λ c. absurd (false≢true (sym c));
}

-- ---- exchanges

performed_valid : (o : Operation) (s : List ℕ) (want : ℕ) (m : Model) → Valid m → Valid (performed o s want m).model
unfolding performed
performed_valid Operation.Reset s want m v = reset_valid m.ram v.ram
performed_valid (Operation.Read r) s want m v = v
performed_valid (Operation.Checked r) s want m v = v
performed_valid (Operation.Write r w) s want m v = register_valid m v r w
performed_valid (Operation.ReadRam a) s want m v = v
performed_valid (Operation.WriteRam a) s want m v = with_bytes m v a (drop 2 s)
performed_valid Operation.None s want m v = v

pub exchange_valid : (s : List ℕ) (want : ℕ) (m : Model) → Valid m → Valid (exchange s want m).model
unfolding exchange
exchange_valid s want m v = performed_valid (asked s want) s want m v

-- ---- the bus

-- a queue that holds one is not in Configuration
pub held_outside : (m : Model) → Valid m → (k : ℕ) → is_held m.queue k ≡ true → m.fixed.configuring ≡ false
held_outside m v k h = go m.fixed.configuring refl
  where
    go : (b : Bool) → m.fixed.configuring ≡ b → m.fixed.configuring ≡ false
    go true e = absurd (false≢true (sym (v.queue.none e k) ∙ h))
    go false e = e

module _ (m : Model) (v : Valid m) (n : ℕ) where
  -- a FIFO that holds one is not in Configuration
  holds_outside : 0 < (fifo_at m n).count → m.fixed.configuring ≡ false
  holds_outside h = go m.fixed.configuring refl
    where
      go : (b : Bool) → m.fixed.configuring ≡ b → m.fixed.configuring ≡ false
      go true e = absurd (omega (arith, (v.fifo n).empty e))
      go false e = e

  send_valid : Valid (send_model m n)
  unfolding send_model
  send_valid =
      by_if Valid (is_fifo n && sends m n)
      (λ e.
      let c = holds_outside (sends_one m n (both (is_fifo n) (sends m n) e).1) in
      with_fifo_lem m v false c n _ (sent_order _ (fifo_at m n) (in_mode m v false c n)))
      (λ e. v)

  append_valid : (len : ℕ) (bs : List ℕ) → Valid (appended m n len bs).model
  unfolding appended
  append_valid len bs =
      let P : Delivered → Type 0 = λ d. Valid d.model in
      by_if P m.fixed.configuring (λ e. v)
      (λ c. by_if P (not (receives m n)) (λ e. v)
      (λ e. by_if P (ltb (payload_of (frozen_at m n)) len) (λ e. v)
      (λ e. by_if P (leb (depth (frozen_at m n)) (fifo_at m n).count)
      (λ e. with_over m v n true)
      (λ e.
      let free : (fifo_at m n).count < depth (frozen_at m n) = leb-false (depth (frozen_at m n)) (fifo_at m n).count e in
      with_fifo_lem _ (with_bytes m v (slot_of m n (fifo_at m n).count) bs) false c n _ (claimed_order _ (fifo_at m n) (in_mode m v false c n) free)))))

  give_valid : (hit d : ℕ) (header : Header) (time : ℕ) (payload : List ℕ) → Valid (give m n hit d header time payload).model
  unfolding give
  give_valid hit d header time payload = append_valid (length payload) _

  checked_valid : (x : Result (Unit {0}) Refusal) (header : Header) (dlc time : ℕ) (payload : List ℕ) → Valid (by_check x m n header dlc time payload).model
  checked_valid (Err r) header dlc time payload = v
  checked_valid (Ok _) header dlc time payload = give_valid 0 dlc header time payload

  deliver_valid : (header : Header) (dlc time : ℕ) (payload : List ℕ) → Valid (deliver_of m n header dlc time payload).model
  unfolding deliver_of
  deliver_valid header dlc time payload =
      by_if (λ (d : Delivered). Valid d.model) (is_fifo n) (λ e. checked_valid (arrival_check header dlc (length payload)) header dlc time payload) (λ e. v)

queue_send_valid : (m : Model) → Valid m → Valid (queue_model m)
unfolding queue_model
queue_send_valid m v =
    by_if Valid (queue_sends m)
    (λ e.
    let b = queue_winner_lem m e in
    let c = held_outside m v (winner m) b.is in
    with_queue_lem m v false c _ (queues.sent_order _ _ m.queue (queue_mode m v false c) (winner m) b.lt))
    (λ e. v)

sort_valid : (m : Model) (v : Valid m) (header : Header) (dlc time : ℕ) (payload : List ℕ) → Valid (sort_of m header dlc time payload).model
sort_valid m v header dlc time payload =
    by_sort m header dlc time payload (λ x. Valid x.model) (λ t. v) (λ t e. v) (λ t e z. v) (λ t e z g. v)
    (λ t e z g w. give_valid m v (target_for m (filter_for m header)) (filter_for m header) dlc header time payload)

pub bus_valid : (b : Bus) (m : Model) → Valid m → Valid (stepped b m)
unfolding stepped
bus_valid (Send n) m v = send_valid m v n
bus_valid SendQueue m v = queue_send_valid m v
bus_valid (Deliver n header dlc time payload) m v = deliver_valid m v n header dlc (time % 2 ^ 32) payload
bus_valid (Sort header dlc time payload) m v = sort_valid m v header dlc (time % 2 ^ 32) payload

-- ---- one after the other

happens_valid : (x : Happening) (m : Model) → Valid m → Valid (happens x m)
happens_valid (Exchange s want) m v = exchange_valid s want m v
happens_valid (On b) m v = bus_valid b m v

lived_valid : (xs : List Happening) (m : Model) → Valid m → Valid (lived xs m)
unfolding lived
lived_valid [] m v = v
lived_valid (x ∷ xs) m v = lived_valid xs (happens x m) (happens_valid x m v)

pub always_valid_lem : AlwaysValid
always_valid_lem m r = subst Valid (sym r.is) (lived_valid r.since (reset r.ram) (reset_valid r.ram r.size))
