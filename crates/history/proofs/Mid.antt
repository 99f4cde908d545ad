-- What a call under way knows of the chip, and that no bus step takes it away.
-- Assumes nothing.
use Prim.Native.Nat.{ℕ, ◌+◌, ◌≤◌, ◌<◌}
use native.Mathlib.Omega.{arith}
use mathlib.Core.Path.{◌≡◌, sym, ap, ◌∙◌}
use mathlib.Core.Bool.{true, false}
use mathlib.Core.List.{List}
use lib.ListN.{length}
use Rattle.fifo.specs.Control.{is_fifo}
use Rattle.message.specs.Message.{Message, body_at, holds, decoding}
use Rattle.call.specs.declared.Found.{Found}
use Rattle.tx_fifo.specs.PushAt.{PushAt}
use Rattle.fetch.specs.declared.Want.{Want}
use Rattle.fetch.specs.FetchAt.{FetchAt}
use Rattle.rx_fifo.specs.Outcome.{message_of, found_of}
use Rattle.ring.specs.Ring.{sending, depth}
use Rattle.ring.specs.Layout.{stamped, size}
use Rattle.ring.specs.Queue.{full}
use Rattle.bank.specs.Registers.{queue_shown}
use Rattle.state.specs.declared.Model.{Model}
use Rattle.state.specs.Model.{fifo_at, frozen_at}
use Rattle.bus.specs.Held.{slot_of, item_at}
use Rattle.bus.specs.Queue.{queue_depth, queue_slot, queue_item}
use Rattle.history.proofs.Bus.{Later}
use Rattle.history.proofs.Fetching.{plain}
use Rattle.history.proofs.Replies.{Gentle}

-- ---- a push

-- it has read the control word w: FIFO n transmits, and the object fits a slot
pub record Tx (c : Model) (n : ℕ) (bs : List ℕ) (w : ℕ) : Type 0 where
  pub word : Gentle w
  pub tx : sending (frozen_at c n) ≡ true
  pub fits : length bs ≤ size (frozen_at c n)

abbrev pub Free : Model → ℕ → Type 0
Free c n = (fifo_at c n).count < depth (frozen_at c n)

abbrev pub PushMid : Model → ℕ → Message → List ℕ → PushAt → Type 0
PushMid c n m bs PushAt.Control = Unit {0}
PushMid c n m bs (PushAt.Status w) = Tx c n bs w
PushMid c n m bs (PushAt.Address w) = Tx c n bs w × Free c n
PushMid c n m bs (PushAt.Write w a) = Tx c n bs w × Free c n × (a ≡ slot_of c n (fifo_at c n).count + 0x400)
PushMid c n m bs (PushAt.Commit w) = Tx c n bs w × Free c n × (item_at c n (fifo_at c n).count ≡ holds m)
PushMid c n m bs PushAt.Enabled = ⊥
PushMid c n m bs PushAt.BareAddress = ⊥
PushMid c n m bs (PushAt.BareWrite a) = ⊥
PushMid c n m bs PushAt.BareControl = ⊥
PushMid c n m bs PushAt.Done = ⊥
PushMid c n m bs (PushAt.Refused r) = ⊥

-- ---- a push to the queue

-- it has read the control word w: the queue is on, and the object fits a slot
pub record QueueTx (c : Model) (bs : List ℕ) (w : ℕ) : Type 0 where
  pub word : Gentle w
  pub on : c.fixed.queue ≡ true
  pub fits : length bs ≤ size (frozen_at c 0)

-- a slot is free
abbrev pub Vacant : Model → Type 0
Vacant c = full (frozen_at c 0) c.queue ≡ false

abbrev pub QueueMid : Model → Message → List ℕ → PushAt → Type 0
QueueMid c m bs PushAt.Enabled = Unit {0}
QueueMid c m bs PushAt.Control = c.fixed.queue ≡ true
QueueMid c m bs (PushAt.Status w) = QueueTx c bs w
QueueMid c m bs (PushAt.Address w) = QueueTx c bs w × Vacant c
QueueMid c m bs (PushAt.Write w a) = QueueTx c bs w × Vacant c × (a ≡ queue_shown c + 0x400)
QueueMid c m bs (PushAt.Commit w) = QueueTx c bs w × Vacant c × (queue_item c c.queue.shown ≡ holds m)
QueueMid c m bs PushAt.BareAddress = ⊥
QueueMid c m bs (PushAt.BareWrite a) = ⊥
QueueMid c m bs PushAt.BareControl = ⊥
QueueMid c m bs PushAt.Done = ⊥
QueueMid c m bs (PushAt.Refused r) = ⊥

-- an unchecked one: its object goes into one of the queue's slots, whichever
abbrev pub BareMid : Model → PushAt → Type 0
BareMid c PushAt.BareAddress = Unit {0}
BareMid c (PushAt.BareWrite a) = (k : ℕ) × (k < queue_depth c) × (a ≡ queue_slot c k + 0x400)
BareMid c PushAt.BareControl = Unit {0}
BareMid c (PushAt.Commit w) = Gentle w
BareMid c PushAt.Enabled = ⊥
BareMid c PushAt.Control = ⊥
BareMid c (PushAt.Status w) = ⊥
BareMid c (PushAt.Address w) = ⊥
BareMid c (PushAt.Write w a) = ⊥
BareMid c PushAt.Done = ⊥
BareMid c (PushAt.Refused r) = ⊥

-- ---- has-next, peek and get

abbrev pub Receives : Model → ℕ → Type 0
Receives c n = sending (frozen_at c n) ≡ false

abbrev pub Some : Model → ℕ → Type 0
Some c n = 0 < (fifo_at c n).count

-- m is the oldest message of FIFO n, which receives
pub record Oldest (c : Model) (n : ℕ) (m : Message) : Type 0 where
  pub rx : Receives c n
  pub some : Some c n
  pub item : item_at c n 0 ≡ holds m

-- a message was found, and f is what is known of it; x is where its bytes are read, so far behind the slot's beginning
pub record Reads (c : Model) (n x behind : ℕ) (m : Message) : Type 0 where
  pub oldest : Oldest c n m
  pub place : x ≡ slot_of c n 0 + 0x400 + behind

-- all of it was read, and is held
pub record Has (c : Model) (want : Want) (n : ℕ) (held : List ℕ) (f : Found) (m : Message) : Type 0 where
  pub get : want ≡ Want.Get
  pub oldest : Oldest c n m
  pub found : f ≡ found_of m
  pub message : message_of f held ≡ m

abbrev pub FetchMid : Model → Want → ℕ → List ℕ → FetchAt → Type 0
FetchMid c want n held FetchAt.Control = Unit {0}
FetchMid c want n held FetchAt.Status = Receives c n
FetchMid c want n held FetchAt.Address = Receives c n × Some c n
FetchMid c want n held (FetchAt.Header x) = Receives c n × Some c n × (x ≡ slot_of c n 0 + 0x400)
FetchMid c want n held (FetchAt.Again x f) = (m : Message) × Reads c n x 0 m × (f ≡ plain m)
FetchMid c want n held (FetchAt.Time x f) = (m : Message) × Reads c n x 8 m × (f ≡ plain m) × (stamped (frozen_at c n) ≡ true)
FetchMid c want n held (FetchAt.Body x f) = (m : Message) × Reads c n x (body_at (stamped (frozen_at c n))) m × (f ≡ found_of m)
FetchMid c want n held (FetchAt.Next f) = (m : Message) × Has c want n held f m
FetchMid c want n held (FetchAt.Commit w f) = (m : Message) × Has c want n held f m × Gentle w
FetchMid c want n held (FetchAt.Done f) = ⊥
FetchMid c want n held FetchAt.Empty = ⊥
FetchMid c want n held (FetchAt.Told next) = ⊥
FetchMid c want n held (FetchAt.Refused r) = ⊥

-- ---- bus steps

module _ (c d : Model) (l : Later c d) where
  queue_tx_later : (bs : List ℕ) (w : ℕ) → QueueTx c bs w → QueueTx d bs w
  queue_tx_later bs w x = record { word = x.word; on = rw l.fixed x.on; fits = rw l.fixed x.fits }

  -- the slot shown is where it was
  shown_later : c.fixed.queue ≡ true → Vacant c → queue_shown d ≡ queue_shown c
  unfolding queue_shown
  shown_later on f = rw (l.fixed, (l.queue on f).shown)

  shown_item : c.fixed.queue ≡ true → Vacant c → queue_item d d.queue.shown ≡ queue_item c c.queue.shown
  unfolding queue_item queue_slot queue_shown
  shown_item on f = rw (l.fixed, (l.queue on f).shown) (ap (decoding true false) (l.queue on f).bytes)

  pub queue_later : (m : Message) (bs : List ℕ) (at : PushAt) → QueueMid c m bs at → QueueMid d m bs at
  queue_later m bs PushAt.Enabled g = tt
  queue_later m bs PushAt.Control g = rw l.fixed g
  queue_later m bs (PushAt.Status w) g = queue_tx_later bs w g
  queue_later m bs (PushAt.Address w) g = (queue_tx_later bs w g.0, (l.queue g.0.on g.1).free)
  queue_later m bs (PushAt.Write w a) g = (queue_tx_later bs w g.0, (l.queue g.0.on g.1).free, rw (shown_later g.0.on g.1) g.2)
  queue_later m bs (PushAt.Commit w) g = (queue_tx_later bs w g.0, (l.queue g.0.on g.1).free, shown_item g.0.on g.1 ∙ g.2)
  queue_later m bs PushAt.BareAddress g = g
  queue_later m bs (PushAt.BareWrite a) g = g
  queue_later m bs PushAt.BareControl g = g
  queue_later m bs PushAt.Done g = g
  queue_later m bs (PushAt.Refused r) g = g

  pub bare_later : (at : PushAt) → BareMid c at → BareMid d at
  unfolding queue_slot
  bare_later PushAt.BareAddress g = tt
  bare_later (PushAt.BareWrite a) (k, h, e) = (k, rw l.fixed h, rw l.fixed e)
  bare_later PushAt.BareControl g = tt
  bare_later (PushAt.Commit w) g = g
  bare_later PushAt.Enabled g = g
  bare_later PushAt.Control g = g
  bare_later (PushAt.Status w) g = g
  bare_later (PushAt.Address w) g = g
  bare_later (PushAt.Write w a) g = g
  bare_later PushAt.Done g = g
  bare_later (PushAt.Refused r) g = g

module _ (c d : Model) (l : Later c d) (n : ℕ) (i : is_fifo n ≡ true) where
  frozen_later : frozen_at d n ≡ frozen_at c n
  frozen_later = rw l.fixed

  tx_later : (bs : List ℕ) (w : ℕ) → Tx c n bs w → Tx d n bs w
  tx_later bs w x = record { word = x.word; tx = rw frozen_later x.tx; fits = rw frozen_later x.fits }

  free_later : sending (frozen_at c n) ≡ true → Free c n → Free d n
  free_later t f = rw frozen_later (omega (arith, l.send_room n i t, f))

  pub push_later : (m : Message) (bs : List ℕ) (at : PushAt) → PushMid c n m bs at → PushMid d n m bs at
  push_later m bs PushAt.Control g = tt
  push_later m bs (PushAt.Status w) g = tx_later bs w g
  push_later m bs (PushAt.Address w) g = (tx_later bs w g.0, free_later g.0.tx g.1)
  push_later m bs (PushAt.Write w a) g =
      (tx_later bs w g.0, free_later g.0.tx g.1, g.2 ∙ ap (λ (x : ℕ). x + 0x400) (sym (l.send_slot n i g.0.tx g.1)))
  push_later m bs (PushAt.Commit w) g = (tx_later bs w g.0, free_later g.0.tx g.1, l.send_item n i g.0.tx g.1 ∙ g.2)
  push_later m bs PushAt.Enabled g = g
  push_later m bs PushAt.BareAddress g = g
  push_later m bs (PushAt.BareWrite a) g = g
  push_later m bs PushAt.BareControl g = g
  push_later m bs PushAt.Done g = g
  push_later m bs (PushAt.Refused r) g = g

  rx_later : Receives c n → Receives d n
  rx_later e = rw frozen_later e

  some_later : Receives c n → Some c n → Some d n
  some_later e s = omega (arith, l.get_some n i e, s)

  slot_later : Receives c n → slot_of d n 0 ≡ slot_of c n 0
  slot_later e = l.get_slot n i e

  item_later : Receives c n → Some c n → item_at d n 0 ≡ item_at c n 0
  unfolding item_at
  item_later e s = rw (frozen_later, slot_later e, l.get_part n i e s)

  pub oldest_later : (m : Message) → Oldest c n m → Oldest d n m
  oldest_later m o = record { rx = rx_later o.rx; some = some_later o.rx o.some; item = item_later o.rx o.some ∙ o.item }

  reads_later : (x behind : ℕ) (m : Message) → Reads c n x behind m → Reads d n x behind m
  reads_later x behind m r = record { oldest = oldest_later m r.oldest; place = rw (slot_later r.oldest.rx) r.place }

  has_later : (want : Want) (held : List ℕ) (f : Found) (m : Message) → Has c want n held f m → Has d want n held f m
  has_later want held f m h = record { get = h.get; oldest = oldest_later m h.oldest; found = h.found; message = h.message }

  pub fetch_later : (want : Want) (held : List ℕ) (at : FetchAt) → FetchMid c want n held at → FetchMid d want n held at
  fetch_later want held FetchAt.Control g = tt
  fetch_later want held FetchAt.Status g = rx_later g
  fetch_later want held FetchAt.Address g = (rx_later g.0, some_later g.0 g.1)
  fetch_later want held (FetchAt.Header x) g = (rx_later g.0, some_later g.0 g.1, rw (slot_later g.0) g.2)
  fetch_later want held (FetchAt.Again x f) g = (g.0, reads_later x 0 g.0 g.1, g.2)
  fetch_later want held (FetchAt.Time x f) g = (g.0, reads_later x 8 g.0 g.1, g.2, rw frozen_later g.3)
  fetch_later want held (FetchAt.Body x f) g =
      (g.0, rw frozen_later (reads_later x (body_at (stamped (frozen_at c n))) g.0 g.1), g.2)
  fetch_later want held (FetchAt.Next f) g = (g.0, has_later want held f g.0 g.1)
  fetch_later want held (FetchAt.Commit w f) g = (g.0, has_later want held f g.0 g.1, g.2)
  fetch_later want held (FetchAt.Done f) g = g
  fetch_later want held FetchAt.Empty g = g
  fetch_later want held (FetchAt.Told next) g = g
  fetch_later want held (FetchAt.Refused r) g = g
