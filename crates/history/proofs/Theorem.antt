-- What is true after every event, so after every history.
-- Assumes nothing.
use Prim.Native.Nat.{ℕ, ◌≤◌}
use mathlib.Core.Path.{◌≡◌, refl, sym, ap, ◌∙◌}
use mathlib.Core.Bool.{Bool, true, false, not, ◌||◌, true≢false}
use mathlib.Core.List.Perm
use mathlib.Core.List.{List, [], ◌∷◌}
use borrow.Author.Tests.{not-false, ltb-false}
use lib.Dec.{ltb}
use lib.ListN.{length}
use Rattle.laws.proofs.Choice.{by_if}
use Rattle.fifo.specs.Control.{payload_of, is_fifo}
use Rattle.header.specs.declared.Header.{Header}
use Rattle.driver.specs.Call.{Call}
use Rattle.fetch.specs.declared.Want.{Want}
use Rattle.state.specs.declared.Model.{Model}
use Rattle.state.specs.Model.{frozen_at}
use Rattle.bank.specs.Registers.{con_written}
use Rattle.bus.specs.Held.{item_at, row, held}
use Rattle.bus.specs.Queue.{held_queue}
use Rattle.message.specs.Message.{Decoding}
use Rattle.reach.specs.Bus.{Bus, Send, SendQueue, Deliver, Sort, stepped}
use Rattle.reach.proofs.Kept.{always_valid_lem, leaving_valid}
use Rattle.reach.proofs.Told.{leaving_outside, leaving_empty, leaving_free}
use Rattle.reach.proofs.Queue.{none_queued}
use Rattle.history.specs.Command.{Command, Push, Transmit, QueuePush, QueueUnchecked, QueueRequest, Request, HasNext, Peek, Get, Reading, Configuring, started}
use Rattle.history.specs.History.{Event, Begin, Exchange, Fail, On, Said, Doing, idle, busy, World, says, heard, settled, goes_on, event, after}
use Rattle.history.specs.Lists.{accepted, handed_out, queue_accepted, queue_sent}
use Rattle.history.specs.Demand.{Leaves, start, world, asks_rewrite, strays, ends, Through, Lasts, TellsWell}
use Rattle.history.specs.Queue.{overwriting, Checked}
use Rattle.history.proofs.Sound.{Sound, Asked}
use Rattle.history.proofs.Bus.{Listed}
use Rattle.history.proofs.Calm.{Fit, step_fit, step_later}
use Rattle.history.proofs.Inv.{Mid, pushes, fetches, requests, configures, looks, queues, bares, queue_requests, doings_later, Tale, Inv, each_snoc}
use Rattle.history.proofs.PushSteps.{push_exchanged, push_failed, push_begins}
use Rattle.history.proofs.FetchSteps.{fetch_exchanged, fetch_failed, fetch_begins}
use Rattle.history.proofs.PlanSteps.{request_heard, request_starts_well, configure_heard, configure_starts_well, look_heard, look_starts_well, queue_request_heard, queue_request_starts_well}
use Rattle.history.proofs.QueueSteps.{queue_begins, queue_exchanged, queue_failed}
use Rattle.history.proofs.BareSteps.{bare_begins, bare_heard}
use Rattle.history.proofs.QueueBus.{queue_stepped}

-- a bus step is no call
bus_tells : (b : Bus) (c : Model) → TellsWell (says b c)
bus_tells (Send n) c = tt
bus_tells SendQueue c = tt
bus_tells (Deliver n header dlc time payload) c = tt
bus_tells (Sort header dlc time payload) c = tt

-- neither of two
neither : (a b : Bool) → (a || b) ≡ false → (a ≡ false) × (b ≡ false)
neither true b h = absurd (true≢false h)
neither false b h = (refl, h)

-- an unchecked push that does not stray
fits_told : (c : Model) (header : Header) (seq : ℕ) (payload : List ℕ) {k : Command} → strays c k ≡ false → k ≡ QueueUnchecked header seq payload
    → (c.fixed.queue ≡ true) × (length payload ≤ payload_of (frozen_at c 0))
fits_told c header seq payload h e =
    let (a, b) = neither (not c.fixed.queue) (ltb (payload_of (frozen_at c 0)) (length payload)) (sym (ap (strays c) e) ∙ h) in
    (not-false c.fixed.queue a, ltb-false _ _ b)

-- ---- each event

module _ (X : ℕ → Type 0) {U : Type 0} (c : Model) (o : Sound c) (q : Asked X c) (t : List Said) (l : Listed c t) (e : Tale U c t) where
  -- a call begins
  begins : (k : Command) → (U → overwriting (settled c t k (started k) []).doing ≡ false) → Inv X U (settled c t k (started k) [])
  begins (Push n header seq payload) y = push_begins X c o q t l e false n header seq payload
  begins (Transmit n header seq payload) y = push_begins X c o q t l e true n header seq payload
  begins (QueuePush header seq payload) y = queue_begins X c o q t l e header seq payload
  begins (QueueUnchecked header seq payload) y = bare_begins X c o q t l e header seq payload y
  begins QueueRequest y = queue_request_starts_well X c o q t l e
  begins (Request n) y = request_starts_well X c o q t l e n
  begins (HasNext n) y = fetch_begins X c o q t l e Want.HasNext n []
  begins (Peek n buf) y = fetch_begins X c o q t l e Want.Peek n buf
  begins (Get n buf) y = fetch_begins X c o q t l e Want.Get n buf
  begins (Reading x) y = look_starts_well X c o q t l e x
  begins (Configuring x) y = configure_starts_well X c o q t l e x

  -- the call under way has its next exchange, which is carried out or not
  goes : (b : Bool) (k : Command) (s : Call) → ends c (busy k s) ≡ false → Mid X U c k s → Inv X U (goes_on t k s (heard b s c))
  goes true k s calm (pushes also n header seq payload bs at p f i x r g z ek es) = rw (ek, es) (push_exchanged X c o q t l e also n header seq payload bs p f i x r at g z)
  goes false k s calm (pushes also n header seq payload bs at p f i x r g z ek es) = rw (ek, es) (push_failed X c o q t l e also n header seq payload bs p f i x r at g)
  goes true k s calm (fetches want n buf held at p u i b h g z ek es) = rw (ek, es) (fetch_exchanged X c o q t l e want n buf p u i b held h at g z)
  goes false k s calm (fetches want n buf held at p u i b h g z ek es) = rw (ek, es) (fetch_failed X c o q t l e want n buf p u i b held h at g)
  goes b k s calm (requests also n p u f a r h z ek es) = rw (ek, es) (request_heard X c o q t l e also u f a b n p r h z)
  goes b k s n (configures x p u f h ek es) = rw (ek, es) (configure_heard X c o q t l e b x p u f h)
  goes b k s n (looks x h ek) = rw ek (look_heard X c o q t l e b x s h (neither (asks_rewrite s.at) (strays c k) n).0)
  goes true k s n (queues header seq payload bs at p f x g ek es) = rw (ek, es) (queue_exchanged X c o q t l e header seq payload bs p f x at g)
  goes false k s n (queues header seq payload bs at p f x g ek es) = rw (ek, es) (queue_failed X c o q t l e header seq payload bs p f x at g)
  goes b k s n (bares header seq payload bs at p f x g u ek es) =
      rw (ek, es) (bare_heard X c o q t l e u header seq payload bs p f x (fits_told c header seq payload (neither (asks_rewrite s.at) (strays c k) n).1 ek) b at g)
  goes b k s n (queue_requests p u f r h z ek es) = rw (ek, es) (queue_request_heard X c o q t l e b p u f r h z)

-- a bus step is taken to leave the TXREQ that are to stay 1; where the queue's lists are claimed no unchecked push is under way after it
pub event_keeps : (X : ℕ → Type 0) (U : Type 0) (x : Event) (d : Doing) (c : Model) (t : List Said) → ends c d ≡ false → Inv X U (record { chip = c; doing = d; said = t })
    → ((b : Bus) → x ≡ On b → Asked X (stepped b c)) → (U → overwriting (event x d c t).doing ≡ false) → Inv X U (event x d c t)
unfolding event
event_keeps X U (Begin k) idle c t n i a y = begins X c i.sound i.asked t i.lists i.tale k y
event_keeps X U (Begin k) (busy j s) c t n i a y = i
event_keeps X U Exchange idle c t n i a y = i
event_keeps X U Exchange (busy k s) c t n i a y = goes X c i.sound i.asked t i.lists i.tale true k s n i.doing
event_keeps X U Fail idle c t n i a y = i
event_keeps X U Fail (busy k s) c t n i a y = goes X c i.sound i.asked t i.lists i.tale false k s n i.doing
event_keeps X U (On b) d c t n i a y =
    let f : Fit c t = record { sound = i.sound; lists = i.lists } in
    let g = step_fit c t f b in
    record {
      sound = g.sound;
      asked = a b refl;
      lists = g.lists;
      tale = record { tells = each_snoc TellsWell t (says b c) i.tale.tells (bus_tells b c); queue = λ u. queue_stepped c i.sound t (i.tale.queue u) b };
      doing = doings_later X U c (stepped b c) (step_later c t f b) d i.doing;
    }

-- of no FIFO
abbrev pub None : ℕ → Type 0
None n = ⊥

pub run_keeps : (es : List Event) (v : World) → Lasts es v → Inv None ⊥ v → Inv None ⊥ (after es v)
unfolding after
run_keeps [] v n i = i
run_keeps (x ∷ es) v n i = run_keeps es _ n.1 (event_keeps None ⊥ x v.doing v.chip v.said n.0 i (λ b e j y. absurd y) (λ u. absurd u))

-- what is so through some events is so at their beginning
through_first : (P : World → Type 0) (es : List Event) (v : World) → Through P es v → P v
through_first P [] v p = p
through_first P (x ∷ es) v p = p.0

-- the queue's histories
pub run_checked : (es : List Event) (v : World) → Lasts es v → Checked es v → Inv None (Unit {0}) v → Inv None (Unit {0}) (after es v)
unfolding after
run_checked [] v n y i = i
run_checked (x ∷ es) v n y i =
    run_checked es _ n.1 y.1
    (event_keeps None (Unit {0}) x v.doing v.chip v.said n.0 i (λ b e j z. absurd z) (λ u. through_first (λ z. overwriting z.doing ≡ false) es _ y.1))

-- ---- where a history begins

module _ (c : Model) (w : ℕ) (g : Leaves c w) where
  abbrev d : Model
  d = (con_written c w).model

  -- nothing is held
  begins_empty : (n : ℕ) → held d n ≡ []
  unfolding held row
  begins_empty n =
      by_if (λ (x : List Decoding). x ≡ []) (is_fifo n)
      (λ i. ap (row (λ k. item_at d n k) 0) (leaving_empty c w g.configuring g.asks g.granted (always_valid_lem c g.reached) n)) (λ i. refl)

  begins_free : held_queue d ≡ []
  begins_free = none_queued d (leaving_free c w g.configuring g.asks g.granted (always_valid_lem c g.reached))

  begins_well : (U : Type 0) → Inv None U (start c w)
  unfolding accepted handed_out queue_accepted queue_sent
  begins_well U = record {
    sound = record { valid = leaving_valid c w (always_valid_lem c g.reached); out = leaving_outside c w g.configuring g.asks g.granted };
    asked = λ n y. absurd y;
    lists = λ j i. sym (begins_empty j);
    tale = record { tells = tt; queue = λ u. rw begins_free (Perm.refl []) };
    doing = tt;
  }

pub holds_always : (c : Model) (w : ℕ) → Leaves c w → (es : List Event) → Lasts es (start c w) → Inv None ⊥ (world c w es)
holds_always c w g es r = run_keeps es (start c w) r (begins_well c w g ⊥)

pub holds_checked : (c : Model) (w : ℕ) → Leaves c w → (es : List Event) → Lasts es (start c w) → Checked es (start c w) → Inv None (Unit {0}) (world c w es)
holds_checked c w g es r y = run_checked es (start c w) r y (begins_well c w g (Unit {0}))

pub fits : (c : Model) (w : ℕ) → Leaves c w → (es : List Event) → Lasts es (start c w) → Fit (world c w es).chip (world c w es).said
fits c w g es r = let i = holds_always c w g es r in record { sound = i.sound; lists = i.lists }
