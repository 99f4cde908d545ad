-- After a failed exchange in a push to the queue only the bytes of the slot shown may differ from what the bus steps alone leave.
-- Assumes nothing.
use Prim.Native.Nat.{ℕ, ◌+◌, ◌≤◌, ◌<◌}
use native.Mathlib.Omega.{arith}
use borrow.Author.Tests.{ltb-false}
use mathlib.Core.Path.{◌≡◌, refl, sym, ap, subst}
use mathlib.Core.Bool.{false}
use mathlib.Core.List.{List, [], ◌∷◌, ◌++◌, map}
use lib.Dec.{ltb}
use lib.ListN.{length, get_or}
use Rattle.laws.proofs.Choice.{by_if}
use Rattle.fifo.specs.Control.{payload_of}
use Rattle.words.specs.Words.{le_bytes}
use Rattle.spi.specs.declared.refusal.Refusal.{Refusal}
use Rattle.header.specs.declared.Header.{Header}
use Rattle.message.specs.Message.{Encoding, encoding}
use Rattle.place.specs.declared.Register.{Register}
use Rattle.call.specs.declared.Outcome.{Outcome}
use Rattle.tx_fifo.specs.PushAt.{PushAt}
use Rattle.tx_fifo.specs.Step as push
use Rattle.driver.specs.Start.{idle_plan, idle_fetch, of_push}
use Rattle.driver.specs.Call.{Call}
use Rattle.ring.specs.Layout.{size}
use Rattle.ring.specs.Queue.{full}
use Rattle.state.specs.declared.Fixed.{Fixed}
use Rattle.state.specs.declared.Model.{Model}
use Rattle.state.specs.Model.{frozen_at, written}
use Rattle.bank.specs.Registers.{queue_shown, word_of}
use Rattle.bus.specs.Queue.{queue_slot}
use Rattle.reach.specs.Bus.{Bus}
use Rattle.history.specs.Command.{Command, QueuePush}
use Rattle.history.specs.History.{Begin, Exchange, Fail, On, Said, busy, idle, World, settled, event, after}
use Rattle.history.specs.Demand.{calm, buses, all, ButFor}
use Rattle.history.proofs.Line.{world}
use Rattle.history.proofs.Foot.{but_same, but_written, but_buses}
use Rattle.history.proofs.Asks.{hear_enabled, hear_queue, hear_queue_status, hear_queue_address}
use Rattle.history.proofs.Slots.{ram_long}
use Rattle.history.proofs.Pushing.{pushing, turned, still_alone, refused_alone}
use Rattle.history.proofs.Mid.{QueueMid}
use Rattle.history.proofs.QueueSlots.{clear_queue}
use Rattle.history.proofs.QueueReplies.{queue_gentle, shown_inside, next_enabled, next_queue_control, next_queue_status, next_queue_address}
use Rattle.history.proofs.QueueSteps.{queue_fits_lem, shown_told, queueing}
use Rattle.history.proofs.Calm.{spoken_of, Fit, buses_fit, buses_fixed}
use Rattle.history.proofs.QueueExactly.{buses_queue}
use Rattle.history.proofs.PushFails.{ending, ending_first, failed_chip, settled_chip, buses_first, idle_chip}

-- the bytes of the slot that the queue of c shows
abbrev OnlyShown : (c d : Model) → Type 0
OnlyShown c d = ButFor (queue_shown c) (size (frozen_at c 0)) c d

same_shown : (c d : Model) → d ≡ c → OnlyShown c d
same_shown c d e = subst (OnlyShown c) (sym e) (but_same (queue_shown c) (size (frozen_at c 0)) c)

-- how many exchanges come before the one that ends the push
abbrev left : PushAt → ℕ
left PushAt.Enabled = 5
left PushAt.Control = 4
left (PushAt.Status w) = 3
left (PushAt.Address w) = 2
left (PushAt.Write w a) = 1
left (PushAt.Commit w) = 0
left PushAt.BareAddress = 0
left (PushAt.BareWrite a) = 0
left PushAt.BareControl = 0
left PushAt.Done = 0
left (PushAt.Refused r) = 0

module _ (header : Header) (seq : ℕ) (payload bytes : List ℕ) (coded : encoding (push.to_send header seq payload) ≡ Encoding.object bytes) (b : List Bus) where
  abbrev at : PushAt → Call
  at a = pushing false 0 (length payload) bytes a idle_plan idle_fetch

  abbrev k : Command
  k = QueuePush header seq payload

  abbrev Mid : Model → PushAt → Type 0
  Mid c a = QueueMid c (push.to_send header seq payload) bytes a

  -- bus steps alone leave of c what the events leave of v, but for the slot shown
  abbrev Ends : List (List Bus) → Model → World → Type 0
  Ends bs c v = OnlyShown (buses (all bs ++ b) c) (after (ending bs b) v).chip

  -- the object was written: no bus step moves the slot shown
  wrote : (c : Model) (t : List Said) (f : Fit c t) (w a : ℕ) → Mid c (PushAt.Write w a) → (v : World)
      → v.chip ≡ written c (queue_shown c) bytes → (bs : List (List Bus)) → length bs < 1 → Ends bs c v
  unfolding calm queue_shown queue_slot
  wrote c t f w a g v e [] l =
      let p : ℕ = queue_shown c in
      let z : ℕ = size (frozen_at c 0) in
      let o = f.sound in
      let d : Model = written c p bytes in
      let h : Mid (buses b c) (PushAt.Write w a) = buses_queue (push.to_send header seq payload) bytes (PushAt.Write w a) b c t f g in
      let large : size (frozen_at (buses b c) 0) ≡ z = ap (λ (x : Fixed). size (get_or x.frozen 0 0)) (buses_fixed b c t f) in
      let stays : queue_shown (buses b c) ≡ p = omega (arith, g.2, h.2) in
      let inside : p + z ≤ length c.ram = omega (arith, ram_long c o, shown_inside c o g.0.on) in
      let apart : ButFor p z (buses b c) (buses b d)
      = but_buses p z b c d (λ on. clear_queue c o c.queue.shown (o.valid.queue.vacant g.1) on) (but_written p z c p bytes (omega arith) (omega (arith, g.0.fits)) inside) in
      rw (failed_chip b v, e, stays, large) apart
  wrote c t f w a g v e (x ∷ bs) l = absurd (omega (arith, l))

  -- one exchange, the first of some; the rest is known where nothing was written
  module _ (bs : List (List Bus)) (c : Model) (t : List Said) (f : Fit c t)
      (rest : (a : PushAt) → length bs ≤ left a → Mid c a → Ends bs c (world c (busy k (at a)) t)) where
    abbrev After : List ℕ → PushAt → Type 0
    After rx a = Ends bs c (settled c t k (at a) rx)

    stays : (rx : List ℕ) (a : PushAt) → push.outcome_at a ≡ Outcome.Running → length bs ≤ left a → Mid c a → After rx a
    stays rx a y l g = rw (still_alone k (λ s. refl) refl refl (length payload) bytes idle_plan idle_fetch t c rx a y) (rest a l g)

    ends : (rx : List ℕ) (x : Refusal) → After rx (PushAt.Refused x)
    ends rx x = rw (refused_alone k (λ s. refl) refl refl (length payload) bytes idle_plan idle_fetch t c rx x) (same_shown _ _ (idle_chip bs b c _))

    abbrev Exchanged : PushAt → Type 0
    Exchanged a = length bs < left a → Mid c a → Ends bs c (event Exchange (busy k (at a)) c t)

    reads_enabled : Exchanged PushAt.Enabled
    unfolding event
    reads_enabled l g =
        let rx : List ℕ = le_bytes (word_of c Register.Con) in
        rw (turned 0 (length payload) bytes idle_plan idle_fetch false PushAt.Enabled refl t k c _ _ _ (hear_enabled _ c) (next_enabled c f.sound (length payload) (length bytes)))
        (by_if (After rx) c.fixed.queue (λ x. stays rx PushAt.Control refl (omega arith) x) (λ x. ends rx Refusal.TxQueueDisabled))

    reads_control : Exchanged PushAt.Control
    unfolding event
    reads_control l g =
        let rx : List ℕ = le_bytes (word_of c Register.QueueControl) in
        rw (turned 0 (length payload) bytes idle_plan idle_fetch false PushAt.Control refl t k c _ _ _ (hear_queue _ c) (next_queue_control c f.sound (length payload) (length bytes)))
        (by_if (After rx) (ltb (payload_of (frozen_at c 0)) (length payload))
        (λ y. ends rx Refusal.FifoTooSmall)
        (λ y. stays rx (PushAt.Status _) refl (omega arith)
        (record { word = queue_gentle c f.sound; on = g; fits = queue_fits_lem c header seq payload bytes coded (ltb-false _ _ y) })))

    reads_status : (w : ℕ) → Exchanged (PushAt.Status w)
    unfolding event
    reads_status w l g =
        let rx : List ℕ = le_bytes (word_of c Register.QueueStatus) in
        rw (turned 0 (length payload) bytes idle_plan idle_fetch false (PushAt.Status w) refl t k c _ _ _ (hear_queue_status _ c)
        (next_queue_status c f.sound g.on (length payload) (length bytes) w))
        (by_if (After rx) (full (frozen_at c 0) c.queue) (λ x. ends rx Refusal.FifoFull) (λ x. stays rx (PushAt.Address w) refl (omega arith) (g, x)))

    reads_address : (w : ℕ) → Exchanged (PushAt.Address w)
    unfolding event
    reads_address w l g =
        let inside : queue_shown c + length bytes ≤ 2048 = omega (arith, shown_inside c f.sound g.0.on, g.0.fits) in
        rw (turned 0 (length payload) bytes idle_plan idle_fetch false (PushAt.Address w) refl t k c _ _ _ (hear_queue_address _ c)
        (next_queue_address c f.sound g.0.on (length payload) (length bytes) w inside))
        (stays _ (PushAt.Write w _) refl (omega arith) (g.0, g.1, refl))

    writes_object : (w a : ℕ) → Exchanged (PushAt.Write w a)
    unfolding event queue_shown queue_slot
    writes_object w a l g =
        let d : Model = written c (queue_shown c) bytes in
        let told = shown_told c f.sound header seq payload bytes coded w a g in
        rw (turned 0 (length payload) bytes idle_plan idle_fetch false (PushAt.Write w a) refl t k c [] d (PushAt.Commit w) told refl)
        (wrote c t f w a g _ (settled_chip d t k (at (PushAt.Commit w)) []) bs l)

    exchanged : (a : PushAt) → Exchanged a
    exchanged PushAt.Enabled = reads_enabled
    exchanged PushAt.Control = reads_control
    exchanged (PushAt.Status w) = reads_status w
    exchanged (PushAt.Address w) = reads_address w
    exchanged (PushAt.Write w a) = writes_object w a
    exchanged (PushAt.Commit w) = λ l g. absurd (omega arith)
    exchanged PushAt.BareAddress = λ l g. absurd g
    exchanged (PushAt.BareWrite a) = λ l g. absurd g
    exchanged PushAt.BareControl = λ l g. absurd g
    exchanged PushAt.Done = λ l g. absurd g
    exchanged (PushAt.Refused r) = λ l g. absurd g

  under_way : (bs : List (List Bus)) (a : PushAt) (c : Model) (t : List Said) → Fit c t → length bs ≤ left a → Mid c a → Ends bs c (world c (busy k (at a)) t)
  unfolding calm
  under_way [] a c t f l g = same_shown _ _ (failed_chip b (world c (busy k (at a)) t))
  under_way (x ∷ bs) a c t f l g =
      let t' : List Said = t ++ spoken_of x c in
      let f' : Fit (buses x c) t' = buses_fit x c t f in
      rw (ending_first x bs b c (busy k (at a)) t, buses_first x bs b c)
      (exchanged bs (buses x c) t' f' (λ to. under_way bs to (buses x c) t' f') a (omega (arith, l)) (buses_queue _ bytes a x c t f g))

-- ---- from the beginning

module _ (header : Header) (seq : ℕ) (payload : List ℕ) (bs : List (List Bus)) (few : length bs ≤ 5) (b : List Bus) (c : Model) (t : List Said) (f : Fit c t) where
  begun_as : (x : Encoding) → encoding (push.to_send header seq payload) ≡ x
      → OnlyShown (buses (all bs ++ b) c) (after (ending bs b) (settled c t (QueuePush header seq payload) (queueing (length payload) PushAt.Enabled x) [])).chip
  begun_as (Encoding.refused x) e =
      rw (refused_alone (QueuePush header seq payload) (λ s. refl) refl refl (length payload) [] idle_plan idle_fetch t c [] x) (same_shown _ _ (idle_chip bs b c _))
  begun_as (Encoding.object bytes) e =
      rw (still_alone (QueuePush header seq payload) (λ s. refl) refl refl (length payload) bytes idle_plan idle_fetch t c [] PushAt.Enabled refl)
      (under_way header seq payload bytes e b bs PushAt.Enabled c t f few tt)

pub queue_push_fails_lem : (v : World) → Fit v.chip v.said → v.doing ≡ idle → (header : Header) (seq : ℕ) (payload : List ℕ)
    → (bs : List (List Bus)) → length bs ≤ 5 → (b : List Bus)
    → OnlyShown (buses (all bs ++ b) v.chip) (after (Begin (QueuePush header seq payload) ∷ (calm bs ++ (map On b ++ (Fail ∷ [])))) v).chip
unfolding after event of_push push.queue_start_at
queue_push_fails_lem v f e header seq payload bs few b =
    rw e (begun_as header seq payload bs few b v.chip v.said f (encoding (push.to_send header seq payload)) refl)
