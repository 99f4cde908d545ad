-- After a push in which an exchange failed only the free slot's bytes may differ from what the bus steps alone leave.
-- Assumes nothing.
use Prim.Native.Nat.{ℕ, ◌+◌, ◌≤◌, ◌<◌}
use native.Mathlib.Omega.{arith}
use borrow.Author.Tests.{ltb-true, ltb-false}
use mathlib.Core.Path.{◌≡◌, refl, sym, ap, subst, ◌∙◌}
use mathlib.Core.Bool.{Bool, true, false}
use mathlib.Core.List.{List, [], ◌∷◌, ◌++◌, map, append_assoc}
use lib.ListN.{length, get_or}
use lib.Dec.{ltb}
use Rattle.laws.proofs.Choice.{by_if}
use Rattle.fifo.specs.Control.{payload_of, is_fifo}
use Rattle.words.specs.Words.{le_bytes}
use Rattle.spi.specs.declared.refusal.Refusal.{Refusal}
use Rattle.header.specs.declared.Header.{Header}
use Rattle.message.specs.Message.{Encoding, encoding}
use Rattle.place.specs.declared.Register.{Register}
use Rattle.call.specs.declared.Outcome.{Outcome}
use Rattle.tx_fifo.specs.PushAt.{PushAt}
use Rattle.tx_fifo.specs.Step as push
use Rattle.plan.specs.Plan.{Plan}
use Rattle.transmit.specs.Transmit.{request_start, transmit_start}
use Rattle.driver.specs.Start.{idle_plan, idle_fetch, of_push, of_transmit}
use Rattle.driver.specs.Step.{ask_of, outcome_of}
use Rattle.driver.specs.Call.{Call}
use Rattle.ring.specs.Ring.{sending, depth}
use Rattle.ring.specs.Layout.{size}
use Rattle.state.specs.declared.Fixed.{Fixed}
use Rattle.state.specs.declared.Model.{Model}
use Rattle.state.specs.Model.{fifo_at, frozen_at, written}
use Rattle.bank.specs.Registers.{word_of}
use Rattle.bus.specs.Held.{slot_of}
use Rattle.reach.specs.Bus.{Bus}
use Rattle.history.specs.Command.{Command, Push, Transmit}
use Rattle.history.specs.History.{Event, Begin, Exchange, Fail, On, Said, Doing, idle, busy, World, Heard, waits, heard, is_over, halfway, settled, event, after}
use Rattle.history.specs.Demand.{buses, calm, all, ButFor, OnlyFree}
use Rattle.history.proofs.Slots.{ram_long, slot_inside}
use Rattle.history.proofs.Foot.{but_same, but_written, but_buses}
use Rattle.history.proofs.Line.{world}
use Rattle.history.proofs.Asks.{hear_control, hear_status, hear_address}
use Rattle.history.proofs.Replies.{control_gentle, next_control, next_status, next_address}
use Rattle.history.proofs.Pushing.{commanded, pushing, turned, still, refused}
use Rattle.history.proofs.Mid.{PushMid}
use Rattle.history.proofs.PushSteps.{object_fits, starting, inside, object_told, encoded_for}
use Rattle.history.proofs.Calm.{spoken_of, after_append, after_buses, after_calm, Fit, buses_fit, buses_fixed, buses_push, buses_append}
use Rattle.history.proofs.QueueSlots.{clear_fifo}

-- ---- what leaves the chip as it is

-- a call that goes on, or is over
pub settled_chip : (c : Model) (t : List Said) (k : Command) (s : Call) (rx : List ℕ) → (settled c t k s rx).chip ≡ c
unfolding settled
settled_chip c t k s rx =
    let P : World → Type 0 = λ v. v.chip ≡ c in
    by_if P (is_over (outcome_of s)) (λ e. refl) (λ e. by_if P (halfway k s) (λ h. refl) (λ h. refl))

lost_chip : (s : Call) (c : Model) → (heard false s c).chip ≡ c
unfolding heard
lost_chip s c = by_if (λ (h : Heard). h.chip ≡ c) (waits (ask_of s)) (λ e. refl) (λ e. refl)

fail_chip : (g : Doing) (c : Model) (t : List Said) → (event Fail g c t).chip ≡ c
unfolding event
fail_chip idle c t = refl
fail_chip (busy k s) c t = settled_chip _ t k _ _ ∙ lost_chip s c

-- bus steps, and then an exchange that fails
pub failed_chip : (b : List Bus) (v : World) → (after (map On b ++ (Fail ∷ [])) v).chip ≡ buses b v.chip
unfolding after
failed_chip b v =
    ap (λ (x : World). x.chip) (after_append (map On b) (Fail ∷ []) v ∙ ap (after (Fail ∷ [])) (after_buses b v.chip v.doing v.said))
    ∙ fail_chip v.doing (buses b v.chip) _

-- ---- exchanges that the chip answers, then one that fails

abbrev pub ending : List (List Bus) → List Bus → List Event
ending bs b = calm bs ++ (map On b ++ (Fail ∷ []))

-- the first of them
pub ending_first : (x : List Bus) (bs : List (List Bus)) (b : List Bus) (c : Model) (g : Doing) (t : List Said)
    → after (ending (x ∷ bs) b) (world c g t) ≡ after (ending bs b) (event Exchange g (buses x c) (t ++ spoken_of x c))
ending_first x bs b c g t =
    let r : List Event = map On b ++ (Fail ∷ []) in
    after_append (calm (x ∷ bs)) r (world c g t) ∙ ap (after r) (after_calm x bs c g t) ∙ sym (after_append (calm bs) r _)

pub buses_first : (x : List Bus) (bs : List (List Bus)) (b : List Bus) (c : Model) → buses (all (x ∷ bs) ++ b) c ≡ buses (all bs ++ b) (buses x c)
buses_first x bs b c = ap (λ (l : List Bus). buses l c) (append_assoc x (all bs) b) ∙ buses_append x (all bs ++ b) c

-- no call is under way
pub idle_chip : (bs : List (List Bus)) (b : List Bus) (c : Model) (t : List Said) → (after (ending bs b) (world c idle t)).chip ≡ buses (all bs ++ b) c
unfolding calm event
idle_chip [] b c t = failed_chip b (world c idle t)
idle_chip (x ∷ bs) b c t =
    ap (λ (v : World). v.chip) (ending_first x bs b c idle t) ∙ idle_chip bs b (buses x c) (t ++ spoken_of x c) ∙ sym (buses_first x bs b c)

-- ---- a push

-- how many exchanges come before the one that ends the push
abbrev left : PushAt → ℕ
left PushAt.Control = 4
left (PushAt.Status w) = 3
left (PushAt.Address w) = 2
left (PushAt.Write w a) = 1
left (PushAt.Commit w) = 0
left PushAt.Enabled = 0
left PushAt.BareAddress = 0
left (PushAt.BareWrite a) = 0
left PushAt.BareControl = 0
left PushAt.Done = 0
left (PushAt.Refused r) = 0

same_free : (n : ℕ) (c d : Model) → d ≡ c → OnlyFree n c d
same_free n c d e = subst (OnlyFree n c) (sym e) (but_same (slot_of c n (fifo_at c n).count) (size (frozen_at c n)) c)

module _ (also : Bool) (q : Plan) (n : ℕ) (header : Header) (seq : ℕ) (payload bytes : List ℕ) (i : is_fifo n ≡ true)
    (coded : encoding (push.to_send header seq payload) ≡ Encoding.object bytes) (b : List Bus) where
  abbrev at : PushAt → Call
  at a = pushing also n (length payload) bytes a q idle_fetch

  abbrev k : Command
  k = commanded also n header seq payload

  abbrev Mid : Model → PushAt → Type 0
  Mid c a = PushMid c n (push.to_send header seq payload) bytes a

  -- bus steps alone leave of c what the events leave of v, but for the free slot
  abbrev Ends : List (List Bus) → Model → World → Type 0
  Ends bs c v = OnlyFree n (buses (all bs ++ b) c) (after (ending bs b) v).chip

  -- the object was written: no bus step moves the free slot
  wrote : (c : Model) (t : List Said) (f : Fit c t) (w a : ℕ) → Mid c (PushAt.Write w a) → (v : World)
      → v.chip ≡ written c (slot_of c n (fifo_at c n).count) bytes → (bs : List (List Bus)) → length bs < 1 → Ends bs c v
  unfolding calm
  wrote c t f w a g v e [] l =
      let p : ℕ = slot_of c n (fifo_at c n).count in
      let z : ℕ = size (frozen_at c n) in
      let o = f.sound in
      let d : Model = written c p bytes in
      let h : Mid (buses b c) (PushAt.Write w a) = buses_push n i (push.to_send header seq payload) bytes (PushAt.Write w a) b c t f g in
      let large : size (frozen_at (buses b c) n) ≡ z = ap (λ (x : Fixed). size (get_or x.frozen n 0)) (buses_fixed b c t f) in
      let stays : slot_of (buses b c) n (fifo_at (buses b c) n).count ≡ p = omega (arith, g.2, h.2) in
      let inside : p + z ≤ length c.ram = omega (arith, ram_long c o, slot_inside c o n (fifo_at c n).count i (o.valid.fifo n).count) in
      let apart : ButFor p z (buses b c) (buses b d) = but_buses p z b c d (clear_fifo c o n i) (but_written p z c p bytes (omega arith) (omega (arith, g.0.fits)) inside) in
      rw (failed_chip b v, e, stays, large) apart
  wrote c t f w a g v e (x ∷ bs) l = absurd (omega (arith, l))

  -- one exchange, the first of some; the rest is known where nothing was written
  module _ (bs : List (List Bus)) (c : Model) (t : List Said) (f : Fit c t)
      (rest : (a : PushAt) → length bs ≤ left a → Mid c a → Ends bs c (world c (busy k (at a)) t)) where
    abbrev After : List ℕ → PushAt → Type 0
    After rx a = Ends bs c (settled c t k (at a) rx)

    stays : (rx : List ℕ) (a : PushAt) → push.done_at a ≡ false → push.outcome_at a ≡ Outcome.Running → length bs ≤ left a → Mid c a → After rx a
    stays rx a x y l g = rw (still n (length payload) bytes q idle_fetch header seq payload t c rx also a x y) (rest a l g)

    ends : (rx : List ℕ) (x : Refusal) → After rx (PushAt.Refused x)
    ends rx x = rw (refused n (length payload) bytes q idle_fetch header seq payload t c rx also x) (same_free n _ _ (idle_chip bs b c _))

    abbrev Exchanged : PushAt → Type 0
    Exchanged a = length bs < left a → Mid c a → Ends bs c (event Exchange (busy k (at a)) c t)

    reads_control : Exchanged PushAt.Control
    unfolding event
    reads_control l g =
        let rx : List ℕ = le_bytes (word_of c (Register.Control n)) in
        rw (turned n (length payload) bytes q idle_fetch also PushAt.Control refl t k c _ _ _ (hear_control _ c n i) (next_control c n (length payload) (length bytes) i))
        (by_if (After rx) (sending (frozen_at c n))
        (λ x. by_if (After rx) (ltb (payload_of (frozen_at c n)) (length payload))
        (λ y. ends rx Refusal.FifoTooSmall)
        (λ y. stays rx (PushAt.Status _) refl refl (omega arith)
        (record { word = control_gentle c n f.sound; tx = x; fits = object_fits c n header seq payload bytes coded x (ltb-false _ _ y) })))
        (λ x. ends rx Refusal.FifoNotTx))

    reads_status : (w : ℕ) → Exchanged (PushAt.Status w)
    unfolding event
    reads_status w l g =
        let rx : List ℕ = le_bytes (word_of c (Register.Status n)) in
        rw (turned n (length payload) bytes q idle_fetch also (PushAt.Status w) refl t k c _ _ _ (hear_status _ c n i)
        (next_status c n (length payload) (length bytes) f.sound g.tx w))
        (by_if (After rx) (ltb (fifo_at c n).count (depth (frozen_at c n)))
        (λ x. stays rx (PushAt.Address w) refl refl (omega arith) (g, ltb-true _ _ x))
        (λ x. ends rx Refusal.FifoFull))

    reads_address : (w : ℕ) → Exchanged (PushAt.Address w)
    unfolding event
    reads_address w l g =
        rw (turned n (length payload) bytes q idle_fetch also (PushAt.Address w) refl t k c _ _ _ (hear_address _ c n i)
        (next_address c n (length payload) (length bytes) f.sound g.0.tx w (inside c f.sound n header seq payload bytes i coded w g.0)))
        (stays _ (PushAt.Write w _) refl refl (omega arith) (g.0, g.1, refl))

    writes_object : (w a : ℕ) → Exchanged (PushAt.Write w a)
    unfolding event
    writes_object w a l g =
        let d : Model = written c (slot_of c n (fifo_at c n).count) bytes in
        let told = object_told c f.sound n header seq payload bytes i coded w a g in
        rw (turned n (length payload) bytes q idle_fetch also (PushAt.Write w a) refl t k c [] d (PushAt.Commit w) told refl)
        (wrote c t f w a g _ (settled_chip d t k (at (PushAt.Commit w)) []) bs l)

    exchanged : (a : PushAt) → Exchanged a
    exchanged PushAt.Control = reads_control
    exchanged (PushAt.Status w) = reads_status w
    exchanged (PushAt.Address w) = reads_address w
    exchanged (PushAt.Write w a) = writes_object w a
    exchanged (PushAt.Commit w) = λ l g. absurd (omega arith)
    exchanged PushAt.Enabled = λ l g. absurd g
    exchanged PushAt.BareAddress = λ l g. absurd g
    exchanged (PushAt.BareWrite a) = λ l g. absurd g
    exchanged PushAt.BareControl = λ l g. absurd g
    exchanged PushAt.Done = λ l g. absurd g
    exchanged (PushAt.Refused r) = λ l g. absurd g

  under_way : (bs : List (List Bus)) (a : PushAt) (c : Model) (t : List Said) → Fit c t → length bs ≤ left a → Mid c a → Ends bs c (world c (busy k (at a)) t)
  unfolding calm
  under_way [] a c t f l g = same_free n _ _ (failed_chip b (world c (busy k (at a)) t))
  under_way (x ∷ bs) a c t f l g =
      let t' : List Said = t ++ spoken_of x c in
      let f' : Fit (buses x c) t' = buses_fit x c t f in
      rw (ending_first x bs b c (busy k (at a)) t, buses_first x bs b c)
      (exchanged bs (buses x c) t' f' (λ to. under_way bs to (buses x c) t' f') a (omega (arith, l)) (buses_push n i _ bytes a x c t f g))

-- ---- from the beginning

module _ (also : Bool) (q : Plan) (n : ℕ) (header : Header) (seq : ℕ) (payload : List ℕ) (bs : List (List Bus)) (few : length bs ≤ 4) (b : List Bus) (c : Model) (t : List Said) (f : Fit c t) where
  begun_as : (x : Encoding) → push.encoding_for n header seq payload ≡ x
      → OnlyFree n (buses (all bs ++ b) c) (after (ending bs b) (settled c t (commanded also n header seq payload) (starting also n (length payload) x q) [])).chip
  begun_as (Encoding.refused x) e =
      rw (refused n (length payload) [] q idle_fetch header seq payload t c [] also x) (same_free n _ _ (idle_chip bs b c _))
  begun_as (Encoding.object bytes) e =
      let (i, coded) = encoded_for n header seq payload bytes e in
      rw (still n (length payload) bytes q idle_fetch header seq payload t c [] also PushAt.Control refl refl)
      (under_way also q n header seq payload bytes i coded b bs PushAt.Control c t f few tt)

pub push_fails_lem : (v : World) → Fit v.chip v.said → v.doing ≡ idle → (n : ℕ) (header : Header) (seq : ℕ) (payload : List ℕ)
    → (bs : List (List Bus)) → length bs ≤ 4 → (b : List Bus)
    → OnlyFree n (buses (all bs ++ b) v.chip) (after (Begin (Push n header seq payload) ∷ (calm bs ++ (map On b ++ (Fail ∷ [])))) v).chip
unfolding after event of_push push.start_of
push_fails_lem v f e n header seq payload bs few b =
    rw e (begun_as false idle_plan n header seq payload bs few b v.chip v.said f (push.encoding_for n header seq payload) refl)

-- the push that is the first half of a transmit
pub transmit_fails_lem : (v : World) → Fit v.chip v.said → v.doing ≡ idle → (n : ℕ) (header : Header) (seq : ℕ) (payload : List ℕ)
    → (bs : List (List Bus)) → length bs ≤ 4 → (b : List Bus)
    → OnlyFree n (buses (all bs ++ b) v.chip) (after (Begin (Transmit n header seq payload) ∷ (calm bs ++ (map On b ++ (Fail ∷ [])))) v).chip
unfolding after event of_transmit transmit_start push.start_of
transmit_fails_lem v f e n header seq payload bs few b =
    rw e (begun_as true (request_start n) n header seq payload bs few b v.chip v.said f (push.encoding_for n header seq payload) refl)
