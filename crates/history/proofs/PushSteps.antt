-- Each exchange of a push, alone or in a transmit, keeps what is true of the world.
-- Assumes nothing.
use Rattle.std.specs.Prelude.{Option, Some, None, Result, Ok, Err}
use Prim.Native.Nat.{ℕ, ◌+◌, ◌-◌, ◌%◌, ◌^◌, ◌≤◌, ◌<◌}
use native.Mathlib.Omega.{arith}
use borrow.Author.Tests.{ltb-true, ltb-false, lt-ltb}
use mathlib.Core.Path.{◌≡◌, refl, ap, ◌∙◌}
use mathlib.Core.Bool.{Bool, true, false}
use mathlib.Core.List.{List, []}
use lib.ListN.{length-append}
use lib.Dec.{ltb, leb}
use lib.ListN.{length, take, replicate}
use lib.Seq.{take-append_seam}
use Rattle.laws.proofs.Choice.{by_if}
use Rattle.field.specs.Field.{read, mark}
use Rattle.fifo.specs.Control.{CiFIFOCON, UINC, TXREQ, payload_of, is_fifo}
use Rattle.fifo.proofs.Sizes.{payload_whole}
use Rattle.parts.specs.Parts.{zeroed}
use Rattle.words.specs.Words.{le_bytes, round_up}
use Rattle.spi.specs.declared.refusal.Refusal.{Refusal}
use Rattle.spi.specs.declared.ask.Ask.{Ask}
use Rattle.spi.specs.declared.ask.Answer.{Answer}
use Rattle.header.specs.declared.Header.{Header}
use Rattle.header.specs.Dlc.{dlc_of}
use Rattle.header.specs.Header.{top_id}
use Rattle.message.specs.Structs.{encoded_as}
use Rattle.message.specs.Message.{Message, by_dlc, check_of, Encoding, coded, encoding}
use Rattle.message.specs.Laws.{Suits}
use Rattle.message.proofs.Round.{lengths_hold, round_trip_lem}
use Rattle.place.specs.declared.Register.{Register}
use Rattle.call.specs.declared.Outcome.{Outcome}
use Rattle.plan.specs.Plan.{Plan}
use Rattle.tx_fifo.specs.PushAt.{PushAt}
use Rattle.tx_fifo.specs.Step as push
use Rattle.transmit.specs.Transmit.{request_start, transmit_start}
use Rattle.driver.specs.Start.{idle_plan, idle_fetch, of_push, of_transmit}
use Rattle.rx_fifo.specs.Fetch.{Fetch}
use Rattle.driver.specs.Call.{Call}
use Rattle.ring.specs.declared.ring.Fifo.{Fifo}
use Rattle.ring.specs.Ring.{sending, depth, claimed, increased}
use Rattle.ring.specs.Layout.{stamped, size}
use Rattle.state.specs.declared.Model.{Model}
use Rattle.state.specs.Model.{fifo_at, frozen_at, with_fifo}
use Rattle.bank.specs.Registers.{word_of}
use Rattle.bus.specs.Held.{slot_of}
use Rattle.bus.specs.Queue.{held_queue}
use Rattle.history.specs.Command.{Command, Push, started}
use Rattle.history.specs.History.{Said, called, idle, hears, heard, settled, goes_on}
use Rattle.history.specs.Demand.{NotCaused}
use Rattle.history.proofs.Sound.{Sound, Asked}
use Rattle.history.proofs.Bus.{Listed, Moves, map_only}
use Rattle.history.proofs.Line.{spoken}
use Rattle.history.proofs.Kept.{spoken_sound}
use Rattle.history.proofs.Slots.{slot_inside, filled, filled_held, filled_item, filled_sound, next_asked, more_held}
use Rattle.history.proofs.Asks.{hear_control, hear_status, hear_address, tell_ram, tell_control}
use Rattle.history.proofs.Replies.{control_gentle, control_asked, next_control, next_status, next_address, uinc_written, mark_small}
use Rattle.history.proofs.Plans.{request_harmless}
use Rattle.history.proofs.Requests.{request_begins, request_starts}
use Rattle.history.proofs.Pushing.{commanded, placed, push_at, pushing, turned, failed, still, refused, done, half}
use Rattle.history.proofs.Mid.{Tx, PushMid}
use Rattle.history.proofs.QueueLists.{queue_called}
use Rattle.history.proofs.QueueSlots.{fifo_queue, filled_queue}
use Rattle.history.proofs.Inv.{PushAsked, pushes, requests, Tale, Inv, goes_on_lem, says_more, quiet_refusal}

-- a payload that is not longer than PLSIZE means fits a slot with its header
pub object_fits : (c : Model) (n : ℕ) (header : Header) (seq : ℕ) (payload bs : List ℕ) → encoding (push.to_send header seq payload) ≡ Encoding.object bs
    → sending (frozen_at c n) ≡ true → length payload ≤ payload_of (frozen_at c n) → length bs ≤ size (frozen_at c n)
unfolding size stamped
object_fits c n header seq payload bs e x y =
    let long : length bs ≡ 8 + 0 + round_up (length payload) = lengths_hold (push.to_send header seq payload) bs e in
    rw x (omega (arith, long, payload_whole (frozen_at c n), y))

-- an object to send has no timestamp
not_stamped : (w : ℕ) → sending w ≡ true → stamped w ≡ false
unfolding stamped
not_stamped w e = rw e

-- UINC of a transmit FIFO that has room
raised : (w : ℕ) (f : Fifo) → sending w ≡ true → f.count < depth w → increased w f ≡ claimed f
unfolding increased
raised w f x y = rw (x, lt-ltb _ _ y)

-- all of an object is sent
module _ (bs : List ℕ) where
  pub body_whole : take (length bs) (zeroed 76 bs) ≡ bs
  unfolding zeroed
  body_whole = take-append_seam bs (replicate (76 - length bs) 0)

  pub body_long : length bs ≤ length (zeroed 76 bs)
  unfolding zeroed
  body_long = rw length-append (omega arith)

-- it is whole words
pub body_words : (header : Header) (seq : ℕ) (payload bs : List ℕ) → encoding (push.to_send header seq payload) ≡ Encoding.object bs → length bs % 4 ≡ 0
body_words header seq payload bs coded =
    let long : length bs ≡ 8 + 0 + round_up (length payload) = lengths_hold (push.to_send header seq payload) bs coded in
    omega (arith, long)

-- what the chip answers to the object and to UINC, and what a push then knows
module _ (c : Model) (o : Sound c) (n : ℕ) (header : Header) (seq : ℕ) (payload bs : List ℕ)
    (i : is_fifo n ≡ true) (coded : encoding (push.to_send header seq payload) ≡ Encoding.object bs) where
  abbrev sent : Message
  sent = push.to_send header seq payload

  -- the free slot is in RAM, and so is the object in it
  pub inside : (w : ℕ) → Tx c n bs w → slot_of c n (fifo_at c n).count + length bs ≤ 2048
  inside w x = omega (arith, slot_inside c o n (fifo_at c n).count i (o.valid.fifo n).count, x.fits)

  pub object_told : (w a : ℕ) → PushMid c n sent bs (PushAt.Write w a) → spoken (Ask.Body a (length bs)) (zeroed 76 bs) c ≡ hears Answer.Exchanged [] (filled c n bs)
  object_told w a g =
      rw g.2 (tell_ram (zeroed 76 bs) c (slot_of c n (fifo_at c n).count) (length bs) (inside w g.0) (body_words header seq payload bs coded) (body_long bs) ∙ rw (body_whole bs))

  pub object_mid : (w a : ℕ) → PushMid c n sent bs (PushAt.Write w a) → PushMid (filled c n bs) n sent bs (PushAt.Commit w)
  object_mid w a g =
      let x = g.0 in
      let suits : Suits (sending (frozen_at c n)) (stamped (frozen_at c n)) sent
      = rw (x.tx, not_stamped (frozen_at c n) x.tx) (record { filter = refl; seq = refl; stamp = tt }) in
      (record { word = x.word; tx = x.tx; fits = x.fits }, g.1, filled_item c o n i g.1 bs x.fits sent (λ r. round_trip_lem (sending (frozen_at c n)) (stamped (frozen_at c n)) header seq None payload bs r coded suits))

  -- v is the FIFO with its new control word
  pub uinc_told : (w : ℕ) → PushMid c n sent bs (PushAt.Commit w)
      → (v : Fifo) × (spoken (Ask.Word (CiFIFOCON.address n) (mark UINC true w)) (zeroed 76 bs) c ≡ hears Answer.Exchanged [] (with_fifo c n (claimed v)))
      × (v.head ≡ (fifo_at c n).head) × (v.count ≡ (fifo_at c n).count) × (read TXREQ v.control ≡ read TXREQ w)
  uinc_told w g =
      let x = g.0 in
      let (v, is, vh, vc, va) = uinc_written c n o w x.word.small x.word.freset in
      (v, tell_control (zeroed 76 bs) c n i (mark UINC true w) (mark_small w x.word.small) ∙ rw (is, raised (frozen_at c n) v x.tx (rw vc g.1)), vh, vc, va)

module _ (X : ℕ → Type 0) {U : Type 0} (c : Model) (o : Sound c) (q : Asked X c) (t : List Said) (l : Listed c t) (e : Tale U c t)
    (also : Bool) (n : ℕ) (header : Header) (seq : ℕ) (payload bs : List ℕ) (p : Plan) (f : Fetch)
    (i : is_fifo n ≡ true) (coded : encoding (push.to_send header seq payload) ≡ Encoding.object bs) (r : also ≡ true → p ≡ request_start n) where
  abbrev k : Command
  k = commanded also n header seq payload

  abbrev at : PushAt → Call
  at a = pushing also n (length payload) bs a p f

  abbrev m : Message
  m = push.to_send header seq payload

  abbrev After : Model → PushAt → List ℕ → Type 0
  After d a rx = Inv X U (settled d t k (at a) rx)

  -- it still asks for something, and nothing of the chip changed
  stays : (rx : List ℕ) (a : PushAt) → push.done_at a ≡ false → push.outcome_at a ≡ Outcome.Running → PushMid c n m bs a → PushAsked (X n) a → After c a rx
  stays rx a x y g z =
      rw (still n (length payload) bs p f header seq payload t c rx also a x y)
      (goes_on_lem X c t l e c k (at a) o q (λ j. refl) refl (pushes also n header seq payload bs a p f i coded r g z refl refl))

  -- it is refused
  ends : (rx : List ℕ) (x : Refusal) → NotCaused x → After c (PushAt.Refused x) rx
  ends rx x w =
      rw (refused n (length payload) bs p f header seq payload t c rx also x)
      (says_more X c t l e c idle _ o q (quiet_refusal c (Push n header seq payload) x []) (λ u. queue_called c c (Push n header seq payload) (Outcome.Refused x) [] refl refl) w tt)

  abbrev Exchanged : PushAt → Type 0
  Exchanged a = Inv X U (goes_on t k (at a) (heard true (at a) c))

  reads_control : Exchanged PushAt.Control
  reads_control =
      let rx : List ℕ = le_bytes (word_of c (Register.Control n)) in
      let P : PushAt → Type 0 = λ a. After c a rx in
      let w = control_gentle c n o in
      rw (turned n (length payload) bs p f also PushAt.Control refl t k c _ _ _ (hear_control _ c n i) (next_control c n (length payload) (length bs) i))
      (by_if P (sending (frozen_at c n))
      (λ x. by_if P (ltb (payload_of (frozen_at c n)) (length payload))
      (λ y. ends rx Refusal.FifoTooSmall refl)
      (λ y. stays rx (PushAt.Status _) refl refl (record { word = w; tx = x; fits = object_fits c n header seq payload bs coded x (ltb-false _ _ y) })
      (λ z. control_asked c n ∙ q n z)))
      (λ x. ends rx Refusal.FifoNotTx refl))

  reads_status : (w : ℕ) → PushMid c n m bs (PushAt.Status w) → PushAsked (X n) (PushAt.Status w) → Exchanged (PushAt.Status w)
  reads_status w g z =
      let rx : List ℕ = le_bytes (word_of c (Register.Status n)) in
      rw (turned n (length payload) bs p f also (PushAt.Status w) refl t k c _ _ _ (hear_status _ c n i) (next_status c n (length payload) (length bs) o g.tx w))
      (by_if (λ a. After c a rx) (ltb (fifo_at c n).count (depth (frozen_at c n)))
      (λ x. stays rx (PushAt.Address w) refl refl (g, ltb-true _ _ x) z)
      (λ x. ends rx Refusal.FifoFull refl))

  reads_address : (w : ℕ) → PushMid c n m bs (PushAt.Address w) → PushAsked (X n) (PushAt.Address w) → Exchanged (PushAt.Address w)
  reads_address w g z =
      rw (turned n (length payload) bs p f also (PushAt.Address w) refl t k c _ _ _ (hear_address _ c n i)
      (next_address c n (length payload) (length bs) o g.0.tx w (inside c o n header seq payload bs i coded w g.0)))
      (stays _ (PushAt.Write w _) refl refl (g.0, g.1, refl) z)

  writes_object : (w a : ℕ) → PushMid c n m bs (PushAt.Write w a) → PushAsked (X n) (PushAt.Write w a) → Exchanged (PushAt.Write w a)
  writes_object w a g z =
      let x = g.0 in
      let d : Model = filled c n bs in
      rw (
        turned n (length payload) bs p f also (PushAt.Write w a) refl t k c [] d (PushAt.Commit w) (object_told c o n header seq payload bs i coded w a g) refl,
        still n (length payload) bs p f header seq payload t d [] also (PushAt.Commit w) refl refl,
      )
      (goes_on_lem X c t l e d k (at (PushAt.Commit w)) (filled_sound c o n i g.1 bs x.fits) q (filled_held c o n i g.1 bs x.fits) (filled_queue c o n i g.1 bs x.fits)
      (pushes also n header seq payload bs (PushAt.Commit w) p f i coded r (object_mid c o n header seq payload bs i coded w a g) z refl refl))

  -- the message is in the FIFO; the request of a transmit comes next
  ended : (d : Model) → Sound d → Asked X d → Moves c (called (Push n header seq payload) Outcome.Done []) d → held_queue d ≡ held_queue c → (b : Bool) → (b ≡ true → p ≡ request_start n)
      → Inv X U (settled d t (commanded b n header seq payload) (pushing b n (length payload) bs PushAt.Done p f) [])
  ended d s a v hq false b = rw (done n (length payload) bs p f header seq payload t d []) (says_more X c t l e d idle _ s a v (λ u. queue_called c d (Push n header seq payload) Outcome.Done [] hq refl) tt tt)
  ended d s a v hq true b =
      rw (half n (length payload) bs p f header seq payload t d [] (rw (b refl, request_begins n i)))
      (says_more X c t l e d _ _ s a v (λ u. queue_called c d (Push n header seq payload) Outcome.Done [] hq refl) tt
      (requests true n p (push_at n (length payload) bs PushAt.Done) f (λ x. refl) (rw (b refl) (request_starts n)) (rw (b refl) (request_harmless X n))
      (rw (b refl, request_begins n i)) refl refl))

  writes_control : (w : ℕ) → PushMid c n m bs (PushAt.Commit w) → PushAsked (X n) (PushAt.Commit w) → Exchanged (PushAt.Commit w)
  unfolding claimed
  writes_control w g z =
      let (v, told, vh, vc, va) = uinc_told c o n header seq payload bs i coded w g in
      let d : Model = with_fifo c n (claimed v) in
      let s : Sound d = spoken_sound _ _ c o _ told refl in
      let said : Said = called (Push n header seq payload) Outcome.Done [] in
      let moved : Moves c said d = λ j h. rw (map_only j n m) (rw g.2 at (more_held c o n i (claimed v) vh (ap (λ (y : ℕ). y + 1) vc) j)) in
      rw (turned n (length payload) bs p f also (PushAt.Commit w) refl t k c [] d PushAt.Done told refl)
      (ended d s (next_asked c o n i (claimed v) X q (λ x. va ∙ z x)) moved (fifo_queue c n (claimed v)) also r)

  pub push_exchanged : (a : PushAt) → PushMid c n m bs a → PushAsked (X n) a → Exchanged a
  push_exchanged PushAt.Control g z = reads_control
  push_exchanged (PushAt.Status w) g z = reads_status w g z
  push_exchanged (PushAt.Address w) g z = reads_address w g z
  push_exchanged (PushAt.Write w a) g z = writes_object w a g z
  push_exchanged (PushAt.Commit w) g z = writes_control w g z
  push_exchanged PushAt.Enabled g z = absurd g
  push_exchanged PushAt.BareAddress g z = absurd g
  push_exchanged (PushAt.BareWrite a) g z = absurd g
  push_exchanged PushAt.BareControl g z = absurd g
  push_exchanged PushAt.Done g z = absurd g
  push_exchanged (PushAt.Refused x) g z = absurd g

  -- an exchange that fails is 2 at the RAM write, 1 elsewhere
  pub push_failed : (a : PushAt) → PushMid c n m bs a → Inv X U (goes_on t k (at a) (heard false (at a) c))
  push_failed PushAt.Control g = rw (failed n (length payload) bs p f also PushAt.Control refl t k c) (ends [] Refusal.SpiRead refl)
  push_failed (PushAt.Status w) g = rw (failed n (length payload) bs p f also (PushAt.Status w) refl t k c) (ends [] Refusal.SpiRead refl)
  push_failed (PushAt.Address w) g = rw (failed n (length payload) bs p f also (PushAt.Address w) refl t k c) (ends [] Refusal.SpiRead refl)
  push_failed (PushAt.Write w a) g = rw (failed n (length payload) bs p f also (PushAt.Write w a) refl t k c) (ends [] Refusal.SpiWrite refl)
  push_failed (PushAt.Commit w) g = rw (failed n (length payload) bs p f also (PushAt.Commit w) refl t k c) (ends [] Refusal.SpiRead refl)
  push_failed PushAt.Enabled g = absurd g
  push_failed PushAt.BareAddress g = absurd g
  push_failed (PushAt.BareWrite a) g = absurd g
  push_failed PushAt.BareControl g = absurd g
  push_failed PushAt.Done g = absurd g
  push_failed (PushAt.Refused x) g = absurd g

-- ---- the beginning

-- what a message is refused for before any exchange
abbrev NotBad : Result ℕ Refusal → Type 0
NotBad (Ok d) = Unit {0}
NotBad (Err r) = NotCaused r

abbrev pub NotRefused : Encoding → Type 0
NotRefused (Encoding.refused r) = NotCaused r
NotRefused (Encoding.object bs) = Unit {0}

dlc_caused : (d : Option ℕ) → NotBad (by_dlc d)
dlc_caused (Some n) = tt
dlc_caused None = refl

check_caused : (h : Header) (seq n : ℕ) → NotBad (check_of h seq n)
unfolding check_of
check_caused h seq n =
    by_if NotBad (ltb (top_id h.extended) h.id) (λ x. refl) (λ x. by_if NotBad (leb (2 ^ 23) seq) (λ y. refl) (λ y. dlc_caused (dlc_of h.fdf n)))

coded_caused : (m : Message) (x : Result ℕ Refusal) → NotBad x → NotRefused (coded x m)
coded_caused m (Ok d) h = tt
coded_caused m (Err r) h = h

pub encoding_fine : (header : Header) (seq : ℕ) (payload : List ℕ) → NotRefused (encoding (push.to_send header seq payload))
unfolding encoding
encoding_fine header seq payload = coded_caused (push.to_send header seq payload) (check_of header seq (length payload)) (check_caused header seq (length payload))

encoding_caused : (n : ℕ) (header : Header) (seq : ℕ) (payload : List ℕ) → NotRefused (push.encoding_for n header seq payload)
unfolding push.encoding_for
encoding_caused n header seq payload =
    by_if NotRefused (is_fifo n) (λ x. encoding_fine header seq payload) (λ x. refl)

pub encoded_for : (n : ℕ) (header : Header) (seq : ℕ) (payload bs : List ℕ) → push.encoding_for n header seq payload ≡ Encoding.object bs
    → (is_fifo n ≡ true) × (encoding (push.to_send header seq payload) ≡ Encoding.object bs)
unfolding push.encoding_for
encoded_for n header seq payload bs =
    by_if (λ (x : Encoding). x ≡ Encoding.object bs → (is_fifo n ≡ true) × (encoding (push.to_send header seq payload) ≡ Encoding.object bs)) (is_fifo n)
    (λ i e. (i, e)) (λ i e. let z : ◌≡◌ {A = ℕ} 0 1 = cc in absurd (omega (arith, z)))

-- the driver with a push of what a message of this many bytes is encoded as
abbrev pub starting : Bool → (n size : ℕ) → Encoding → Plan → Call
starting also n size x p = record { at = placed also; plan = p; push = push.begun n size PushAt.Control (encoded_as x); fetch = idle_fetch }

module _ (X : ℕ → Type 0) {U : Type 0} (c : Model) (o : Sound c) (q : Asked X c) (t : List Said) (l : Listed c t) (e : Tale U c t) (also : Bool) (n : ℕ) (header : Header) (seq : ℕ) (payload : List ℕ) where
  begins_as : (x : Encoding) (p : Plan) → (also ≡ true → p ≡ request_start n) → push.encoding_for n header seq payload ≡ x → NotRefused x
      → Inv X U (settled c t (commanded also n header seq payload) (starting also n (length payload) x p) [])
  begins_as (Encoding.refused x) p r g h =
      rw (refused n (length payload) [] p idle_fetch header seq payload t c [] also x)
      (says_more X c t l e c idle _ o q (quiet_refusal c (Push n header seq payload) x []) (λ u. queue_called c c (Push n header seq payload) (Outcome.Refused x) [] refl refl) h tt)
  begins_as (Encoding.object bs) p r g h =
      let (i, coded) = encoded_for n header seq payload bs g in
      rw (still n (length payload) bs p idle_fetch header seq payload t c [] also PushAt.Control refl refl)
      (goes_on_lem X c t l e c _ _ o q (λ j. refl) refl (pushes also n header seq payload bs PushAt.Control p idle_fetch i coded r tt tt refl refl))

pub push_begins : (X : ℕ → Type 0) {U : Type 0} (c : Model) → Sound c → Asked X c → (t : List Said) → Listed c t → Tale U c t → (also : Bool) (n : ℕ) (header : Header) (seq : ℕ) (payload : List ℕ)
    → Inv X U (settled c t (commanded also n header seq payload) (started (commanded also n header seq payload)) [])
unfolding of_push of_transmit push.start_of transmit_start
push_begins X c o q t l e false n header seq payload =
    begins_as X c o q t l e false n header seq payload (push.encoding_for n header seq payload) idle_plan
    (λ x. let z : ◌≡◌ {A = ℕ} 0 1 = cc in absurd (omega (arith, z))) refl (encoding_caused n header seq payload)
push_begins X c o q t l e true n header seq payload =
    begins_as X c o q t l e true n header seq payload (push.encoding_for n header seq payload) (request_start n) (λ x. refl) refl (encoding_caused n header seq payload)
