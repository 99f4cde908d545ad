-- A push of which no exchange fails, alone or in a transmit, answers exactly what it must.
-- Assumes nothing.
use Prim.Native.Nat.{ℕ, ◌+◌, ◌%◌, ◌^◌, ◌≤◌, ◌<◌}
use native.Mathlib.Omega.{arith}
use borrow.Author.Tests.{ltb-false, leb-true, leb-false, lt-ltb, le-ltb, eq-eqb, not-true, not-false}
use mathlib.Core.Path.{◌≡◌, refl, sym, ap, ◌∙◌}
use mathlib.Core.Bool.{Bool, true, false, not}
use mathlib.Core.Logic.{◌↔◌}
use mathlib.Core.List.{List, [], ◌∷◌, ◌++◌}
use lib.Dec.{ltb, leb}
use lib.ListN.{length}
use Rattle.std.specs.Prelude.{if◌then◌else◌}
use Rattle.laws.proofs.Choice.{by_if}
use Rattle.fifo.specs.Control.{payload_of, is_fifo}
use Rattle.parts.specs.Parts.{zeroed}
use Rattle.words.specs.Words.{le_bytes}
use Rattle.spi.specs.declared.refusal.Refusal.{Refusal}
use Rattle.spi.specs.Refusals.{numbered}
use Rattle.spi.specs.declared.ask.Answer.{Answer}
use Rattle.header.specs.declared.Header.{Header}
use Rattle.message.specs.Message.{Message, Encoding, encoding}
use Rattle.place.specs.declared.Register.{Register}
use Rattle.call.specs.declared.Outcome.{Outcome}
use Rattle.plan.specs.Plan.{Plan}
use Rattle.tx_fifo.specs.PushAt.{PushAt}
use Rattle.tx_fifo.specs.Step as push
use Rattle.rx_fifo.specs.Fetch.{Fetch}
use Rattle.driver.specs.Call.{Call}
use Rattle.driver.specs.Start.{idle_plan, idle_fetch, of_push}
use Rattle.ring.specs.Ring.{sending, depth}
use Rattle.state.specs.declared.Model.{Model}
use Rattle.state.specs.Model.{fifo_at, frozen_at}
use Rattle.bank.specs.Registers.{word_of}
use Rattle.bus.specs.Held.{slot_of}
use Rattle.reach.specs.Bus.{Bus}
use Rattle.history.specs.Command.{Command, Push, started}
use Rattle.history.specs.History.{Event, Begin, Said, called, Doing, idle, busy, World, hears, settled, event, after}
use Rattle.history.specs.Lists.{done_with, accepted_in}
use Rattle.history.specs.Demand.{buses, calm, at_status, calls, Answers, Ending, refusal, answer, Ends, WellFormed, push_answer, Takes}
use Rattle.history.proofs.Few.{five, same_last}
use Rattle.history.proofs.Line.{world, spoken}
use Rattle.history.proofs.Slots.{filled, filled_held, filled_sound}
use Rattle.history.proofs.Asks.{hear_control, hear_status, hear_address}
use Rattle.history.proofs.Replies.{control_gentle, next_control, next_status, next_address}
use Rattle.history.proofs.Pushing.{commanded, pushing, turned, still, refused, done}
use Rattle.history.proofs.Mid.{Tx, PushMid}
use Rattle.history.proofs.PushSteps.{object_fits, encoded_for, starting, inside, object_told, object_mid, uinc_told}
use Rattle.history.proofs.Calm.{spoken_of, after_calm, calls_buses, calls_snoc, idle_calm, Fit, buses_fit, buses_fixed, buses_push, at_status_lem}

-- ---- exchange by exchange

module _ (also : Bool) (n : ℕ) (header : Header) (seq : ℕ) (payload bs : List ℕ) (p : Plan) (f : Fetch)
    (i : is_fifo n ≡ true) (coded : encoding (push.to_send header seq payload) ≡ Encoding.object bs) where
  abbrev k : Command
  k = commanded also n header seq payload

  abbrev at : PushAt → Call
  at a = pushing also n (length payload) bs a p f

  abbrev m : Message
  m = push.to_send header seq payload

  -- the push stands at a
  abbrev here : PushAt → Model → List Said → World
  here a c t = world c (busy k (at a)) t

  module _ (b : List Bus) (r : List (List Bus)) (a z : PushAt) (e : push.done_at a ≡ false) (c : Model) (t : List Said) (rx : List ℕ) (d : Model)
      (told : spoken (push.ask_at n (length bs) a) (zeroed 76 bs) (buses b c) ≡ hears Answer.Exchanged rx d)
      (next : push.next_at n (length payload) (length bs) a Answer.Exchanged rx ≡ z) where
    -- bus steps, and the exchange that takes it to z
    takes : after (calm (b ∷ r)) (here a c t) ≡ after (calm r) (settled d (t ++ spoken_of b c) k (at z) rx)
    unfolding event
    takes = after_calm b r c _ t ∙ ap (after (calm r)) (turned n (length payload) bs p f also a e (t ++ spoken_of b c) k (buses b c) rx d z told next)

    -- it goes on there
    goes : push.done_at z ≡ false → push.outcome_at z ≡ Outcome.Running → after (calm (b ∷ r)) (here a c t) ≡ after (calm r) (here z d (t ++ spoken_of b c))
    goes x y = takes ∙ ap (after (calm r)) (still n (length payload) bs p f header seq payload (t ++ spoken_of b c) d rx also z x y)

  -- it is refused there, and nothing more is said
  stops : (b : List Bus) (r : List (List Bus)) (a : PushAt) (x : Refusal) → push.done_at a ≡ false → (c : Model) (t : List Said) (rx : List ℕ) (d : Model)
      → spoken (push.ask_at n (length bs) a) (zeroed 76 bs) (buses b c) ≡ hears Answer.Exchanged rx d
      → push.next_at n (length payload) (length bs) a Answer.Exchanged rx ≡ PushAt.Refused x
      → calls (after (calm (b ∷ r)) (here a c t)).said ≡ calls t ++ (called (Push n header seq payload) (Outcome.Refused x) [] ∷ [])
  stops b r a x e c t rx d told next =
      let u : List Said = t ++ spoken_of b c in
      ap (λ (v : World). calls v.said) (takes b r a (PushAt.Refused x) e c t rx d told next
      ∙ ap (after (calm r)) (refused n (length payload) bs p f header seq payload u d rx also x))
      ∙ idle_calm r d _ ∙ calls_snoc u _ _ _ ∙ rw (calls_buses t b c)

  -- ---- the exchanges of a push that is done

  -- with the bus steps xs before its exchanges it is done, and has said nothing yet
  abbrev pub Pushed : List (List Bus) → PushAt → Model → List Said → Type 0
  Pushed xs a c t =
      (d : Model) × (u : List Said) × (calls u ≡ calls t) × ((r : List (List Bus)) → after (calm (xs ++ r)) (here a c t) ≡ after (calm r) (settled d u k (at PushAt.Done) []))

  joined : (b : List Bus) (xs : List (List Bus)) (a z : PushAt) (c : Model) (t : List Said) (d : Model)
      → ((r : List (List Bus)) → after (calm (b ∷ r)) (here a c t) ≡ after (calm r) (here z d (t ++ spoken_of b c)))
      → Pushed xs z d (t ++ spoken_of b c) → Pushed (b ∷ xs) a c t
  joined b xs a z c t d e (y, u, s, g) = (y, u, s ∙ calls_buses t b c, λ r. e (xs ++ r) ∙ g r)

  from_commit : (b : List Bus) (w : ℕ) (c : Model) (t : List Said) → Fit c t → PushMid c n m bs (PushAt.Commit w) → Pushed (b ∷ []) (PushAt.Commit w) c t
  from_commit b w c t g x =
      let g' = buses_fit b c t g in
      let (v, told, vh, vc, va) = uinc_told (buses b c) g'.sound n header seq payload bs i coded w (buses_push n i m bs (PushAt.Commit w) b c t g x) in
      (_, _, calls_buses t b c, λ r. takes b r (PushAt.Commit w) PushAt.Done refl c t [] _ told refl)

  from_write : (b₁ b₂ : List Bus) (w a : ℕ) (c : Model) (t : List Said) → Fit c t → PushMid c n m bs (PushAt.Write w a)
      → Pushed (b₁ ∷ b₂ ∷ []) (PushAt.Write w a) c t
  from_write b₁ b₂ w a c t g x =
      let c' : Model = buses b₁ c in
      let g' = buses_fit b₁ c t g in
      let y = buses_push n i m bs (PushAt.Write w a) b₁ c t g x in
      let h : Fit (filled c' n bs) (t ++ spoken_of b₁ c) = record {
        sound = filled_sound c' g'.sound n i y.1 bs y.0.fits;
        lists = λ j q. rw (filled_held c' g'.sound n i y.1 bs y.0.fits j) (g'.lists j q);
      } in
      joined b₁ (b₂ ∷ []) (PushAt.Write w a) (PushAt.Commit w) c t (filled c' n bs)
      (λ r. goes b₁ r (PushAt.Write w a) (PushAt.Commit w) refl c t [] _ (object_told c' g'.sound n header seq payload bs i coded w a y) refl refl refl)
      (from_commit b₂ w (filled c' n bs) _ h (object_mid c' g'.sound n header seq payload bs i coded w a y))

  from_address : (b₁ b₂ b₃ : List Bus) (w : ℕ) (c : Model) (t : List Said) → Fit c t → PushMid c n m bs (PushAt.Address w)
      → Pushed (b₁ ∷ b₂ ∷ b₃ ∷ []) (PushAt.Address w) c t
  from_address b₁ b₂ b₃ w c t g x =
      let c' : Model = buses b₁ c in
      let g' = buses_fit b₁ c t g in
      let y = buses_push n i m bs (PushAt.Address w) b₁ c t g x in
      let a : ℕ = slot_of c' n (fifo_at c' n).count + 0x400 in
      joined b₁ (b₂ ∷ b₃ ∷ []) (PushAt.Address w) (PushAt.Write w a) c t c'
      (λ r. goes b₁ r (PushAt.Address w) (PushAt.Write w a) refl c t _ _ (hear_address _ c' n i)
      (next_address c' n (length payload) (length bs) g'.sound y.0.tx w (inside c' g'.sound n header seq payload bs i coded w y.0)) refl refl)
      (from_write b₂ b₃ w a c' _ g' (y.0, y.1, refl))

  -- it is refused so
  abbrev pub Refused : List (List Bus) → Model → List Said → Refusal → Type 0
  Refused xs c t x = calls (after (calm xs) (here PushAt.Control c t)).said ≡ calls t ++ (called (Push n header seq payload) (Outcome.Refused x) [] ∷ [])

  -- ---- control and status, where the FIFO's frozen word is still that of the beginning

  module _ (b : List Bus) (c : Model) (t : List Said) (g : Fit c t) where
    frozen_stays : frozen_at (buses b c) n ≡ frozen_at c n
    frozen_stays = rw (buses_fixed b c t g)

    to_status : (w : ℕ) → Tx c n bs w → push.next_at n (length payload) (length bs) (PushAt.Status w) Answer.Exchanged (le_bytes (word_of (buses b c) (Register.Status n)))
        ≡ (if ltb (fifo_at (buses b c) n).count (depth (frozen_at c n)) then PushAt.Address w else PushAt.Refused Refusal.FifoFull)
    to_status w x =
        next_status (buses b c) n (length payload) (length bs) (buses_fit b c t g).sound (rw frozen_stays x.tx) w ∙ rw frozen_stays

    abbrev control : ℕ
    control = word_of (buses b c) (Register.Control n)

    to_control : push.next_at n (length payload) (length bs) PushAt.Control Answer.Exchanged (le_bytes control)
        ≡ (if sending (frozen_at c n) then if ltb (payload_of (frozen_at c n)) (length payload) then PushAt.Refused Refusal.FifoTooSmall else PushAt.Status (control % 2 ^ 32)
        else PushAt.Refused Refusal.FifoNotTx)
    to_control = next_control (buses b c) n (length payload) (length bs) i ∙ rw frozen_stays

    control_away : (r : List (List Bus)) (x : Refusal) → push.next_at n (length payload) (length bs) PushAt.Control Answer.Exchanged (le_bytes control) ≡ PushAt.Refused x
        → Refused (b ∷ r) c t x
    control_away r x e = stops b r PushAt.Control x refl c t _ _ (hear_control _ (buses b c) n i) e

    module _ (x : sending (frozen_at c n) ≡ true) (y : length payload ≤ payload_of (frozen_at c n)) where
      control_read : (r : List (List Bus))
          → after (calm (b ∷ r)) (here PushAt.Control c t) ≡ after (calm r) (here (PushAt.Status (control % 2 ^ 32)) (buses b c) (t ++ spoken_of b c))
      control_read r =
          goes b r PushAt.Control (PushAt.Status (control % 2 ^ 32)) refl c t _ _ (hear_control _ (buses b c) n i)
          (to_control ∙ rw (x, le-ltb _ _ y)) refl refl

      control_knows : Tx (buses b c) n bs (control % 2 ^ 32)
      control_knows = record {
        word = control_gentle (buses b c) n (buses_fit b c t g).sound;
        tx = rw frozen_stays x;
        fits = rw frozen_stays (object_fits c n header seq payload bs coded x y);
      }

  from_status : (b₁ b₂ b₃ b₄ : List Bus) (w : ℕ) (c : Model) (t : List Said) → Fit c t → Tx c n bs w → (fifo_at (buses b₁ c) n).count < depth (frozen_at c n)
      → Pushed (b₁ ∷ b₂ ∷ b₃ ∷ b₄ ∷ []) (PushAt.Status w) c t
  from_status b₁ b₂ b₃ b₄ w c t g x z =
      let c' : Model = buses b₁ c in
      joined b₁ (b₂ ∷ b₃ ∷ b₄ ∷ []) (PushAt.Status w) (PushAt.Address w) c t c'
      (λ r. goes b₁ r (PushAt.Status w) (PushAt.Address w) refl c t _ _ (hear_status _ c' n i) (to_status b₁ c t g w x ∙ rw (lt-ltb _ _ z)) refl refl)
      (from_address b₂ b₃ b₄ w c' _ (buses_fit b₁ c t g) (buses_push n i m bs (PushAt.Status w) b₁ c t g x, rw (frozen_stays b₁ c t g) z))

  module _ (b₁ b₂ : List Bus) (c : Model) (t : List Said) (g : Fit c t) (x : sending (frozen_at c n) ≡ true) (y : length payload ≤ payload_of (frozen_at c n)) where
    pub from_control : (b₃ b₄ b₅ : List Bus) → (fifo_at (buses b₂ (buses b₁ c)) n).count < depth (frozen_at c n) → Pushed (b₁ ∷ b₂ ∷ b₃ ∷ b₄ ∷ b₅ ∷ []) PushAt.Control c t
    from_control b₃ b₄ b₅ z =
        joined b₁ (b₂ ∷ b₃ ∷ b₄ ∷ b₅ ∷ []) PushAt.Control _ c t (buses b₁ c) (control_read b₁ c t g x y)
        (from_status b₂ b₃ b₄ b₅ _ (buses b₁ c) _ (buses_fit b₁ c t g) (control_knows b₁ c t g x y) (rw (frozen_stays b₁ c t g) z))

    -- no room at the status read
    status_full : (r : List (List Bus)) → depth (frozen_at c n) ≤ (fifo_at (buses b₂ (buses b₁ c)) n).count → Refused (b₁ ∷ b₂ ∷ r) c t Refusal.FifoFull
    status_full r z =
        let c' : Model = buses b₁ c in
        ap (λ (v : World). calls v.said) (control_read b₁ c t g x y (b₂ ∷ r))
        ∙ stops b₂ r (PushAt.Status _) Refusal.FifoFull refl c' (t ++ spoken_of b₁ c) _ _ (hear_status _ (buses b₂ c') n i)
        (to_status b₂ c' _ (buses_fit b₁ c t g) _ (control_knows b₁ c t g x y) ∙ rw (frozen_stays b₁ c t g, le-ltb _ _ z))
        ∙ rw (calls_buses t b₁ c)

-- ---- the beginning

-- where no call is under way, one begins
pub begun : (v : World) → v.doing ≡ idle → (k : Command) (es : List Event) → after (Begin k ∷ es) v ≡ after es (settled v.chip v.said k (started k) [])
unfolding after event
begun v e k es = ap (λ (d : Doing). after es (event (Begin k) d v.chip v.said)) e

module _ (also : Bool) (n : ℕ) (header : Header) (seq : ℕ) (payload bs : List ℕ) (coded : push.encoding_for n header seq payload ≡ Encoding.object bs) where
  pub begins : (p : Plan) (c : Model) (t : List Said) → settled c t (commanded also n header seq payload) (starting also n (length payload) (push.encoding_for n header seq payload) p) []
      ≡ world c (busy (commanded also n header seq payload) (pushing also n (length payload) bs PushAt.Control p idle_fetch)) t
  begins p c t =
      ap (λ (x : Encoding). settled c t (commanded also n header seq payload) (starting also n (length payload) x p) []) coded
      ∙ still n (length payload) bs p idle_fetch header seq payload t c [] also PushAt.Control refl refl

-- ---- how a push ends, alone or in a transmit

module _ (also : Bool) (n : ℕ) (header : Header) (seq : ℕ) (payload bs : List ℕ) (p : Plan) (f : Fetch)
    (i : is_fifo n ≡ true) (coded : encoding (push.to_send header seq payload) ≡ Encoding.object bs)
    (b₁ b₂ : List Bus) (r : List (List Bus)) (c : Model) (t : List Said) (g : Fit c t) where
  -- the chip at the status read
  abbrev d : Model
  d = buses b₂ (buses b₁ c)

  frozen_then : frozen_at d n ≡ frozen_at c n
  frozen_then = rw (buses_fixed b₂ (buses b₁ c) _ (buses_fit b₁ c t g), buses_fixed b₁ c t g)

  -- what holds where its FIFO takes it, and of each refusal, holds of its answer
  pub push_by : (P : Ending → Type 0) → (Takes d n payload → P (answer Outcome.Done []))
      → ((x : Refusal) (k : ℕ) → numbered x ≡ k ∷ [] → Refused also n header seq payload bs p f i coded (b₁ ∷ b₂ ∷ r) c t x → P (refusal k)) → P (push_answer d n payload)
  unfolding push_answer
  push_by P good bad =
      let fr : frozen_at d n ≡ frozen_at c n = frozen_then in
      let control = to_control also n header seq payload bs p f i coded b₁ c t g in
      let away = control_away also n header seq payload bs p f i coded b₁ c t g (b₂ ∷ r) in
      by_if P (not (sending (frozen_at d n)))
      (λ x. bad Refusal.FifoNotTx 6 refl (away Refusal.FifoNotTx (control ∙ rw (← fr, not-true (sending (frozen_at d n)) x))))
      (λ x. by_if P (ltb (payload_of (frozen_at d n)) (length payload))
      (λ y. bad Refusal.FifoTooSmall 7 refl (away Refusal.FifoTooSmall (control ∙ rw (← fr, not-false (sending (frozen_at d n)) x, y))))
      (λ y. by_if P (leb (depth (frozen_at d n)) (fifo_at d n).count)
      (λ z. bad Refusal.FifoFull 8 refl (status_full also n header seq payload bs p f i coded b₁ b₂ c t g
      (rw (← fr) (not-false _ x)) (rw (← fr) (ltb-false _ _ y)) r (rw (← fr) (leb-true _ _ z))))
      (λ z. good (not-false _ x, ltb-false _ _ y, leb-false _ _ z))))

  -- where its FIFO takes it, it gets to its end
  pub push_goes : Takes d n payload → (b₃ b₄ b₅ : List Bus) → Pushed also n header seq payload bs p f i coded (b₁ ∷ b₂ ∷ b₃ ∷ b₄ ∷ b₅ ∷ []) PushAt.Control c t
  push_goes (x, y, z) b₃ b₄ b₅ =
      let fr : frozen_at d n ≡ frozen_at c n = frozen_then in
      from_control also n header seq payload bs p f i coded b₁ b₂ c t g (rw fr at x) (rw fr at y) b₃ b₄ b₅ (rw fr at z)

-- ---- 2. what a push answers

module _ (v : World) (g : Fit v.chip v.said) (e : v.doing ≡ idle) (n : ℕ) (header : Header) (seq : ℕ) (payload bs : List ℕ)
    (h : push.encoding_for n header seq payload ≡ Encoding.object bs) (b₁ b₂ b₃ b₄ b₅ : List Bus) (r : List (List Bus)) where
  abbrev call : Command
  call = Push n header seq payload

  abbrev xs : List (List Bus)
  xs = b₁ ∷ b₂ ∷ b₃ ∷ b₄ ∷ b₅ ∷ r

  status_chip : at_status v xs ≡ buses b₂ (buses b₁ v.chip)
  status_chip = at_status_lem v b₁ b₂ (b₃ ∷ b₄ ∷ b₅ ∷ r)

  push_starts : after (Begin call ∷ calm xs) v ≡ after (calm xs) (world v.chip (busy call (pushing false n (length payload) bs PushAt.Control idle_plan idle_fetch)) v.said)
  unfolding of_push push.start_of
  push_starts = begun v e call (calm xs) ∙ ap (after (calm xs)) (begins false n header seq payload bs h idle_plan v.chip v.said)

  push_done : Takes (at_status v xs) n payload → Answers v call xs (called call Outcome.Done [] ∷ [])
  push_done ok =
      let (i, coded) = encoded_for n header seq payload bs h in
      let (d, u, s, q) = push_goes false n header seq payload bs idle_plan idle_fetch i coded b₁ b₂ (b₃ ∷ b₄ ∷ b₅ ∷ r) v.chip v.said g (rw status_chip at ok) b₃ b₄ b₅ in
      ap (λ (w : World). calls w.said) (push_starts ∙ q r ∙ ap (after (calm r)) (done n (length payload) bs idle_plan idle_fetch header seq payload u d []))
      ∙ idle_calm r d _ ∙ calls_snoc u call Outcome.Done [] ∙ rw s

  -- it is done where its FIFO takes it, and else refused
  push_ends : (P : Ending → Type 0) → (Takes (at_status v xs) n payload → P (answer Outcome.Done []))
      → ((x : Refusal) (k : ℕ) → numbered x ≡ k ∷ [] → Answers v call xs (called call (Outcome.Refused x) [] ∷ []) → P (refusal k)) → P (push_answer (at_status v xs) n payload)
  push_ends P good bad =
      let (i, coded) = encoded_for n header seq payload bs h in
      rw status_chip
      (push_by false n header seq payload bs idle_plan idle_fetch i coded b₁ b₂ (b₃ ∷ b₄ ∷ b₅ ∷ r) v.chip v.said g P
      (λ ok. good (rw status_chip ok)) (λ x k is no. bad x k is (ap (λ (w : World). calls w.said) push_starts ∙ no)))

  push_exact : Ends v call xs (push_answer (at_status v xs) n payload)
  push_exact = push_ends (Ends v call xs) push_done (λ x k is no. (Outcome.Refused x, is, no))

  abbrev sent : Message
  sent = push.to_send header seq payload

  accepts : (o : Outcome) → accepted_in n (called call o []) ≡ done_with o sent
  accepts o = rw (eq-eqb n n refl)

  push_iff : ((x : Said) × Answers v call xs (x ∷ []) × (accepted_in n x ≡ sent ∷ [])) ↔ Takes (at_status v xs) n payload
  push_iff = (
    λ (x, said, one).
        push_ends (λ y. Takes (at_status v xs) n payload) (λ ok. ok)
        (λ y k is' no.
        let is : x ≡ called call (Outcome.Refused y) [] = same_last (calls v.said) _ _ (sym said ∙ no) in
        let none : ◌≡◌ {A = List Message} [] (sent ∷ []) = sym (accepts (Outcome.Refused y)) ∙ ap (accepted_in n) (sym is) ∙ one in
        let z : ◌≡◌ {A = ℕ} 0 1 = ap length none in absurd (omega (arith, z))),
    λ ok. (called call Outcome.Done [], push_done ok, accepts Outcome.Done),
  )

pub push_exactly_lem : (v : World) → Fit v.chip v.said → v.doing ≡ idle → (n : ℕ) (header : Header) (seq : ℕ) (payload : List ℕ)
    → WellFormed n header seq payload → (xs : List (List Bus)) → length xs ≡ 5 → Ends v (Push n header seq payload) xs (push_answer (at_status v xs) n payload)
push_exactly_lem v g e n header seq payload (bs, h) xs l =
    five (λ ys. Ends v (Push n header seq payload) ys (push_answer (at_status v ys) n payload)) (push_exact v g e n header seq payload bs h) xs (omega (arith, l))

pub pushed_iff_lem : (v : World) → Fit v.chip v.said → v.doing ≡ idle → (n : ℕ) (header : Header) (seq : ℕ) (payload : List ℕ)
    → WellFormed n header seq payload → (xs : List (List Bus)) → length xs ≡ 5
    → ((x : Said) × Answers v (Push n header seq payload) xs (x ∷ []) × (accepted_in n x ≡ push.to_send header seq payload ∷ [])) ↔ Takes (at_status v xs) n payload
pushed_iff_lem v g e n header seq payload (bs, h) xs l =
    five (λ ys. ((x : Said) × Answers v (Push n header seq payload) ys (x ∷ []) × (accepted_in n x ≡ push.to_send header seq payload ∷ [])) ↔ Takes (at_status v ys) n payload)
    (push_iff v g e n header seq payload bs h) xs (omega (arith, l))
