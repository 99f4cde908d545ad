-- What a push to the queue answers where no exchange fails.
-- Assumes nothing.
use Prim.Native.Nat.{ℕ, ◌+◌, ◌%◌, ◌^◌, ◌≤◌}
use native.Mathlib.Omega.{arith}
use borrow.Author.Tests.{ltb-false, le-ltb, not-true, not-false}
use mathlib.Core.Path.{◌≡◌, refl, sym, ap, ◌∙◌, subst}
use mathlib.Core.Bool.{true, false, not}
use mathlib.Core.Logic.{◌↔◌}
use mathlib.Core.List.{List, [], ◌∷◌, ◌++◌, append-nil}
use lib.Dec.{ltb}
use lib.ListN.{length, get_or}
use Rattle.std.specs.Prelude.{if◌then◌else◌}
use Rattle.laws.proofs.Choice.{by_if}
use Rattle.fifo.specs.Control.{payload_of}
use Rattle.parts.specs.Parts.{zeroed}
use Rattle.words.specs.Words.{le_bytes}
use Rattle.spi.specs.declared.refusal.Refusal.{Refusal}
use Rattle.spi.specs.declared.ask.Answer.{Answer}
use Rattle.spi.specs.Refusals.{numbered}
use Rattle.header.specs.declared.Header.{Header}
use Rattle.message.specs.Message.{Message, Encoding, encoding}
use Rattle.place.specs.declared.Register.{Register}
use Rattle.call.specs.declared.Outcome.{Outcome}
use Rattle.tx_fifo.specs.PushAt.{PushAt}
use Rattle.tx_fifo.specs.Step as push
use Rattle.driver.specs.Start.{idle_plan, idle_fetch, of_push}
use Rattle.driver.specs.Call.{Call}
use Rattle.ring.specs.Queue.{full}
use Rattle.state.specs.declared.Fixed.{Fixed}
use Rattle.state.specs.declared.Model.{Model}
use Rattle.state.specs.Model.{frozen_at}
use Rattle.bank.specs.Registers.{queue_shown, word_of}
use Rattle.reach.specs.Bus.{Bus}
use Rattle.history.specs.Command.{Command, QueuePush}
use Rattle.history.specs.History.{Begin, Said, called, idle, busy, World, hears, settled, event, after}
use Rattle.history.specs.Lists.{queued_in}
use Rattle.history.specs.Demand.{calm, calls, buses, Answers, Ending, refusal, answer, Ends}
use Rattle.history.specs.Queue.{Writable, at_queue_status, queue_answer, QueueTakes}
use Rattle.history.proofs.Few.{just_six, same_last}
use Rattle.history.proofs.Line.{world, spoken}
use Rattle.history.proofs.Kept.{spoken_sound}
use Rattle.history.proofs.Asks.{hear_enabled, hear_queue, hear_queue_status, hear_queue_address}
use Rattle.history.proofs.Pushing.{pushing, turned, still_alone, refused_alone, done_alone}
use Rattle.history.proofs.Mid.{QueueMid, queue_later}
use Rattle.history.proofs.QueueSlots.{queue_filled_held}
use Rattle.history.proofs.QueueReplies.{queue_gentle, shown_inside, next_enabled, next_queue_control, next_queue_status, next_queue_address}
use Rattle.history.proofs.QueueSteps.{queue_fits_lem, shown_filled, shown_told, shown_mid, claim_told, queueing}
use Rattle.history.proofs.PushExactly.{begun}
use Rattle.history.proofs.Calm.{spoken_of, after_calm, calls_buses, calls_snoc, idle_calm, Fit, step_later, buses_keep, buses_fit, buses_fixed, buses_append}

-- what a push knows stays through bus steps
pub buses_queue : (m : Message) (bytes : List ℕ) (a : PushAt) (bs : List Bus) (c : Model) (t : List Said) → Fit c t → QueueMid c m bytes a → QueueMid (buses bs c) m bytes a
buses_queue m bytes a = buses_keep (λ c. QueueMid c m bytes a) (λ c t f b. queue_later c _ (step_later c t f b) m bytes a)

module _ (header : Header) (seq : ℕ) (payload bs : List ℕ) (coded : encoding (push.to_send header seq payload) ≡ Encoding.object bs) where
  abbrev k : Command
  k = QueuePush header seq payload

  abbrev at : PushAt → Call
  at a = pushing false 0 (length payload) bs a idle_plan idle_fetch

  abbrev m : Message
  m = push.to_send header seq payload

  -- the push stands at a
  abbrev here : PushAt → Model → List Said → World
  here a c t = world c (busy k (at a)) t

  module _ (b : List Bus) (r : List (List Bus)) (a z : PushAt) (e : push.done_at a ≡ false) (c : Model) (t : List Said) (rx : List ℕ) (d : Model)
      (told : spoken (push.ask_at 0 (length bs) a) (zeroed 76 bs) (buses b c) ≡ hears Answer.Exchanged rx d)
      (next : push.next_at 0 (length payload) (length bs) a Answer.Exchanged rx ≡ z) where
    -- bus steps, and the exchange that takes it to z
    takes : after (calm (b ∷ r)) (here a c t) ≡ after (calm r) (settled d (t ++ spoken_of b c) k (at z) rx)
    unfolding event
    takes = after_calm b r c _ t ∙ ap (after (calm r)) (turned 0 (length payload) bs idle_plan idle_fetch false a e (t ++ spoken_of b c) k (buses b c) rx d z told next)

    -- it goes on there
    goes : push.outcome_at z ≡ Outcome.Running → after (calm (b ∷ r)) (here a c t) ≡ after (calm r) (here z d (t ++ spoken_of b c))
    goes y = takes ∙ ap (after (calm r)) (still_alone k (λ s. refl) refl refl (length payload) bs idle_plan idle_fetch (t ++ spoken_of b c) d rx z y)

  -- with the bus steps xs before its exchanges it ends with o, and says no more
  abbrev Says : PushAt → List (List Bus) → Model → List Said → Outcome → Type 0
  Says a xs c t o = calls (after (calm xs) (here a c t)).said ≡ calls t ++ (called k o [] ∷ [])

  -- it is over behind the first exchange
  over : (b : List Bus) (r : List (List Bus)) (a : PushAt) (c : Model) (t : List Said) (d : Model) (o : Outcome)
      → after (calm (b ∷ r)) (here a c t) ≡ after (calm r) (world d idle ((t ++ spoken_of b c) ++ (called k o [] ∷ []))) → Says a (b ∷ r) c t o
  over b r a c t d o e = ap (λ (v : World). calls v.said) e ∙ idle_calm r d _ ∙ calls_snoc (t ++ spoken_of b c) k o [] ∙ rw (calls_buses t b c)

  -- it is not
  joined : (b : List Bus) (xs : List (List Bus)) (a z : PushAt) (c : Model) (t : List Said) (d : Model) (o : Outcome)
      → after (calm (b ∷ xs)) (here a c t) ≡ after (calm xs) (here z d (t ++ spoken_of b c)) → Says z xs d (t ++ spoken_of b c) o → Says a (b ∷ xs) c t o
  joined b xs a z c t d o e s = ap (λ (v : World). calls v.said) e ∙ s ∙ rw (calls_buses t b c)

  -- it is refused at its first exchange
  stops : (b : List Bus) (r : List (List Bus)) (a : PushAt) (x : Refusal) → push.done_at a ≡ false → (c : Model) (t : List Said) (rx : List ℕ)
      → spoken (push.ask_at 0 (length bs) a) (zeroed 76 bs) (buses b c) ≡ hears Answer.Exchanged rx (buses b c)
      → push.next_at 0 (length payload) (length bs) a Answer.Exchanged rx ≡ PushAt.Refused x → Says a (b ∷ r) c t (Outcome.Refused x)
  stops b r a x e c t rx told next =
      over b r a c t (buses b c) (Outcome.Refused x)
      (takes b r a (PushAt.Refused x) e c t rx (buses b c) told next
      ∙ ap (after (calm r)) (refused_alone k (λ s. refl) refl refl (length payload) bs idle_plan idle_fetch (t ++ spoken_of b c) (buses b c) rx x))

  -- ---- from the last exchange on

  from_commit : (b : List Bus) (r : List (List Bus)) (w : ℕ) (c : Model) (t : List Said) → Fit c t → QueueMid c m bs (PushAt.Commit w) → Says (PushAt.Commit w) (b ∷ r) c t Outcome.Done
  from_commit b r w c t g x =
      let g' = buses_fit b c t g in
      let (v, told, vh, vs) = claim_told (buses b c) g'.sound header seq payload bs coded w (buses_queue m bs (PushAt.Commit w) b c t g x) in
      over b r (PushAt.Commit w) c t _ Outcome.Done
      (takes b r (PushAt.Commit w) PushAt.Done refl c t [] _ told refl
      ∙ ap (after (calm r)) (done_alone k (λ s. refl) refl refl (length payload) bs idle_plan idle_fetch (t ++ spoken_of b c) _ []))

  from_write : (b₁ b₂ : List Bus) (r : List (List Bus)) (w a : ℕ) (c : Model) (t : List Said) → Fit c t → QueueMid c m bs (PushAt.Write w a)
      → Says (PushAt.Write w a) (b₁ ∷ b₂ ∷ r) c t Outcome.Done
  from_write b₁ b₂ r w a c t g x =
      let c' : Model = buses b₁ c in
      let g' = buses_fit b₁ c t g in
      let o = g'.sound in
      let y = buses_queue m bs (PushAt.Write w a) b₁ c t g x in
      let d : Model = shown_filled c' o header seq payload bs coded in
      let told = shown_told c' o header seq payload bs coded w a y in
      let h : Fit d (t ++ spoken_of b₁ c) = record {
        sound = spoken_sound _ _ c' o _ told refl;
        lists = λ j q. rw (queue_filled_held c' o y.0.on c'.queue.shown o.valid.queue.shown bs y.0.fits j) (g'.lists j q);
      } in
      joined b₁ (b₂ ∷ r) (PushAt.Write w a) (PushAt.Commit w) c t d Outcome.Done
      (goes b₁ (b₂ ∷ r) (PushAt.Write w a) (PushAt.Commit w) refl c t [] d told refl refl)
      (from_commit b₂ r w d _ h (shown_mid c' o header seq payload bs coded w a y))

  from_address : (b₁ b₂ b₃ : List Bus) (r : List (List Bus)) (w : ℕ) (c : Model) (t : List Said) → Fit c t → QueueMid c m bs (PushAt.Address w)
      → Says (PushAt.Address w) (b₁ ∷ b₂ ∷ b₃ ∷ r) c t Outcome.Done
  from_address b₁ b₂ b₃ r w c t g x =
      let c' : Model = buses b₁ c in
      let g' = buses_fit b₁ c t g in
      let y = buses_queue m bs (PushAt.Address w) b₁ c t g x in
      let inside : queue_shown c' + length bs ≤ 2048 = omega (arith, shown_inside c' g'.sound y.0.on, y.0.fits) in
      let a : ℕ = queue_shown c' + 0x400 in
      joined b₁ (b₂ ∷ b₃ ∷ r) (PushAt.Address w) (PushAt.Write w a) c t c' Outcome.Done
      (goes b₁ (b₂ ∷ b₃ ∷ r) (PushAt.Address w) (PushAt.Write w a) refl c t _ c' (hear_queue_address _ c')
      (next_queue_address c' g'.sound y.0.on (length payload) (length bs) w inside) refl)
      (from_write b₂ b₃ r w a c' _ g' (y.0, y.1, refl))

  -- ---- where it is decided; d is the chip at the status read, whose frozen words are still those of the beginning

  module _ (c : Model) (t : List Said) (g : Fit c t) (b₁ b₂ b₃ : List Bus) (r : List (List Bus)) where
    abbrev c₁ : Model
    c₁ = buses b₁ c

    abbrev c₂ : Model
    c₂ = buses b₂ c₁

    abbrev d : Model
    d = buses b₃ c₂

    abbrev t₁ : List Said
    t₁ = t ++ spoken_of b₁ c

    abbrev t₂ : List Said
    t₂ = t₁ ++ spoken_of b₂ c₁

    g₁ : Fit c₁ t₁
    g₁ = buses_fit b₁ c t g

    g₂ : Fit c₂ t₂
    g₂ = buses_fit b₂ c₁ t₁ g₁

    fixed₁ : c₁.fixed ≡ c.fixed
    fixed₁ = buses_fixed b₁ c t g

    fixed₂ : c₂.fixed ≡ c.fixed
    fixed₂ = buses_fixed b₂ c₁ t₁ g₁ ∙ fixed₁

    fixed₃ : d.fixed ≡ c.fixed
    fixed₃ = buses_fixed b₃ c₂ t₂ g₂ ∙ fixed₂

    off : d.fixed.queue ≡ false → Says PushAt.Enabled (b₁ ∷ b₂ ∷ b₃ ∷ r) c t (Outcome.Refused Refusal.TxQueueDisabled)
    off e =
        let x : c₁.fixed.queue ≡ false = ap (λ (y : Fixed). y.queue) (fixed₁ ∙ sym fixed₃) ∙ e in
        stops b₁ (b₂ ∷ b₃ ∷ r) PushAt.Enabled Refusal.TxQueueDisabled refl c t _ (hear_enabled _ c₁) (next_enabled c₁ g₁.sound (length payload) (length bs) ∙ rw x)

    module _ (on : d.fixed.queue ≡ true) where
      on₁ : c₁.fixed.queue ≡ true
      on₁ = ap (λ (y : Fixed). y.queue) (fixed₁ ∙ sym fixed₃) ∙ on

      on₂ : c₂.fixed.queue ≡ true
      on₂ = ap (λ (y : Fixed). y.queue) (fixed₂ ∙ sym fixed₃) ∙ on

      enabled : (o : Outcome) → Says PushAt.Control (b₂ ∷ b₃ ∷ r) c₁ t₁ o → Says PushAt.Enabled (b₁ ∷ b₂ ∷ b₃ ∷ r) c t o
      enabled o =
          joined b₁ (b₂ ∷ b₃ ∷ r) PushAt.Enabled PushAt.Control c t c₁ o
          (goes b₁ (b₂ ∷ b₃ ∷ r) PushAt.Enabled PushAt.Control refl c t _ c₁ (hear_enabled _ c₁) (next_enabled c₁ g₁.sound (length payload) (length bs) ∙ rw on₁) refl)

      control : push.next_at 0 (length payload) (length bs) PushAt.Control Answer.Exchanged (le_bytes (word_of c₂ Register.QueueControl))
          ≡ (if ltb (payload_of (frozen_at d 0)) (length payload) then PushAt.Refused Refusal.FifoTooSmall else PushAt.Status (word_of c₂ Register.QueueControl % 2 ^ 32))
      control =
          next_queue_control c₂ g₂.sound (length payload) (length bs)
          ∙ ap (λ (x : Fixed). if ltb (payload_of (get_or x.frozen 0 0)) (length payload) then PushAt.Refused Refusal.FifoTooSmall else PushAt.Status (word_of c₂ Register.QueueControl % 2 ^ 32))
          (fixed₂ ∙ sym fixed₃)

      long : ltb (payload_of (frozen_at d 0)) (length payload) ≡ true → Says PushAt.Enabled (b₁ ∷ b₂ ∷ b₃ ∷ r) c t (Outcome.Refused Refusal.FifoTooSmall)
      long y = enabled _ (stops b₂ (b₃ ∷ r) PushAt.Control Refusal.FifoTooSmall refl c₁ t₁ _ (hear_queue _ c₂) (control ∙ rw y))

      module _ (y : ltb (payload_of (frozen_at d 0)) (length payload) ≡ false) where
        abbrev w : ℕ
        w = word_of c₂ Register.QueueControl % 2 ^ 32

        knows : QueueMid c₂ m bs (PushAt.Status w)
        knows = record { word = queue_gentle c₂ g₂.sound; on = on₂; fits = queue_fits_lem c₂ header seq payload bs coded (subst (λ (x : Fixed). length payload ≤ payload_of (get_or x.frozen 0 0)) (fixed₃ ∙ sym fixed₂) (ltb-false _ _ y)) }

        to_status : (o : Outcome) → Says (PushAt.Status w) (b₃ ∷ r) c₂ t₂ o → Says PushAt.Enabled (b₁ ∷ b₂ ∷ b₃ ∷ r) c t o
        to_status o s =
            enabled o (joined b₂ (b₃ ∷ r) PushAt.Control (PushAt.Status w) c₁ t₁ c₂ o
            (goes b₂ (b₃ ∷ r) PushAt.Control (PushAt.Status w) refl c₁ t₁ _ c₂ (hear_queue _ c₂) (control ∙ rw y) refl) s)

        status : push.next_at 0 (length payload) (length bs) (PushAt.Status w) Answer.Exchanged (le_bytes (word_of d Register.QueueStatus))
            ≡ (if full (frozen_at d 0) d.queue then PushAt.Refused Refusal.FifoFull else PushAt.Address w)
        status = next_queue_status d (buses_fit b₃ c₂ t₂ g₂).sound on (length payload) (length bs) w

        none_free : full (frozen_at d 0) d.queue ≡ true → Says PushAt.Enabled (b₁ ∷ b₂ ∷ b₃ ∷ r) c t (Outcome.Refused Refusal.FifoFull)
        none_free z = to_status _ (stops b₃ r (PushAt.Status w) Refusal.FifoFull refl c₂ t₂ _ (hear_queue_status _ d) (status ∙ rw z))

    -- one is free
    pub queue_goes : (b₄ b₅ b₆ : List Bus) (q : List (List Bus)) → r ≡ b₄ ∷ b₅ ∷ b₆ ∷ q → QueueTakes d payload → Says PushAt.Enabled (b₁ ∷ b₂ ∷ b₃ ∷ r) c t Outcome.Done
    queue_goes b₄ b₅ b₆ q e (on, fit, z) =
        let y : ltb (payload_of (frozen_at d 0)) (length payload) ≡ false = le-ltb _ _ fit in
        let x = buses_queue m bs (PushAt.Status (w on y)) b₃ c₂ t₂ g₂ (knows on y) in
        to_status on y Outcome.Done
        (rw e (joined b₃ (b₄ ∷ b₅ ∷ b₆ ∷ q) (PushAt.Status (w on y)) (PushAt.Address (w on y)) c₂ t₂ d Outcome.Done
        (goes b₃ (b₄ ∷ b₅ ∷ b₆ ∷ q) (PushAt.Status (w on y)) (PushAt.Address (w on y)) refl c₂ t₂ _ d (hear_queue_status _ d) (status on y ∙ rw z) refl)
        (from_address b₄ b₅ b₆ q (w on y) d _ (buses_fit b₃ c₂ t₂ g₂) (x, z))))

    -- what holds where the queue takes it, and of each refusal, holds of its answer
    pub queue_by : (P : Ending → Type 0) → (QueueTakes d payload → P (answer Outcome.Done []))
        → ((x : Refusal) (n : ℕ) → numbered x ≡ n ∷ [] → Says PushAt.Enabled (b₁ ∷ b₂ ∷ b₃ ∷ r) c t (Outcome.Refused x) → P (refusal n)) → P (queue_answer d payload)
    unfolding queue_answer
    queue_by P good bad =
        by_if P (not d.fixed.queue) (λ x. bad Refusal.TxQueueDisabled 34 refl (off (not-true d.fixed.queue x)))
        (λ x.
        let on = not-false d.fixed.queue x in
        by_if P (ltb (payload_of (frozen_at d 0)) (length payload)) (λ y. bad Refusal.FifoTooSmall 7 refl (long on y))
        (λ y. by_if P (full (frozen_at d 0) d.queue) (λ z. bad Refusal.FifoFull 8 refl (none_free on y z)) (λ z. good (on, ltb-false _ _ y, z))))

-- ---- what a push answers

module _ (v : World) (g : Fit v.chip v.said) (e : v.doing ≡ idle) (header : Header) (seq : ℕ) (payload bs : List ℕ)
    (h : encoding (push.to_send header seq payload) ≡ Encoding.object bs) (b₁ b₂ b₃ b₄ b₅ b₆ : List Bus) where
  abbrev call : Command
  call = QueuePush header seq payload

  abbrev xs : List (List Bus)
  xs = b₁ ∷ b₂ ∷ b₃ ∷ b₄ ∷ b₅ ∷ b₆ ∷ []

  status_chip : at_queue_status v xs ≡ buses b₃ (buses b₂ (buses b₁ v.chip))
  status_chip =
      buses_append b₁ (b₂ ++ (b₃ ++ [])) v.chip ∙ buses_append b₂ (b₃ ++ []) (buses b₁ v.chip)
      ∙ ap (λ (bs : List Bus). buses bs (buses b₂ (buses b₁ v.chip))) (append-nil b₃)

  starts : after (Begin call ∷ calm xs) v ≡ after (calm xs) (world v.chip (busy call (pushing false 0 (length payload) bs PushAt.Enabled idle_plan idle_fetch)) v.said)
  unfolding of_push push.queue_start_at
  starts =
      begun v e call (calm xs)
      ∙ ap (after (calm xs))
      (ap (λ (x : Encoding). settled v.chip v.said call (queueing (length payload) PushAt.Enabled x) []) h
      ∙ still_alone call (λ s. refl) refl refl (length payload) bs idle_plan idle_fetch v.said v.chip [] PushAt.Enabled refl)

  done : QueueTakes (at_queue_status v xs) payload → Answers v call xs (called call Outcome.Done [] ∷ [])
  done ok =
      ap (λ (w : World). calls w.said) starts
      ∙ queue_goes header seq payload bs h v.chip v.said g b₁ b₂ b₃ (b₄ ∷ b₅ ∷ b₆ ∷ []) b₄ b₅ b₆ [] refl (rw status_chip at ok)

  ended : (P : Ending → Type 0) → (QueueTakes (at_queue_status v xs) payload → P (answer Outcome.Done []))
      → ((x : Refusal) (n : ℕ) → numbered x ≡ n ∷ [] → Answers v call xs (called call (Outcome.Refused x) [] ∷ []) → P (refusal n)) → P (queue_answer (at_queue_status v xs) payload)
  ended P good bad =
      rw status_chip
      (queue_by header seq payload bs h v.chip v.said g b₁ b₂ b₃ (b₄ ∷ b₅ ∷ b₆ ∷ []) P (λ ok. good (rw status_chip ok))
      (λ x n is no. bad x n is (ap (λ (w : World). calls w.said) starts ∙ no)))

  exact : Ends v call xs (queue_answer (at_queue_status v xs) payload)
  exact = ended (Ends v call xs) done (λ x n is no. (Outcome.Refused x, is, no))

  abbrev sent : Message
  sent = push.to_send header seq payload

  iff : ((x : Said) × Answers v call xs (x ∷ []) × (queued_in x ≡ sent ∷ [])) ↔ QueueTakes (at_queue_status v xs) payload
  iff = (
    λ (x, said, one).
        ended (λ y. QueueTakes (at_queue_status v xs) payload) (λ ok. ok)
        (λ y n is' no.
        let is : x ≡ called call (Outcome.Refused y) [] = same_last (calls v.said) _ _ (sym said ∙ no) in
        let none : ◌≡◌ {A = List Message} [] (sent ∷ []) = ap queued_in (sym is) ∙ one in
        let z : ◌≡◌ {A = ℕ} 0 1 = ap length none in absurd (omega (arith, z))),
    λ ok. (called call Outcome.Done [], done ok, refl),
  )

pub queue_push_exactly_lem : (v : World) → Fit v.chip v.said → v.doing ≡ idle → (header : Header) (seq : ℕ) (payload : List ℕ) → Writable header seq payload
    → (xs : List (List Bus)) → length xs ≡ 6 → Ends v (QueuePush header seq payload) xs (queue_answer (at_queue_status v xs) payload)
queue_push_exactly_lem v g e header seq payload (bs, h) =
    just_six (λ ys. Ends v (QueuePush header seq payload) ys (queue_answer (at_queue_status v ys) payload)) (exact v g e header seq payload bs h)

pub queue_pushed_iff_lem : (v : World) → Fit v.chip v.said → v.doing ≡ idle → (header : Header) (seq : ℕ) (payload : List ℕ) → Writable header seq payload
    → (xs : List (List Bus)) → length xs ≡ 6
    → ((x : Said) × Answers v (QueuePush header seq payload) xs (x ∷ []) × (queued_in x ≡ push.to_send header seq payload ∷ [])) ↔ QueueTakes (at_queue_status v xs) payload
queue_pushed_iff_lem v g e header seq payload (bs, h) =
    just_six (λ ys. ((x : Said) × Answers v (QueuePush header seq payload) ys (x ∷ []) × (queued_in x ≡ push.to_send header seq payload ∷ [])) ↔ QueueTakes (at_queue_status v ys) payload)
    (iff v g e header seq payload bs h)
