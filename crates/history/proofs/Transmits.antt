-- A request and a transmit: what they answer where no exchange fails, and where one of the request's fails.
-- Assumes nothing.
use Prim.Native.Nat.{ℕ, suc, ◌%◌, ◌^◌, ◌≤◌}
use native.Mathlib.Omega.{arith}
use mathlib.Core.Path.{◌≡◌, refl, ap, ◌∙◌}
use mathlib.Core.Bool.{Bool, true, false}
use mathlib.Core.List.{List, [], ◌∷◌, ◌++◌, map, append_assoc}
use lib.ListN.{length}
use Rattle.fifo.specs.Control.{CiFIFOCON, is_fifo}
use Rattle.words.specs.Words.{le_bytes}
use Rattle.spi.specs.declared.refusal.Refusal.{Refusal}
use Rattle.spi.specs.declared.ask.Answer.{Answer}
use Rattle.header.specs.declared.Header.{Header}
use Rattle.message.specs.Message.{Encoding}
use Rattle.place.specs.declared.Register.{Register}
use Rattle.call.specs.declared.Outcome.{Outcome}
use Rattle.call.specs.Numbers.{outcome_numbers}
use Rattle.plan.specs.PlanAt.{PlanAt}
use Rattle.plan.specs.Plan.{Plan}
use Rattle.plan.specs.Step as plan
use Rattle.plan.specs.Change.{modified}
use Rattle.tx_fifo.specs.Push.{Push as Pushes}
use Rattle.tx_fifo.specs.PushAt.{PushAt}
use Rattle.tx_fifo.specs.Step as push
use Rattle.transmit.specs.Transmit.{request_change, request_start, transmit_start}
use Rattle.rx_fifo.specs.Fetch.{Fetch}
use Rattle.driver.specs.Start.{idle_push, idle_fetch, of_plan, of_transmit}
use Rattle.state.specs.declared.Model.{Model}
use Rattle.bank.specs.Registers.{word_of, control_written}
use Rattle.reach.specs.Bus.{Bus}
use Rattle.history.specs.Command.{Command, Push, Transmit, Request}
use Rattle.history.specs.History.{Event, Begin, Fail, On, Said, called, idle, busy, World, waits, settled, event, after}
use Rattle.history.specs.Demand.{buses, calm, at_status, calls, Answers, answer, Ends, WellFormed, push_answer, Takes, failing}
use Rattle.history.proofs.Few.{two, five, seven}
use Rattle.history.proofs.Line.{world}
use Rattle.history.proofs.Asks.{hear_control, tell_control}
use Rattle.history.proofs.Requests.{requesting, request_begins, request_read, request_written, request_small, read_failed, write_failed}
use Rattle.history.proofs.Planning.{planned, Ready}
use Rattle.history.proofs.Planning as planning
use Rattle.history.proofs.Pushing.{push_at, pushing, half}
use Rattle.history.proofs.PushSteps.{encoded_for}
use Rattle.history.proofs.PlanSteps.{alone}
use Rattle.history.proofs.PushExactly.{begun, begins, push_by, push_goes}
use Rattle.history.proofs.Calm.{spoken_of, after_append, after_buses, after_calm, calls_buses, calls_snoc, idle_calm, Fit, at_status_lem}

pub nothing_more : (v : World) → after (calm []) v ≡ v
unfolding after calm
nothing_more v = refl

-- ---- a request, alone or behind the push u

module _ (n : ℕ) (i : is_fifo n ≡ true) (also : Bool) (u : Pushes) (f : Fetch) (ready : Ready u f also) where
  abbrev pub asking : Plan → Model → List Said → World
  asking p c t = world c (busy (Request n) (planned also p u f)) t

  abbrev pub reading : Plan
  reading = requesting n 1 (PlanAt.Read (request_change n))

  -- the word that is written
  abbrev pub asked : Model → ℕ
  asked c = modified (request_change n) (word_of c (Register.Control n) % 2 ^ 32)

  abbrev writing : Model → Plan
  writing c = requesting n 1 (PlanAt.Write (CiFIFOCON.address n) (asked c))

  -- bus steps, and control is read
  control_comes : (b : List Bus) (r : List (List Bus)) (c : Model) (t : List Said)
      → after (calm (b ∷ r)) (asking reading c t) ≡ after (calm r) (asking (writing (buses b c)) (buses b c) (t ++ spoken_of b c))
  unfolding event
  control_comes b r c t =
      let d : Model = buses b c in
      let x : ℕ = word_of d (Register.Control n) in
      let t' : List Said = t ++ spoken_of b c in
      after_calm b r c _ t
      ∙ ap (after (calm r))
      (planning.turned u f also ready reading t' (Request n) d (le_bytes x) d refl (λ y. hear_control y d n i)
      ∙ ap (λ (q : Plan). settled d t' (Request n) (planned also q u f) (le_bytes x)) (request_read n x)
      ∙ planning.still u f also ready (writing d) t' (Request n) d (le_bytes x) refl refl)

  -- bus steps, and it is written
  control_goes : (b : List Bus) (r : List (List Bus)) (c d : Model) (t : List Said)
      → after (calm (b ∷ r)) (asking (writing c) d t)
      ≡ after (calm r) (world (control_written (buses b d) n (asked c)) idle ((t ++ spoken_of b d) ++ (called (Request n) Outcome.Done [] ∷ [])))
  unfolding event
  control_goes b r c d t =
      let e : Model = buses b d in
      let t' : List Said = t ++ spoken_of b d in
      let z : Model = control_written e n (asked c) in
      after_calm b r d _ t
      ∙ ap (after (calm r))
      (planning.turned u f also ready (writing c) t' (Request n) e [] z refl (λ y. tell_control y e n i (asked c) (request_small n _))
      ∙ ap (λ (q : Plan). settled z t' (Request n) (planned also q u f) []) (request_written n (CiFIFOCON.address n) (asked c))
      ∙ planning.over u f also ready (requesting n 15 PlanAt.Done) t' (Request n) z [] refl)

  -- both
  pub request_goes : (b b' : List Bus) (r : List (List Bus)) (c : Model) (t : List Said)
      → (s : List Said) × (calls s ≡ calls t)
      × (after (calm (b ∷ b' ∷ r)) (asking reading c t)
      ≡ after (calm r) (world (control_written (buses b' (buses b c)) n (asked (buses b c))) idle (s ++ (called (Request n) Outcome.Done [] ∷ []))))
  request_goes b b' r c t =
      (_, calls_buses _ b' (buses b c) ∙ calls_buses t b c, control_comes b (b' ∷ r) c t ∙ control_goes b' r (buses b c) (buses b c) (t ++ spoken_of b c))

  pub request_says : (b b' : List Bus) (r : List (List Bus)) (c : Model) (t : List Said)
      → calls (after (calm (b ∷ b' ∷ r)) (asking reading c t)).said ≡ calls t ++ (called (Request n) Outcome.Done [] ∷ [])
  request_says b b' r c t =
      let (s, same, is) = request_goes b b' r c t in
      ap (λ (v : World). calls v.said) is ∙ idle_calm r _ _ ∙ calls_snoc s (Request n) Outcome.Done [] ∙ rw same

  -- bus steps, and an exchange that fails
  lost : (p : Plan) → waits (plan.ask_of p) ≡ false → plan.step_of p Answer.Failed [] ≡ requesting n 1 (PlanAt.Refused Refusal.SpiRead)
      → (b : List Bus) (c : Model) (t : List Said)
      → calls (after (map On b ++ (Fail ∷ [])) (asking p c t)).said ≡ calls t ++ (called (Request n) (Outcome.Refused Refusal.SpiRead) [] ∷ [])
  unfolding after event
  lost p w e b c t =
      let t' : List Said = t ++ spoken_of b c in
      ap (λ (v : World). calls v.said) (after_append (map On b) (Fail ∷ []) (asking p c t) ∙ ap (after (Fail ∷ [])) (after_buses b c _ t)
      ∙ planning.failed u f also ready p t' (Request n) (buses b c) w
      ∙ ap (λ (q : Plan). settled (buses b c) t' (Request n) (planned also q u f) []) e
      ∙ planning.over u f also ready (requesting n 1 (PlanAt.Refused Refusal.SpiRead)) t' (Request n) (buses b c) [] refl)
      ∙ calls_snoc t' _ _ _ ∙ rw (calls_buses t b c)

  pub fails_there : (r : List (List Bus)) → length r ≤ 1 → (b : List Bus) (c : Model) (t : List Said)
      → calls (after (map On b ++ (Fail ∷ [])) (after (calm r) (asking reading c t))).said
      ≡ calls t ++ (called (Request n) (Outcome.Refused Refusal.SpiRead) [] ∷ [])
  fails_there [] l b c t =
      ap (λ (v : World). calls (after (map On b ++ (Fail ∷ [])) v).said) (nothing_more (asking reading c t)) ∙ lost reading refl (read_failed n []) b c t
  fails_there (b₁ ∷ []) l b c t =
      ap (λ (v : World). calls (after (map On b ++ (Fail ∷ [])) v).said) (control_comes b₁ [] c t ∙ nothing_more (asking (writing (buses b₁ c)) (buses b₁ c) (t ++ spoken_of b₁ c)))
      ∙ lost (writing (buses b₁ c)) refl (write_failed n _ _ []) b (buses b₁ c) (t ++ spoken_of b₁ c)
      ∙ rw (calls_buses t b₁ c)
  fails_there (b₁ ∷ b₂ ∷ r) l b c t = let h : suc (suc (length r)) ≤ 1 = l in absurd (omega (arith, h))

-- ---- a request alone

pub request_starts_at : (v : World) → v.doing ≡ idle → (n : ℕ) → (i : is_fifo n ≡ true) → (es : List Event)
    → after (Begin (Request n) ∷ es) v
    ≡ after es (asking n i false idle_push idle_fetch (alone idle_push idle_fetch) (reading n i false idle_push idle_fetch (alone idle_push idle_fetch)) v.chip v.said)
unfolding of_plan
request_starts_at v e n i es =
    begun v e (Request n) es
    ∙ ap (after es)
    (ap (λ (p : Plan). settled v.chip v.said (Request n) (planned false p idle_push idle_fetch) []) (request_begins n i)
    ∙ planning.still idle_push idle_fetch false (alone idle_push idle_fetch) (requesting n 1 (PlanAt.Read (request_change n))) v.said (Request n) v.chip [] refl refl)

pub request_exactly_lem : (v : World) → v.doing ≡ idle → (n : ℕ) → is_fifo n ≡ true → (xs : List (List Bus)) → length xs ≡ 2 → Ends v (Request n) xs (answer Outcome.Done [])
request_exactly_lem v e n i xs l =
    two (λ ys. Ends v (Request n) ys (answer Outcome.Done []))
    (λ b b' r.
    ap (λ (w : World). calls w.said) (request_starts_at v e n i (calm (b ∷ b' ∷ r)))
    ∙ request_says n i false idle_push idle_fetch (alone idle_push idle_fetch) b b' r v.chip v.said)
    xs (omega (arith, l))

-- ---- a transmit

module _ (v : World) (g : Fit v.chip v.said) (e : v.doing ≡ idle) (n : ℕ) (header : Header) (seq : ℕ) (payload bs : List ℕ)
    (h : push.encoding_for n header seq payload ≡ Encoding.object bs) (b₁ b₂ b₃ b₄ b₅ : List Bus) where
  abbrev call : Command
  call = Transmit n header seq payload

  -- the bus steps, r those after the push
  abbrev xs : List (List Bus) → List (List Bus)
  xs r = b₁ ∷ b₂ ∷ b₃ ∷ b₄ ∷ b₅ ∷ r

  abbrev Fits : Type 0
  Fits = Takes (at_status v (xs [])) n payload

  status_chip : at_status v (xs []) ≡ buses b₂ (buses b₁ v.chip)
  status_chip = at_status_lem v b₁ b₂ (b₃ ∷ b₄ ∷ b₅ ∷ [])

  transmit_starts : (es : List Event) → after (Begin call ∷ es) v
      ≡ after es (world v.chip (busy call (pushing true n (length payload) bs PushAt.Control (request_start n) idle_fetch)) v.said)
  unfolding of_transmit transmit_start push.start_of
  transmit_starts es = begun v e call es ∙ ap (after es) (begins true n header seq payload bs h (request_start n) v.chip v.said)

  abbrev pub pushed : Pushes
  pushed = push_at n (length payload) bs PushAt.Done

  pub pushed_ready : Ready pushed idle_fetch true
  pushed_ready x = refl

  -- the request of FIFO n begins
  abbrev requesting_at : is_fifo n ≡ true → Model → List Said → World
  requesting_at i d s = asking n i true pushed idle_fetch pushed_ready (reading n i true pushed idle_fetch pushed_ready) d s

  abbrev first : List Said
  first = called (Push n header seq payload) Outcome.Done [] ∷ []

  -- its push is done, and its request begins
  pub half_way : (i : is_fifo n ≡ true) → Fits
      → (d : Model) × (s : List Said) × (calls s ≡ calls v.said ++ first) × ((r : List (List Bus)) → after (Begin call ∷ calm (xs r)) v ≡ after (calm r) (requesting_at i d s))
  half_way i ok =
      let (i', coded) = encoded_for n header seq payload bs h in
      let p : Plan = request_start n in
      let (d, u, s, q) = push_goes true n header seq payload bs p idle_fetch i' coded b₁ b₂ (b₃ ∷ b₄ ∷ b₅ ∷ []) v.chip v.said g (rw status_chip at ok) b₃ b₄ b₅ in
      let begin : plan.outcome_of p ≡ Outcome.Running = rw (request_begins n i) in (
        d,
        u ++ first,
        calls_snoc u (Push n header seq payload) Outcome.Done [] ∙ ap (λ (w : List Said). w ++ first) s,
        λ r. transmit_starts (calm (xs r)) ∙ q r
            ∙ ap (after (calm r)) (half n (length payload) bs p idle_fetch header seq payload u d [] begin
            ∙ ap (λ (y : Plan). world d (busy (Request n) (pushing true n (length payload) bs PushAt.Done y idle_fetch)) (u ++ first)) (request_begins n i)),
      )

  transmit_no : (r : List (List Bus)) → (Fits → ⊥) → Ends v call (xs r) (push_answer (at_status v (xs [])) n payload)
  transmit_no r never =
      let (i, coded) = encoded_for n header seq payload bs h in
      rw status_chip
      (push_by true n header seq payload bs (request_start n) idle_fetch i coded b₁ b₂ (b₃ ∷ b₄ ∷ b₅ ∷ r) v.chip v.said g (Ends v call (xs r))
      (λ ok. absurd (never (rw status_chip ok)))
      (λ x k is no. (Outcome.Refused x, is, ap (λ (w : World). calls w.said) (transmit_starts (calm (xs r))) ∙ no)))

  transmit_yes : Fits → (b b' : List Bus) → Answers v call (xs (b ∷ b' ∷ [])) (called (Push n header seq payload) Outcome.Done [] ∷ called (Request n) Outcome.Done [] ∷ [])
  transmit_yes ok b b' =
      let (i, coded) = encoded_for n header seq payload bs h in
      let (d, s, one, is) = half_way i ok in
      let second : List Said = called (Request n) Outcome.Done [] ∷ [] in
      ap (λ (w : World). calls w.said) (is (b ∷ b' ∷ []))
      ∙ request_says n i true pushed idle_fetch pushed_ready b b' [] d s
      ∙ ap (λ (w : List Said). w ++ second) one ∙ append_assoc (calls v.said) first second

  -- an exchange of the request fails
  request_lost : (r : List (List Bus)) → Fits → length r ≤ 1 → (b : List Bus)
      → calls (after (Begin call ∷ failing (xs r) b) v).said
      ≡ calls v.said ++ (called (Push n header seq payload) Outcome.Done [] ∷ called (Request n) (Outcome.Refused Refusal.SpiRead) [] ∷ [])
  request_lost r ok l b =
      let (i, coded) = encoded_for n header seq payload bs h in
      let (d, s, one, is) = half_way i ok in
      let end : List Event = map On b ++ (Fail ∷ []) in
      let second : List Said = called (Request n) (Outcome.Refused Refusal.SpiRead) [] ∷ [] in
      ap (λ (w : World). calls w.said) (after_append (Begin call ∷ calm (xs r)) end v ∙ ap (after end) (is r))
      ∙ fails_there n i true pushed idle_fetch pushed_ready r l b d s
      ∙ ap (λ (w : List Said). w ++ second) one ∙ append_assoc (calls v.said) first second

module _ (v : World) (g : Fit v.chip v.said) (e : v.doing ≡ idle) (n : ℕ) (header : Header) (seq : ℕ) (payload : List ℕ) (w : WellFormed n header seq payload)
    (ys : List (List Bus)) where
  pub transmit_refused_lem : length ys ≡ 5 → (Takes (at_status v ys) n payload → ⊥) → Ends v (Transmit n header seq payload) ys (push_answer (at_status v ys) n payload)
  transmit_refused_lem l =
      five (λ zs. (Takes (at_status v zs) n payload → ⊥) → Ends v (Transmit n header seq payload) zs (push_answer (at_status v zs) n payload))
      (transmit_no v g e n header seq payload w.0 w.1) ys (omega (arith, l))

  pub transmit_done_lem : length ys ≡ 7 → Takes (at_status v ys) n payload
      → Answers v (Transmit n header seq payload) ys (called (Push n header seq payload) Outcome.Done [] ∷ called (Request n) Outcome.Done [] ∷ [])
  transmit_done_lem =
      seven (λ zs. Takes (at_status v zs) n payload
      → Answers v (Transmit n header seq payload) zs (called (Push n header seq payload) Outcome.Done [] ∷ called (Request n) Outcome.Done [] ∷ []))
      (λ b₁ b₂ b₃ b₄ b₅ b b' ok. transmit_yes v g e n header seq payload w.0 w.1 b₁ b₂ b₃ b₄ b₅ ok b b') ys

  pub request_fails_lem : 5 ≤ length ys → length ys ≤ 6 → Takes (at_status v ys) n payload → (b : List Bus)
      → (o : Outcome) × (outcome_numbers o ≡ 1 ∷ [])
      × (calls (after (Begin (Transmit n header seq payload) ∷ failing ys b) v).said
      ≡ calls v.said ++ (called (Push n header seq payload) Outcome.Done [] ∷ called (Request n) o [] ∷ []))
  request_fails_lem l m ok b = (
    Outcome.Refused Refusal.SpiRead,
    refl,
    five (λ zs. length zs ≤ 6 → Takes (at_status v zs) n payload → calls (after (Begin (Transmit n header seq payload) ∷ failing zs b) v).said
        ≡ calls v.said ++ (called (Push n header seq payload) Outcome.Done [] ∷ called (Request n) (Outcome.Refused Refusal.SpiRead) [] ∷ []))
        (λ b₁ b₂ b₃ b₄ b₅ r q k. request_lost v g e n header seq payload w.0 w.1 b₁ b₂ b₃ b₄ b₅ r k (omega (arith, q)) b) ys l m ok,
  )
