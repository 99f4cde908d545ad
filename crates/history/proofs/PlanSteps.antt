-- Each exchange of a request, alone or in a transmit, of a call that sets a part of the chip up and of a call that only reads keeps what
-- is true of the world; so do their beginnings.
-- Assumes nothing.
use Prim.Native.Nat.{ℕ}
use mathlib.Core.Path.{◌≡◌, refl, sym, ap, subst, ◌∙◌}
use mathlib.Core.Bool.{Bool, true, false, false≢true}
use mathlib.Core.List.{List, []}
use Rattle.laws.proofs.Choice.{by_if}
use Rattle.call.specs.declared.Outcome.{Outcome}
use Rattle.plan.specs.Plan.{Plan}
use Rattle.plan.specs.Prepared.{plan_for}
use Rattle.plan.specs.Step as plan
use Rattle.tx_fifo.specs.Push.{Push as Pushes}
use Rattle.transmit.specs.Transmit.{request_start, queue_request_start}
use Rattle.rx_fifo.specs.Fetch.{Fetch}
use Rattle.driver.specs.Call.{Call}
use Rattle.driver.specs.Start.{idle_push, idle_fetch, of_plan}
use Rattle.driver.specs.Step.{ask_of, step_of, outcome_of, filled_by}
use Rattle.driver.specs.Send.{body_of}
use Rattle.state.specs.declared.Model.{Model}
use Rattle.state.specs.Model.{with_queue}
use Rattle.bus.specs.Held.{held}
use Rattle.bus.specs.Queue.{held_queue}
use Rattle.history.specs.Command.{Command, QueueRequest, Request, Reading, Configuring, Look, Setting, started, sets, first_call, lent}
use Rattle.history.specs.History.{Said, called, idle, Heard, heard, is_over, halfway, settled, goes_on}
use Rattle.history.specs.Lists.{accepted_in, handed_out_in, queued_in}
use Rattle.history.specs.Demand.{Told, asks_rewrite}
use Rattle.history.proofs.Sound.{Sound, Asked}
use Rattle.history.proofs.Bus.{Listed, quiet}
use Rattle.history.proofs.Line.{heard_by_lem}
use Rattle.history.proofs.Kept.{spoken_sound}
use Rattle.history.proofs.Slots.{setup_held, next_asked, kept_held}
use Rattle.history.proofs.Replies.{plain_written}
use Rattle.history.proofs.Harmless.{Harmless, Fair, step_harmless}
use Rattle.history.proofs.Plans.{set_harmless, request_harmless, queue_request_harmless}
use Rattle.history.proofs.PlanAsks.{Effect, none, setup, commands, queued, plan_effect, plan_fair, failed_fair, waited_fair}
use Rattle.history.proofs.Requests.{Requests, fails, request_starts, request_answered, request_failed, request_asks, request_ordinary}
use Rattle.history.proofs.Requests.{queue_request_starts}
use Rattle.history.proofs.QueueLists.{queue_quiet}
use Rattle.history.proofs.QueueSlots.{queue_like, queue_held, fifo_queue, setup_queue}
use Rattle.history.proofs.QueueReplies.{queue_plain}
use Rattle.history.proofs.Looks.{LooksAt, look_starts, look_steps, look_keeps}
use Rattle.history.proofs.Planning.{planned, Ready, asks, steps, outcomes}
use Rattle.history.proofs.Inv.{Mid, requests, configures, looks, queue_requests, Tale, Inv, goes_on_lem, says_more}

-- ---- what a plan does changes nothing that is held

pub record Kept (c d : Model) : Type 0 where
  pub fifos : (j : ℕ) → held d j ≡ held c j
  pub queue : held_queue d ≡ held_queue c

pub kept_same : (c : Model) → Kept c c
kept_same c = record { fifos = λ j. refl; queue = refl }

module _ (X : ℕ → Type 0) (c d : Model) (s : Sound c) where
  effect_fixed : Effect X c d → d.fixed ≡ c.fixed
  effect_fixed (none e) = ap (λ (x : Model). x.fixed) e
  effect_fixed (setup x e) = ap (λ (x : Model). x.fixed) e
  effect_fixed (queued w g e) = let (v, is, vh, vs) = queue_plain c s w g.uinc g.freset in ap (λ (x : Model). x.fixed) (e ∙ is)
  effect_fixed (commands n w i (g, a) e) =
      let (v, is, vh, vc, va) = plain_written c n s w g.uinc g.freset in
      ap (λ (x : Model). x.fixed) (e ∙ is)

  effect_held : Effect X c d → (j : ℕ) → held d j ≡ held c j
  effect_held (none e) j = ap (λ (x : Model). held x j) e
  effect_held (setup y e) j = ap (λ (x : Model). held x j) e ∙ setup_held c y j
  effect_held (queued w g e) j = let (v, is, vh, vs) = queue_plain c s w g.uinc g.freset in ap (λ (x : Model). held x j) (e ∙ is) ∙ queue_held c v j
  effect_held (commands n w i (g, a) e) j =
      let (v, is, vh, vc, va) = plain_written c n s w g.uinc g.freset in
      ap (λ (x : Model). held x j) (e ∙ is) ∙ kept_held c s n i v vh vc j

  effect_queue : Effect X c d → held_queue d ≡ held_queue c
  effect_queue (none e) = ap held_queue e
  effect_queue (setup y e) = ap held_queue e ∙ setup_queue c y
  effect_queue (commands n w i (g, a) e) =
      let (v, is, vh, vc, va) = plain_written c n s w g.uinc g.freset in
      ap held_queue (e ∙ is) ∙ fifo_queue c n v
  effect_queue (queued w g e) = let (v, is, vh, vs) = queue_plain c s w g.uinc g.freset in ap held_queue (e ∙ is) ∙ queue_like c (with_queue c v) refl vh (λ on k l h. refl)

  effect_kept : Effect X c d → Kept c d
  effect_kept x = record { fifos = effect_held x; queue = effect_queue x }

  -- TXREQ that is to stay 1 does
  effect_asked : Asked X c → Effect X c d → Asked X d
  effect_asked q (none e) = subst (Asked X) (sym e) q
  effect_asked q (setup y e) = subst (Asked X) (sym e) q
  effect_asked q (queued w g e) = let (v, is, vh, vs) = queue_plain c s w g.uinc g.freset in subst (Asked X) (sym (e ∙ is)) q
  effect_asked q (commands n w i (g, a) e) =
      let (v, is, vh, vc, va) = plain_written c n s w g.uinc g.freset in
      subst (Asked X) (sym (e ∙ is)) (next_asked c s n i v X q (λ x. va ∙ a x))

-- ---- calls that are one call and move no message

record Silent (k : Command) : Type 0 where
  whole : (s : Call) → halfway k s ≡ false
  takes : (j : ℕ) (o : Outcome) (buf : List ℕ) → accepted_in j (called (first_call k) o buf) ≡ []
  gives : (j : ℕ) (o : Outcome) (buf : List ℕ) → handed_out_in j (called (first_call k) o buf) ≡ []
  queues : (o : Outcome) (buf : List ℕ) → queued_in (called (first_call k) o buf) ≡ []

request_silent : (n : ℕ) → Silent (Request n)
request_silent n = record { whole = λ s. refl; takes = λ j o buf. refl; gives = λ j o buf. refl; queues = λ o buf. refl }

queue_request_silent : Silent QueueRequest
queue_request_silent = record { whole = λ s. refl; takes = λ j o buf. refl; gives = λ j o buf. refl; queues = λ o buf. refl }

set_silent : (x : Setting) → Silent (Configuring x)
set_silent x = record { whole = λ s. refl; takes = λ j o buf. refl; gives = λ j o buf. refl; queues = λ o buf. refl }

look_silent : (x : Look) → Silent (Reading x)
look_silent x = record { whole = λ s. refl; takes = λ j o buf. refl; gives = λ j o buf. refl; queues = λ o buf. refl }

-- a plan that no push came before
pub alone : (u : Pushes) (f : Fetch) → Ready u f false
alone u f e = absurd (false≢true e)

-- what a plan hears: the chip is sound, and the plan stays harmless by it
record Hears (X : ℕ → Type 0) (c : Model) (p : Plan) (h : Heard) : Type 0 where
  effect : Effect X c h.chip
  sound : Sound h.chip
  fair : Fair X p h.answer h.rx

module _ (X : ℕ → Type 0) {U : Type 0} (c : Model) (o : Sound c) (ok : Asked X c) (t : List Said) (l : Listed c t) (e : Tale U c t) where
  -- the driver stands at s: it goes on, or it is over
  settles : (k : Command) → Silent k → (d : Model) → Sound d → Asked X d → Kept c d → (s : Call) (rx : List ℕ)
      → (is_over (outcome_of s) ≡ false → Mid X U d k s) → (is_over (outcome_of s) ≡ true → Told (first_call k) (outcome_of s)) → Inv X U (settled d t k s rx)
  unfolding settled
  settles k q d sd ad h s rx m w =
      let buf = filled_by s rx (lent k) in
      let said : Said = called (first_call k) (outcome_of s) buf in
      by_if (Inv X U) (is_over (outcome_of s))
      (λ x. says_more X c t l e d idle said sd ad (quiet c d said (λ j. q.takes j (outcome_of s) buf) (λ j. q.gives j (outcome_of s) buf) h.fifos)
      (λ u. queue_quiet c d said h.queue (q.queues (outcome_of s) buf) refl) (w x) tt)
      (λ x. rw (q.whole s) (goes_on_lem X c t l e d k s sd ad h.fifos h.queue (m x)))

  -- ---- plans

  module _ (also : Bool) (u : Pushes) (f : Fetch) (r : Ready u f also) where
    abbrev at : Plan → Call
    at p = planned also p u f

    hears_well : (b : Bool) (p : Plan) → Harmless X p → Hears X c p (heard b (at p) c)
    hears_well b p h =
        heard_by_lem (Hears X c p) b (at p) (plan.ask_of p) (asks u f also r p) c
        (λ w. record { effect = none refl; sound = o; fair = waited_fair X p [] })
        (let body = body_of (at p) [] in
        let x = plan_effect X body c o p h in
        record { effect = x; sound = spoken_sound (plan.ask_of p) body c o _ refl (effect_fixed X c _ o x); fair = plan_fair X body c o ok p })
        (record { effect = none refl; sound = o; fair = failed_fair X p [] })

    stands : (k : Command) → Silent k → (d : Model) → Sound d → Asked X d → Kept c d → (p : Plan) (rx : List ℕ)
        → (is_over (plan.outcome_of p) ≡ false → Mid X U d k (at p)) → (is_over (plan.outcome_of p) ≡ true → Told (first_call k) (plan.outcome_of p))
        → Inv X U (settled d t k (at p) rx)
    stands k q d sd ad h p rx =
        subst (λ (x : Outcome). (is_over x ≡ false → Mid X U d k (at p)) → (is_over x ≡ true → Told (first_call k) x) → Inv X U (settled d t k (at p) rx))
        (outcomes u f also r p) (settles k q d sd ad h (at p) rx)

    -- whatever is heard
    plan_heard : (k : Command) → Silent k → (b : Bool) (p : Plan) → Harmless X p
        → (let h = heard b (at p) c in let z = plan.step_of p h.answer h.rx in
        (Harmless X z → is_over (plan.outcome_of z) ≡ false → Mid X U h.chip k (at z))
        → (is_over (plan.outcome_of z) ≡ true → Told (first_call k) (plan.outcome_of z))
        → Inv X U (goes_on t k (at p) h))
    plan_heard k q b p x m w =
        let h = heard b (at p) c in
        let g = hears_well b p x in
        let z = plan.step_of p h.answer h.rx in
        let y : Harmless X z = step_harmless X p h.answer h.rx x g.fair in
        subst (λ (s : Call). Inv X U (settled h.chip t k s h.rx)) (sym (steps u f also r p h.answer h.rx))
        (stands k q h.chip g.sound (effect_asked X c h.chip o ok g.effect) (effect_kept X c h.chip o g.effect) z h.rx (m y) w)

    -- ---- a request

    request_stays : (b : Bool) (n : ℕ) (p : Plan) → Requests n p → is_over (plan.outcome_of p) ≡ false
        → (let h = heard b (at p) c in Requests n (plan.step_of p h.answer h.rx))
    request_stays b n p x y =
        heard_by_lem (λ h. Requests n (plan.step_of p h.answer h.rx)) b (at p) (plan.ask_of p) (asks u f also r p) c
        (λ w. absurd (false≢true (sym (request_asks n p x) ∙ w)))
        (request_answered n p (body_of (at p) []) c x y)
        (fails (request_failed n p [] x y))

    pub request_heard : (b : Bool) (n : ℕ) (p : Plan) → Requests n p → Harmless X p → is_over (plan.outcome_of p) ≡ false
        → Inv X U (goes_on t (Request n) (at p) (heard b (at p) c))
    request_heard b n p x y z =
        let a = request_stays b n p x z in
        plan_heard (Request n) (request_silent n) b p y
        (λ v w. requests also n _ u f r a v w refl refl)
        (request_ordinary n _ a)

  -- a request that begins
  pub request_starts_well : (n : ℕ) → Inv X U (settled c t (Request n) (started (Request n)) [])
  unfolding of_plan
  request_starts_well n =
      let r : Ready idle_push idle_fetch false = alone idle_push idle_fetch in
      stands false idle_push idle_fetch r (Request n) (request_silent n) c o ok (kept_same c) (request_start n) []
      (λ x. requests false n (request_start n) idle_push idle_fetch r (request_starts n) (request_harmless X n) x refl refl)
      (request_ordinary n (request_start n) (request_starts n))

  -- ---- a request of the queue

  pub queue_request_heard : (b : Bool) (p : Plan) (u : Pushes) (f : Fetch) → Requests 0 p → Harmless X p → is_over (plan.outcome_of p) ≡ false
      → (let s = planned false p u f in Inv X U (goes_on t QueueRequest s (heard b s c)))
  queue_request_heard b p u f x y z =
      let s = planned false p u f in
      let a : (let h = heard b s c in Requests 0 (plan.step_of p h.answer h.rx))
      = heard_by_lem (λ h. Requests 0 (plan.step_of p h.answer h.rx)) b s (plan.ask_of p) (asks u f false (alone u f) p) c
      (λ w. absurd (false≢true (sym (request_asks 0 p x) ∙ w)))
      (request_answered 0 p (body_of s []) c x z)
      (fails (request_failed 0 p [] x z)) in
      plan_heard false u f (alone u f) QueueRequest queue_request_silent b p y (λ v w. queue_requests _ u f a v w refl refl) (request_ordinary 0 _ a)

  pub queue_request_starts_well : Inv X U (settled c t QueueRequest (started QueueRequest) [])
  unfolding of_plan
  queue_request_starts_well =
      stands false idle_push idle_fetch (alone idle_push idle_fetch) QueueRequest queue_request_silent c o ok (kept_same c) queue_request_start []
      (λ x. queue_requests queue_request_start idle_push idle_fetch queue_request_starts (queue_request_harmless X) x refl refl)
      (request_ordinary 0 queue_request_start queue_request_starts)

  -- ---- a call that sets a part of the chip up

  pub configure_heard : (b : Bool) (x : Setting) (p : Plan) (u : Pushes) (f : Fetch) → Harmless X p
      → (let s = planned false p u f in Inv X U (goes_on t (Configuring x) s (heard b s c)))
  configure_heard b x p u f h =
      plan_heard false u f (alone u f) (Configuring x) (set_silent x) b p h (λ y z. configures x _ u f y refl refl) (λ z. tt)

  pub configure_starts_well : (x : Setting) → Inv X U (settled c t (Configuring x) (started (Configuring x)) [])
  unfolding of_plan
  configure_starts_well x =
      stands false idle_push idle_fetch (alone idle_push idle_fetch) (Configuring x) (set_silent x) c o ok (kept_same c) (plan_for (sets x)) []
      (λ z. configures x (plan_for (sets x)) idle_push idle_fetch (set_harmless X x) refl refl) (λ z. tt)

  -- ---- a call that only reads

  pub look_heard : (b : Bool) (x : Look) (s : Call) → LooksAt s.at → asks_rewrite s.at ≡ false → Inv X U (goes_on t (Reading x) s (heard b s c))
  look_heard b x s h n =
      let z = heard b s c in
      let same : z.chip ≡ c = heard_by_lem (λ (y : Heard). y.chip ≡ c) b s (ask_of s) refl c (λ w. refl) (look_keeps s (body_of s []) c h n) refl in
      settles (Reading x) (look_silent x) z.chip (subst Sound (sym same) o) (subst (Asked X) (sym same) ok) (subst (Kept c) (sym same) (kept_same c)) (step_of s z.answer z.rx) z.rx
      (λ y. looks x (look_steps s z.answer z.rx h) refl) (λ y. tt)

  pub look_starts_well : (x : Look) → Inv X U (settled c t (Reading x) (started (Reading x)) [])
  look_starts_well x =
      settles (Reading x) (look_silent x) c o ok (kept_same c) (started (Reading x)) [] (λ y. looks x (look_starts x) refl) (λ y. tt)
