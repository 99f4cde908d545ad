-- What the chip does when a plan that does no harm asks it, and what it answers.
-- Assumes nothing.
use Prim.Native.Nat.{ℕ}
use mathlib.Core.Path.{◌≡◌, refl, sym, ap, subst, ◌∙◌}
use mathlib.Core.Bool.{true}
use mathlib.Core.List.{List, append-nil}
use Rattle.words.specs.Words.{be_bytes, le_bytes, le_at}
use Rattle.fifo.specs.Control.{is_fifo}
use Rattle.spi.specs.declared.ask.Ask.{Ask}
use Rattle.spi.specs.declared.ask.Answer.{Answer}
use Rattle.spi.specs.Instruction.{command_of}
use Rattle.spi.specs.Ask.{head_of, sent}
use Rattle.place.specs.declared.Register.{Register}
use Rattle.operation.specs.declared.operation.Operation.{Operation}
use Rattle.operation.specs.Operation.{write_at, asked}
use Rattle.operation.proofs.Laws.{asks_word_lem}
use Rattle.state.specs.declared.Setup.{Setup as Held}
use Rattle.state.specs.declared.Model.{Model}
use Rattle.state.specs.Model.{with_setup}
use Rattle.bank.specs.Registers.{word_of, control_written, register_written, queue_written}
use Rattle.model.specs.Exchange.{performed, exchange, done_writing}
use Rattle.plan.specs.PlanAt.{PlanAt}
use Rattle.plan.specs.Plan.{Plan}
use Rattle.plan.specs.Item.{address_of}
use Rattle.plan.specs.Step.{ask_at, ask_of}
use Rattle.history.specs.History.{Heard}
use Rattle.history.proofs.Harmless.{Setup, Aside, aside, control as controls, Careful, HarmlessWrite, HarmlessAt, Harmless, FairAnswer, FairAt, Fair, queue_control, con, Staying}
use Rattle.history.proofs.Sound.{Sound, Asked}
use Rattle.history.proofs.Line.{spoken}
use Rattle.history.proofs.Kept.{heard_chip}
use Rattle.history.proofs.Asks.{does, hear_control, tell_control, hear_keeps, hear_queue, hear_enabled, tell_queue, tell_low}
use Rattle.history.proofs.Replies.{control_gentle, control_asked, Gentle}
use Rattle.history.proofs.QueueReplies.{con_stays, con_staying, queue_gentle}
use Rattle.configuration.specs.CanControl.{CiCON}
use Rattle.place.proofs.Laws.{all_carried_lem}
use native.Mathlib.Omega.{arith}

-- where nothing is asked nothing is sent
module _ (b : List ℕ) (c : Model) where
  pub nothing_keeps : (spoken Ask.Nothing b c).chip ≡ c
  unfolding exchange performed asked sent
  nothing_keeps = refl

  wait_keeps : (spoken Ask.Wait b c).chip ≡ c
  unfolding exchange performed asked sent
  wait_keeps = refl

-- ---- what a plan does to the chip

pub data Effect (X : ℕ → Type 0) (c d : Model) : Type 0 where
  none : d ≡ c → Effect X c d
  setup : (s : Held) → d ≡ with_setup c s → Effect X c d
  commands : (n w : ℕ) → is_fifo n ≡ true → Careful X n w → d ≡ control_written c n w → Effect X c d
  queued : (w : ℕ) → Gentle w → d ≡ queue_written c w → Effect X c d

set_effect : (X : ℕ → Type 0) (c : Model) (r : Register) (w : ℕ) → Setup r → (d : Model) → d ≡ (register_written c r w).model → Effect X c d
unfolding register_written
set_effect X c Register.Con w s d e = absurd s
set_effect X c Register.Osc w s d e = setup _ e
set_effect X c (Register.Plain k) w s d e = setup _ e
set_effect X c (Register.Filter k) w s d e = setup _ e
set_effect X c (Register.Object k) w s d e = setup _ e
set_effect X c (Register.Mask k) w s d e = setup _ e
set_effect X c (Register.Control n) w s d e = absurd s
set_effect X c (Register.Status n) w s d e = absurd s
set_effect X c (Register.Address n) w s d e = absurd s
set_effect X c Register.QueueControl w s d e = absurd s
set_effect X c Register.QueueStatus w s d e = absurd s
set_effect X c Register.QueueAddress w s d e = absurd s

module _ (X : ℕ → Type 0) (b : List ℕ) (c : Model) (s : Sound c) where
  aside_effect : (a w : ℕ) → Aside a → Effect X c (spoken (Ask.Word a w) b c).chip
  unfolding performed sent write_at command_of be_bytes le_bytes
  aside_effect a w h =
      let s = sent (Ask.Word a w) b in
      let v : ℕ = le_at s 2 in
      let e : asked s 0 ≡ Operation.Write h.register v =
      rw (append-nil (head_of (Ask.Word a w)), asks_word_lem a w h.small) (simp (h.outside, h.is)) in
      let x : Operation = Operation.Write h.register v in
      set_effect X c h.register v h.setup _
      (ap (λ (y : Heard). y.chip) (does (Ask.Word a w) b c x e) ∙ heard_chip (performed x s 0 c).reply (performed x s 0 c).model)

  write_effect : (a w : ℕ) → HarmlessWrite X a w → Effect X c (spoken (Ask.Word a w) b c).chip
  write_effect a w (aside h) = aside_effect a w h
  write_effect a w (controls n i e g) =
      commands n w i g (ap (λ (x : ℕ). (spoken (Ask.Word x w) b c).chip) e ∙ ap (λ (x : Heard). x.chip) (tell_control b c n i w g.0.small))
  write_effect a w (queue_control e g) =
      queued w g (ap (λ (x : ℕ). (spoken (Ask.Word x w) b c).chip) e ∙ ap (λ (x : Heard). x.chip) (tell_queue b c w g.small))
  write_effect a w (con e g) =
      setup _ (ap (λ (x : ℕ). (spoken (Ask.Word x w) b c).chip) e
      ∙ ap (λ (x : Heard). x.chip) (tell_low b c (CiCON.address 0) Register.Con all_carried_lem.con (omega arith) w g.small)
      ∙ heard_chip (done_writing (register_written c Register.Con w)).reply _ ∙ con_staying c s w g.asks)

  at_effect : (at : PlanAt) → HarmlessAt X at → Effect X c (spoken (ask_at at) b c).chip
  at_effect (PlanAt.Read x) h = none (hear_keeps b c x.address 4)
  at_effect (PlanAt.Write a w) h = write_effect a w h
  at_effect (PlanAt.Poll p more) h = none (hear_keeps b c (address_of p) 4)
  at_effect (PlanAt.Wait p more) h = none (wait_keeps b c)
  at_effect (PlanAt.EchoWrite left) h = absurd h
  at_effect (PlanAt.EchoRead left) h = absurd h
  at_effect PlanAt.Done h = none (nothing_keeps b c)
  at_effect (PlanAt.Refused r) h = none (nothing_keeps b c)

  pub plan_effect : (p : Plan) → Harmless X p → Effect X c (spoken (ask_of p) b c).chip
  plan_effect p h = at_effect p.at h.at

-- ---- what a plan hears is fair

module _ (X : ℕ → Type 0) (b : List ℕ) (c : Model) (s : Sound c) (q : Asked X c) where
  at_fair : (at : PlanAt) → FairAt X at (spoken (ask_at at) b c).answer (spoken (ask_at at) b c).rx
  at_fair (PlanAt.Read x) = record {
    fifo = λ n i e.
        subst (λ (h : Heard). FairAnswer X (Careful X n) h.answer h.rx)
        (sym (ap (λ (a : ℕ). spoken (Ask.Read a 4) b c) e ∙ hear_control b c n i))
        (record { word = word_of c (Register.Control n); bytes = refl; careful = (control_gentle c n s, λ x. control_asked c n ∙ q n x) });
    queue = λ e.
        subst (λ (h : Heard). FairAnswer X Gentle h.answer h.rx) (sym (ap (λ (a : ℕ). spoken (Ask.Read a 4) b c) e ∙ hear_queue b c))
        (record { word = word_of c Register.QueueControl; bytes = refl; careful = queue_gentle c s });
    mode = λ e.
        subst (λ (h : Heard). FairAnswer X Staying h.answer h.rx) (sym (ap (λ (a : ℕ). spoken (Ask.Read a 4) b c) e ∙ hear_enabled b c))
        (record { word = word_of c Register.Con; bytes = refl; careful = con_stays c s });
  }
  at_fair (PlanAt.Write a w) = tt
  at_fair (PlanAt.Poll p more) = tt
  at_fair (PlanAt.Wait p more) = tt
  at_fair (PlanAt.EchoWrite left) = tt
  at_fair (PlanAt.EchoRead left) = tt
  at_fair PlanAt.Done = tt
  at_fair (PlanAt.Refused r) = tt

  pub plan_fair : (p : Plan) → Fair X p (spoken (ask_of p) b c).answer (spoken (ask_of p) b c).rx
  plan_fair p = at_fair p.at

-- so is whatever is no answer of the chip
unanswered_fair : (X : ℕ → Type 0) (at : PlanAt) (rx : List ℕ) → FairAt X at Answer.Failed rx × FairAt X at Answer.Waited rx
unanswered_fair X (PlanAt.Read x) rx = (record { fifo = λ n i e. tt; queue = λ e. tt; mode = λ e. tt }, record { fifo = λ n i e. tt; queue = λ e. tt; mode = λ e. tt })
unanswered_fair X (PlanAt.Write a w) rx = (tt, tt)
unanswered_fair X (PlanAt.Poll p more) rx = (tt, tt)
unanswered_fair X (PlanAt.Wait p more) rx = (tt, tt)
unanswered_fair X (PlanAt.EchoWrite left) rx = (tt, tt)
unanswered_fair X (PlanAt.EchoRead left) rx = (tt, tt)
unanswered_fair X PlanAt.Done rx = (tt, tt)
unanswered_fair X (PlanAt.Refused r) rx = (tt, tt)

pub failed_fair : (X : ℕ → Type 0) (p : Plan) (rx : List ℕ) → Fair X p Answer.Failed rx
failed_fair X p rx = (unanswered_fair X p.at rx).0

pub waited_fair : (X : ℕ → Type 0) (p : Plan) (rx : List ℕ) → Fair X p Answer.Waited rx
waited_fair X p rx = (unanswered_fair X p.at rx).1
