-- From a request that is done on, TXREQ of its FIFO is 1 until a send takes the last, and what is held goes out oldest first.
-- Assumes nothing.
use Prim.Native.Nat.{ℕ, ◌%◌, ◌^◌, ◌<◌}
use native.Mathlib.Nat.{mod-lt}
use native.Mathlib.Omega.{arith}
use mathlib.Core.Path.{◌≡◌, refl, sym, ap, subst, ◌∙◌}
use mathlib.Core.Bool.{true, false, ◌&&◌}
use mathlib.Core.List.{List, [], ◌∷◌}
use lib.Dec.{eqb}
use lib.Pow.{pow_pos}
use borrow.Author.Tests.{eqb-true, lt-ltb}
use Rattle.laws.proofs.Choice.{by_if}
use Rattle.laws.proofs.Table.{both}
use Rattle.field.specs.Field.{read, flag}
use Rattle.field.specs.Settings.{◌:=◌, settings}
use Rattle.field.proofs.Laws.{read_write}
use Rattle.field.proofs.Sets.{off}
use Rattle.fifo.specs.Control.{CiFIFOCON, UINC, TXREQ, FRESET, is_fifo}
use Rattle.header.specs.declared.Header.{Header}
use Rattle.message.specs.Message.{Decoding}
use Rattle.plan.specs.Change.{modified}
use Rattle.plan.proofs.Changes.{change_sets_lem}
use Rattle.transmit.specs.Transmit.{request_change}
use Rattle.driver.specs.Start.{idle_push, idle_fetch, of_plan, of_transmit}
use Rattle.place.specs.declared.Register.{Register}
use Rattle.ring.specs.declared.ring.Fifo.{Fifo}
use Rattle.ring.specs.Ring.{sending, claimed, taken, overflowed, sent}
use Rattle.ring.proofs.Laws.{control_off}
use Rattle.state.specs.declared.Model.{Model}
use Rattle.state.specs.Model.{fifo_at, frozen_at, with_fifo}
use Rattle.bank.specs.Registers.{word_of, control_written}
use Rattle.bus.specs.declared.arrival.Delivered.{Delivered}
use Rattle.bus.specs.Held.{held}
use Rattle.bus.specs.Bus.{sends, send_output, send_model, give}
use Rattle.bus.proofs.Laws.{oldest_sent_lem}
use Rattle.bus.specs.Sort.{filter_for, target_for}
use Rattle.bus.proofs.Arriving.{by_deliver, by_give, receives_is}
use Rattle.bus.proofs.Sorts.{by_sort}
use Rattle.reach.specs.Bus.{Bus, Send, SendQueue, Deliver, Sort, stepped}
use Rattle.history.specs.Command.{Command, Request, Transmit, started}
use Rattle.history.specs.History.{Event, Begin, On, Said, idle, World, event, after}
use Rattle.history.specs.Demand.{world, calm, buses, at_status, Takes, Requested, Lasts, SendsOldest, OldestGoes, TakesLast, LastStays, GoesOut, RequestSends, TransmitSends}
use Rattle.history.proofs.Sound.{Sound, Asked}
use Rattle.history.proofs.Few.{just_two, seven}
use Rattle.history.proofs.Slots.{next_fifo, next_asked}
use Rattle.history.proofs.Bus.{oldest}
use Rattle.history.proofs.Replies.{control_gentle, plain_written}
use Rattle.history.proofs.Inv.{Doings, Inv}
use Rattle.history.proofs.Calm.{buses_fit}
use Rattle.history.proofs.PushSteps.{encoded_for}
use Rattle.history.proofs.PlanSteps.{alone}
use Rattle.history.proofs.Transmits.{nothing_more, request_goes, request_starts_at, half_way, pushed, pushed_ready}
use Rattle.history.proofs.Still.{scrubs, call_still}
use Rattle.history.proofs.Theorem.{None, event_keeps, run_keeps, holds_always, fits}
use Rattle.bus.specs.Queue.{queue_sends, queue_model}

-- ---- a bus step that is no send of the last leaves TXREQ of FIFO n at 1

abbrev Only : (n j : ℕ) → Type 0
Only n j = j ≡ n

module _ (n : ℕ) (c : Model) (o : Sound c) (q : Asked (Only n) c) where
  sent_asked : (k : ℕ) → is_fifo k ≡ true → sends c k ≡ true → (TakesLast n (On (Send k)) c → ⊥)
      → Asked (Only n) (with_fifo c k (sent (frozen_at c k) (fifo_at c k)))
  unfolding sent taken
  sent_asked k i s last =
      next_asked c o k i (sent (frozen_at c k) (fifo_at c k)) (Only n) q
      (λ x. by_if (λ (y : Fifo). read TXREQ y.control ≡ 1) (eqb (fifo_at c k).count 1)
      (λ e. absurd (last (x, subst (λ (j : ℕ). sends c j ≡ true) x s, subst (λ (j : ℕ). (fifo_at c j).count ≡ 1) x (eqb-true _ _ e))))
      (λ e. q k x))

  send_asked : (k : ℕ) → (TakesLast n (On (Send k)) c → ⊥) → Asked (Only n) (send_model c k)
  unfolding send_model
  send_asked k last =
      by_if (Asked (Only n)) (is_fifo k && sends c k) (λ e. let (i, s) = both (is_fifo k) (sends c k) e in sent_asked k i s last) (λ e. q)

  abbrev Well : Delivered → Type 0
  Well d = Asked (Only n) d.model

  give_asked : (k hit d : ℕ) (header : Header) (time : ℕ) (payload : List ℕ) → Well (give c k hit d header time payload)
  unfolding claimed overflowed
  give_asked k hit d header time payload =
      by_give c k header d time payload Well hit (λ a. q) (λ a b. q) (λ a b x. q)
      (λ a b x y. next_asked c o k (receives_is c k b).0 (overflowed true (fifo_at c k)) (Only n) q (q k))
      (λ a b x y. next_asked c o k (receives_is c k b).0 (claimed (fifo_at c k)) (Only n) q (q k))

  bus_asked : (b : Bus) → (TakesLast n (On b) c → ⊥) → Asked (Only n) (stepped b c)
  unfolding stepped queue_model
  bus_asked (Send k) last = send_asked k last
  bus_asked SendQueue last = by_if (Asked (Only n)) (queue_sends c) (λ e. q) (λ e. q)
  bus_asked (Deliver k header dlc time payload) last =
      by_deliver c k header dlc (time % 2 ^ 32) payload Well (λ i. q) (λ i t. q) (λ i t d. q) (λ i t e w. give_asked k 0 dlc header (time % 2 ^ 32) payload)
  bus_asked (Sort header dlc time payload) last =
      by_sort c header dlc (time % 2 ^ 32) payload (λ x. Asked (Only n) x.model) (λ t. q) (λ t e. q) (λ t e z. q) (λ t e z g. q)
      (λ t e z g w. give_asked (target_for c (filter_for c header)) (filter_for c header) dlc header (time % 2 ^ 32) payload)

-- ---- any events of which none is

run_stands : (n : ℕ) (es : List Event) (v : World) → Lasts es v → Inv (Only n) ⊥ v → LastStays n es v → Inv (Only n) ⊥ (after es v)
unfolding after
run_stands n [] v r i l = i
run_stands n (e ∷ es) v r i (last, l) =
    run_stands n es _ r.1
    (event_keeps (Only n) ⊥ e v.doing v.chip v.said r.0 i
    (λ b x. bus_asked n v.chip i.sound i.asked b (subst (λ (y : Event). TakesLast n y v.chip → ⊥) x last)) (λ u. absurd u))
    l

-- ---- what a send then does

requested_is : (c : Model) (n : ℕ) → read TXREQ (word_of c (Register.Control n)) ≡ read TXREQ (fifo_at c n).control
unfolding word_of
requested_is c n = control_off TXREQ (frozen_at c n) (fifo_at c n) refl

module _ (X : ℕ → Type 0) (U : Type 0) (v : World) (inv : Inv X U v) (n : ℕ) (i : is_fifo n ≡ true) (tx : sending (frozen_at v.chip n) ≡ true)
    (asked : Requested v.chip n) (some : 0 < (fifo_at v.chip n).count) where
  abbrev c : Model
  c = v.chip

  does : sends c n ≡ true
  unfolding sends
  does =
      let req : flag TXREQ (fifo_at c n).control ≡ true = ap (λ (x : ℕ). eqb x 1) (sym (requested_is c n) ∙ asked) in
      rw (tx, req, lt-ltb 0 (fifo_at c n).count some)

  sends_oldest : SendsOldest v n
  unfolding after event stepped send_output
  sends_oldest =
      let (m, item) = oldest c inv.sound v.said inv.lists n i some in
      let order = inv.sound.valid.fifo n in (
        m,
        oldest_sent_lem c n i does order.head order.count ∙ ap (λ (x : Decoding). x ∷ held (send_model c n) n) item,
        rw (i, does, item),
      )

pub oldest_goes_lem : OldestGoes
oldest_goes_lem c w g es r n i tx asked some = sends_oldest None ⊥ (world c w es) (holds_always c w g es r) n i tx asked some

-- ---- where no call is under way

module _ (n : ℕ) (i : is_fifo n ≡ true) (v : World) (inv : Inv None ⊥ v) (e : v.doing ≡ idle) (one : read TXREQ (fifo_at v.chip n).control ≡ 1) where
  asked_now : Inv (Only n) ⊥ v
  asked_now = record {
    sound = inv.sound;
    asked = λ j x. subst (λ (k : ℕ). read TXREQ (fifo_at v.chip k).control ≡ 1) (sym x) one;
    lists = inv.lists;
    tale = record { tells = inv.tale.tells; queue = λ u. absurd u };
    doing = subst (Doings (Only n) ⊥ v.chip) (sym e) tt;
  }

  goes_out : GoesOut v n
  goes_out es r l =
      let z = run_stands n es v r asked_now l in
      let req : Requested (after es v).chip n = requested_is (after es v).chip n ∙ z.asked n refl in
      (req, λ tx some. sends_oldest (Only n) ⊥ (after es v) z n i tx req some)

-- ---- a request sets TXREQ

module _ (n : ℕ) (i : is_fifo n ≡ true) (c d : Model) (o : Sound c) (s : Sound d) where
  abbrev seen : ℕ
  seen = word_of c (Register.Control n) % 2 ^ 32

  request_sets : read TXREQ (fifo_at (control_written d n (modified (request_change n) seen)) n).control ≡ 1
  request_sets =
      let is : modified (request_change n) seen ≡ settings (TXREQ := 1 ∷ []) seen
      = change_sets_lem (CiFIFOCON.address n) (TXREQ := 1 ∷ []) seen (mod-lt (word_of c (Register.Control n)) (pow_pos 32)) (omega arith, tt) in
      let gentle = control_gentle c n o in
      let (f, wrote, fh, fc, fa) = plain_written d n s (settings (TXREQ := 1 ∷ []) seen)
      (off UINC (TXREQ := 1 ∷ []) seen refl (omega arith, tt) ∙ gentle.uinc) (off FRESET (TXREQ := 1 ∷ []) seen refl (omega arith, tt) ∙ gentle.freset) in
      ap (λ (w : ℕ). read TXREQ (fifo_at (control_written d n w) n).control) is
      ∙ ap (λ (m : Model). read TXREQ (fifo_at m n).control) wrote
      ∙ ap (λ (x : Fifo). read TXREQ x.control) (next_fifo d s n i f)
      ∙ fa ∙ read_write TXREQ 1 seen (omega arith)

-- the world after a request, alone or behind a push, whose two exchanges are answered; no call is under way then
module _ (z : World) (inv : Inv None ⊥ z) (n : ℕ) (i : is_fifo n ≡ true) (c d : Model) (o : Sound c) (s : Sound d) (t : List Said)
    (is : z ≡ record { chip = control_written d n (modified (request_change n) (word_of c (Register.Control n) % 2 ^ 32)); doing = idle; said = t }) where
  goes_from_there : GoesOut z n
  goes_from_there =
      goes_out n i z inv (ap (λ (x : World). x.doing) is)
      (ap (λ (x : World). read TXREQ (fifo_at x.chip n).control) is ∙ request_sets n i c d o s)

-- neither call is a scrub step
request_quiet : (n : ℕ) → scrubs (started (Request n)).at ≡ false
unfolding of_plan
request_quiet n = refl

transmit_quiet : (n : ℕ) (header : Header) (seq : ℕ) (payload : List ℕ) → scrubs (started (Transmit n header seq payload)).at ≡ false
unfolding of_transmit
transmit_quiet n header seq payload = refl

pub request_sends_lem : RequestSends
request_sends_lem c w g es r e n i =
    let v : World = world c w es in
    let inv = holds_always c w g es r in
    just_two (λ ys. GoesOut (after (Begin (Request n) ∷ calm ys) v) n)
    (λ b b'.
    let f = buses_fit b v.chip v.said (fits c w g es r) in
    let f' = buses_fit b' (buses b v.chip) _ f in
    let (s, same, is) = request_goes n i false idle_push idle_fetch (alone idle_push idle_fetch) b b' [] v.chip v.said in
    goes_from_there _ (run_keeps (Begin (Request n) ∷ calm (b ∷ b' ∷ [])) v (call_still v e (Request n) (request_quiet n, refl) (b ∷ b' ∷ [])) inv) n i _ _ f.sound f'.sound _
    (request_starts_at v e n i (calm (b ∷ b' ∷ [])) ∙ is ∙ nothing_more _))

pub transmit_sends_lem : TransmitSends
transmit_sends_lem c w g es r e n header seq payload (bs, h) =
    let v : World = world c w es in
    let inv = holds_always c w g es r in
    let k : Command = Transmit n header seq payload in
    let (i, coded) = encoded_for n header seq payload bs h in
    seven (λ ys. Takes (at_status v ys) n payload → GoesOut (after (Begin k ∷ calm ys) v) n)
    (λ b₁ b₂ b₃ b₄ b₅ b b' ok.
    let (d, s, one, is) = half_way v (fits c w g es r) e n header seq payload bs h b₁ b₂ b₃ b₄ b₅ i ok in
    let xs : List (List Bus) = b₁ ∷ b₂ ∷ b₃ ∷ b₄ ∷ b₅ ∷ [] in
    let there = subst (Inv None ⊥) (is [] ∙ nothing_more _) (run_keeps (Begin k ∷ calm xs) v (call_still v e k (transmit_quiet n header seq payload, refl) xs) inv) in
    let f = buses_fit b d s (record { sound = there.sound; lists = there.lists }) in
    let f' = buses_fit b' (buses b d) _ f in
    let u = pushed v (fits c w g es r) e n header seq payload bs h b₁ b₂ b₃ b₄ b₅ in
    let (s', same, goes) = request_goes n i true u idle_fetch (pushed_ready v (fits c w g es r) e n header seq payload bs h b₁ b₂ b₃ b₄ b₅) b b' [] d s in
    goes_from_there _ (run_keeps (Begin k ∷ calm (b₁ ∷ b₂ ∷ b₃ ∷ b₄ ∷ b₅ ∷ b ∷ b' ∷ [])) v (call_still v e k (transmit_quiet n header seq payload, refl) (b₁ ∷ b₂ ∷ b₃ ∷ b₄ ∷ b₅ ∷ b ∷ b' ∷ [])) inv) n i _ _ f.sound f'.sound _
    (is (b ∷ b' ∷ []) ∙ goes ∙ nothing_more _))
