-- What deliver answers and leaves, by the first cause that turns a frame down.
-- Assumes nothing.
use Prim.Native.Nat.{ℕ, ◌≤◌}
use mathlib.Core.Path.{◌≡◌, refl, sym, ap, ◌∙◌}
use mathlib.Core.Bool.{Bool, true, false, ◌&&◌, not, false≢true}
use mathlib.Core.List.{List, [], ◌∷◌}
use mathlib.Core.Logic.{◌↔◌}
use native.Mathlib.Omega.{arith}
use borrow.Author.Tests.{le-ltb, eq-eqb, ltb-true, ltb-false, leb-true, leb-false, eqb-true, not-true, not-false}
use lib.Dec.{ltb, leb, eqb}
use lib.ListN.{length, get_or}
use Rattle.std.specs.Prelude.{if◌then◌else◌, Result, Ok, Err}
use Rattle.laws.proofs.Choice.{by_if}
use Rattle.laws.proofs.Table.{both}
use Rattle.fifo.specs.Control.{payload_of, is_fifo}
use Rattle.spi.specs.declared.refusal.Refusal.{Refusal}
use Rattle.header.specs.declared.Header.{Header}
use Rattle.header.specs.Dlc.{received_length}
use Rattle.header.specs.Header.{top_id}
use Rattle.message.specs.Message.{arrival_check, arriving}
use Rattle.ring.specs.Ring.{sending, depth, claimed, overflowed}
use Rattle.state.specs.declared.Model.{Model}
use Rattle.state.specs.Model.{fifo_at, frozen_at, with_fifo, written}
use Rattle.bus.specs.declared.arrival.Undelivered.{Undelivered}
use Rattle.bus.specs.declared.arrival.Delivered.{Delivered}
use Rattle.bus.specs.Held.{slot_of}
use Rattle.bus.specs.Bus.{stamp_for, delivered, receives, appended, give, by_check, deliver_of}
use Rattle.bus.specs.Numbers.{delivery_numbers}
use Rattle.bus.specs.Laws.{means_payload, first_cause, deliver_answer, DeliverAnswers, Misfits, Deliver22, Deliverable, DeliveredIff, Leaves, TurnedDown}
use Rattle.bus.proofs.Laws.{held_length}
use Rattle.bus.proofs.Fitting.{object_fits}

-- a fact that is both true and false
pub clash : {X : Type 0} {b : Bool} → b ≡ false → b ≡ true → X
clash f t = absurd (false≢true (sym f ∙ t))

-- what holds of each result of a frame's check holds of the check
by_checked : (Q : Result (Unit {0}) Refusal → Type 0) (t a e : Bool)
    → (t ≡ true → Q (Err Refusal.BadIdentifier)) → (t ≡ false → (not a && e) ≡ false → Q (Err Refusal.BadPayload))
    → (t ≡ false → (not a && e) ≡ true → Q (Ok tt))
    → Q (if t then Err Refusal.BadIdentifier else if a then Err Refusal.BadPayload else if e then Ok tt else Err Refusal.BadPayload)
by_checked Q true a e x y z = x refl
by_checked Q false true e x y z = y refl refl
by_checked Q false false true x y z = z refl refl
by_checked Q false false false x y z = y refl refl

-- DLC and payload agree
module _ (header : Header) (dlc : ℕ) (payload : List ℕ) where
  pub agree : means_payload header dlc payload ≡ true → (dlc ≤ 15) × (received_length header.fdf dlc ≡ length payload)
  agree e =
      let (a, b) = both (not (ltb 15 dlc)) _ e in
      (ltb-false 15 dlc (not-true _ a), eqb-true _ _ b)

  pub agreed : dlc ≤ 15 → received_length header.fdf dlc ≡ length payload → means_payload header dlc payload ≡ true
  agreed l e = rw (le-ltb 15 dlc l, eq-eqb _ _ e)

module _ (m : Model) (n : ℕ) (header : Header) (dlc time : ℕ) (payload : List ℕ) where
  abbrev pub too_high : Bool
  too_high = ltb (top_id header.extended) header.id

  abbrev pub means : Bool
  means = means_payload header dlc payload

  pub by_check_lem : (Q : Result (Unit {0}) Refusal → Type 0)
      → (too_high ≡ true → Q (Err Refusal.BadIdentifier))
      → (too_high ≡ false → means ≡ false → Q (Err Refusal.BadPayload))
      → (too_high ≡ false → means ≡ true → arrival_check header dlc (length payload) ≡ Ok tt → Q (Ok tt))
      → Q (arrival_check header dlc (length payload))
  unfolding arrival_check
  by_check_lem Q a b c =
      by_checked (λ x. arrival_check header dlc (length payload) ≡ x → Q x) too_high (ltb 15 dlc) (eqb (received_length header.fdf dlc) (length payload))
      (λ t e. a t) (λ t f e. b t f) c refl

  -- what holds of each answer holds of deliver's; each may use the tests that lead to it
  pub by_deliver : (P : Delivered → Type 0)
      → (is_fifo n ≡ false → P (delivered (Err (Undelivered.Refused Refusal.BadNumber)) m))
      → (is_fifo n ≡ true → too_high ≡ true → P (delivered (Err (Undelivered.Refused Refusal.BadIdentifier)) m))
      → (is_fifo n ≡ true → too_high ≡ false → means ≡ false → P (delivered (Err (Undelivered.Refused Refusal.BadPayload)) m))
      → (is_fifo n ≡ true → too_high ≡ false → means ≡ true → arrival_check header dlc (length payload) ≡ Ok tt
      → P (give m n 0 dlc header time payload))
      → P (deliver_of m n header dlc time payload)
  unfolding deliver_of
  by_deliver P a b c f =
      by_if P (is_fifo n) (λ i. by_check_lem (λ y. P (by_check y m n header dlc time payload)) (b i) (c i) (f i)) a

  -- the causes that the FIFO and the mode are, in document 01's order
  pub by_give : (P : Delivered → Type 0) (hit : ℕ)
      → (m.fixed.configuring ≡ true → P (delivered (Err Undelivered.Configuration) m))
      → (m.fixed.configuring ≡ false → receives m n ≡ false → P (delivered (Err Undelivered.NotReceiving) m))
      → (m.fixed.configuring ≡ false → receives m n ≡ true → ltb (payload_of (frozen_at m n)) (length payload) ≡ true → P (delivered (Err Undelivered.TooLong) m))
      → (m.fixed.configuring ≡ false → receives m n ≡ true → ltb (payload_of (frozen_at m n)) (length payload) ≡ false
      → leb (depth (frozen_at m n)) (fifo_at m n).count ≡ true → P (delivered (Err Undelivered.Full) (with_fifo m n (overflowed true (fifo_at m n)))))
      → (m.fixed.configuring ≡ false → receives m n ≡ true → ltb (payload_of (frozen_at m n)) (length payload) ≡ false
      → leb (depth (frozen_at m n)) (fifo_at m n).count ≡ false
      → P (delivered (Ok tt) (with_fifo (written m (slot_of m n (fifo_at m n).count) (arriving header dlc hit (stamp_for m n time) payload)) n (claimed (fifo_at m n)))))
      → P (give m n hit dlc header time payload)
  unfolding give appended
  by_give P hit a b c d e =
      by_if P m.fixed.configuring a
      (λ x. by_if P (not (receives m n)) (λ y. b x (not-true _ y))
      (λ y. by_if P (ltb (payload_of (frozen_at m n)) (length payload)) (c x (not-false _ y))
      (λ z. by_if P (leb (depth (frozen_at m n)) (fifo_at m n).count) (d x (not-false _ y) z) (e x (not-false _ y) z))))

-- a FIFO that receives is one, and does not send
pub receives_is : (m : Model) (n : ℕ) → receives m n ≡ true → (is_fifo n ≡ true) × (sending (frozen_at m n) ≡ false)
unfolding receives
receives_is m n e =
    let (a, b) = both (is_fifo n) (not (sending (frozen_at m n))) e in
    (a, not-true _ b)

pub is_receiving : (m : Model) (n : ℕ) → is_fifo n ≡ true → sending (frozen_at m n) ≡ false → receives m n ≡ true
unfolding receives
is_receiving m n i s = rw (i, s)

-- what a FIFO tells of a frame that it was given is the first cause
pub give_told : (m : Model) (n hit d : ℕ) (header : Header) (time : ℕ) (payload : List ℕ) (Q : Result (Unit {0}) Undelivered → ℕ → Type 0)
    → Q (Err Undelivered.Configuration) 1 → Q (Err Undelivered.NotReceiving) 2 → Q (Err Undelivered.TooLong) 3 → Q (Err Undelivered.Full) 4 → Q (Ok tt) 0
    → Q (give m n hit d header time payload).delivery (first_cause m n payload)
give_told m n hit d header time payload Q q₁ q₂ q₃ q₄ q₀ =
    by_give m n header d time payload (λ x. Q x.delivery (first_cause m n payload)) hit
    (λ a. rw a q₁)
    (λ a b. rw (b, a) q₂)
    (λ a b c. rw (b, c, a) q₃)
    (λ a b c f. rw (held_length m n (receives_is m n b).0, b, c, f, a) q₄)
    (λ a b c f. rw (held_length m n (receives_is m n b).0, b, c, f, a) q₀)

pub deliver_answers_lem : DeliverAnswers
deliver_answers_lem m n header dlc time payload =
    by_deliver m n header dlc time payload (λ x. delivery_numbers x.delivery ≡ deliver_answer m n header dlc payload)
    (λ i. rw i)
    (λ i t. rw (i, t))
    (λ i t d. rw (i, t, d))
    (λ i t e k. rw (i, t, e) (give_told m n 0 dlc header time payload (λ x c. delivery_numbers x ≡ 0 ∷ c ∷ []) refl refl refl refl refl))

-- an answer of another number is not 22
pub not_22 : {X : Type 0} (a : ℕ) (l : List ℕ) → eqb a 22 ≡ false → (a ∷ l) ≡ 22 ∷ [] → X
not_22 a l f e = absurd (false≢true (sym f ∙ ap (λ (x : List ℕ). eqb (get_or x 0 0) 22) e))

-- 22 is given exactly where DLC and payload don't agree
pub misfit : (header : Header) (dlc : ℕ) (payload : List ℕ) → ltb (top_id header.extended) header.id ≡ false
    → means_payload header dlc payload ≡ false → Misfits header dlc payload
misfit header dlc payload t f =
    record { identifier = ltb-false (top_id header.extended) header.id t; not_both = λ l e. clash f (agreed header dlc payload l e) }

pub deliver_22 : Deliver22
deliver_22 m n header dlc time payload i =
    by_deliver m n header dlc time payload (λ x. (delivery_numbers x.delivery ≡ 22 ∷ []) ↔ Misfits header dlc payload)
    (λ j. clash j i)
    (λ j t. (not_22 21 [] refl, λ h. absurd (omega (arith, h.identifier, ltb-true))))
    (λ j t f. (λ e. misfit header dlc payload t f, λ h. refl))
    (λ j t e k.
    let o : (l : List ℕ) → 0 ∷ l ≡ 22 ∷ [] → Misfits header dlc payload = λ l. not_22 0 l refl in (
      give_told m n 0 dlc header time payload (λ x c. delivery_numbers x ≡ 22 ∷ [] → Misfits header dlc payload) (o _) (o _) (o _) (o _) (o _),
      λ h. absurd (h.not_both (agree header dlc payload e).0 (agree header dlc payload e).1),
    ))

abbrev arrived : Result (Unit {0}) Undelivered → Bool
arrived (Ok _) = true
arrived (Err Undelivered.Configuration) = false
arrived (Err Undelivered.NotReceiving) = false
arrived (Err Undelivered.TooLong) = false
arrived (Err Undelivered.Full) = false
arrived (Err (Undelivered.Refused r)) = false

pub never : {X : Type 0} (x : Result (Unit {0}) Undelivered) → arrived x ≡ false → x ≡ Ok tt → X
never x f q = clash f (ap arrived q)

pub give_iff : (m : Model) (n hit d : ℕ) (header : Header) (time : ℕ) (payload : List ℕ)
    → ltb (top_id header.extended) header.id ≡ false → means_payload header d payload ≡ true
    → ((give m n hit d header time payload).delivery ≡ Ok tt) ↔ Deliverable m n header d payload
give_iff m n hit d header time payload t e =
    by_give m n header d time payload (λ x. (x.delivery ≡ Ok tt) ↔ Deliverable m n header d payload) hit
    (λ a. (never _ refl, λ h. clash h.outside a))
    (λ a b. (never _ refl, λ h. clash b (is_receiving m n h.fifo h.receives)))
    (λ a b c. (never _ refl, λ h. absurd (omega (arith, h.fits, ltb-true))))
    (λ a b c f. (never _ refl, λ h. absurd (omega (arith, h.room, held_length m n h.fifo, leb-true))))
    (λ a b c f. (
      λ q. record {
        fifo = (receives_is m n b).0;
        identifier = ltb-false (top_id header.extended) header.id t;
        dlc_fits = (agree header d payload e).0;
        meant = (agree header d payload e).1;
        outside = a;
        receives = (receives_is m n b).1;
        fits = ltb-false (payload_of (frozen_at m n)) (length payload) c;
        room = omega (arith, held_length m n (receives_is m n b).0, leb-false (depth (frozen_at m n)) (fifo_at m n).count f);
      },
      λ h. refl,
    ))

pub delivered_iff_lem : DeliveredIff
delivered_iff_lem m n header dlc time payload =
    by_deliver m n header dlc time payload (λ x. (x.delivery ≡ Ok tt) ↔ Deliverable m n header dlc payload)
    (λ i. (never _ refl, λ h. clash i h.fifo))
    (λ i t. (never _ refl, λ h. absurd (omega (arith, h.identifier, ltb-true))))
    (λ i t f. (never _ refl, λ h. clash f (agreed header dlc payload h.dlc_fits h.meant)))
    (λ i t e k. give_iff m n 0 dlc header time payload t e)

-- an answer that says that nothing changed: neither delivered nor full
abbrev still : List ℕ → Bool
still a = not (eqb (get_or a 1 9) 0) && not (eqb (get_or a 1 9) 4)

pub kept : (a : List ℕ) (m : Model) (n : ℕ) → still a ≡ true → Leaves a m m n
kept a m n t = record { took = λ e. clash (ap still e) t; full = λ e. clash (ap still e) t; others = λ x y. refl }

-- of a FIFO that was given a frame
pub give_leaves : (m : Model) (n hit d : ℕ) (header : Header) (time : ℕ) (payload : List ℕ)
    → Leaves (delivery_numbers (give m n hit d header time payload).delivery) m (give m n hit d header time payload).model n
give_leaves m n hit d header time payload =
    by_give m n header d time payload (λ x. Leaves (delivery_numbers x.delivery) m x.model n) hit
    (λ a. kept (0 ∷ 1 ∷ []) m n refl)
    (λ a b. kept (0 ∷ 2 ∷ []) m n refl)
    (λ a b c. kept (0 ∷ 3 ∷ []) m n refl)
    (λ a b c f. record { took = λ e. absurd (omega (arith, ap (λ (l : List ℕ). get_or l 1 0) e)); full = λ e. refl; others = λ x y. absurd (y refl) })
    (λ a b c f. record {
      took = λ e. record {
        object = arriving header d hit (stamp_for m n time) payload;
        fits = object_fits m n hit d header time payload (ltb-false (payload_of (frozen_at m n)) (length payload) c);
        is = refl;
      };
      full = λ e. absurd (omega (arith, ap (λ (l : List ℕ). get_or l 1 0) e));
      others = λ x y. absurd (x refl);
    })

pub turned_down_lem : TurnedDown
turned_down_lem m n header dlc time payload =
    by_deliver m n header dlc time payload (λ x. Leaves (delivery_numbers x.delivery) m x.model n)
    (λ i. kept (20 ∷ []) m n refl)
    (λ i t. kept (21 ∷ []) m n refl)
    (λ i t d. kept (22 ∷ []) m n refl)
    (λ i t e k. give_leaves m n 0 dlc header time payload)
