-- A get hands out the oldest message exactly if its FIFO receives and held one at the status read.
-- Assumes nothing.
use Prim.Native.Nat.{ℕ, zero, suc, min, ◌≤◌, ◌<◌}
use native.Mathlib.Omega.{arith}
use mathlib.Core.Path.{◌≡◌, refl, sym, ap, ◌∙◌}
use mathlib.Core.Bool.{Bool, true, false}
use mathlib.Core.Logic.{◌↔◌}
use mathlib.Core.List.{List, [], ◌∷◌, ◌++◌}
use lib.ListN.{length, take, drop, length-take}
use lib.Dec.{eqb}
use borrow.Author.Tests.{eqb-false, eq-eqb, ne_eqb}
use Rattle.std.specs.Prelude.{if◌then◌else◌}
use Rattle.laws.proofs.Choice.{by_if}
use Rattle.field.specs.Field.{flag, read}
use Rattle.fifo.specs.Control.{is_fifo}
use Rattle.parts.specs.Parts.{put}
use Rattle.words.specs.Words.{le_at}
use Rattle.header.specs.Header.{DLC, FDF}
use Rattle.message.proofs.Checks.{in_le}
use Rattle.message.specs.Message.{Message, body_at, Decoding, holds, no_frame, short, message_in, decoding}
use Rattle.message.proofs.Round.{Held, is_held}
use Rattle.call.specs.declared.Outcome.{Outcome}
use Rattle.rx_fifo.specs.Outcome as found
use Rattle.ring.specs.Ring.{sending}
use Rattle.state.specs.declared.Model.{Model}
use Rattle.state.specs.Model.{fifo_at, frozen_at}
use Rattle.bus.specs.Held.{item_at}
use Rattle.reach.specs.Bus.{Bus}
use Rattle.history.specs.Command.{Get}
use Rattle.history.specs.History.{Said, called, idle, World}
use Rattle.history.specs.Lists.{handed_out_in}
use Rattle.history.specs.Demand.{all, at_status, calls, Answers, Gives}
use Rattle.history.proofs.Few.{same_last}
use Rattle.history.proofs.Bus.{oldest}
use Rattle.history.proofs.Calm.{Fit, buses_fit}
use Rattle.history.proofs.FetchExactly.{tells, fetch_said, get_said}
use Rattle.history.proofs.Fetching.{put_message, item_is}

-- what is not 0 is above it
above : (a : ℕ) → (a ≡ 0 → ⊥) → 0 < a
above zero h = absurd (h refl)
above (suc a) h = omega arith

-- a message received has SEQ 0 and no more than 64 bytes, so it comes back out of the lent buffer
module _ (n : ℕ) (buf : List ℕ) where
  abbrev out_of : Decoding → List Message
  out_of x = handed_out_in n (tells (Get n buf) x buf)

  comes_back : (y : Bool) (b : List ℕ) (m : Message) → decoding false y b ≡ holds m → out_of (holds m) ≡ m ∷ []
  unfolding message_in
  comes_back y b m e =
      let h : Held false y b m = is_held false y b m e in
      let none : m.seq ≡ 0 = sym (ap (λ (x : Message). x.seq) h.message) in
      let cut : take h.long (drop (body_at y) b) ≡ m.payload = ap (λ (x : Message). x.payload) h.message in
      let most : h.long ≤ 64 = in_le false (flag FDF (le_at b 4)) h.long (read DLC (le_at b 4)) h.length_is in
      let len : length m.payload ≡ min h.long (length (drop (body_at y) b)) = ap length (sym cut) ∙ length-take h.long (drop (body_at y) b) in
      rw (eq-eqb n n refl) (ap (λ (x : Message). x ∷ []) (put_message m buf none (omega (arith, len, most))))

  -- without a message nothing is handed out
  out_none : (m : Message) → (if eqb n n then [] else []) ≡ m ∷ [] → ⊥
  out_none m h =
      let no : ◌≡◌ {A = List Message} [] (m ∷ []) = rw (eq-eqb n n refl) at h in
      let z : ◌≡◌ {A = ℕ} 0 1 = cc in absurd (omega (arith, z))

  -- what is handed out is the message
  out_only : (y : Bool) (b : List ℕ) (x : Decoding) → decoding false y b ≡ x → (m : Message) → out_of x ≡ m ∷ [] → x ≡ holds m
  out_only y b (holds x) e m h =
      let same : x ∷ [] ≡ m ∷ [] = sym (comes_back y b x e) ∙ h in
      cc
  out_only y b no_frame e m h = absurd (out_none m h)
  out_only y b short e m h = absurd (out_none m h)

module _ (d : Model) (n : ℕ) (buf : List ℕ) (m : Message) where
  abbrev Good : Type 0
  Good = Gives d n × (item_at d n 0 ≡ holds m)

  if_got : handed_out_in n (fetch_said (Get n buf) d n buf) ≡ m ∷ [] → Good
  unfolding fetch_said
  if_got =
      let P : Said → Type 0 = λ x. handed_out_in n x ≡ m ∷ [] → Good in
      by_if P (sending (frozen_at d n))
      (λ e h. absurd (out_none n buf m h))
      (λ e. by_if P (eqb (fifo_at d n).count 0)
      (λ y h. absurd (out_none n buf m h))
      (λ y h. ((e, above _ (eqb-false (fifo_at d n).count 0 y)), out_only n buf _ _ (item_at d n 0) (item_is d n e) m h)))

  got_if : Good → handed_out_in n (fetch_said (Get n buf) d n buf) ≡ m ∷ []
  unfolding fetch_said
  got_if ((e, y), item) = rw (e, ne_eqb (fifo_at d n).count 0 (λ z. omega (arith, z, y)), item) (comes_back n buf _ _ m (item_is d n e ∙ item))

module _ (v : World) (f : Fit v.chip v.said) (e : v.doing ≡ idle) (n : ℕ) (buf : List ℕ) (i : is_fifo n ≡ true) (long : 64 ≤ length buf)
    (xs : List (List Bus)) (l : length xs ≡ 9) where
  pub got_iff_lem : (m : Message) → ((x : Said) × Answers v (Get n buf) xs (x ∷ []) × (handed_out_in n x ≡ m ∷ [])) ↔ Good (at_status v xs) n buf m
  got_iff_lem m =
      let says = get_said v f e n buf i long xs l in (
        λ (x, said, out). if_got (at_status v xs) n buf m (ap (handed_out_in n) (sym (same_last (calls v.said) _ _ (sym said ∙ says))) ∙ out),
        λ good. (_, says, got_if (at_status v xs) n buf m good),
      )

  -- the slot of the oldest decodes, and the get is done with that message
  pub get_hands_out_lem : Gives (at_status v xs) n
      → (m : Message) × (item_at (at_status v xs) n 0 ≡ holds m)
      × Answers v (Get n buf) xs (called (Get n buf) (Outcome.Message (found.found_of m)) (put buf 0 m.payload) ∷ [])
  unfolding fetch_said
  get_hands_out_lem (rx, some) =
      let d : Model = at_status v xs in
      let g = buses_fit (all (take 2 xs)) v.chip v.said f in
      let (m, item) = oldest d g.sound _ g.lists n i some in
      let is : fetch_said (Get n buf) d n buf ≡ called (Get n buf) (Outcome.Message (found.found_of m)) (put buf 0 m.payload)
      = rw (rx, ne_eqb (fifo_at d n).count 0 (λ z. omega (arith, z, some)), item) in
      (m, item, get_said v f e n buf i long xs l ∙ ap (λ (x : Said). calls v.said ++ (x ∷ [])) is)
