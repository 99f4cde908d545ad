-- The laws of a send from the transmit queue, and what a message held there says of its slot.
-- Assumes nothing.
use Prim.Native.Nat.{ℕ, ◌+◌, ◌<◌}
use mathlib.Core.Path.{◌≡◌, refl, sym, ap}
use mathlib.Core.Bool.{Bool, true, false, ◌&&◌, false≢true}
use mathlib.Core.List.{List, [], ◌∷◌}
use native.Mathlib.Omega.{arith}
use borrow.Author.Tests.{ltb-true}
use lib.Dec.{ltb, leb}
use lib.ListN.{length}
use Rattle.std.specs.Prelude.{if◌then◌else◌, Option, Some, None}
use Rattle.laws.proofs.Choice.{by_if}
use Rattle.laws.proofs.Table.{both}
use Rattle.parts.specs.Parts.{part}
use Rattle.words.specs.Words.{le_at}
use Rattle.field.specs.Field.{read, flag}
use Rattle.field.proofs.Laws.{field_lt}
use Rattle.fifo.specs.Control.{TXREQ}
use Rattle.header.specs.declared.Header.{Header}
use Rattle.header.specs.Header.{SID, EID, IDE, DLC, FDF, sid_of, eid_of, id_in, header_of}
use Rattle.message.specs.Message.{Message, Decoding, holds, message_in, body_at, length_in, by_length, decoding}
use Rattle.ring.specs.Layout.{size}
use Rattle.ring.specs.Queue.{no_slot, is_held}
use Rattle.ring.specs.QueueLaws.{Before}
use Rattle.ring.proofs.Words.{depth_most}
use Rattle.ring.proofs.Places.{best_found_lem}
use Rattle.ring.proofs.Ranks.{ordered}
use Rattle.state.specs.declared.Model.{Model}
use Rattle.state.specs.Model.{frozen_at}
use Rattle.bus.specs.Bus.{nothing, output_of}
use Rattle.bus.specs.Numbers.{output_numbers}
use Rattle.bus.specs.Queue.{queue_depth, queue_slot, queue_item, held_queue, queue_rank, winner, queue_sends, queue_output, queue_model}
use Rattle.bus.specs.Laws.{taken_numbers, QueueNothingSent, QueueAnswers, QueueWinner, QueueIdle}
use Rattle.bus.proofs.Ram.{le_part}
use Rattle.bus.proofs.Laws.{quiet_if, taken_told}

-- ---- send

pub queue_nothing_sent_lem : QueueNothingSent
unfolding queue_output queue_model
queue_nothing_sent_lem m = quiet_if (queue_sends m) (queue_item m (winner m)) _ m

answered : (b : Bool) (x : Decoding) → output_numbers (if b then output_of x else nothing) ≡ (if b then taken_numbers x else 0 ∷ 0 ∷ [])
answered true x = taken_told x
answered false x = refl

pub queue_answers_lem : QueueAnswers
unfolding queue_output
queue_answers_lem m = answered (queue_sends m) (queue_item m (winner m))

pub queue_winner_lem : QueueWinner
unfolding queue_sends winner
queue_winner_lem m s =
    let l : winner m < no_slot = ltb-true _ _ (both (m.fixed.queue && flag TXREQ m.queue.control) (ltb (winner m) no_slot) s).1 in
    (best_found_lem (is_held m.queue) (queue_rank m) (queue_depth m) (depth_most (frozen_at m 0))).0 (λ e. omega arith)

pub queue_idle_lem : QueueIdle
unfolding queue_sends queue_output queue_model held_queue
queue_idle_lem m e = record { sent = rw e; left = rw e; held = rw e }

-- ---- a message held

module _ (sending stamped : Bool) (b : List ℕ) (x : Message) where
  abbrev Says : Decoding → Type 0
  Says d = d ≡ holds x → x.header ≡ header_of (le_at b 0) (le_at b 4)

  by_length_lem : (n : Option ℕ) → Says (by_length n sending stamped b)
  unfolding message_in
  by_length_lem (Some n) =
      by_if Says (leb (body_at stamped + n) (length b))
      (λ t e. let i : message_in sending stamped n b ≡ x = cc in ap (λ (y : Message). y.header) (sym i))
      (λ t e. let z : ◌≡◌ {A = ℕ} 0 1 = cc in absurd (omega arith))
  by_length_lem None = λ e. let z : ◌≡◌ {A = ℕ} 0 1 = cc in absurd (omega arith)

  -- a message that bytes hold has the header that their first two words say
  pub header_in : Says (decoding sending stamped b)
  unfolding decoding
  header_in =
      by_if Says (ltb (length b) (body_at stamped)) (λ t e. let z : ◌≡◌ {A = ℕ} 0 1 = cc in absurd (omega arith))
      (λ t. by_length_lem (length_in sending (flag FDF (le_at b 4)) (read DLC (le_at b 4))))

-- the identifier's parts are read again
sid_back : (b : Bool) (w : ℕ) → read SID w ≡ sid_of b (id_in b w)
sid_back true w = omega (arith, field_lt w 11 18)
sid_back false w = refl

eid_back : (b : Bool) (w : ℕ) → b ≡ true → read EID w ≡ eid_of b (id_in b w)
eid_back true w e = omega (arith, field_lt w 11 18)
eid_back false w e = absurd (false≢true e)

-- what two header words say of a message
pub record Told (w₀ w₁ : ℕ) (h : Header) : Type 0 where
  pub sid : read SID w₀ ≡ sid_of h.extended h.id
  pub ide : flag IDE w₁ ≡ h.extended
  pub eid : h.extended ≡ true → read EID w₀ ≡ eid_of h.extended h.id

told : (w₀ w₁ : ℕ) → Told w₀ w₁ (header_of w₀ w₁)
unfolding header_of
told w₀ w₁ = record { sid = sid_back (flag IDE w₁) w₀; ide = refl; eid = eid_back (flag IDE w₁) w₀ }

module _ (m : Model) where
  -- the two header words of slot k
  abbrev pub first : ℕ → ℕ
  first k = le_at m.ram (queue_slot m k)

  abbrev pub second : ℕ → ℕ
  second k = le_at m.ram (queue_slot m k + 4)

  pub header_told : (k : ℕ) (x : Message) → queue_item m k ≡ holds x → x.header ≡ header_of (first k) (second k)
  unfolding queue_item size
  header_told k x e =
      let z = size (frozen_at m 0) in
      let s = queue_slot m k in
      rw (le_part m.ram s z 0 s (omega arith) (omega arith), le_part m.ram s z 4 (s + 4) (omega arith) refl) at (header_in true false (part m.ram s z) x e)

  pub rank_told : (k : ℕ) (x : Message) → queue_item m k ≡ holds x → Told (first k) (second k) x.header
  rank_told k x e = rw (header_told k x e) (told (first k) (second k))

  -- the winner's message goes before every other held
  pub wins : queue_sends m ≡ true → (j : ℕ) → j < queue_depth m → is_held m.queue j ≡ true → (x y : Message)
      → queue_item m (winner m) ≡ holds x → queue_item m j ≡ holds y → Before x.header y.header
  unfolding queue_rank
  wins s j l h x y e f =
      rw (header_told (winner m) x e, header_told j y f)
      ((ordered (first (winner m)) (second (winner m)) (first j) (second j)).0 ((queue_winner_lem m s).least j l h))
