-- Every message that the queue sends was the winner among those then held.
-- Assumes nothing.
use Prim.Native.Nat.{ℕ, ◌≤◌, ◌<◌}
use mathlib.Core.Path.{◌≡◌, refl, ap}
use mathlib.Core.Bool.{Bool, true, false}
use native.Mathlib.Omega.{arith}
use Rattle.std.specs.Prelude.{if◌then◌else◌}
use Rattle.header.specs.Header.{header_of}
use Rattle.message.specs.Message.{Message, Decoding, holds, no_frame, short}
use Rattle.ring.specs.QueueLaws.{Before}
use Rattle.ring.proofs.Ranks.{ordered}
use Rattle.state.specs.declared.Model.{Model}
use Rattle.bus.specs.Bus.{frame, nothing, output_of}
use Rattle.bus.specs.Queue.{queue_item, queue_rank, winner, queue_sends, queue_output}
use Rattle.bus.proofs.QueueLaws.{queue_winner_lem, header_told, first, second}
use Rattle.history.specs.Queue.{QueueTogether, Wins, WinnerSent}
use Rattle.history.proofs.Theorem.{holds_checked}

-- a frame that goes out is what its slot decodes to
out_is : (d : Decoding) (x : Message) → output_of d ≡ frame x → d ≡ holds x
out_is (holds m) x e = let z : m ≡ x = cc in ap holds z
out_is no_frame x e = let z : ◌≡◌ {A = ℕ} 0 1 = cc in absurd (omega arith)
out_is short x e = let z : ◌≡◌ {A = ℕ} 0 1 = cc in absurd (omega arith)

module _ (c : Model) (x : Message) where
  -- the order of two slots' ranks is that of their messages
  before_is : (k j : ℕ) (y : Message) → queue_item c k ≡ holds x → queue_item c j ≡ holds y → queue_rank c k ≤ queue_rank c j → Before x.header y.header
  unfolding queue_rank
  before_is k j y e f h = rw (header_told c k x e, header_told c j y f) ((ordered (first c k) (second c k) (first c j) (second c j)).0 h)

  not_before : (k j : ℕ) (y : Message) → queue_item c k ≡ holds x → queue_item c j ≡ holds y → queue_rank c k < queue_rank c j → Before y.header x.header → ⊥
  unfolding queue_rank
  not_before k j y e f h b =
      let back : Before (header_of (first c j) (second c j)) (header_of (first c k) (second c k)) = rw (header_told c k x e, header_told c j y f) at b in
      let l : queue_rank c j ≤ queue_rank c k = (ordered (first c j) (second c j) (first c k) (second c k)).1 back in
      omega arith

  wins : queue_output c ≡ frame x → (k : ℕ) × Wins c k x
  unfolding queue_output
  wins e = go (queue_sends c) refl e
    where
      go : (b : Bool) → queue_sends c ≡ b → (if b then output_of (queue_item c (winner c)) else nothing) ≡ frame x → (k : ℕ) × Wins c k x
      go true s o =
          let b = queue_winner_lem c s in
          let i = out_is (queue_item c (winner c)) x o in (
            winner c,
            record {
              holding = (b.lt, b.is, i);
              first = λ j y (l, h, f). before_is (winner c) j y i f (b.least j l h);
              lowest = λ j y (l, h, f) less. not_before (winner c) j y i f (b.tie j less h);
            },
          )
      go false s o = let z : ◌≡◌ {A = ℕ} 0 1 = cc in absurd (omega arith)

pub queue_together_lem : QueueTogether
queue_together_lem c w g es r y = (holds_checked c w g es r y).tale.queue tt

pub winner_sent_lem : WinnerSent
winner_sent_lem c w g es r y x e = wins _ x e
