-- The slot that wins arbitration, found from the last slot down.
-- Assumes nothing.
use Prim.Native.Nat.{ℕ, suc, ◌+◌, ◌-◌, ◌*◌, ◌≤◌, ◌<◌}
use mathlib.Core.Path.{◌≡◌, sym, ap, ◌∙◌}
use mathlib.Core.Bool.{Bool, true, false}
use native.Mathlib.Omega.{arith}
use Rattle.std.specs.Prelude.{if◌then◌else◌}
use Rattle.ring.specs.Layout.{size, base, slot_at}
use Rattle.ring.specs.Queue.{is_held, no_slot, better, best}
use Rattle.state.specs.declared.Model.{Model}
use Rattle.state.specs.Model.{frozen_at}
use Rattle.bus.specs.Queue.{queue_depth, queue_slot, rank_at, queue_rank, winner}

module _ (p : ℕ → Bool) (rank : ℕ → ℕ) (d i : ℕ) where
  pub best_none : no_slot ≡ best p rank i (i - i)
  unfolding best
  best_none = let e : i - i ≡ 0 = omega arith in rw e

  best_more : 0 < i → i ≤ d
      → best p rank (i - 1) (d - (i - 1)) ≡ (if p (i - 1) then better rank (i - 1) (best p rank i (d - i)) else best p rank i (d - i))
  unfolding best
  best_more h l =
      let e : d - (i - 1) ≡ suc (d - i) = omega arith in
      let f : i - 1 + 1 ≡ i = omega arith in
      rw (e, f)

  -- one slot more, that is held or not
  module _ (b : ℕ) (h : 0 < i) (l : i ≤ d) (e : b ≡ best p rank i (d - i)) where
    pub best_held : p (i - 1) ≡ true → better rank (i - 1) b ≡ best p rank (i - 1) (d - (i - 1))
    best_held t = rw (best_more h l, t, e)

    pub best_free : p (i - 1) ≡ false → b ≡ best p rank (i - 1) (d - (i - 1))
    best_free t = rw (best_more h l, t) e

module _ (m : Model) where
  -- the queue's slots begin at the RAM's start
  pub slot_is : (k : ℕ) → queue_slot m k ≡ k * size (frozen_at m 0)
  unfolding queue_slot slot_at base
  slot_is k = omega arith

  ranks : (λ k. rank_at m.ram (k * size (frozen_at m 0))) ≡ queue_rank m
  unfolding queue_rank
  ranks = λ i k. ap (rank_at m.ram) (sym (slot_is k)) i

  pub winner_is : (b d s i : ℕ) → d ≡ queue_depth m → s ≡ size (frozen_at m 0) → i ≡ 0
      → b ≡ best (is_held m.queue) (λ k. rank_at m.ram (k * s)) i (d - i) → b ≡ winner m
  unfolding winner
  winner_is b d s i f g z e =
      let n : d - i ≡ queue_depth m = omega arith in
      e ∙ rw (n, g, z) (ap (λ (r : ℕ → ℕ). best (is_held m.queue) r 0 (queue_depth m)) ranks)
