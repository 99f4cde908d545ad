-- How often the request of a transmit still asks.
-- Assumes nothing.
use Prim.Native.Nat.{ℕ}
use mathlib.Core.Path.{◌≡◌, refl}
use mathlib.Core.List.{List}
use lib.ListN.{length, drop}
use Rattle.std.specs.Prelude.{if◌then◌else◌}
use Rattle.laws.proofs.Choice.{by_if}
use Rattle.fifo.specs.Control.{is_fifo}
use Rattle.plan.specs.Step.{arrived_at, filled}
use Rattle.plan.specs.Talk.{all_asks, plan_left}
use Rattle.plan.specs.declared.item.Item.{Item}
use Rattle.plan.specs.Plan.{Plan}
use Rattle.transmit.specs.Transmit.{request_start}
use Rattle.transmit.specs.Numbers.{request_items}

-- nothing is asked behind the items of a request
pub none_behind : (fifo : ℕ) → all_asks (drop (length (request_items fifo)) (filled (request_items fifo))) ≡ 0
none_behind fifo = by_if (λ (is : List Item). all_asks (drop (length is) (filled is)) ≡ 0) (is_fifo fifo) (λ e. refl) (λ e. refl)

-- a request as it starts reads and writes, where there is such a FIFO
pub request_left : (fifo : ℕ) → plan_left (request_start fifo) ≡ (if is_fifo fifo then 2 else 0)
unfolding request_start arrived_at
request_left fifo = by_if (λ (p : Plan). plan_left p ≡ (if is_fifo fifo then 2 else 0)) (is_fifo fifo) (λ e. simp e) (λ e. simp e)
