-- The request in the numbers of the push.
-- Assumes nothing.
use Prim.Native.Nat.{ℕ}
use mathlib.Core.Path.{◌≡◌, refl, ◌∙◌}
use mathlib.Core.Bool.{true}
use mathlib.Core.List.{List, []}
use lib.ListN.{length}
use Rattle.std.specs.Prelude.{if◌then◌else◌}
use Rattle.laws.proofs.Choice.{by_if}
use Rattle.fifo.specs.Control.{is_fifo}
use Rattle.spi.specs.declared.refusal.Refusal.{Refusal}
use Rattle.plan.specs.Step.{arrived_at, filled}
use Rattle.plan.specs.declared.item.Item.{Item}
use Rattle.plan.specs.PlanAt.{PlanAt}
use Rattle.tx_fifo.specs.Step.{done_at, is_done}
use Rattle.tx_fifo.specs.Numbers.{push_at, push_of}
use Rattle.tx_fifo.specs.Push.{Push}
use Rattle.tx_fifo.specs.PushAt.{PushAt}
use Rattle.tx_fifo.specs.declared.push.PushNumbers.{PushNumbers}
use Rattle.transmit.specs.Transmit.{Transmit, request_start}
use Rattle.transmit.specs.Numbers.{request_items}

-- a push and the request as it starts
abbrev pub begun : Push → Transmit
begun s = record { push = s; request = request_start s.fifo }

-- where a push that is done stands
done_at_lem : (at : PushAt) → at ≡ (if done_at at then PushAt.Done else at)
done_at_lem PushAt.Enabled = refl
done_at_lem PushAt.Control = refl
done_at_lem (PushAt.Status w) = refl
done_at_lem (PushAt.Address w) = refl
done_at_lem (PushAt.Write w m) = refl
done_at_lem (PushAt.Commit w) = refl
done_at_lem PushAt.BareAddress = refl
done_at_lem (PushAt.BareWrite m) = refl
done_at_lem PushAt.BareControl = refl
done_at_lem PushAt.Done = refl
done_at_lem (PushAt.Refused r) = refl

pub is_done_lem : (p : PushNumbers) → is_done (push_of p []) ≡ true → push_at p ≡ PushAt.Done
is_done_lem p e = done_at_lem (push_at p) ∙ rw e

-- behind the items of a request there is none
pub at_end : (fifo : ℕ)
    → arrived_at Refusal.SpiRead (filled (request_items fifo)) (length (request_items fifo))
    ≡ record { failed = Refusal.SpiRead; items = filled (request_items fifo); next = 15; at = PlanAt.Done }
unfolding arrived_at
at_end fifo =
    by_if
    (λ (is : List Item). arrived_at Refusal.SpiRead (filled is) (length is) ≡ record { failed = Refusal.SpiRead; items = filled is; next = 15; at = PlanAt.Done })
    (is_fifo fifo) (λ e. refl) (λ e. refl)
