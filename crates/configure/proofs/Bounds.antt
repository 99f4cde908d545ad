-- How many exchanges and waits each call makes at most, whatever is answered. That a call's machine says of every answer what
-- its talk says is `follows`, `run_talk` and `outcome_talk` of crate `plan`, from `call_talk` on: each call is a plan.
-- Assumes nothing.
use Rattle.areas.specs.declared.settings.TxQueueConfiguration.{TxQueueConfiguration}
use Prim.Native.Nat.{ℕ, ◌+◌, ◌≤◌}
use mathlib.Core.Bool.{Bool, not}
use native.Mathlib.Omega.{arith}
use lib.Dec.{eqb}
use Rattle.std.specs.Prelude.{if◌then◌else◌, Option, Some, None, Result, Ok, Err}
use Rattle.laws.proofs.Choice.{by_if}
use Rattle.configuration.specs.CanControl.{REQOP, DNCNT}
use Rattle.fifo.specs.Control.{is_fifo}
use Rattle.spi.specs.declared.refusal.Refusal.{Refusal}
use Rattle.spi.specs.Talk.{on_done, Within}
use Rattle.plan.specs.declared.item.Poll.{Poll}
use Rattle.plan.specs.declared.item.Item.{Item}
use Rattle.plan.specs.Talk.{asks_of}
use Rattle.plan.specs.Prepared.{Prepared, ready, turned_down, talk_for}
use Rattle.plan.proofs.Runs.{call_bound, call_within, test_within}
use Rattle.changes.specs.declared.settings.OscillatorConfiguration.{OscillatorConfiguration}
use Rattle.changes.specs.declared.settings.IoConfiguration.{IoConfiguration}
use Rattle.changes.specs.declared.settings.BitTimeConfiguration.{BitTimeConfiguration}
use Rattle.changes.specs.declared.settings.Settings.{Settings}
use Rattle.areas.specs.declared.settings.FifoConfiguration.{FifoConfiguration}
use Rattle.areas.specs.declared.settings.FilterConfiguration.{FilterConfiguration}
use Rattle.changes.specs.Changes.{fits, timing_fits, counter_change, dncnt_change}
use Rattle.areas.specs.Areas.{fifo_fits, queue_fits, is_filter, filter_check}
use Rattle.adjust.specs.Calls.{filter_items, set_op_mode, configure_osc, configure_io, configure_bit_timing, configure_fifo, configure_tx_queue, disable_filter, configure_filter}
use Rattle.configure.specs.Whole.{configure_items, configure_all}

-- a choice of two items
either : (b : Bool) (i j : Item) → asks_of (if b then i else j) ≤ asks_of i + asks_of j
either b i j = by_if (λ k. asks_of k ≤ asks_of i + asks_of j) b (λ e. omega arith) (λ e. omega arith)

pub set_op_mode_bound : (m : ℕ) → Within 11 (talk_for (set_op_mode m))
unfolding set_op_mode
set_op_mode_bound m = test_within 11 (fits REQOP m) (ready _ _) _ (call_bound (ready _ _))

pub configure_osc_bound : (o : OscillatorConfiguration) → Within 7 (talk_for (configure_osc o))
configure_osc_bound o =
    let p = either o.pll (Item.Poll Poll.Pll 2) Item.Nothing in
    call_within 7 (configure_osc o) (omega (arith, p))

pub configure_io_bound : (c : IoConfiguration) → Within 2 (talk_for (configure_io c))
configure_io_bound c = call_bound (configure_io c)

pub configure_bit_timing_bound : (b : BitTimeConfiguration) → Within 6 (talk_for (configure_bit_timing b))
unfolding configure_bit_timing
configure_bit_timing_bound b = test_within 6 (timing_fits b) (ready _ _) _ (call_bound (ready _ _))

pub configure_all_bound : (s : Settings) → Within 102 (talk_for (configure_all s))
unfolding configure_all
configure_all_bound s =
    let p = either s.oscillator.pll (Item.Poll Poll.Pll 2) Item.Nothing in
    let t = either s.counter (Item.Change counter_change) Item.Nothing in
    let n = either (eqb s.dncnt 0) Item.Nothing (Item.Change (dncnt_change s.dncnt)) in
    test_within 102 (timing_fits s.bittime) (if fits DNCNT s.dncnt then ready _ _ else turned_down _) _
    (test_within 102 (fits DNCNT s.dncnt) (ready _ _) _ (call_within 102 (ready _ (configure_items s)) (omega (arith, p, t, n))))

pub configure_fifo_bound : (n : ℕ) (c : FifoConfiguration) → Within 2 (talk_for (configure_fifo n c))
unfolding configure_fifo
configure_fifo_bound n c =
    let P : Prepared → Type 0 = λ p. Within 2 (talk_for p) in
    by_if P (not (is_fifo n)) (λ e. tt) (λ e. by_if P (not (fifo_fits c)) (λ d. tt) (λ d. call_bound (ready _ _)))

pub configure_tx_queue_bound : (q : Option TxQueueConfiguration) → Within 4 (talk_for (configure_tx_queue q))
unfolding configure_tx_queue
configure_tx_queue_bound None = call_within 4 (ready _ _) (omega arith)
configure_tx_queue_bound (Some c) = test_within 4 (queue_fits c) (ready _ _) _ (call_bound (ready _ _))

pub disable_filter_bound : (f : ℕ) → Within 2 (talk_for (disable_filter f))
unfolding disable_filter
disable_filter_bound f = test_within 2 (is_filter f) (ready _ _) _ (call_bound (ready _ _))

pub configure_filter_bound : (f : ℕ) (c : FilterConfiguration) → Within 8 (talk_for (configure_filter f c))
unfolding configure_filter
configure_filter_bound f c = go (filter_check f c)
  where
    go : (d : Result (Unit {0}) Refusal) → Within 8 (talk_for (on_done turned_down d (ready Refusal.SpiRead (filter_items f c))))
    go (Ok _) = call_bound (ready Refusal.SpiRead (filter_items f c))
    go (Err r) = tt
