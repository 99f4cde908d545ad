-- An exchange that the chip answers receives as many bytes as were wanted.
-- Assumes nothing.
use Prim.Native.Nat.{ℕ}
use native.Mathlib.Omega.{arith}
use mathlib.Core.Path.{◌≡◌, sym}
use mathlib.Core.List.{List}
use lib.ListN.{length}
use Rattle.laws.proofs.Choice.{by_if}
use Rattle.words.specs.Words.{le_bytes, be_bytes}
use Rattle.operation.specs.declared.operation.Operation.{Operation}
use Rattle.operation.specs.Operation.{asked}
use Rattle.operation.specs.Laws.{Sized}
use Rattle.operation.proofs.Sizes.{sizes}
use Rattle.state.specs.declared.Model.{Model}
use Rattle.bank.specs.Registers.{register_written}
use Rattle.model.specs.Exchange.{Reply, checked_bytes, performed, exchange}
use Rattle.reach.proofs.Kept.{always_valid_lem}
use Rattle.history.specs.Demand.{Whole, AnsweredWhole}
use Rattle.history.proofs.Bytes.{length_part}

whole_by : (s : List ℕ) (want : ℕ) (m : Model) → length m.ram ≡ 2048 → (o : Operation) → Sized s want o → Whole (performed o s want m).reply want
unfolding performed checked_bytes le_bytes be_bytes
whole_by s want m l Operation.Reset z = sym z
whole_by s want m l (Operation.Read r) z = sym z
whole_by s want m l (Operation.Checked r) z = sym z
whole_by s want m l (Operation.Write r w) z = by_if (λ (x : Reply). Whole x want) (register_written m r w).granted (λ e. sym z) (λ e. z)
whole_by s want m l (Operation.ReadRam a) z = length_part m.ram a want (omega (arith, l, z))
whole_by s want m l (Operation.WriteRam a) z = sym z.0
whole_by s want m l Operation.None z = tt

pub answered_whole_lem : AnsweredWhole
unfolding exchange
answered_whole_lem m g s want = whole_by s want m (always_valid_lem m g).ram (asked s want) (sizes s want)
