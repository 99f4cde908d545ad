-- How many bytes an exchange that the chip answers wants.
-- Assumes nothing.
use mathlib.Core.Path.{◌≡◌}
use mathlib.Core.Bool.{◌&&◌}
use mathlib.Core.List.{List}
use Prim.Native.Nat.{ℕ, ◌-◌, ◌≤◌}
use native.Mathlib.Omega.{arith}
use lib.Dec.{eqb, ltb}
use lib.ListN.{length, get_or}
use borrow.Author.Tests.{ltb-false, eqb-true}
use Rattle.std.specs.Prelude.{Option, Some, None}
use Rattle.laws.proofs.Choice.{by_if}
use Rattle.laws.proofs.Table.{both}
use Rattle.spi.specs.declared.instruction.OpCode.{OpCode}
use Rattle.spi.specs.Instruction.{code_of}
use Rattle.place.specs.declared.Register.{Register}
use Rattle.operation.specs.declared.operation.Operation.{Operation}
use Rattle.operation.specs.Operation.{opcode, address, in_ram, at, read_at, write_at, checked_at, reset_at, asked}
use Rattle.place.specs.Place.{register_at}
use Rattle.operation.specs.Laws.{Sized, Sizes}
use Rattle.operation.proofs.Laws.{ram_told}

module _ (s : List ℕ) (want : ℕ) where
  -- a register is carried, or nothing is asked
  at_sized : (p : Option Register) (f : Register → Operation) → ((r : Register) → Sized s want (f r)) → Sized s want (at p f)
  at_sized (Some r) f h = h r
  at_sized None f h = tt

  read_sized : (a : ℕ) → Sized s want (read_at a want)
  unfolding read_at
  read_sized a =
      by_if (Sized s want) (in_ram a want)
      (λ e. let t = ram_told a want e in omega (arith, t.0, t.1))
      (λ e. by_if (Sized s want) (eqb want 4) (λ f. at_sized (register_at a) Operation.Read (λ r. eqb-true want 4 f)) (λ f. tt))

  write_sized : (a : ℕ) → want ≡ 0 → 2 ≤ length s → Sized s want (write_at a s)
  unfolding write_at
  write_sized a z l =
      by_if (Sized s want) (in_ram a (length s - 2))
      (λ e. let t = ram_told a (length s - 2) e in (z, l, omega (arith, t.0, t.1)))
      (λ e. by_if (Sized s want) (eqb (length s) 6) (λ f. at_sized (register_at a) _ (λ r. z)) (λ f. tt))

  checked_sized : (a : ℕ) → Sized s want (checked_at a s want)
  unfolding checked_at
  checked_sized a =
      by_if (Sized s want) (eqb (length s) 3 && eqb (get_or s 2 0) 4 && eqb want 6)
      (λ e. at_sized (register_at a) Operation.Checked (λ r. eqb-true want 6 (both (eqb (length s) 3 && eqb (get_or s 2 0) 4) (eqb want 6) e).1))
      (λ e. tt)

  reset_sized : (a : ℕ) → Sized s want (reset_at a s want)
  unfolding reset_at
  reset_sized a =
      by_if (Sized s want) (eqb a 0 && eqb (length s) 2 && eqb want 0)
      (λ e. eqb-true want 0 (both (eqb a 0 && eqb (length s) 2) (eqb want 0) e).1)
      (λ e. tt)

pub sizes : Sizes
unfolding asked
sizes s want =
    by_if (Sized s want) (ltb (length s) 2) (λ l. tt)
    (λ l. by_if (Sized s want) (eqb (opcode s) (code_of OpCode.Read))
    (λ o. by_if (Sized s want) (eqb (length s) 2) (λ e. read_sized s want (address s)) (λ e. tt))
    (λ o. by_if (Sized s want) (eqb (opcode s) (code_of OpCode.Write))
    (λ p. by_if (Sized s want) (eqb want 0) (λ e. write_sized s want (address s) (eqb-true want 0 e) (ltb-false (length s) 2 l)) (λ e. tt))
    (λ p. by_if (Sized s want) (eqb (opcode s) (code_of OpCode.ReadCrc))
    (λ q. checked_sized s want (address s))
    (λ q. by_if (Sized s want) (eqb (opcode s) (code_of OpCode.Reset)) (λ r. reset_sized s want (address s)) (λ r. tt)))))
