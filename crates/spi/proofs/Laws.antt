-- What an instruction's bytes say, and what a range test tells.
-- Assumes nothing.
use mathlib.Core.Path.{◌≡◌, refl, ap}
use mathlib.Core.List.{List, ◌++◌}
use Prim.Native.Nat.{ℕ, ◌+◌, ◌-◌, ◌*◌, ◌/◌, ◌%◌, ◌^◌, ◌≤◌, ◌<◌}
use native.Mathlib.Omega.{arith}
use lib.Dec.{leb}
use lib.ListN.{length, take, replicate}
use lib.Seq.{take_at}
use borrow.Author.Tests.{leb-true}
use mathlib.Core.Bool.{true}
use Rattle.laws.proofs.Table.{both}
use Rattle.words.specs.Words.{be_at}
use Rattle.words.proofs.Laws.{be_back}
use Rattle.parts.specs.Parts.{zeroed}
use Rattle.spi.specs.Ask.{head_of, body_of, sent, exchange_of}
use Rattle.spi.specs.declared.ask.Ask.{Ask}
use Rattle.spi.specs.Instruction.{code_of, command_of}
use Rattle.spi.specs.Ram.{in_range}
use Rattle.spi.specs.declared.instruction.OpCode.{OpCode}

code_lt : (op : OpCode) → code_of op < 16
code_lt OpCode.Reset = omega arith
code_lt OpCode.Write = omega arith
code_lt OpCode.Read = omega arith
code_lt OpCode.WriteCrc = omega arith
code_lt OpCode.ReadCrc = omega arith

-- the 16 bits of a command, whatever follows them
pub command_back : (op : OpCode) (a : ℕ) (r : List ℕ) → be_at (command_of op a ++ r) 0 ≡ code_of op * 2 ^ 12 + a % 2 ^ 12
unfolding command_of
command_back op a r = be_back (code_of op * 2 ^ 12 + a % 2 ^ 12) r (omega (arith, code_lt op))

-- its opcode and its address
pub code_back : (op : OpCode) (a : ℕ) (r : List ℕ) → be_at (command_of op a ++ r) 0 / 2 ^ 12 ≡ code_of op
code_back op a r = rw (command_back op a r) (omega arith)

pub address_back : (op : OpCode) (a : ℕ) (r : List ℕ) → be_at (command_of op a ++ r) 0 % 2 ^ 12 ≡ a % 2 ^ 12
address_back op a r = rw (command_back op a r) (omega arith)

pub range_told : (a n : ℕ) → in_range a n ≡ true → (0x400 ≤ a) × (a + n ≤ 0xC00)
unfolding in_range
range_told a n e =
    let (l, r) = both (leb 0x400 a) (leb (a + n) 0xC00) e in
    (leb-true 0x400 a l, leb-true (a + n) 0xC00 r)

-- what goes out by an exchange is what the ask sends
pub sends : (ask : Ask) (body : List ℕ) → take (exchange_of ask).send (exchange_of ask).head ++ take (exchange_of ask).body body ≡ sent ask body
unfolding exchange_of zeroed sent
sends ask body = ap (λ (h : List ℕ). h ++ take (body_of ask) body) (take_at (head_of ask) (replicate (6 - length (head_of ask)) 0) (length (head_of ask)) refl)
