-- What the driver's exchanges are read as.
-- Assumes nothing.
use mathlib.Core.Path.{◌≡◌, refl}
use mathlib.Core.Bool.{true}
use mathlib.Core.List.{List, [], ◌∷◌, ◌++◌}
use Prim.Native.Nat.{ℕ, suc, ◌+◌, ◌-◌, ◌%◌, ◌^◌, ◌≤◌, ◌<◌}
use native.Mathlib.Omega.{arith}
use lib.Dec.{eqb}
use lib.ListN.{length, take, length-take}
use borrow.Author.Tests.{le-ltb}
use Rattle.laws.proofs.Table.{both}
use Rattle.words.specs.Words.{be_bytes, le_bytes, be_at, le_at}
use Rattle.words.proofs.Laws.{le_back}
use Rattle.spi.specs.declared.instruction.OpCode.{OpCode}
use Rattle.spi.specs.Ask.{sent}
use Rattle.spi.specs.Instruction.{code_of, command_of}
use Rattle.spi.specs.Ram.{in_range}
use Rattle.spi.proofs.Laws.{range_told, code_back, address_back}
use Rattle.operation.specs.Operation.{opcode, address, in_ram, checked_at, write_at, reset_at, asked}
use Rattle.operation.specs.Laws.{AsksRead, AsksChecked, AsksWord, WritesWord, AsksBody, AsksReset}

-- bytes of RAM lie in the RAM
pub ram_told : (a n : ℕ) → in_ram a n ≡ true → (0x400 ≤ a) × (a + n ≤ 0xC00)
unfolding in_ram
ram_told a n e = range_told a n (both (in_range a n) (eqb (n % 4) 0) e).0

-- ---- the driver's exchanges

-- the opcode and the address of a command, whatever follows it
code_at : (op : OpCode) (a : ℕ) (r : List ℕ) → opcode (command_of op a ++ r) ≡ code_of op
code_at op a r = rw (code_back op a r) (fits op)
  where
    fits : (op : OpCode) → code_of op % 16 ≡ code_of op
    fits OpCode.Reset = refl
    fits OpCode.Write = refl
    fits OpCode.Read = refl
    fits OpCode.WriteCrc = refl
    fits OpCode.ReadCrc = refl

address_at : (op : OpCode) (a : ℕ) (r : List ℕ) → a < 2 ^ 12 → address (command_of op a ++ r) ≡ a
address_at op a r h = omega (arith, address_back op a r)

pub asks_read_lem : AsksRead
unfolding asked command_of be_bytes
asks_read_lem a n h = simp (code_at OpCode.Read a [], address_at OpCode.Read a [] h)

pub asks_checked_lem : AsksChecked
unfolding asked checked_at command_of be_bytes
asks_checked_lem a h = simp (code_at OpCode.ReadCrc a (4 ∷ []), address_at OpCode.ReadCrc a (4 ∷ []) h)

pub asks_word_lem : AsksWord
unfolding asked command_of be_bytes le_bytes
asks_word_lem a w h = simp (code_at OpCode.Write a (le_bytes w), address_at OpCode.Write a (le_bytes w) h)

pub writes_word_lem : WritesWord
unfolding write_at command_of be_bytes le_bytes le_at
writes_word_lem a w n h = simp (n, le_back w [] h)

pub asks_body_lem : AsksBody
unfolding asked write_at sent command_of be_bytes
asks_body_lem a n body e h =
    let l : length (take n body) ≡ n = simp length-take (omega arith) in
    let q : suc (suc n) - 2 ≡ n = omega arith in
    let (lo, hi) = ram_told a n e in
    simp (code_at OpCode.Write a (take n body), address_at OpCode.Write a (take n body) (omega arith), l, le-ltb (suc (suc n)) 2 (omega arith), q, e)

pub asks_reset_lem : AsksReset
unfolding asked reset_at command_of be_bytes be_at
asks_reset_lem = refl
