-- What the bytes of an exchange ask the chip for: the bytes sent, and how many are wanted.
-- Assumes nothing.
use Rattle.std.specs.Prelude.{ℕ, ◌-◌, ◌%◌, Bool, ◌&&◌, List, length, get_or, eqb, ltb, if◌then◌else◌, Option, Some, None}
use Rattle.field.specs.Field.{◌‥◌, read}
use Rattle.words.specs.Words.{be_at, le_at}
use Rattle.spi.specs.declared.instruction.OpCode.{OpCode}
use Rattle.spi.specs.Instruction.{code_of}
use Rattle.spi.specs.Ram.{in_range}
use Rattle.place.specs.declared.Register.{Register}
use Rattle.operation.specs.declared.operation.Operation.{Operation}
use Rattle.place.specs.Place.{register_at}

-- a command is 16 bits, big-endian: opcode in 15..12, address in 11..0
abbrev pub opcode : List ℕ → ℕ
opcode s = read (15 ‥ 12) (be_at s 0)

abbrev pub address : List ℕ → ℕ
address s = read (11 ‥ 0) (be_at s 0)

-- so many bytes of RAM at a: good range and length
unfoldable pub in_ram : ℕ → ℕ → Bool
in_ram a n = in_range a n && eqb (n % 4) 0

-- of a register that is not carried there is nothing to be had
abbrev pub at : Option Register → (Register → Operation) → Operation
at (Some r) f = f r
at None f = Operation.None

-- READ: RAM, or a register's word
unfoldable pub read_at : (a want : ℕ) → Operation
read_at a want =
    if in_ram a want then Operation.ReadRam (a - 0x400)
    else if eqb want 4 then at (register_at a) Operation.Read
    else Operation.None

-- WRITE: RAM, or a register's word; the bytes follow the command
unfoldable pub write_at : ℕ → List ℕ → Operation
write_at a s =
    if in_ram a (length s - 2) then Operation.WriteRam (a - 0x400)
    else if eqb (length s) 6 then at (register_at a) (λ r. Operation.Write r (le_at s 2))
    else Operation.None

-- checked read: the byte 4, then 4 data bytes and the CRC
unfoldable pub checked_at : ℕ → List ℕ → ℕ → Operation
checked_at a s want =
    if eqb (length s) 3 && eqb (get_or s 2 0) 4 && eqb want 6 then at (register_at a) Operation.Checked else Operation.None

-- RESET: 00 00
unfoldable pub reset_at : ℕ → List ℕ → ℕ → Operation
reset_at a s want = if eqb a 0 && eqb (length s) 2 && eqb want 0 then Operation.Reset else Operation.None

-- any other exchange asks for nothing
unfoldable pub asked : List ℕ → ℕ → Operation
asked s want =
    if ltb (length s) 2 then Operation.None
    else if eqb (opcode s) (code_of OpCode.Read) then if eqb (length s) 2 then read_at (address s) want else Operation.None
    else if eqb (opcode s) (code_of OpCode.Write) then if eqb want 0 then write_at (address s) s else Operation.None
    else if eqb (opcode s) (code_of OpCode.ReadCrc) then checked_at (address s) s want
    else if eqb (opcode s) (code_of OpCode.Reset) then reset_at (address s) s want
    else Operation.None
