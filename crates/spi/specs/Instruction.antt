-- Instructions on the wire.
-- Assumes nothing.
use Rattle.std.specs.Prelude.{ℕ, ◌+◌, ◌*◌, ◌%◌, ◌^◌, List}
use Rattle.words.specs.Words.{be_bytes}
use Rattle.spi.specs.declared.instruction.OpCode.{OpCode}

-- the opcodes
abbrev pub code_of : OpCode → ℕ
code_of OpCode.Reset = 0
code_of OpCode.Write = 2
code_of OpCode.Read = 3
code_of OpCode.WriteCrc = 10
code_of OpCode.ReadCrc = 11

-- a command: 16 bits, big-endian, the opcode in 15..12, the address in 11..0
unfoldable pub command_of : OpCode → ℕ → List ℕ
command_of op address = be_bytes (code_of op * 2 ^ 12 + address % 2 ^ 12)
