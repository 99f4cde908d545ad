-- What goes over the line for an ask.
-- Assumes nothing.
use Rattle.std.specs.Prelude.{ℕ, List, [], ◌∷◌, ◌++◌, length, take}
use Rattle.words.specs.Words.{le_bytes}
use Rattle.parts.specs.Parts.{zeroed}
use Rattle.spi.specs.declared.instruction.OpCode.{OpCode}
use Rattle.spi.specs.declared.ask.Ask.{Ask}
use Rattle.spi.specs.declared.ask.Exchange.{Exchange}
use Rattle.spi.specs.Instruction.{command_of}

-- the command, and what belongs to it
abbrev pub head_of : Ask → List ℕ
head_of (Ask.Read address count) = command_of OpCode.Read address
head_of (Ask.Checked address) = command_of OpCode.ReadCrc address ++ (4 ∷ [])
head_of (Ask.Word address word) = command_of OpCode.Write address ++ le_bytes word
head_of (Ask.Body address count) = command_of OpCode.Write address
head_of Ask.Reset = command_of OpCode.Reset 0
head_of Ask.Wait = []
head_of Ask.Nothing = []

-- how many bytes of the call's body follow
abbrev pub body_of : Ask → ℕ
body_of (Ask.Read address count) = 0
body_of (Ask.Checked address) = 0
body_of (Ask.Word address word) = 0
body_of (Ask.Body address count) = count
body_of Ask.Reset = 0
body_of Ask.Wait = 0
body_of Ask.Nothing = 0

-- how many bytes are to be received: of a checked read 4 data bytes and the CRC
abbrev pub wanted : Ask → ℕ
wanted (Ask.Read address count) = count
wanted (Ask.Checked address) = 6
wanted (Ask.Word address word) = 0
wanted (Ask.Body address count) = 0
wanted Ask.Reset = 0
wanted Ask.Wait = 0
wanted Ask.Nothing = 0

-- all bytes that are sent
unfoldable pub sent : Ask → List ℕ → List ℕ
sent ask body = head_of ask ++ take (body_of ask) body

-- the head in an array of 6 bytes
unfoldable pub exchange_of : Ask → Exchange
exchange_of ask = record { head = zeroed 6 (head_of ask); send = length (head_of ask); body = body_of ask; want = wanted ask }
