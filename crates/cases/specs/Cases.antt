-- The table of checked cases: what the definitions that the contracts cite give, and what the scope document says.
-- Assumes nothing.
use Rattle.std.specs.Prelude.{◌≡◌, Bool, true, false, List, [], ◌∷◌, ◌++◌, map, ℕ, negsuc, None}
use Rattle.words.specs.Words.{round_up}
use Rattle.field.specs.Settings.{◌:=◌, settings}
use Rattle.fifo.specs.Control.{CiFIFOCON, TXEN, FSIZE, PLSIZE, stored_size}
use Rattle.fifo.specs.UserAddress.{CiFIFOUA}
use Rattle.ring.specs.Layout.{end}
use Rattle.state.specs.Model.{reset}
use Rattle.state.specs.declared.Model.{Model}
use Rattle.bank.specs.Registers.{mode_of}
use Rattle.model.specs.Exchange.{Done, exchange}
use Rattle.model.specs.Laws.{reply_numbers}
use Rattle.configuration.specs.CanControl.{CiCON}
use Rattle.bit_timing.specs.Signed.{seven_of}
use Rattle.spi.specs.Instruction.{command_of}
use Rattle.spi.specs.Ask.{head_of}
use Rattle.spi.specs.Ram.{access_of}
use Rattle.spi.specs.Refusals.{numbered, done_numbers}
use Rattle.header.specs.Header.{word0}
use Rattle.message.specs.Message.{Message, Encoding, refused, object, encoding}
use Rattle.header.specs.declared.Header.{Header}
use Rattle.spi.specs.declared.ask.Ask.{Ask}
use Rattle.spi.specs.declared.instruction.OpCode.{OpCode}
use Rattle.spi.specs.declared.refusal.Refusal.{Refusal}

infix 20 ◌is◌
pub data Case : Type 0 where
  ◌is◌ : List ℕ → List ℕ → Case

abbrev pub given : Case → List ℕ
given (a is b) = a

abbrev pub said : Case → List ℕ
said (a is b) = b

-- a RAM read's answer: nothing where it is in range, or the refusal's number and value
abbrev pub read_answer : ℕ → ℕ → List ℕ
read_answer a n = done_numbers (access_of a n (Refusal.InvalidReadLength n))

-- the header of a classic data frame
abbrev pub classic : Bool → ℕ → Header
classic extended id = record { extended = extended; id = id; rtr = false; brs = false; fdf = false; esi = false }

-- an object's bytes, or the refusal's number
abbrev pub bytes_in : Encoding → List ℕ
bytes_in (refused r) = numbered r
bytes_in (object bs) = bs

abbrev pub written : Message → List ℕ
written m = bytes_in (encoding m)

-- a word written to a register of the modelled chip
abbrev pub writing : (address word : ℕ) → Model → Done
writing a w m = exchange (head_of (Ask.Word a w)) 0 m

-- a chip after RESET with FIFO 1 set to send, to a depth and a PLSIZE; the others stay as after RESET: 16 bytes each
abbrev pub chip_with : (depth plsize : ℕ) → Model
chip_with depth plsize =
    (writing (CiFIFOCON.address 1) (settings (TXEN := 1 ∷ FSIZE := stored_size depth ∷ PLSIZE := plsize ∷ []) CiFIFOCON.reset) (reset [])).model

-- the bytes that its layout takes; what the CiCON write answers that asks for mode 0, with TXQEN and STEF at 0; the mode after it
abbrev pub leaving : Model → List ℕ
leaving m =
    end false m.fixed.frozen 31
    ∷ reply_numbers (writing (CiCON.address 0) 0 m).reply
    ++ (mode_of (writing (CiCON.address 0) 0 m).model ∷ [])

unfoldable pub cases : List Case
cases =
    (command_of OpCode.Read 0x05C is (0x30 ∷ 0x5C ∷ []))
    ∷ (command_of OpCode.Write 0x400 is (0x24 ∷ 0x00 ∷ []))
    ∷ (head_of (Ask.Checked 0xE14) is (0xBE ∷ 0x14 ∷ 0x04 ∷ []))
    ∷ ((CiFIFOUA.address 31 ∷ []) is (0x1CC ∷ []))
    ∷ (read_answer 0xBFC 4 is [])
    ∷ (read_answer 0xBFC 8 is (3 ∷ 0xBFC ∷ []))
    ∷ (read_answer 0x3FF 3 is (3 ∷ 0x3FF ∷ []))
    ∷ ((round_up 0 ∷ round_up 1 ∷ round_up 64 ∷ []) is (0 ∷ 4 ∷ 64 ∷ []))
    ∷ ((stored_size 40 ∷ []) is (31 ∷ []))
    ∷ ((seven_of (negsuc 0) ∷ seven_of (negsuc 63) ∷ []) is (0x7F ∷ 0x40 ∷ []))
    ∷ ((word0 (classic true 0x18DA00F1) ∷ []) is (0x10078E36 ∷ []))
    ∷ (written (record { header = classic false 0x123; dlc = 3; filter = 0; seq = 5; stamp = None; payload = 1 ∷ 2 ∷ 3 ∷ [] })
    is (0x23 ∷ 0x01 ∷ 0 ∷ 0 ∷ 0x03 ∷ 0x0A ∷ 0 ∷ 0 ∷ 0x01 ∷ 0x02 ∷ 0x03 ∷ 0 ∷ []))
    ∷ (leaving (chip_with 28 6) is (2048 ∷ 0 ∷ []))
    ∷ (leaving (chip_with 21 7) ++ leaving (chip_with 22 7) is (1992 ∷ 0 ∷ 2064 ∷ 27 ∷ 4 ∷ []))
    ∷ []

abbrev pub AsSaid : Type 0
AsSaid = map given cases ≡ map said cases

-- the single statement
pub record Laws : Type 0 where
  pub as_said : AsSaid
