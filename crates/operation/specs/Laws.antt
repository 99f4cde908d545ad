-- What is proved of the driver's exchanges, as statements.
-- Assumes nothing.
use Rattle.std.specs.Prelude.{ℕ, ◌-◌, ◌^◌, ◌≤◌, ◌<◌, ◌+◌, ◌≡◌, true, false, List, length}
use Rattle.spi.specs.declared.ask.Ask.{Ask}
use Rattle.spi.specs.Ask.{head_of, sent}
use Rattle.place.specs.Place.{register_at}
use Rattle.operation.specs.declared.operation.Operation.{Operation}
use Rattle.operation.specs.Operation.{in_ram, at, read_at, write_at, asked}

-- ---- what an ask of the driver is read as

abbrev pub AsksRead : Type 0
AsksRead = (a n : ℕ) → a < 2 ^ 12 → asked (head_of (Ask.Read a n)) n ≡ read_at a n

abbrev pub AsksChecked : Type 0
AsksChecked = (a : ℕ) → a < 2 ^ 12 → asked (head_of (Ask.Checked a)) 6 ≡ at (register_at a) Operation.Checked

-- a word, to a register or to RAM
abbrev pub AsksWord : Type 0
AsksWord = (a w : ℕ) → a < 2 ^ 12 → asked (head_of (Ask.Word a w)) 0 ≡ write_at a (head_of (Ask.Word a w))

-- outside the RAM the word goes to a register
abbrev pub WritesWord : Type 0
WritesWord = (a w : ℕ) → in_ram a 4 ≡ false → w < 2 ^ 32 → write_at a (head_of (Ask.Word a w)) ≡ at (register_at a) (λ r. Operation.Write r w)

abbrev pub AsksBody : Type 0
AsksBody = (a n : ℕ) (body : List ℕ) → in_ram a n ≡ true → n ≤ length body → asked (sent (Ask.Body a n) body) 0 ≡ Operation.WriteRam (a - 0x400)

abbrev pub AsksReset : Type 0
AsksReset = asked (head_of Ask.Reset) 0 ≡ Operation.Reset

-- ---- how many bytes an exchange that the chip answers wants

-- a word, a word and its CRC, or bytes that lie in RAM; a write wants none
abbrev pub Sized : List ℕ → ℕ → Operation → Type 0
Sized s want Operation.Reset = want ≡ 0
Sized s want (Operation.Read r) = want ≡ 4
Sized s want (Operation.Checked r) = want ≡ 6
Sized s want (Operation.Write r w) = want ≡ 0
Sized s want (Operation.ReadRam a) = a + want ≤ 2048
Sized s want (Operation.WriteRam a) = (want ≡ 0) × (2 ≤ length s) × (a + (length s - 2) ≤ 2048)
Sized s want Operation.None = Unit {0}

abbrev pub Sizes : Type 0
Sizes = (s : List ℕ) (want : ℕ) → Sized s want (asked s want)

-- ---- all of these

pub record Laws : Type 0 where
  pub asks_read : AsksRead
  pub asks_checked : AsksChecked
  pub asks_word : AsksWord
  pub writes_word : WritesWord
  pub asks_body : AsksBody
  pub asks_reset : AsksReset
  pub sizes : Sizes
