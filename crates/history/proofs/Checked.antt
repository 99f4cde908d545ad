-- What the modelled chip answers to a checked read passes the driver's check.
-- Assumes nothing.
use Prim.Native.Nat.{ℕ, zero, suc, ◌*◌, ◌/◌, ◌%◌, ◌^◌, ◌<◌}
use native.Mathlib.Nat.{mod-lt}
use native.Mathlib.Omega.{arith}
use mathlib.Core.Path.{◌≡◌, sym}
use mathlib.Core.List.{List, [], ◌∷◌, ◌++◌}
use lib.Bits.{bit_xor, xor_lt}
use lib.Pow.{pow_pos}
use borrow.Author.Tests.{eq-eqb}
use Rattle.field.proofs.Laws.{field_lt}
use Rattle.words.specs.Words.{le_bytes, be_bytes, le_at, be_at}
use Rattle.words.proofs.Laws.{be_back}
use Rattle.crc.specs.Crc.{polynomial, start, shift1, shifts, crc_byte, crc_from, crc_of}
use Rattle.spi.specs.declared.refusal.Refusal.{Refusal}
use Rattle.spi.specs.declared.ask.Ask.{Ask}
use Rattle.spi.specs.declared.ask.Answer.{Answer}
use Rattle.spi.specs.declared.reply.CheckedWord.{CheckedWord}
use Rattle.spi.specs.Ask.{head_of}
use Rattle.spi.specs.Instruction.{command_of}
use Rattle.spi.specs.Reply.{crc_good, crc_reply}
use Rattle.model.specs.Exchange.{checked_bytes}
use Rattle.history.proofs.Replies.{le_said}

-- ---- a CRC has 16 bits

shift_small : (c : ℕ) → c < 2 ^ 16 → shift1 c < 2 ^ 16
unfolding shift1
shift_small c h = xor_lt 16 (c * 2 % 2 ^ 16) (c / 2 ^ 15 * polynomial) (mod-lt (c * 2) (pow_pos 16)) (omega arith)

shifts_small : (n c : ℕ) → c < 2 ^ 16 → shifts n c < 2 ^ 16
unfolding shifts
shifts_small zero c h = h
shifts_small (suc n) c h = shifts_small n (shift1 c) (shift_small c h)

abbrev Bytes : List ℕ → Type 0
Bytes [] = Unit {0}
Bytes (b ∷ bs) = (b < 256) × Bytes bs

from_small : (c : ℕ) (bs : List ℕ) → c < 2 ^ 16 → Bytes bs → crc_from c bs < 2 ^ 16
unfolding crc_from crc_byte
from_small c [] h l = h
from_small c (b ∷ bs) h l =
    from_small (crc_byte c b) bs (shifts_small 8 (bit_xor c (b * 2 ^ 8)) (xor_lt 16 c (b * 2 ^ 8) h (omega (arith, l.0)))) l.1

-- of a checked read's bytes
module _ (address w : ℕ) where
  abbrev head : List ℕ
  head = head_of (Ask.Checked address)

  checked_small : crc_of (head ++ le_bytes w) < 2 ^ 16
  unfolding crc_of command_of be_bytes le_bytes
  checked_small =
      from_small start (head ++ le_bytes w) (omega arith)
      (field_lt _ 8 8, (field_lt _ 0 8, (omega arith, (field_lt w 0 8, (field_lt w 8 8, (field_lt w 16 8, (field_lt w 24 8, tt)))))))

  -- the word comes back
  pub checked_back : crc_reply Refusal.SpiRead address Answer.Exchanged (checked_bytes head w) ≡ CheckedWord.Word (w % 2 ^ 32)
  unfolding checked_bytes crc_good le_bytes be_bytes be_at le_at
  checked_back =
      let x : ℕ = crc_of (head ++ le_bytes w) in
      let back : be_at (be_bytes x) 0 ≡ x = be_back x [] checked_small in
      simp (eq-eqb x (be_at (be_bytes x) 0) (sym back), le_said w)
