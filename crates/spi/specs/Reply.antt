-- What an answer says: its kind and its length are tested before its bytes (26), a failed exchange is what the call takes it for.
-- Assumes nothing.
use Rattle.std.specs.Prelude.{ℕ, Bool, List, ◌++◌, length, take, eqb, if◌then◌else◌, Result, Ok, Err}
use Rattle.words.specs.Words.{le_at, be_at}
use Rattle.crc.specs.Crc.{crc_of}
use Rattle.spi.specs.declared.refusal.Refusal.{Refusal}
use Rattle.spi.specs.declared.ask.Ask.{Ask}
use Rattle.spi.specs.declared.ask.Answer.{Answer}
use Rattle.spi.specs.declared.reply.CheckedWord.{CheckedWord}
use Rattle.spi.specs.Ask.{head_of}

-- one word
abbrev pub word_reply : Refusal → Answer → List ℕ → Result ℕ Refusal
word_reply failed Answer.Exchanged rx = if eqb (length rx) 4 then Ok (le_at rx 0) else Err Refusal.WrongAnswer
word_reply failed Answer.Failed rx = Err failed
word_reply failed Answer.Waited rx = Err Refusal.WrongAnswer

-- two words
abbrev pub pair_reply : Refusal → Answer → List ℕ → Result (ℕ × ℕ) Refusal
pair_reply failed Answer.Exchanged rx = if eqb (length rx) 8 then Ok ((le_at rx 0), (le_at rx 4)) else Err Refusal.WrongAnswer
pair_reply failed Answer.Failed rx = Err failed
pair_reply failed Answer.Waited rx = Err Refusal.WrongAnswer

-- an exchange by which `got` bytes were received, `want` being wanted
abbrev pub done_reply : Refusal → Answer → (got want : ℕ) → Result (Unit {0}) Refusal
done_reply failed Answer.Exchanged got want = if eqb got want then Ok tt else Err Refusal.WrongAnswer
done_reply failed Answer.Failed got want = Err failed
done_reply failed Answer.Waited got want = Err Refusal.WrongAnswer

-- a wait: no byte is received
abbrev pub wait_reply : Answer → (got : ℕ) → Result (Unit {0}) Refusal
wait_reply Answer.Exchanged got = Err Refusal.WrongAnswer
wait_reply Answer.Failed got = Err Refusal.WrongAnswer
wait_reply Answer.Waited got = if eqb got 0 then Ok tt else Err Refusal.WrongAnswer

-- the CRC, high byte first, is that of the 3 sent and the 4 data bytes
unfoldable pub crc_good : ℕ → List ℕ → Bool
crc_good address rx = eqb (crc_of (head_of (Ask.Checked address) ++ take 4 rx)) (be_at rx 4)

-- a word and its CRC
abbrev pub crc_reply : Refusal → ℕ → Answer → List ℕ → CheckedWord
crc_reply failed address Answer.Exchanged rx =
    if eqb (length rx) 6 then if crc_good address rx then CheckedWord.Word (le_at rx 0) else CheckedWord.Mismatch
    else CheckedWord.Bad Refusal.WrongAnswer
crc_reply failed address Answer.Failed rx = CheckedWord.Bad failed
crc_reply failed address Answer.Waited rx = CheckedWord.Bad Refusal.WrongAnswer
