-- Has-next, peek and get, step by step.
-- Assumes nothing.
use Rattle.std.specs.Prelude.{ℕ, List, true, take, replicate, ltb, if◌then◌else◌}
use Rattle.field.specs.Field.{mark}
use Rattle.fifo.specs.Control.{CiFIFOCON, UINC, is_fifo}
use Rattle.fifo.specs.Status.{CiFIFOSTA}
use Rattle.fifo.specs.UserAddress.{CiFIFOUA}
use Rattle.words.specs.Words.{round_up}
use Rattle.parts.specs.Parts.{put}
use Rattle.spi.specs.declared.refusal.Refusal.{Refusal}
use Rattle.spi.specs.declared.ask.Ask.{Ask}
use Rattle.spi.specs.declared.ask.Answer.{Answer}
use Rattle.fetch.specs.declared.Want.{Want}
use Rattle.rx_fifo.specs.Fetch.{Fetch}
use Rattle.fetch.specs.FetchAt.{FetchAt}
use Rattle.fetch.specs.Step.{next_at}

-- ---- a step

-- the first 64 bytes of an answer, at the front of what is held
unfoldable pub held_of : List ℕ → List ℕ → List ℕ
held_of held rx = put held 0 (take 64 rx)

-- only a payload's answer is held
abbrev pub held_at : FetchAt → List ℕ → List ℕ → List ℕ
held_at FetchAt.Control held rx = held
held_at FetchAt.Status held rx = held
held_at FetchAt.Address held rx = held
held_at (FetchAt.Header m) held rx = held
held_at (FetchAt.Again m f) held rx = held
held_at (FetchAt.Time x f) held rx = held
held_at (FetchAt.Body x f) held rx = held_of held rx
held_at (FetchAt.Next f) held rx = held
held_at (FetchAt.Commit w f) held rx = held
held_at (FetchAt.Done f) held rx = held
held_at FetchAt.Empty held rx = held
held_at (FetchAt.Told next) held rx = held
held_at (FetchAt.Refused r) held rx = held

unfoldable pub step_of : Fetch → Answer → List ℕ → Fetch
step_of s a rx = record { fifo = s.fifo; want = s.want; held = held_at s.at s.held rx; at = next_at s.want s.at a rx }

-- ---- what is asked

abbrev pub ask_from : ℕ → FetchAt → Ask
ask_from fifo FetchAt.Control = Ask.Read (CiFIFOCON.address fifo) 4
ask_from fifo FetchAt.Status = Ask.Read (CiFIFOSTA.address fifo) 4
ask_from fifo FetchAt.Address = Ask.Read (CiFIFOUA.address fifo) 4
ask_from fifo (FetchAt.Header m) = Ask.Read m 8
ask_from fifo (FetchAt.Again m f) = Ask.Read (CiFIFOCON.address fifo) 4
ask_from fifo (FetchAt.Time x f) = Ask.Read x 4
ask_from fifo (FetchAt.Body x f) = Ask.Read x (round_up f.len)
ask_from fifo (FetchAt.Next f) = Ask.Read (CiFIFOCON.address fifo) 4
ask_from fifo (FetchAt.Commit w f) = Ask.Word (CiFIFOCON.address fifo) (mark UINC true w)
ask_from fifo (FetchAt.Done f) = Ask.Nothing
ask_from fifo FetchAt.Empty = Ask.Nothing
ask_from fifo (FetchAt.Told next) = Ask.Nothing
ask_from fifo (FetchAt.Refused r) = Ask.Nothing

unfoldable pub ask_of : Fetch → Ask
ask_of s = ask_from s.fifo s.at

-- ---- the start

-- 20
unfoldable pub first_at : ℕ → FetchAt
first_at fifo = if is_fifo fifo then FetchAt.Control else FetchAt.Refused Refusal.BadNumber

-- 20, then 28 for a buffer under 64 bytes
unfoldable pub lent_at : ℕ → ℕ → FetchAt
lent_at fifo room =
    if is_fifo fifo then if ltb room 64 then FetchAt.Refused Refusal.BufferTooSmall else FetchAt.Control
    else FetchAt.Refused Refusal.BadNumber

-- before the first exchange
abbrev pub start_of : Want → ℕ → FetchAt → Fetch
start_of want fifo at = record { fifo = fifo; want = want; held = replicate 64 0; at = at }

unfoldable pub has_next_start : ℕ → Fetch
has_next_start fifo = start_of Want.HasNext fifo (first_at fifo)

-- peek and get, for a buffer of so many bytes
unfoldable pub lent_start : Want → (fifo room : ℕ) → Fetch
lent_start want fifo room = start_of want fifo (lent_at fifo room)

abbrev pub peek_start : (fifo room : ℕ) → Fetch
peek_start = lent_start Want.Peek

abbrev pub get_start : (fifo room : ℕ) → Fetch
get_start = lent_start Want.Get
