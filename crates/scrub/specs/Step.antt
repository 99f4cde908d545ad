-- Document 02, requests 4 and 5: a scrub step, exchange by exchange: where it starts, what it asks, where an answer takes it.
-- Assumes nothing.
use Rattle.std.specs.Prelude.{ℕ, ◌-◌, ◌^◌, Bool, List, eqb, length, if◌then◌else◌, Result, Ok, Err}
use Rattle.std.specs.Int.Bits.{bit_and, bit_or}
use Rattle.spi.specs.declared.refusal.Refusal.{Refusal}
use Rattle.spi.specs.declared.ask.Ask.{Ask}
use Rattle.spi.specs.declared.ask.Answer.{Answer}
use Rattle.spi.specs.Reply.{done_reply, crc_reply}
use Rattle.spi.specs.Talk.{on_done, on_checked}
use Rattle.call.specs.declared.Rewrite.{Rewrite}
use Rattle.call.specs.declared.Report.{Report}
use Rattle.call.specs.declared.Outcome.{Outcome}
use Rattle.register.specs.Step.{again}
use Rattle.watch.specs.declared.Watch.{Watch}
use Rattle.watch.specs.declared.Begun.{Begun}
use Rattle.watch.specs.declared.TurnedDown.{TurnedDown}
use Rattle.watch.specs.Watch.{blank, start_of}
use Rattle.scrub.specs.Scrub.{Scrub, ScrubAt}

-- ---- words

-- the cared-for bits of the word read are the wanted ones
unfoldable pub agrees : (read wanted care : ℕ) → Bool
agrees read wanted care = eqb (bit_and read care) (bit_and wanted care)

-- the word read without the cared-for bits, with the wanted ones
unfoldable pub rewritten : (read wanted care : ℕ) → ℕ
rewritten read wanted care = bit_or (bit_and read (2 ^ 32 - 1 - care)) (bit_and wanted care)

-- ---- starts

-- the entry that a step begins with
abbrev pub entry_of : Begun → Watch
entry_of b = record { address = b.address; wanted = b.wanted; care = b.care }

-- refused before any exchange: the place stays
abbrev pub turned_down : (place : ℕ) → (rewrite : Bool) → Refusal → Scrub
turned_down p rewrite why = record { place = p; next = p; entry = blank; rewrite = rewrite; at = ScrubAt.Refused why }

-- the step that the list began, told to rewrite or not: a visit is a checked read, of which none has mismatched yet
unfoldable pub begins : Result Begun TurnedDown → (rewrite : Bool) → Scrub
begins (Ok b) rewrite = record { place = b.place; next = b.next; entry = entry_of b; rewrite = rewrite; at = ScrubAt.Visit 0 }
begins (Err t) rewrite = turned_down t.place rewrite t.why

-- a step over a list, from a place on
abbrev pub scrub_start : (place : ℕ) → List Watch → (rewrite : Bool) → Scrub
scrub_start p ws rewrite = begins (start_of p ws) rewrite

-- ---- steps

-- the step goes on
abbrev pub to : Scrub → ScrubAt → Scrub
to s at = record { place = s.place; next = s.next; entry = s.entry; rewrite = s.rewrite; at = at }

-- the step reports, and the scrubber has moved on
abbrev pub reports : Scrub → Report → Scrub
reports s r = record { place = s.next; next = s.next; entry = s.entry; rewrite = s.rewrite; at = ScrubAt.Told r }

-- the address with both words, the visit's mismatches, and what came of the rewrite
abbrev pub differs : Watch → (read first : ℕ) → Rewrite → Report
differs w read first x = Report.Differ w.address read w.wanted first x

-- the visit's word, with the mismatches before it: agreement, or both words; where it was told so, the rewrite comes first
abbrev pub seen : Scrub → (read first : ℕ) → Scrub
seen s read first =
    if agrees read s.entry.wanted s.entry.care then reports s (Report.Agree s.entry.address first)
    else if s.rewrite then to s (ScrubAt.Write read first)
    else reports s (differs s.entry read first Rewrite.None)

-- the visit's read was refused: that is the visit
abbrev pub unread : Scrub → Refusal → Scrub
unread s r = reports s (Report.Unread s.entry.address r)

-- so was the rewrite, or the read-back
abbrev pub unwritten : Scrub → (read first : ℕ) → Refusal → Scrub
unwritten s read first r = reports s (differs s.entry read first (Rewrite.Unread r))

-- after an answer; one that comes after the end is refused 26, and the scrubber stays where it is
abbrev pub step_at : ScrubAt → Scrub → Answer → List ℕ → Scrub
step_at (ScrubAt.Visit count) s a rx =
    on_checked (unread s) (crc_reply Refusal.SpiRead s.entry.address a rx) (again count (unread s) (λ k. to s (ScrubAt.Visit k))) (λ w. seen s w count)
step_at (ScrubAt.Write read first) s a rx =
    on_done (unwritten s read first) (done_reply Refusal.SpiRead a (length rx) 0) (to s (ScrubAt.Back read first 0))
step_at (ScrubAt.Back read first count) s a rx =
    on_checked (unwritten s read first) (crc_reply Refusal.SpiRead s.entry.address a rx)
    (again count (unwritten s read first) (λ k. to s (ScrubAt.Back read first k))) (λ w. reports s (differs s.entry read first (Rewrite.Back w count)))
step_at (ScrubAt.Told r) s a rx = to s (ScrubAt.Refused Refusal.WrongAnswer)
step_at (ScrubAt.Refused r) s a rx = to s (ScrubAt.Refused Refusal.WrongAnswer)

unfoldable pub step_of : Scrub → Answer → List ℕ → Scrub
step_of s a rx = step_at s.at s a rx

-- what is asked
abbrev pub ask_at : ScrubAt → Watch → Ask
ask_at (ScrubAt.Visit count) w = Ask.Checked w.address
ask_at (ScrubAt.Write read first) w = Ask.Word w.address (rewritten read w.wanted w.care)
ask_at (ScrubAt.Back read first count) w = Ask.Checked w.address
ask_at (ScrubAt.Told r) w = Ask.Nothing
ask_at (ScrubAt.Refused r) w = Ask.Nothing

unfoldable pub ask_of : Scrub → Ask
ask_of s = ask_at s.at s.entry

-- how the step ended, if it did
abbrev pub outcome_at : ScrubAt → Outcome
outcome_at (ScrubAt.Visit count) = Outcome.Running
outcome_at (ScrubAt.Write read first) = Outcome.Running
outcome_at (ScrubAt.Back read first count) = Outcome.Running
outcome_at (ScrubAt.Told r) = Outcome.Scrubbed r
outcome_at (ScrubAt.Refused r) = Outcome.Refused r

unfoldable pub outcome_of : Scrub → Outcome
outcome_of s = outcome_at s.at
