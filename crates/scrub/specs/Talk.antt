-- A scrub step as the line sees it.
-- Assumes nothing.
use Rattle.std.specs.Prelude.{ℕ, zero, suc, ◌+◌, ◌-◌, Bool, not, List, length, eqb, if◌then◌else◌}
use Rattle.spi.specs.declared.refusal.Refusal.{Refusal}
use Rattle.spi.specs.declared.ask.Ask.{Ask}
use Rattle.spi.specs.Reply.{done_reply, crc_reply}
use Rattle.spi.specs.Talk.{Talk, done, refused, ask, on_done, on_checked}
use Rattle.call.specs.declared.Rewrite.{Rewrite}
use Rattle.call.specs.declared.Report.{Report}
use Rattle.call.specs.declared.Outcome.{Outcome}
use Rattle.watch.specs.declared.Watch.{Watch}
use Rattle.watch.specs.Watch.{all_carried, entry_in}
use Rattle.scrub.specs.Scrub.{Scrub, ScrubAt}
use Rattle.scrub.specs.Step.{agrees, rewritten, differs}

-- a checked read as `checked_read` makes it, of which so many exchanges mismatched: another mismatch is followed by another try while any
-- is left; its word and the mismatches before it, or what it is refused with, is what the step goes on by
unfoldable pub checked_by : {A : Type 0} → (address count left : ℕ) → (Refusal → Talk A) → ((word count : ℕ) → Talk A) → Talk A
checked_by address count zero bad k =
    ask (Ask.Checked address) (λ a rx. on_checked bad (crc_reply Refusal.SpiRead address a rx) (bad Refusal.CrcMismatch) (λ w. k w count))
checked_by address count (suc left) bad k =
    ask (Ask.Checked address) (λ a rx. on_checked bad (crc_reply Refusal.SpiRead address a rx) (checked_by address (count + 1) left bad k) (λ w. k w count))

-- done, with a report
abbrev pub told : Report → Talk Outcome
told r = done (Outcome.Scrubbed r)

-- the read-back
abbrev pub back_talk : Watch → (read first count left : ℕ) → Talk Outcome
back_talk w read first count left =
    checked_by w.address count left (λ r. told (differs w read first (Rewrite.Unread r))) (λ x n. told (differs w read first (Rewrite.Back x n)))

-- one WRITE, and where it is done one checked read-back
abbrev pub rewrite_talk : Watch → (read first : ℕ) → Talk Outcome
rewrite_talk w read first =
    ask (Ask.Word w.address (rewritten read w.wanted w.care))
    (λ a rx. on_done (λ r. told (differs w read first (Rewrite.Unread r))) (done_reply Refusal.SpiRead a (length rx) 0) (back_talk w read first 0 2))

-- the visit's word: agreement, both words, or the rewrite where it was told
abbrev pub seen_talk : Watch → (rewrite : Bool) → (read first : ℕ) → Talk Outcome
seen_talk w rewrite read first =
    if agrees read w.wanted w.care then told (Report.Agree w.address first)
    else if rewrite then rewrite_talk w read first
    else told (differs w read first Rewrite.None)

-- the visit
abbrev pub visit_talk : Watch → (rewrite : Bool) → (count left : ℕ) → Talk Outcome
visit_talk w rewrite count left = checked_by w.address count left (λ r. told (Report.Unread w.address r)) (seen_talk w rewrite)

-- the whole step: 32, 33, then the visit of the entry that is due
unfoldable pub scrub_call : (place : ℕ) → List Watch → (rewrite : Bool) → Talk Outcome
scrub_call p ws rewrite =
    if eqb (length ws) 0 then refused Refusal.EmptyList
    else if not (all_carried ws) then refused Refusal.NotCarried
    else visit_talk (entry_in p ws) rewrite 0 2

-- ---- the rest of a step, from where it stands

abbrev pub talk_at : ScrubAt → Watch → (rewrite : Bool) → Talk Outcome
talk_at (ScrubAt.Visit count) w rewrite = visit_talk w rewrite count (2 - count)
talk_at (ScrubAt.Write read first) w rewrite = rewrite_talk w read first
talk_at (ScrubAt.Back read first count) w rewrite = back_talk w read first count (2 - count)
talk_at (ScrubAt.Told r) w rewrite = told r
talk_at (ScrubAt.Refused r) w rewrite = refused r

abbrev pub talk_of : Scrub → Talk Outcome
talk_of s = talk_at s.at s.entry s.rewrite
