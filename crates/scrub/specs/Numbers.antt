-- A scrub step as plain numbers, and the step of which the definitions speak.
-- Assumes nothing.
use Rattle.std.specs.Prelude.{ℕ}
use Rattle.spi.specs.declared.refusal.Refusal.{Refusal}
use Rattle.call.specs.declared.Rewrite.{Rewrite}
use Rattle.call.specs.declared.Report.{Report}
use Rattle.watch.specs.declared.Watch.{Watch}
use Rattle.scrub.specs.Scrub.{Scrub, ScrubAt}
use Rattle.scrub.specs.Step.{differs}
use Rattle.scrub.specs.declared.ScrubStage.{ScrubStage}
use Rattle.scrub.specs.declared.ScrubNumbers.{ScrubNumbers}

-- the entry that the numbers hold
abbrev pub entry_held : ScrubNumbers → Watch
entry_held c = record { address = c.m; wanted = c.a; care = c.b }

-- what the numbers stand for at a stage: `w` is the word that was read and `first` its mismatches, `t` the one that was read back
abbrev pub at_stage : ScrubStage → ScrubNumbers → ScrubAt
at_stage ScrubStage.Visit c = ScrubAt.Visit c.count
at_stage ScrubStage.Write c = ScrubAt.Write c.w c.first
at_stage ScrubStage.Back c = ScrubAt.Back c.w c.first c.count
at_stage ScrubStage.Agree c = ScrubAt.Told (Report.Agree c.m c.first)
at_stage ScrubStage.Differ c = ScrubAt.Told (differs (entry_held c) c.w c.first Rewrite.None)
at_stage ScrubStage.Rewritten c = ScrubAt.Told (differs (entry_held c) c.w c.first (Rewrite.Back c.t c.count))
at_stage ScrubStage.Unwritten c = ScrubAt.Told (differs (entry_held c) c.w c.first (Rewrite.Unread c.why))
at_stage ScrubStage.Unread c = ScrubAt.Told (Report.Unread c.m c.why)
at_stage ScrubStage.Refused c = ScrubAt.Refused c.why

abbrev pub scrub_of : ScrubNumbers → Scrub
scrub_of c = record { place = c.place; next = c.next; entry = entry_held c; rewrite = c.rewrite; at = at_stage c.stage c }

-- ---- numbers after an answer

-- at another stage, with so many mismatches, the scrubber where it was
abbrev pub standing : ScrubNumbers → ScrubStage → (count : ℕ) → ScrubNumbers
standing c stage count = record c { stage = stage; count = count }

-- at its end, the scrubber moved on
abbrev pub telling : ScrubNumbers → ScrubStage → Refusal → ScrubNumbers
telling c stage why = record c { stage = stage; place = c.next; why = why }
