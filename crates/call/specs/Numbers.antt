-- The outcome of a call by document 01's number and values.
-- Assumes nothing.
use Rattle.std.specs.Prelude.{ℕ, List, [], ◌∷◌, ◌++◌, Option, Some, None}
use Rattle.field.specs.Field.{digit}
use Rattle.spi.specs.Refusals.{numbered}
use Rattle.header.specs.declared.Header.{Header}
use Rattle.call.specs.declared.Found.{Found}
use Rattle.call.specs.declared.Rewrite.{Rewrite}
use Rattle.call.specs.declared.Report.{Report}
use Rattle.call.specs.declared.Outcome.{Outcome}

-- identifier and flags
abbrev pub header_numbers : Header → List ℕ
header_numbers h = h.id ∷ digit h.extended ∷ digit h.fdf ∷ digit h.brs ∷ digit h.esi ∷ digit h.rtr ∷ []

-- a timestamp, where there is one
abbrev pub stamp_numbers : Option ℕ → List ℕ
stamp_numbers None = []
stamp_numbers (Some t) = t ∷ []

-- what is told of a message: the length of its payload, header, DLC, filter, timestamp
abbrev pub found_numbers : Found → List ℕ
found_numbers f = f.len ∷ header_numbers f.header ++ (f.dlc ∷ f.filter ∷ stamp_numbers f.stamp)

-- a rewrite that was told: 0, the word read back and its mismatches, or the number of what it was refused with
abbrev pub rewrite_numbers : Rewrite → List ℕ
rewrite_numbers Rewrite.None = []
rewrite_numbers (Rewrite.Back w mismatches) = 0 ∷ w ∷ mismatches ∷ []
rewrite_numbers (Rewrite.Unread r) = numbered r

-- a scrub step: 0 for agreement, 1 for a difference, 2 for an entry that was not read; the address, and what is told of it, with the
-- mismatches before its word
abbrev pub report_numbers : Report → List ℕ
report_numbers (Report.Agree address mismatches) = 0 ∷ address ∷ mismatches ∷ []
report_numbers (Report.Differ address read wanted mismatches w) = 1 ∷ address ∷ read ∷ wanted ∷ mismatches ∷ rewrite_numbers w
report_numbers (Report.Unread address r) = 2 ∷ address ∷ numbered r

-- a refusal has document 01's number and values; an answer that is none has 0 in the number's place, which document 01 gives to no
-- refusal, and its values; a call that still asks has no answer
abbrev pub outcome_numbers : Outcome → List ℕ
outcome_numbers Outcome.Running = []
outcome_numbers Outcome.Done = 0 ∷ []
outcome_numbers (Outcome.Word w) = 0 ∷ w ∷ []
outcome_numbers (Outcome.Checked w mismatches) = 0 ∷ w ∷ mismatches ∷ []
outcome_numbers (Outcome.Mode m) = 0 ∷ m ∷ []
outcome_numbers Outcome.Yes = 0 ∷ 1 ∷ []
outcome_numbers Outcome.No = 0 ∷ 0 ∷ []
outcome_numbers Outcome.Empty = 0 ∷ []
outcome_numbers (Outcome.Message f) = 0 ∷ found_numbers f
outcome_numbers (Outcome.Scrubbed s) = 0 ∷ report_numbers s
outcome_numbers (Outcome.Refused r) = numbered r

-- the refusal that an outcome tells: of a scrub step also the one that it reports
abbrev pub rewrite_tells : Rewrite → List ℕ
rewrite_tells Rewrite.None = []
rewrite_tells (Rewrite.Back w mismatches) = []
rewrite_tells (Rewrite.Unread r) = numbered r

abbrev pub report_tells : Report → List ℕ
report_tells (Report.Agree address mismatches) = []
report_tells (Report.Differ address read wanted mismatches w) = rewrite_tells w
report_tells (Report.Unread address r) = numbered r

abbrev pub tells : Outcome → List ℕ
tells Outcome.Running = []
tells Outcome.Done = []
tells (Outcome.Word w) = []
tells (Outcome.Checked w mismatches) = []
tells (Outcome.Mode m) = []
tells Outcome.Yes = []
tells Outcome.No = []
tells Outcome.Empty = []
tells (Outcome.Message f) = []
tells (Outcome.Scrubbed s) = report_tells s
tells (Outcome.Refused r) = numbered r
