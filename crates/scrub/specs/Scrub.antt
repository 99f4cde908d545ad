-- Where a scrub step stands, as the definitions speak of it.
-- Assumes nothing.
use Rattle.std.specs.Prelude.{ℕ, Bool}
use Rattle.spi.specs.declared.refusal.Refusal.{Refusal}
use Rattle.call.specs.declared.Report.{Report}
use Rattle.watch.specs.declared.Watch.{Watch}

-- the visit's checked read, with how many of its exchanges mismatched; the rewrite, with the word that was read and its mismatches; the
-- checked read-back, with these and its own; what was reported; a refusal
pub data ScrubAt : Type 0 where
  Visit : (count : ℕ) → ScrubAt
  Write : (read first : ℕ) → ScrubAt
  Back : (read first count : ℕ) → ScrubAt
  Told : Report → ScrubAt
  Refused : Refusal → ScrubAt

-- the scrubber's place, the place behind the entry that is due, the entry, and whether to rewrite
pub record Scrub : Type 0 where
  pub place : ℕ
  pub next : ℕ
  pub entry : Watch
  pub rewrite : Bool
  pub at : ScrubAt
