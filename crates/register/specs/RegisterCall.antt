-- Where a call on a register stands, as the definitions speak of it.
-- Assumes nothing.
use Rattle.std.specs.Prelude.{ℕ}
use Rattle.spi.specs.declared.refusal.Refusal.{Refusal}

-- the exchange that it asks for, with the address and what is written, or how it ended; the second number of Checked and of Matched, a
-- checked read's end, is how many exchanges mismatched
pub data RegisterCall : Type 0 where
  Reset : RegisterCall
  Read : ℕ → RegisterCall
  Write Checked : ℕ → ℕ → RegisterCall
  Mode Done : RegisterCall
  Word OpMode : ℕ → RegisterCall
  Matched : (word seen : ℕ) → RegisterCall
  Refused : Refusal → RegisterCall
