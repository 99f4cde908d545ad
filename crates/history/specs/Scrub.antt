-- Document 02, request 4, over the modelled chip: what a scrub step reports of a register, and what its rewrite leaves there.
-- Assumes nothing.
use Rattle.std.specs.Prelude.{ℕ, ◌%◌, ◌^◌, ◌<◌, ◌≡◌, true, List, if◌then◌else◌, Some}
use Rattle.field.specs.Field.{bit, read, flag, apart}
use Rattle.chip.specs.OscillatorControl.{PLLRDY}
use Rattle.place.specs.declared.Register.{Register}
use Rattle.place.specs.Place.{register_at}
use Rattle.spi.specs.declared.ask.Answer.{Answer}
use Rattle.spi.specs.Talk.{run}
use Rattle.call.specs.declared.Rewrite.{Rewrite}
use Rattle.call.specs.declared.Report.{Report}
use Rattle.call.specs.declared.Outcome.{Outcome}
use Rattle.watch.specs.declared.Watch.{Watch}
use Rattle.scrub.specs.Scrub.{Scrub, ScrubAt}
use Rattle.scrub.specs.Step.{step_of, outcome_of, differs}
use Rattle.driver.specs.Start.{of_scrub}
use Rattle.state.specs.declared.Model.{Model}
use Rattle.bank.specs.Registers.{word_of}
use Rattle.reach.specs.Reach.{Reached}
use Rattle.history.specs.History.{Heard, answered}

-- ---- the visit

-- a cared-for bit of a word is not the wanted one
abbrev pub Flipped : Watch → (word : ℕ) → Type 0
Flipped w word = (i : ℕ) × (read (bit i) w.care ≡ 1) × (read (bit i) word ≡ read (bit i) w.wanted → ⊥)

-- a step after the chip c has answered its exchange
unfoldable pub heard_by : Model → Scrub → Scrub
heard_by c s = let h : Heard = answered (of_scrub s) c in step_of s h.answer h.rx

-- the visit's read of register r is answered by the chip, however many mismatched before; then whatever the step reports in the end is
-- both words if a cared-for bit is flipped, and agreement if none is, with that count
abbrev pub FlipReported : Type 0
FlipReported =
    (c : Model) (s : Scrub) (count : ℕ) (r : Register) → s.at ≡ ScrubAt.Visit count → register_at s.entry.address ≡ Some r
    → let word : ℕ = word_of c r % 2 ^ 32 in
    (xs : List (Answer × List ℕ)) (o : Report) → outcome_of (run step_of (heard_by c s) xs) ≡ Outcome.Scrubbed o
    → (Flipped s.entry word → (x : Rewrite) × (o ≡ differs s.entry word count x))
    × ((Flipped s.entry word → ⊥) → o ≡ Report.Agree s.entry.address count)

-- ---- the rewrite

-- registers that hold what is written, and their bits that do: PLLRDY follows PLLEN
abbrev pub Takes : Register → (i : ℕ) → Type 0
Takes Register.Con i = ⊥
Takes Register.Osc i = apart PLLRDY (bit i) ≡ true
Takes (Register.Plain k) i = Unit {0}
Takes (Register.Filter k) i = Unit {0}
Takes (Register.Object k) i = Unit {0}
Takes (Register.Mask k) i = Unit {0}
Takes (Register.Control n) i = ⊥
Takes (Register.Status n) i = ⊥
Takes (Register.Address n) i = ⊥
Takes Register.QueueControl i = ⊥
Takes Register.QueueStatus i = ⊥
Takes Register.QueueAddress i = ⊥

-- the WRITE is answered by the chip: a cared-for bit that the register takes as written is the wanted one, any other as it was read
abbrev pub RewriteLeaves : Type 0
RewriteLeaves =
    (c : Model) → Reached c → (s : Scrub) (word first : ℕ) (r : Register) → s.at ≡ ScrubAt.Write word first → register_at s.entry.address ≡ Some r
    → s.entry.care < 2 ^ 32 → (i : ℕ) → i < 32 → Takes r i
    → read (bit i) (word_of (answered (of_scrub s) c).chip r) ≡ (if flag (bit i) s.entry.care then read (bit i) s.entry.wanted else read (bit i) word)
