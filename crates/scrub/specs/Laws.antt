-- What is proved of scrub steps, as statements.
-- Assumes nothing.
use Rattle.std.specs.Prelude.{ℕ, ◌+◌, ◌^◌, ◌<◌, ◌≡◌, ◌↔◌, Bool, true, List, [], ◌∷◌, ◌++◌, length, take, drop, if◌then◌else◌}
use Rattle.field.specs.Field.{bit, read, flag}
use Rattle.spi.specs.declared.refusal.Refusal.{Refusal}
use Rattle.spi.specs.declared.ask.Answer.{Answer}
use Rattle.spi.specs.Talk.{refused, done, run, Within}
use Rattle.call.specs.declared.Rewrite.{Rewrite}
use Rattle.call.specs.declared.Report.{Report}
use Rattle.call.specs.declared.Outcome.{Outcome}
use Rattle.register.specs.Talk.{checked_talk}
use Rattle.register.specs.Laws.{checked_after}
use Rattle.watch.specs.declared.Watch.{Watch}
use Rattle.watch.specs.Watch.{place_in, entry_in}
use Rattle.scrub.specs.Scrub.{Scrub}
use Rattle.scrub.specs.Step.{agrees, rewritten, scrub_start, step_of, outcome_of}
use Rattle.scrub.specs.Talk.{checked_by, scrub_call}

-- ---- words

-- agreement is that of each cared-for bit
abbrev pub AgreesBits : Type 0
AgreesBits =
    (word wanted care : ℕ) → (agrees word wanted care ≡ true) ↔ ((i : ℕ) → read (bit i) care ≡ 1 → read (bit i) word ≡ read (bit i) wanted)

-- a cared-for bit of the word that is written is the wanted one, any other the one that was read
abbrev pub RewrittenBits : Type 0
RewrittenBits =
    (word wanted care : ℕ) → care < 2 ^ 32 → (i : ℕ) → i < 32
    → read (bit i) (rewritten word wanted care) ≡ (if flag (bit i) care then read (bit i) wanted else read (bit i) word)

-- a step over a list, from a place on, after these answers
abbrev pub stepped : (place : ℕ) → List Watch → (rewrite : Bool) → List (Answer × List ℕ) → Scrub
stepped p ws rewrite xs = run step_of (scrub_start p ws rewrite) xs

-- ---- the checked reads

-- each is that of `checked_read`
abbrev pub ChecksAsRead : Type 0
ChecksAsRead = (address count left : ℕ) → checked_by address count left refused (λ w n. done (Outcome.Checked w n)) ≡ checked_talk address count left

-- what the report tells of the checked reads is what `checked_read` of the address gives for the answers to them, the mismatches
-- counted too: all the answers where there was no rewrite, otherwise those before the answer x to the WRITE, and those behind it, if any
abbrev pub Tells : Report → List (Answer × List ℕ) → Type 0
Tells (Report.Agree address first) xs = (w : ℕ) × (checked_after address xs ≡ Outcome.Checked w first)
Tells (Report.Differ address read wanted first Rewrite.None) xs = checked_after address xs ≡ Outcome.Checked read first
Tells (Report.Differ address read wanted first (Rewrite.Back w count)) xs =
    (vs ys : List (Answer × List ℕ)) × (x : Answer × List ℕ) × (xs ≡ vs ++ (x ∷ ys))
    × (checked_after address vs ≡ Outcome.Checked read first) × (checked_after address ys ≡ Outcome.Checked w count)
Tells (Report.Differ address read wanted first (Rewrite.Unread r)) xs =
    (vs ys : List (Answer × List ℕ)) × (x : Answer × List ℕ) × (xs ≡ vs ++ (x ∷ ys))
    × (checked_after address vs ≡ Outcome.Checked read first) × ((ys ≡ [] → ⊥) → checked_after address ys ≡ Outcome.Refused r)
Tells (Report.Unread address r) xs = checked_after address xs ≡ Outcome.Refused r

-- so tells every report, whatever the list, the place and the answers
abbrev pub TellsAsRead : Type 0
TellsAsRead =
    (p : ℕ) (ws : List Watch) (rewrite : Bool) (xs : List (Answer × List ℕ)) (r : Report)
    → outcome_of (stepped p ws rewrite xs) ≡ Outcome.Scrubbed r → Tells r xs

-- seven exchanges at most: three of the visit, the write, three of the read-back
abbrev pub Seven : Type 0
Seven = (p : ℕ) (ws : List Watch) (rewrite : Bool) → Within 7 (scrub_call p ws rewrite)

-- ---- the place

-- the address that a report is of
abbrev pub address_of : Report → ℕ
address_of (Report.Agree address first) = address
address_of (Report.Differ address word wanted first x) = address
address_of (Report.Unread address r) = address

-- a step that reports has visited the entry that was due, and moved on to the place behind it
abbrev pub Moves : Type 0
Moves =
    (p : ℕ) (ws : List Watch) (rewrite : Bool) (xs : List (Answer × List ℕ)) (r : Report)
    → outcome_of (stepped p ws rewrite xs) ≡ Outcome.Scrubbed r
    → ((stepped p ws rewrite xs).place ≡ place_in p (length ws) + 1) × ((stepped p ws rewrite xs).entry ≡ entry_in p ws)
    × (address_of r ≡ (entry_in p ws).address)

-- one that is not over has not moved
abbrev pub Waits : Type 0
Waits =
    (p : ℕ) (ws : List Watch) (rewrite : Bool) (xs : List (Answer × List ℕ))
    → outcome_of (stepped p ws rewrite xs) ≡ Outcome.Running → (stepped p ws rewrite xs).place ≡ p

-- nor has one that is refused before any exchange, whatever is answered then
abbrev pub Stays : Type 0
Stays =
    (p : ℕ) (ws : List Watch) (rewrite : Bool) (r : Refusal) → outcome_of (scrub_start p ws rewrite) ≡ Outcome.Refused r
    → (xs : List (Answer × List ℕ)) → (stepped p ws rewrite xs).place ≡ p

-- one that runs is never refused: whatever is answered it goes on or reports
abbrev pub NeverRefused : Type 0
NeverRefused = (s : Scrub) (a : Answer) (rx : List ℕ) (r : Refusal) → outcome_of s ≡ Outcome.Running → outcome_of (step_of s a rx) ≡ Outcome.Refused r → ⊥

-- successive steps over one list, each of which reports, from where the one before left the scrubber: the entries that they visited
pub data Steps (ws : List Watch) : ℕ → List Watch → Type 0 where
  none : (p : ℕ) → Steps ws p []
  step :
      (p : ℕ) (rewrite : Bool) (xs : List (Answer × List ℕ)) (r : Report) (vs : List Watch)
      → outcome_of (stepped p ws rewrite xs) ≡ Outcome.Scrubbed r → Steps ws (stepped p ws rewrite xs).place vs
      → Steps ws p ((stepped p ws rewrite xs).entry ∷ vs)

-- after n steps over a list of n each entry has been visited once: those from the place on, then those before it
abbrev pub Visits : Type 0
Visits =
    (ws : List Watch) (p : ℕ) (vs : List Watch) → Steps ws p vs → length vs ≡ length ws
    → (let q = place_in p (length ws) in vs ≡ drop q ws ++ take q ws)

pub record Laws : Type 0 where
  pub agrees_bits : AgreesBits
  pub rewritten_bits : RewrittenBits
  pub checks_as_read : ChecksAsRead
  pub tells_as_read : TellsAsRead
  pub seven : Seven
  pub moves : Moves
  pub waits : Waits
  pub stays : Stays
  pub never_refused : NeverRefused
  pub visits : Visits
