-- What is proved of a checked read, as statements. Document 02, request 5.
-- Assumes nothing.
use Rattle.std.specs.Prelude.{ℕ, ◌+◌, ◌^◌, ◌≤◌, ◌<◌, ◌≡◌, Bool, true, false, List, [], ◌∷◌, ◌++◌}
use Rattle.field.specs.Field.{digit}
use Rattle.spi.specs.declared.refusal.Refusal.{Refusal}
use Rattle.spi.specs.declared.ask.Answer.{Answer}
use Rattle.spi.specs.declared.reply.CheckedWord.{CheckedWord}
use Rattle.spi.specs.Reply.{crc_reply}
use Rattle.spi.specs.Talk.{run}
use Rattle.call.specs.declared.Outcome.{Outcome}
use Rattle.register.specs.RegisterCall.{RegisterCall}
use Rattle.register.specs.Step.{checked_start, step_of, outcome_of}

-- what an answer to a checked read of the address says
abbrev pub heard : (address : ℕ) → Answer × List ℕ → CheckedWord
heard address x = crc_reply Refusal.SpiRead address x.0 x.1

-- it is of six bytes and does not match
abbrev pub is_mismatch : CheckedWord → Bool
is_mismatch (CheckedWord.Word w) = false
is_mismatch CheckedWord.Mismatch = true
is_mismatch (CheckedWord.Bad r) = false

-- how many of the answers do not match
unfoldable pub mismatches : (address : ℕ) → List (Answer × List ℕ) → ℕ
mismatches address [] = 0
mismatches address (x ∷ xs) = digit (is_mismatch (heard address x)) + mismatches address xs

-- how a checked read stands after these answers
abbrev pub checked_after : (address : ℕ) → List (Answer × List ℕ) → Outcome
checked_after address xs = outcome_of (run step_of (checked_start address) xs)

-- the number that a checked read gives is that of the mismatches in the answers given
abbrev pub Counted : Type 0
Counted = (address : ℕ) (xs : List (Answer × List ℕ)) (w n : ℕ) → checked_after address xs ≡ Outcome.Checked w n → n ≡ mismatches address xs

-- it is 0, 1 or 2
abbrev pub AtMostTwo : Type 0
AtMostTwo = (address : ℕ) (xs : List (Answer × List ℕ)) (w n : ℕ) → checked_after address xs ≡ Outcome.Checked w n → n ≤ 2

-- the last answer matched, and the word is its: the mismatches were before it, and none is shown as a word
abbrev pub LastMatches : Type 0
LastMatches =
    (address : ℕ) (xs : List (Answer × List ℕ)) (x : Answer × List ℕ) (w n : ℕ) → checked_after address (xs ++ (x ∷ [])) ≡ Outcome.Checked w n
    → heard address x ≡ CheckedWord.Word w

-- behind none, one or two answers that do not match, one that does gives its word, and their number
abbrev pub Given : Type 0
Given =
    (address : ℕ) → address < 2 ^ 12 → (x y z : Answer × List ℕ) (w : ℕ)
    → (heard address x ≡ CheckedWord.Word w → checked_after address (x ∷ []) ≡ Outcome.Checked w 0)
    × (heard address x ≡ CheckedWord.Mismatch → heard address y ≡ CheckedWord.Word w → checked_after address (x ∷ y ∷ []) ≡ Outcome.Checked w 1)
    × (heard address x ≡ CheckedWord.Mismatch → heard address y ≡ CheckedWord.Mismatch → heard address z ≡ CheckedWord.Word w
    → checked_after address (x ∷ y ∷ z ∷ []) ≡ Outcome.Checked w 2)

-- the third mismatch answers 10
abbrev pub ThirdRefused : Type 0
ThirdRefused =
    (address : ℕ) → address < 2 ^ 12 → (x y z : Answer × List ℕ)
    → heard address x ≡ CheckedWord.Mismatch → heard address y ≡ CheckedWord.Mismatch → heard address z ≡ CheckedWord.Mismatch
    → checked_after address (x ∷ y ∷ z ∷ []) ≡ Outcome.Refused Refusal.CrcMismatch

-- any other failure stops at once, after any number of mismatches, and none is told
abbrev pub OthersStop : Type 0
OthersStop =
    (address seen : ℕ) (x : Answer × List ℕ) (r : Refusal) → heard address x ≡ CheckedWord.Bad r
    → outcome_of (step_of (RegisterCall.Checked address seen) x.0 x.1) ≡ Outcome.Refused r

pub record Laws : Type 0 where
  pub counted : Counted
  pub at_most_two : AtMostTwo
  pub last_matches : LastMatches
  pub given : Given
  pub third_refused : ThirdRefused
  pub others_stop : OthersStop
