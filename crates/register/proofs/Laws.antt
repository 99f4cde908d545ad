-- Every law of a checked read is proved.
-- Assumes nothing.
use Prim.Native.Nat.{ℕ, ◌+◌, ◌^◌, ◌≤◌, ◌<◌}
use mathlib.Core.Path.{◌≡◌, refl, sym, ap, ◌∙◌}
use mathlib.Core.List.{List, [], ◌∷◌, ◌++◌}
use native.Mathlib.Omega.{arith}
use lib.Dec.{ltb}
use borrow.Author.Tests.{lt-ltb, ltb-true}
use Rattle.laws.proofs.Choice.{by_if}
use Rattle.spi.specs.declared.refusal.Refusal.{Refusal}
use Rattle.spi.specs.declared.ask.Answer.{Answer}
use Rattle.spi.specs.declared.reply.CheckedWord.{CheckedWord}
use Rattle.spi.specs.Talk.{run, on_checked}
use Rattle.call.specs.declared.Outcome.{Outcome}
use Rattle.register.specs.RegisterCall.{RegisterCall}
use Rattle.register.specs.Step.{addressed, after_mismatch, step_of, outcome_of}
use Rattle.register.specs.Laws.{heard, mismatches, checked_after, Given, ThirdRefused, OthersStop, Laws}

-- the answers by which a checked read, of which so many mismatched, gets its word: mismatches, then one that matches
pub data Heard (address w n : ℕ) : ℕ → List (Answer × List ℕ) → Type 0 where
  matched : (x : Answer × List ℕ) → heard address x ≡ CheckedWord.Word w → Heard address w n n (x ∷ [])
  again :
      (seen : ℕ) (x : Answer × List ℕ) (xs : List (Answer × List ℕ)) → heard address x ≡ CheckedWord.Mismatch → seen < 2
      → Heard address w n (seen + 1) xs → Heard address w n seen (x ∷ xs)

module _ (address w n : ℕ) where
  abbrev gives : RegisterCall → List (Answer × List ℕ) → Type 0
  gives s xs = outcome_of (run step_of s xs) ≡ Outcome.Checked w n

  -- what is refused gives no word later
  refused_gives : (r : Refusal) (xs : List (Answer × List ℕ)) → gives (RegisterCall.Refused r) xs → ⊥
  unfolding run step_of outcome_of
  refused_gives r [] h = cc
  refused_gives r (x ∷ xs) h = refused_gives Refusal.WrongAnswer xs h

  -- a word is given until the next answer
  matched_gives : (u seen : ℕ) (x : Answer × List ℕ) (xs : List (Answer × List ℕ)) → heard address x ≡ CheckedWord.Word u → gives (RegisterCall.Matched u seen) xs
      → Heard address w n seen (x ∷ xs)
  unfolding run step_of outcome_of
  matched_gives u seen x [] e h = let d : u ≡ w = cc in let c : seen ≡ n = cc in rw (c) (matched x (rw d at e))
  matched_gives u seen x (y ∷ xs) e h = absurd (refused_gives Refusal.WrongAnswer xs h)

  -- after one answer
  abbrev after : (seen : ℕ) → CheckedWord → RegisterCall
  after seen v = on_checked RegisterCall.Refused v (after_mismatch address seen) (λ u. RegisterCall.Matched u seen)

  heard_first : (seen : ℕ) (x : Answer × List ℕ) (xs : List (Answer × List ℕ)) → (gives (RegisterCall.Checked address (seen + 1)) xs → Heard address w n (seen + 1) xs)
      → (v : CheckedWord) → heard address x ≡ v → gives (after seen v) xs → Heard address w n seen (x ∷ xs)
  unfolding after_mismatch
  heard_first seen x xs later (CheckedWord.Word u) e h = matched_gives u seen x xs e h
  heard_first seen x xs later CheckedWord.Mismatch e h =
      by_if (λ (s : RegisterCall). gives s xs → Heard address w n seen (x ∷ xs)) (ltb seen 2)
      (λ l g. again seen x xs e (ltb-true seen 2 l) (later g)) (λ l g. absurd (refused_gives Refusal.CrcMismatch xs g)) h
  heard_first seen x xs later (CheckedWord.Bad r) e h = absurd (refused_gives r xs h)

  pub heard_so : (seen : ℕ) (xs : List (Answer × List ℕ)) → gives (RegisterCall.Checked address seen) xs → Heard address w n seen xs
  unfolding run step_of outcome_of
  heard_so seen [] h = cc
  heard_so seen (x ∷ xs) h = heard_first seen x xs (heard_so (seen + 1) xs) (heard address x) refl h

  -- what is heard so was counted, and ended with the word
  counts : (seen : ℕ) (xs : List (Answer × List ℕ)) → Heard address w n seen xs → n ≡ seen + mismatches address xs
  unfolding mismatches
  counts seen _ (matched x e) = rw e (omega arith)
  counts seen _ (again _ x xs e l g) = rw e (omega (arith, counts (seen + 1) xs g))

  few : (seen : ℕ) (xs : List (Answer × List ℕ)) → seen ≤ 2 → Heard address w n seen xs → n ≤ 2
  few seen _ l (matched x e) = l
  few seen _ l (again _ x xs e m g) = few (seen + 1) xs (omega arith) g

  some : {s : ℕ} {zs : List (Answer × List ℕ)} → Heard address w n s zs → zs ≡ [] → ⊥
  some (matched x e) q = cc
  some (again _ x xs e l g) q = cc

  last : (s : ℕ) (zs : List (Answer × List ℕ)) → Heard address w n s zs → (xs : List (Answer × List ℕ)) (x : Answer × List ℕ) → zs ≡ xs ++ (x ∷ [])
      → heard address x ≡ CheckedWord.Word w
  last s _ (matched y e) [] x q = let d : y ≡ x = cc in ap (heard address) (sym d) ∙ e
  last s _ (matched y e) (z ∷ []) x q = cc
  last s _ (matched y e) (z ∷ v ∷ zs) x q = cc
  last s _ (again _ y ys e l g) [] x q = absurd (some g cc)
  last s _ (again _ y ys e l g) (z ∷ zs) x q = last (s + 1) ys g zs x cc

  -- a checked read starts with none, or is refused
  pub from_start : (xs : List (Answer × List ℕ)) → checked_after address xs ≡ Outcome.Checked w n → Heard address w n 0 xs
  unfolding addressed
  from_start xs =
      by_if (λ (s : RegisterCall). gives s xs → Heard address w n 0 xs) (ltb address (2 ^ 12)) (λ l h. heard_so 0 xs h)
      (λ l h. absurd (refused_gives Refusal.BadSetting xs h))

given : Given
unfolding addressed run step_of outcome_of after_mismatch
given address l x y z w =
    let ok = lt-ltb address (2 ^ 12) l in
    (λ ex. rw (ok, ex), λ ex ey. rw (ok, ex, ey), λ ex ey ez. rw (ok, ex, ey, ez))

third_refused_lem : ThirdRefused
unfolding addressed run step_of outcome_of after_mismatch
third_refused_lem address l x y z ex ey ez = rw (lt-ltb address (2 ^ 12) l, ex, ey, ez)

others_stop_lem : OthersStop
unfolding step_of outcome_of
others_stop_lem address seen x r e = rw e

pub laws : Laws
laws = record {
  counted = λ address xs w n h. omega (arith, counts address w n 0 xs (from_start address w n xs h));
  at_most_two = λ address xs w n h. few address w n 0 xs (omega arith) (from_start address w n xs h);
  last_matches = λ address xs x w n h. last address w n 0 _ (from_start address w n (xs ++ (x ∷ [])) h) xs x refl;
  given = given;
  third_refused = third_refused_lem;
  others_stop = others_stop_lem;
}
