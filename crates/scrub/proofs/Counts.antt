-- What a report tells of its checked reads is what `checked_read` gives for the same answers.
-- Assumes nothing.
use Prim.Native.Nat.{ℕ, ◌+◌, ◌^◌, ◌<◌}
use mathlib.Core.Path.{◌≡◌, refl, sym, ap, subst, ◌∙◌}
use mathlib.Core.List.{List, [], ◌∷◌, ◌++◌, append_assoc, append-nil}
use lib.Dec.{ltb}
use lib.ListN.{length}
use borrow.Author.Tests.{lt-ltb}
use Rattle.std.specs.Prelude.{Bool, Result, Ok, Err}
use Rattle.laws.proofs.Choice.{by_if}
use Rattle.place.proofs.Laws.{short}
use Rattle.spi.specs.declared.refusal.Refusal.{Refusal}
use Rattle.spi.specs.declared.ask.Answer.{Answer}
use Rattle.spi.specs.declared.reply.CheckedWord.{CheckedWord}
use Rattle.spi.specs.Reply.{done_reply}
use Rattle.spi.specs.Talk.{run, on_checked}
use Rattle.spi.proofs.Talks.{by_done}
use Rattle.call.specs.declared.Rewrite.{Rewrite}
use Rattle.call.specs.declared.Report.{Report}
use Rattle.call.specs.declared.Outcome.{Outcome}
use Rattle.register.specs.RegisterCall.{RegisterCall}
use Rattle.register.specs.Step as register
use Rattle.register.specs.Laws.{heard, checked_after}
use Rattle.watch.specs.declared.Watch.{Watch}
use Rattle.watch.specs.declared.Begun.{Begun}
use Rattle.watch.specs.declared.TurnedDown.{TurnedDown}
use Rattle.watch.specs.Watch.{start_of}
use Rattle.watch.proofs.Laws as watch
use Rattle.scrub.specs.Scrub.{Scrub, ScrubAt}
use Rattle.scrub.specs.Step.{agrees, entry_of, begins, to, reports, differs, seen, unread, unwritten, step_at, step_of, outcome_at, outcome_of}
use Rattle.scrub.specs.Laws.{Tells, TellsAsRead}
use Rattle.scrub.proofs.Visits.{Late, late, late_told}

-- one answer more
run_on : {S : Type 0} (step : S → Answer → List ℕ → S) (s : S) (xs : List (Answer × List ℕ)) (x : Answer × List ℕ)
    → run step s (xs ++ (x ∷ [])) ≡ step (run step s xs) x.0 x.1
unfolding run
run_on step s [] x = refl
run_on step s (y ∷ xs) x = run_on step (step s y.0 y.1) xs x

module _ (w : Watch) (l : w.address < 2 ^ 12) where
  -- a checked read of the entry's address, after these answers
  abbrev reads : List (Answer × List ℕ) → RegisterCall
  reads xs = run register.step_of (register.checked_start w.address) xs

  starts : reads [] ≡ RegisterCall.Checked w.address 0
  unfolding register.addressed run
  starts = rw (lt-ltb w.address (2 ^ 12) l)

  reads_on : (count : ℕ) (xs : List (Answer × List ℕ)) (x : Answer × List ℕ) → reads xs ≡ RegisterCall.Checked w.address count
      → reads (xs ++ (x ∷ []))
      ≡ on_checked RegisterCall.Refused (heard w.address x) (register.after_mismatch w.address count) (λ v. RegisterCall.Matched v count)
  unfolding register.step_of
  reads_on count xs x e =
      run_on register.step_of (register.checked_start w.address) xs x ∙ ap (λ (s : RegisterCall). register.step_of s x.0 x.1) e

  -- what the answers so far have given, where a step stands
  abbrev Stands : ScrubAt → List (Answer × List ℕ) → Type 0
  Stands (ScrubAt.Visit count) xs = reads xs ≡ RegisterCall.Checked w.address count
  Stands (ScrubAt.Write read first) xs = reads xs ≡ RegisterCall.Matched read first
  Stands (ScrubAt.Back read first count) xs =
      (vs ys : List (Answer × List ℕ)) × (x : Answer × List ℕ) × (xs ≡ vs ++ (x ∷ ys)) × (reads vs ≡ RegisterCall.Matched read first)
      × (reads ys ≡ RegisterCall.Checked w.address count)
  Stands (ScrubAt.Told r) xs = Tells r xs
  Stands (ScrubAt.Refused r) xs = Unit {0}

  record Standing (s : Scrub) (xs : List (Answer × List ℕ)) : Type 0 where
    pub entry : s.entry ≡ w
    pub at : Stands s.at xs

  module _ (s : Scrub) (is : s.entry ≡ w) where
    -- an answer to a checked read: the word, another try, the last mismatch, another refusal
    by_heard : (count : ℕ) (vs xs : List (Answer × List ℕ)) (x : Answer × List ℕ) (bad : Refusal → Scrub) (retry : ℕ → Scrub) (k : ℕ → Scrub)
        → reads vs ≡ RegisterCall.Checked w.address count
        → ((r : Refusal) → reads (vs ++ (x ∷ [])) ≡ RegisterCall.Refused r → Standing (bad r) xs)
        → ((c : ℕ) → reads (vs ++ (x ∷ [])) ≡ RegisterCall.Checked w.address c → Standing (retry c) xs)
        → ((v : ℕ) → reads (vs ++ (x ∷ [])) ≡ RegisterCall.Matched v count → Standing (k v) xs)
        → Standing (on_checked bad (heard s.entry.address x) (register.again count bad retry) k) xs
    unfolding register.after_mismatch
    by_heard count vs xs x bad retry k e lost tried good = go (heard s.entry.address x) (rw is (reads_on count vs x e))
      where
        go : (h : CheckedWord)
            → reads (vs ++ (x ∷ [])) ≡ on_checked RegisterCall.Refused h (register.after_mismatch w.address count) (λ v. RegisterCall.Matched v count)
            → Standing (on_checked bad h (register.again count bad retry) k) xs
        go (CheckedWord.Word v) q = good v q
        go (CheckedWord.Bad r) q = lost r q
        go CheckedWord.Mismatch q =
            by_if (λ (z : Scrub). Standing z xs) (ltb count 2) (λ t. tried (count + 1) (rw t at q)) (λ t. lost Refusal.CrcMismatch (rw t at q))

    -- at an end: what the report tells
    ends : (r : Report) (xs : List (Answer × List ℕ)) → Tells r xs → Standing (reports s r) xs
    ends r xs t = record { entry = is; at = t }

    on : (at : ScrubAt) (xs : List (Answer × List ℕ)) → Stands at xs → Standing (to s at) xs
    on at xs t = record { entry = is; at = t }

    outcome : (vs : List (Answer × List ℕ)) (c : RegisterCall) → reads vs ≡ c → checked_after s.entry.address vs ≡ register.outcome_of c
    outcome vs c e = rw is (ap register.outcome_of e)

    -- the visit's word
    sees : (v count : ℕ) (xs : List (Answer × List ℕ)) → reads xs ≡ RegisterCall.Matched v count → Standing (seen s v count) xs
    unfolding register.outcome_of
    sees v count xs e =
        by_if (λ (z : Scrub). Standing z xs) (agrees v s.entry.wanted s.entry.care) (λ t. ends _ xs (v, outcome xs _ e))
        (λ t. by_if (λ (z : Scrub). Standing z xs) s.rewrite (λ u. on (ScrubAt.Write v count) xs e) (λ u. ends _ xs (outcome xs _ e)))

    stands_on : (at : ScrubAt) (xs : List (Answer × List ℕ)) (x : Answer × List ℕ) → Stands at xs → Standing (step_at at s x.0 x.1) (xs ++ (x ∷ []))
    unfolding register.outcome_of
    stands_on (ScrubAt.Visit count) xs x e =
        by_heard count xs (xs ++ (x ∷ [])) x (unread s) (λ k. to s (ScrubAt.Visit k)) (λ v. seen s v count) e
        (λ r q. ends _ _ (outcome _ _ q)) (λ c q. on (ScrubAt.Visit c) _ q) (λ v q. sees v count _ q)
    stands_on (ScrubAt.Write read first) xs x e =
        by_done (λ (z : Scrub). Standing z (xs ++ (x ∷ []))) (λ r. ends _ _ (xs, [], x, refl, outcome xs _ e, λ n. absurd (n refl))) (done_reply Refusal.SpiRead x.0 (length x.1) 0)
        (on (ScrubAt.Back read first 0) _ (xs, [], x, refl, e, starts))
    stands_on (ScrubAt.Back read first count) xs x (vs, ys, y, all, e, f) =
        let more : xs ++ (x ∷ []) ≡ vs ++ (y ∷ (ys ++ (x ∷ []))) = ap (λ (zs : List (Answer × List ℕ)). zs ++ (x ∷ [])) all ∙ append_assoc vs (y ∷ ys) (x ∷ []) in
        by_heard count ys (xs ++ (x ∷ [])) x (unwritten s read first) (λ k. to s (ScrubAt.Back read first k))
        (λ v. reports s (differs s.entry read first (Rewrite.Back v count))) f
        (λ r q. ends _ _ (vs, ys ++ (x ∷ []), y, more, outcome vs _ e, λ n. outcome _ _ q))
        (λ c q. on (ScrubAt.Back read first c) _ (vs, ys ++ (x ∷ []), y, more, e, q))
        (λ v q. ends _ _ (vs, ys ++ (x ∷ []), y, more, outcome vs _ e, outcome _ _ q))
    stands_on (ScrubAt.Told r) xs x e = on (ScrubAt.Refused Refusal.WrongAnswer) _ tt
    stands_on (ScrubAt.Refused r) xs x e = on (ScrubAt.Refused Refusal.WrongAnswer) _ tt

  goes_on_lem : (s : Scrub) (xs ys : List (Answer × List ℕ)) → Standing s xs → Standing (run step_of s ys) (xs ++ ys)
  unfolding run step_of
  goes_on_lem s xs [] g = rw (append-nil xs) g
  goes_on_lem s xs (y ∷ ys) g =
      rw (append_assoc xs (y ∷ []) ys) at (goes_on_lem (step_at s.at s y.0 y.1) (xs ++ (y ∷ [])) ys (stands_on s g.entry s.at xs y g.at))

  told : (at : ScrubAt) (xs : List (Answer × List ℕ)) (r : Report) → outcome_at at ≡ Outcome.Scrubbed r → Stands at xs → Tells r xs
  told (ScrubAt.Visit count) xs r e t = cc
  told (ScrubAt.Write read first) xs r e t = cc
  told (ScrubAt.Back read first count) xs r e t = cc
  told (ScrubAt.Told o) xs r e t = let z : o ≡ r = cc in subst (λ (q : Report). Tells q xs) z t
  told (ScrubAt.Refused o) xs r e t = cc

  -- a step that stands at its visit tells so, whatever it reports
  pub tells_so : (s : Scrub) (xs : List (Answer × List ℕ)) (r : Report) → s.entry ≡ w → s.at ≡ ScrubAt.Visit 0 → outcome_of (run step_of s xs) ≡ Outcome.Scrubbed r
      → Tells r xs
  unfolding outcome_of
  tells_so s xs r is e h =
      let g : Standing (run step_of s xs) xs = goes_on_lem s [] xs (record { entry = is; at = subst (λ (a : ScrubAt). Stands a []) (sym e) starts }) in
      told (run step_of s xs).at xs r h g.at

-- as it was begun
tells_begun : (p : ℕ) (ws : List Watch) (rewrite : Bool) (xs : List (Answer × List ℕ)) (r : Report) (b : Result Begun TurnedDown) → start_of p ws ≡ b
    → outcome_of (run step_of (begins b rewrite) xs) ≡ Outcome.Scrubbed r → Tells r xs
unfolding begins
tells_begun p ws rewrite xs r (Ok b) e h = tells_so (entry_of b) (short _ ((watch.laws).due_carried p ws b e)) (begins (Ok b) rewrite) xs r refl refl h
tells_begun p ws rewrite xs r (Err t) e h =
    let l : Late t.place (run step_of (begins (Err t) rewrite) xs) = late t.place (begins (Err t) rewrite) (record { place = refl; why = t.why; at = refl }) xs in
    absurd (late_told (run step_of (begins (Err t) rewrite) xs) r l.why l.at h)

pub tells_as_read_lem : TellsAsRead
tells_as_read_lem p ws rewrite xs r h = tells_begun p ws rewrite xs r (start_of p ws) refl h
