-- A scrub step follows its talk, and ends within seven exchanges.
-- Assumes nothing.
use Prim.Native.Nat.{ℕ, zero, suc, ◌+◌, ◌-◌, ◌<◌}
use mathlib.Core.Path.{◌≡◌, refl, ap, ◌∙◌}
use mathlib.Core.Bool.{Bool, not}
use mathlib.Core.List.{List}
use native.Mathlib.Omega.{arith}
use lib.ListN.{length}
use lib.Dec.{eqb}
use borrow.Author.Tests.{le-ltb}
use Rattle.std.specs.Prelude.{if◌then◌else◌, Result}
use Rattle.spi.specs.declared.refusal.Refusal.{Refusal}
use Rattle.spi.specs.declared.ask.Ask.{Ask}
use Rattle.spi.specs.declared.ask.Answer.{Answer}
use Rattle.spi.specs.Reply.{done_reply, crc_reply}
use Rattle.spi.specs.Talk.{Talk, refused, asks, answered, run, Within, Follows, on_checked}
use Rattle.spi.proofs.Talks.{if_ap, on_done_lem, on_checked_lem, by_done, by_checked, runs, more, ask_within, if_within}
use Rattle.call.specs.declared.Rewrite.{Rewrite}
use Rattle.call.specs.declared.Report.{Report}
use Rattle.call.specs.declared.Outcome.{Outcome}
use Rattle.call.specs.Outcome.{ended}
use Rattle.register.specs.Step.{again}
use Rattle.watch.specs.declared.Watch.{Watch}
use Rattle.watch.specs.declared.Begun.{Begun}
use Rattle.watch.specs.declared.TurnedDown.{TurnedDown}
use Rattle.watch.specs.Watch.{all_carried, entry_in, start_of}
use Rattle.scrub.specs.Scrub.{Scrub, ScrubAt}
use Rattle.scrub.specs.Step.{agrees, begins, scrub_start, to, reports, differs, seen, unread, unwritten, step_at, step_of, ask_of, outcome_of}
use Rattle.scrub.specs.Talk.{checked_by, told, back_talk, rewrite_talk, seen_talk, visit_talk, scrub_call, talk_of}
use Rattle.scrub.specs.Laws.{Seven}

-- ---- steps

-- a checked read: its word, its refusal, and after a mismatch another try go on as the talk does
module _ (address : ℕ) (bad : Refusal → Scrub) (bad' : Refusal → Talk Outcome) (k : ℕ → ℕ → Scrub) (k' : ℕ → ℕ → Talk Outcome) (retry : ℕ → Scrub)
    (lost : (r : Refusal) → talk_of (bad r) ≡ bad' r) (good : (w n : ℕ) → talk_of (k w n) ≡ k' w n)
    (tried : (count : ℕ) → talk_of (retry count) ≡ checked_by address count (2 - count) bad' k') where
  checked : (count : ℕ) (a : Answer) (rx : List ℕ)
      → talk_of (on_checked bad (crc_reply Refusal.SpiRead address a rx) (again count bad retry) (λ w. k w count))
      ≡ answered (checked_by address count (2 - count) bad' k') a rx
  unfolding checked_by answered
  checked zero a rx = on_checked_lem talk_of bad bad' lost (crc_reply Refusal.SpiRead address a rx) _ _ _ _ (tried 1) (λ w. good w 0)
  checked (suc zero) a rx = on_checked_lem talk_of bad bad' lost (crc_reply Refusal.SpiRead address a rx) _ _ _ _ (tried 2) (λ w. good w 1)
  checked (suc (suc n)) a rx =
      let e : 2 - suc (suc n) ≡ 0 = omega arith in
      let h : talk_of (again (suc (suc n)) bad retry) ≡ bad' Refusal.CrcMismatch = rw (le-ltb (suc (suc n)) 2 (omega arith)) (lost Refusal.CrcMismatch) in
      rw e (on_checked_lem talk_of bad bad' lost (crc_reply Refusal.SpiRead address a rx) _ _ _ _ h (λ w. good w (suc (suc n))))

seen_talk_lem : (s : Scrub) (w n : ℕ) → talk_of (seen s w n) ≡ seen_talk s.entry s.rewrite w n
seen_talk_lem s w n =
    if_ap talk_of (agrees w s.entry.wanted s.entry.care) _ _
    ∙ ap (λ (t : Talk Outcome). if agrees w s.entry.wanted s.entry.care then told (Report.Agree s.entry.address n) else t)
    (if_ap talk_of s.rewrite _ _)

step_talk : (at : ScrubAt) (s : Scrub) (a : Answer) (rx : List ℕ) → talk_of (step_at at s a rx) ≡ answered (talk_of (to s at)) a rx
unfolding answered
step_talk (ScrubAt.Visit count) s a rx =
    checked s.entry.address (unread s) (λ r. told (Report.Unread s.entry.address r)) (seen s) (seen_talk s.entry s.rewrite)
    (λ k. to s (ScrubAt.Visit k)) (λ r. refl) (seen_talk_lem s) (λ k. refl) count a rx
step_talk (ScrubAt.Write read first) s a rx =
    on_done_lem talk_of (unwritten s read first) (λ r. told (differs s.entry read first (Rewrite.Unread r))) (λ r. refl) (done_reply Refusal.SpiRead a (length rx) 0) _ _
    refl
step_talk (ScrubAt.Back read first count) s a rx =
    checked s.entry.address (unwritten s read first) (λ r. told (differs s.entry read first (Rewrite.Unread r)))
    (λ w n. reports s (differs s.entry read first (Rewrite.Back w n))) (λ w n. told (differs s.entry read first (Rewrite.Back w n)))
    (λ k. to s (ScrubAt.Back read first k)) (λ r. refl) (λ w n. refl) (λ k. refl) count a rx
step_talk (ScrubAt.Told r) s a rx = refl
step_talk (ScrubAt.Refused r) s a rx = refl

stepped : (s : Scrub) (a : Answer) (rx : List ℕ) → talk_of (step_of s a rx) ≡ answered (talk_of s) a rx
unfolding step_of
stepped s a rx = step_talk s.at s a rx

-- what is asked, and how the step ended
checked_asks : (address count left : ℕ) (bad : Refusal → Talk Outcome) (k : ℕ → ℕ → Talk Outcome)
    → (Ask.Checked address ≡ asks (checked_by address count left bad k)) × (Outcome.Running ≡ ended (λ x. x) (checked_by address count left bad k))
unfolding checked_by
checked_asks address count zero bad k = (refl, refl)
checked_asks address count (suc left) bad k = (refl, refl)

shown_at_lem : (at : ScrubAt) (s : Scrub) → (ask_of (to s at) ≡ asks (talk_of (to s at))) × (outcome_of (to s at) ≡ ended (λ x. x) (talk_of (to s at)))
unfolding ask_of outcome_of
shown_at_lem (ScrubAt.Visit count) s = checked_asks s.entry.address count (2 - count) _ _
shown_at_lem (ScrubAt.Write read first) s = (refl, refl)
shown_at_lem (ScrubAt.Back read first count) s = checked_asks s.entry.address count (2 - count) _ _
shown_at_lem (ScrubAt.Told r) s = (refl, refl)
shown_at_lem (ScrubAt.Refused r) s = (refl, refl)

pub follows : Follows step_of ask_of talk_of
follows = record { stepped = stepped; asked = λ s. (shown_at_lem s.at s).0 }

pub run_talk : (s : Scrub) (xs : List (Answer × List ℕ)) → talk_of (run step_of s xs) ≡ run answered (talk_of s) xs
run_talk = runs step_of ask_of talk_of follows

pub outcome_talk : (s : Scrub) → outcome_of s ≡ ended (λ x. x) (talk_of s)
outcome_talk s = (shown_at_lem s.at s).1

-- ---- the start

pub scrub_start_talk : (p : ℕ) (ws : List Watch) (rewrite : Bool) → talk_of (scrub_start p ws rewrite) ≡ scrub_call p ws rewrite
unfolding scrub_call start_of begins
scrub_start_talk p ws rewrite =
    if_ap (λ (b : Result Begun TurnedDown). talk_of (begins b rewrite)) (eqb (length ws) 0) _ _
    ∙ ap (λ (t : Talk Outcome). if eqb (length ws) 0 then refused Refusal.EmptyList else t)
    (if_ap (λ (b : Result Begun TurnedDown). talk_of (begins b rewrite)) (not (all_carried ws)) _ _)

-- ---- how many exchanges

-- one try more than mismatches that are followed by another, and what comes behind
module _ (n address : ℕ) (bad : Refusal → Talk Outcome) (k : ℕ → ℕ → Talk Outcome) (lost : (r : Refusal) → Within n (bad r))
    (good : (w c : ℕ) → Within n (k w c)) where
  tries : (count left m : ℕ) → left + n < m → Within m (checked_by address count left bad k)
  unfolding checked_by
  tries count zero m l =
      ask_within n m (Ask.Checked address) _ (omega arith)
      (λ a rx. by_checked (λ (t : Talk Outcome). Within n t) lost (crc_reply Refusal.SpiRead address a rx) (lost Refusal.CrcMismatch) (λ w. good w count))
  tries count (suc left) m l =
      let j : ℕ = left + n + 1 in
      ask_within j m (Ask.Checked address) _ (omega arith)
      (λ a rx.
      by_checked (λ (t : Talk Outcome). Within j t) (λ r. more n j (bad r) (omega arith) (lost r)) (crc_reply Refusal.SpiRead address a rx)
      (tries (count + 1) left j (omega arith)) (λ w. more n j (k w count) (omega arith) (good w count)))

back_within : (w : Watch) (read first : ℕ) → Within 3 (back_talk w read first 0 2)
back_within w read first = tries 0 w.address _ _ (λ r. tt) (λ x n. tt) 0 2 3 (omega arith)

rewrite_within : (w : Watch) (read first : ℕ) → Within 4 (rewrite_talk w read first)
rewrite_within w read first = λ a rx. by_done (λ (t : Talk Outcome). Within 3 t) (λ r. tt) (done_reply Refusal.SpiRead a (length rx) 0) (back_within w read first)

visit_within : (w : Watch) (rewrite : Bool) → Within 7 (visit_talk w rewrite 0 2)
visit_within w rewrite =
    tries 4 w.address _ (seen_talk w rewrite) (λ r. tt)
    (λ read first.
    if_within 4 (agrees read w.wanted w.care) _ _ tt (if_within 4 rewrite (rewrite_talk w read first) _ (rewrite_within w read first) tt))
    0 2 7 (omega arith)

pub seven : Seven
unfolding scrub_call
seven p ws rewrite =
    if_within 7 (eqb (length ws) 0) _ _ tt
    (if_within 7 (not (all_carried ws)) _ _ tt (visit_within (entry_in p ws) rewrite))
