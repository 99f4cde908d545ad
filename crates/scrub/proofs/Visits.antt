-- Where a scrubber goes: a step that reports moves it on, no other does, and n steps over a list of n visit each entry once.
-- Assumes nothing.
use Prim.Native.Nat.{ℕ, zero, suc, ◌+◌, ◌-◌, ◌≤◌, ◌<◌}
use mathlib.Core.Path.{◌≡◌, refl, sym, ap, ap₂, ◌∙◌}
use mathlib.Core.Bool.{Bool, not}
use mathlib.Core.List.{List, [], ◌∷◌, ◌++◌, append-nil}
use native.Mathlib.Numerals.{add-one}
use native.Mathlib.Omega.{arith}
use lib.ListN.{length, get_or, take, drop, length-drop}
use lib.Dec.{eqb, ltb}
use lib.Seq.{drop-cons, take_all}
use borrow.Author.Tests.{lt-ltb, le-ltb, ltb-true}
use Rattle.std.specs.Prelude.{Result}
use Rattle.laws.proofs.Choice.{by_if}
use Rattle.spi.specs.declared.refusal.Refusal.{Refusal}
use Rattle.spi.specs.declared.ask.Answer.{Answer}
use Rattle.spi.specs.Reply.{done_reply, crc_reply}
use Rattle.spi.specs.Talk.{run}
use Rattle.spi.proofs.Talks.{by_done, by_checked}
use Rattle.call.specs.declared.Report.{Report}
use Rattle.call.specs.declared.Outcome.{Outcome}
use Rattle.watch.specs.declared.Watch.{Watch}
use Rattle.watch.specs.declared.Begun.{Begun}
use Rattle.watch.specs.declared.TurnedDown.{TurnedDown}
use Rattle.watch.specs.Watch.{blank, all_carried, place_in, entry_in, start_of}
use Rattle.scrub.specs.Scrub.{Scrub, ScrubAt}
use Rattle.scrub.specs.Step.{agrees, begins, scrub_start, to, reports, step_at, step_of, outcome_at, outcome_of}
use Rattle.scrub.specs.Laws.{stepped, address_of, Moves, Waits, Stays, NeverRefused, Steps, none, step, Visits}

-- ---- one step

-- an answer to a step that runs: it reports of its entry, or runs on
by_step : (P : Scrub → Type 0) (at : ScrubAt) (s : Scrub) (a : Answer) (rx : List ℕ) → outcome_at at ≡ Outcome.Running
    → ((r : Report) → address_of r ≡ s.entry.address → P (reports s r)) → ((k : ScrubAt) → outcome_at k ≡ Outcome.Running → P (to s k)) → P (step_at at s a rx)
by_step P (ScrubAt.Visit count) s a rx e f g =
    by_checked P (λ r. f _ refl) (crc_reply Refusal.SpiRead s.entry.address a rx) (by_if P (ltb count 2) (λ z. g _ refl) (λ z. f _ refl))
    (λ w. by_if P (agrees w s.entry.wanted s.entry.care) (λ z. f _ refl) (λ z. by_if P s.rewrite (λ y. g _ refl) (λ y. f _ refl)))
by_step P (ScrubAt.Write read first) s a rx e f g = by_done P (λ r. f _ refl) (done_reply Refusal.SpiRead a (length rx) 0) (g _ refl)
by_step P (ScrubAt.Back read first count) s a rx e f g =
    by_checked P (λ r. f _ refl) (crc_reply Refusal.SpiRead s.entry.address a rx) (by_if P (ltb count 2) (λ z. g _ refl) (λ z. f _ refl)) (λ w. f _ refl)
by_step P (ScrubAt.Told r) s a rx e f g = cc
by_step P (ScrubAt.Refused r) s a rx e f g = cc

pub never_refused_lem : NeverRefused
unfolding step_of outcome_of
never_refused_lem s a rx r e =
    by_step (λ x. outcome_at x.at ≡ Outcome.Refused r → ⊥) s.at s a rx e (λ o q h. cc) (λ k q h. cc)

-- a visit from place p of the entry w, behind which lies q: while it runs it is there still, and where it reported it has moved on
pub record Going (p q : ℕ) (w : Watch) (s : Scrub) : Type 0 where
  pub behind : s.next ≡ q
  pub entry : s.entry ≡ w
  pub waits : outcome_at s.at ≡ Outcome.Running → s.place ≡ p
  pub tells : (r : Report) → outcome_at s.at ≡ Outcome.Scrubbed r → (s.place ≡ q) × (address_of r ≡ w.address)

module _ (p q : ℕ) (w : Watch) where
  -- after the end nothing is reported
  ended : (s : Scrub) → Going p q w s → Going p q w (to s (ScrubAt.Refused Refusal.WrongAnswer))
  ended s g = record { behind = g.behind; entry = g.entry; waits = λ e. cc; tells = λ r e. cc }

  runs : (at : ScrubAt) (s : Scrub) (a : Answer) (rx : List ℕ) → outcome_at at ≡ Outcome.Running → s.place ≡ p → Going p q w s → Going p q w (step_at at s a rx)
  runs at s a rx e here g =
      by_step (Going p q w) at s a rx e
      (λ r is.
      record {
        behind = g.behind;
        entry = g.entry;
        waits = λ h. cc;
        tells = λ o h. let z : r ≡ o = cc in (g.behind, ap address_of (sym z) ∙ is ∙ ap (λ (x : Watch). x.address) g.entry);
      })
      (λ k is. record { behind = g.behind; entry = g.entry; waits = λ h. here; tells = λ o h. cc })

  goes_at : (at : ScrubAt) (s : Scrub) (a : Answer) (rx : List ℕ) → s.at ≡ at → Going p q w s → Going p q w (step_at at s a rx)
  goes_at (ScrubAt.Told r) s a rx is g = ended s g
  goes_at (ScrubAt.Refused r) s a rx is g = ended s g
  goes_at (ScrubAt.Visit count) s a rx is g = runs (ScrubAt.Visit count) s a rx refl (g.waits (ap outcome_at is)) g
  goes_at (ScrubAt.Write read first) s a rx is g = runs (ScrubAt.Write read first) s a rx refl (g.waits (ap outcome_at is)) g
  goes_at (ScrubAt.Back read first count) s a rx is g = runs (ScrubAt.Back read first count) s a rx refl (g.waits (ap outcome_at is)) g

  goes : (s : Scrub) (xs : List (Answer × List ℕ)) → Going p q w s → Going p q w (run step_of s xs)
  unfolding run step_of
  goes s [] g = g
  goes s (x ∷ xs) g = goes (step_at s.at s x.0 x.1) xs (goes_at s.at s x.0 x.1 refl g)

-- refused before any exchange: it stays there
pub record Late (p : ℕ) (s : Scrub) : Type 0 where
  pub place : s.place ≡ p
  pub why : Refusal
  pub at : s.at ≡ ScrubAt.Refused why

pub late : (p : ℕ) (s : Scrub) → Late p s → (xs : List (Answer × List ℕ)) → Late p (run step_of s xs)
unfolding run step_of
late p s g [] = g
late p s g (x ∷ xs) = rw g.at (late p (to s (ScrubAt.Refused Refusal.WrongAnswer)) (record { place = g.place; why = Refusal.WrongAnswer; at = refl }) xs)

-- ---- the start

module _ (p : ℕ) (ws : List Watch) (rewrite : Bool) where
  abbrev q : ℕ
  q = place_in p (length ws) + 1

  -- it is refused, or visits the entry that is due
  by_start : (Q : Scrub → Type 0) → ((s : Scrub) → Late p s → Q s) → ((s : Scrub) → Going p q (entry_in p ws) s → s.at ≡ ScrubAt.Visit 0 → Q s) → Q (scrub_start p ws rewrite)
  unfolding start_of begins
  by_start Q f g =
      by_if (λ (b : Result Begun TurnedDown). Q (begins b rewrite)) (eqb (length ws) 0) (λ e. f _ (record { place = refl; why = Refusal.EmptyList; at = refl }))
      (λ e.
      by_if (λ (b : Result Begun TurnedDown). Q (begins b rewrite)) (not (all_carried ws)) (λ h. f _ (record { place = refl; why = Refusal.NotCarried; at = refl }))
      (λ h. g _ (record { behind = refl; entry = refl; waits = λ e. refl; tells = λ r e. cc }) refl))

  -- after any answers
  by_run : (xs : List (Answer × List ℕ)) (Q : Scrub → Type 0) → ((s : Scrub) → Late p s → Q s) → ((s : Scrub) → Going p q (entry_in p ws) s → Q s) → Q (stepped p ws rewrite xs)
  by_run xs Q f g = by_start (λ s. Q (run step_of s xs)) (λ s l. f _ (late p s l xs)) (λ s l e. g _ (goes p q (entry_in p ws) s xs l))

pub late_told : (s : Scrub) (r : Report) (w : Refusal) → s.at ≡ ScrubAt.Refused w → outcome_of s ≡ Outcome.Scrubbed r → ⊥
unfolding outcome_of
late_told s r w e h = let k : Outcome.Refused w ≡ Outcome.Scrubbed r = ap outcome_at (sym e) ∙ h in cc

pub moves : Moves
unfolding outcome_of
moves p ws rewrite xs r =
    by_run p ws rewrite xs
    (λ s. outcome_of s ≡ Outcome.Scrubbed r → (s.place ≡ place_in p (length ws) + 1) × (s.entry ≡ entry_in p ws) × (address_of r ≡ (entry_in p ws).address))
    (λ s l h. absurd (late_told s r l.why l.at h))
    (λ s g h. let (at, of) = g.tells r h in (at, g.entry, of))

pub waits : Waits
unfolding outcome_of
waits p ws rewrite xs =
    by_run p ws rewrite xs (λ s. outcome_of s ≡ Outcome.Running → s.place ≡ p) (λ s l h. l.place) (λ s g h. g.waits h)

pub stays : Stays
unfolding outcome_of
stays p ws rewrite r =
    by_start p ws rewrite (λ s. outcome_of s ≡ Outcome.Refused r → (xs : List (Answer × List ℕ)) → (run step_of s xs).place ≡ p)
    (λ s l h xs. (late p s l xs).place)
    (λ s g e h xs. let k : Outcome.Running ≡ Outcome.Refused r = ap outcome_at (sym e) ∙ h in cc)

-- ---- n steps over a list of n

module _ (ws : List Watch) where
  abbrev n : ℕ
  n = length ws

  -- the entries that k steps visit
  visited : (k p : ℕ) → List Watch
  visited zero p = []
  visited (suc k) p = entry_in p ws ∷ visited k (place_in p n + 1)

  as_visited : (p : ℕ) (vs : List Watch) → Steps ws p vs → vs ≡ visited (length vs) p
  unfolding visited
  as_visited p _ (none _) = refl
  as_visited p _ (step _ rewrite xs r vs e later) =
      let (at, is, of) = moves p ws rewrite xs r e in
      ap₂ (λ (x : Watch) (ys : List Watch). x ∷ ys) is (as_visited _ vs later ∙ ap (visited (length vs)) at)

  in_place : (p : ℕ) → p < n → place_in p n ≡ p
  in_place p l = rw (lt-ltb p n l)

  -- from a place on, within the list
  onwards : (j p k m : ℕ) → k ≡ j + m → p + j ≤ n → visited k p ≡ take j (drop p ws) ++ visited m (p + j)
  unfolding visited
  onwards zero p k m e l = let h : p + 0 ≡ p = omega arith in let g : k ≡ m = omega (arith, e) in rw (h, g)
  onwards (suc j) p zero m e l = absurd (omega (arith, e))
  onwards (suc j) p (suc k) m e l =
      let here : p < n = omega (arith, l) in
      let h : p + suc j ≡ p + 1 + j = omega arith in
      let ih = onwards j (p + 1) k m (omega (arith, e)) (omega (arith, l)) in
      rw (in_place p here, drop-cons ws p blank here, ← add-one p, h) (ap (λ (ys : List Watch). get_or ws p blank ∷ ys) ih)

  -- a place beyond the end is the first
  same_place : (k p p' : ℕ) → place_in p n ≡ place_in p' n → visited k p ≡ visited k p'
  unfolding visited
  same_place zero p p' e = refl
  same_place (suc k) p p' e = rw e

  all_of : (j : ℕ) → take (n - j) (drop j ws) ≡ drop j ws
  all_of j = take_all (n - j) (drop j ws) (omega (arith, length-drop j ws))

  -- from the place on to the end, and from the first entry on to the place
  rotated : (p : ℕ) → p ≤ n → visited n p ≡ drop p ws ++ take p ws
  unfolding visited
  rotated p l =
      let end : p + (n - p) ≡ n = omega (arith, l) in
      let past : place_in n n ≡ 0 = rw (le-ltb n n (omega arith)) in
      let first : place_in 0 n ≡ 0 = by_if (λ (x : ℕ). x ≡ 0) (ltb 0 n) (λ h. refl) (λ h. refl) in
      onwards (n - p) p n p (omega (arith, l)) (omega (arith, l))
      ∙ ap₂ (λ (x y : List Watch). x ++ y) (all_of p)
      (ap (visited p) end ∙ same_place p n 0 (past ∙ sym first) ∙ onwards p 0 p 0 (omega arith) (omega (arith, l)) ∙ append-nil (take p ws))

pub visits : Visits
visits ws p vs h e =
    let q : ℕ = place_in p (length ws) in
    let l : q ≤ length ws = by_if (λ (x : ℕ). x ≤ length ws) (ltb p (length ws)) (λ t. omega (arith, ltb-true p (length ws) t)) (λ t. omega arith) in
    let i : place_in q (length ws) ≡ q =
    by_if (λ (x : ℕ). place_in x (length ws) ≡ x) (ltb p (length ws)) (λ t. rw t) (λ t. by_if (λ (x : ℕ). x ≡ 0) (ltb 0 (length ws)) (λ h. refl) (λ h. refl)) in
    as_visited ws p vs h ∙ ap (λ (k : ℕ). visited ws k p) e ∙ same_place ws (length ws) p q (sym i) ∙ rotated ws q l
