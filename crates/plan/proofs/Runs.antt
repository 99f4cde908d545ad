-- The machine and the talk say the same of every answer.
-- Assumes nothing.
use Prim.Native.Nat.{ℕ, zero, suc, ◌+◌, ◌-◌, ◌*◌, ◌^◌, ◌≤◌, ◌<◌}
use mathlib.Core.Path.{◌≡◌, refl, sym, ap, ◌∙◌}
use mathlib.Core.Bool.{Bool, true, false, false≢true}
use mathlib.Core.List.{List, [], ◌∷◌, ◌++◌}
use native.Mathlib.Omega.{arith}
use lib.ListN.{length, drop, replicate}
use lib.Seq.{drop-drop}
use lib.Dec.{eqb, eqb-suc-zero, ltb}
use Rattle.std.specs.Prelude.{if◌then◌else◌}
use Rattle.laws.proofs.Choice.{by_if}
use Rattle.spi.specs.declared.refusal.Refusal.{Refusal}
use Rattle.spi.specs.declared.ask.Ask.{Ask}
use Rattle.spi.specs.declared.ask.Answer.{Answer}
use Rattle.spi.specs.Reply.{word_reply, done_reply, wait_reply}
use Rattle.spi.specs.Talk.{Talk, done, refused, on_word, on_done, read_word, write_word, pause, answered, run, asks, Follows, Within}
use Rattle.spi.proofs.Talks.{if_ap, on_word_lem, on_done_lem, runs, more, ask_within, word_within, done_within, if_within}
use Rattle.call.specs.declared.Outcome.{Outcome}
use Rattle.call.specs.Outcome.{ended}
use Rattle.plan.specs.declared.item.Poll.{Poll}
use Rattle.plan.specs.declared.item.Item.{Item}
use Rattle.plan.specs.PlanAt.{PlanAt}
use Rattle.plan.specs.Plan.{Plan}
use Rattle.plan.specs.Move.{Move}
use Rattle.plan.specs.Change.{modified}
use Rattle.plan.specs.Item.{address_of, shown, late_of, echo_word, is_there}
use Rattle.plan.specs.Step.{begun, after_poll, after_echo, stopped, next_at, place_from, standing, arrived_at, filled, plan_of, moved_to, step_of, ask_at, ask_of, outcome_at, outcome_of}
use Rattle.plan.specs.Prepared.{Prepared, ready, turned_down, plan_for, talk_for, asks_for, modify, verify}
use Rattle.plan.specs.Talk.{poll_talk, read_back, echo_rest, echo_talk, talk_at, item_talk, plan_talk, talk_of, asks_of, all_asks}

-- the talk after a move: of the phase, or of the items that are left
module _ (failed : Refusal) (k : Talk Outcome) where
  abbrev move_talk : Move → Talk Outcome
  move_talk (Move.To at) = talk_at failed at k
  move_talk Move.Next = k

  -- the last poll, and one with more behind it
  poll_last : (p : Poll) (w : ℕ) → move_talk (after_poll p zero w) ≡ (if shown p w then k else refused (late_of p))
  unfolding after_poll
  poll_last p w = if_ap move_talk (shown p w) Move.Next (stopped (late_of p))

  poll_more : (p : Poll) (n w : ℕ) → move_talk (after_poll p (suc n) w) ≡ (if shown p w then k else pause (poll_talk failed p n k))
  unfolding after_poll
  poll_more p n w =
      let e : suc n - 1 ≡ n = omega arith in
      rw (eqb-suc-zero n, e) (if_ap move_talk (shown p w) Move.Next (Move.To (PlanAt.Wait p n)))

  -- the echo of a word
  echo_last : (w : ℕ) → move_talk (after_echo zero w) ≡ (if eqb w (echo_word zero) then k else refused Refusal.SpiFailedRamEcho)
  unfolding after_echo
  echo_last w = if_ap move_talk (eqb w (echo_word zero)) Move.Next (stopped Refusal.SpiFailedRamEcho)

  echo_more : (n w : ℕ) → move_talk (after_echo (suc n) w) ≡ (if eqb w (echo_word (suc n)) then echo_talk failed n k else refused Refusal.SpiFailedRamEcho)
  unfolding after_echo
  echo_more n w =
      let e : suc n - 1 ≡ n = omega arith in
      rw (eqb-suc-zero n, e) (if_ap move_talk (eqb w (echo_word (suc n))) (Move.To (PlanAt.EchoWrite n)) (stopped Refusal.SpiFailedRamEcho))

  move_talk_lem : (at : PlanAt) (a : Answer) (rx : List ℕ) → move_talk (next_at failed at a rx) ≡ answered (talk_at failed at k) a rx
  unfolding answered poll_talk echo_rest
  move_talk_lem (PlanAt.Read c) a rx = on_word_lem move_talk stopped refused (λ r. refl) (word_reply failed a rx) _ _ (λ w. refl)
  move_talk_lem (PlanAt.Write address word) a rx = on_done_lem move_talk stopped refused (λ r. refl) (done_reply failed a (length rx) 0) _ _ refl
  move_talk_lem (PlanAt.Poll p zero) a rx = on_word_lem move_talk stopped refused (λ r. refl) (word_reply failed a rx) _ _ (poll_last p)
  move_talk_lem (PlanAt.Poll p (suc n)) a rx = on_word_lem move_talk stopped refused (λ r. refl) (word_reply failed a rx) _ _ (poll_more p n)
  move_talk_lem (PlanAt.Wait p n) a rx = on_done_lem move_talk stopped refused (λ r. refl) (wait_reply a (length rx)) _ _ refl
  move_talk_lem (PlanAt.EchoWrite left) a rx = on_done_lem move_talk stopped refused (λ r. refl) (done_reply failed a (length rx) 0) _ _ refl
  move_talk_lem (PlanAt.EchoRead zero) a rx = on_word_lem move_talk stopped refused (λ r. refl) (word_reply failed a rx) _ _ echo_last
  move_talk_lem (PlanAt.EchoRead (suc n)) a rx = on_word_lem move_talk stopped refused (λ r. refl) (word_reply failed a rx) _ _ (echo_more n)
  move_talk_lem PlanAt.Done a rx = refl
  move_talk_lem (PlanAt.Refused r) a rx = refl

  -- what is asked, and how the plan ended
  shows : (at : PlanAt) → (ask_at at ≡ asks (talk_at failed at k)) × (outcome_at at ≡ ended (λ x. x) (talk_at failed at k))
  unfolding poll_talk
  shows (PlanAt.Read c) = (refl, refl)
  shows (PlanAt.Write address word) = (refl, refl)
  shows (PlanAt.Poll p zero) = (refl, refl)
  shows (PlanAt.Poll p (suc n)) = (refl, refl)
  shows (PlanAt.Wait p n) = (refl, refl)
  shows (PlanAt.EchoWrite left) = (refl, refl)
  shows (PlanAt.EchoRead left) = (refl, refl)
  shows PlanAt.Done = (refl, refl)
  shows (PlanAt.Refused r) = (refl, refl)

-- ---- the next item is the first one that is left and does anything

begun_talk : (failed : Refusal) (item : Item) (k : Talk Outcome) → is_there item ≡ true → talk_at failed (begun item) k ≡ item_talk failed item k
begun_talk failed (Item.Change c) k e = refl
begun_talk failed (Item.Poll p n) k e = refl
begun_talk failed Item.Echo k e = refl
begun_talk failed Item.Nothing k e = absurd (false≢true e)

idle_talk : (failed : Refusal) (item : Item) (k : Talk Outcome) → is_there item ≡ false → k ≡ item_talk failed item k
idle_talk failed (Item.Change c) k e = absurd (false≢true (sym e))
idle_talk failed (Item.Poll p n) k e = absurd (false≢true (sym e))
idle_talk failed Item.Echo k e = absurd (false≢true (sym e))
idle_talk failed Item.Nothing k e = refl

module _ (failed : Refusal) (items : List Item) where
  -- these items, the first of them apart, are there from place i on
  tail_of : (i : ℕ) (x : Item) (xs : List Item) → drop i items ≡ x ∷ xs → drop (i + 1) items ≡ xs
  tail_of i x xs e = sym (drop-drop 1 i items) ∙ ap (drop 1) e

  -- what is said of a place with what comes behind it, and of the items that are left
  module _ {B : Type 0} (at : Refusal → PlanAt → B → B) (left : Refusal → List Item → B) (end : (k : B) → at failed PlanAt.Done k ≡ left failed [])
      (begins : (x : Item) (xs : List Item) → is_there x ≡ true → at failed (begun x) (left failed xs) ≡ left failed (x ∷ xs))
      (idles : (x : Item) (xs : List Item) → is_there x ≡ false → left failed xs ≡ left failed (x ∷ xs)) where
    abbrev said : Plan → B
    said p = at p.failed p.at (left p.failed (drop p.next p.items))

    abbrev standing_at : ℕ → List Item → B
    standing_at i xs = said (standing failed items i xs)

    stands : (i : ℕ) (xs : List Item) → drop i items ≡ xs → standing_at (place_from i xs) (drop (place_from i xs) items) ≡ left failed xs
    stands i [] e = ap (standing_at i) e ∙ end _
    stands i (x ∷ xs) e =
        by_if (λ j. standing_at j (drop j items) ≡ left failed (x ∷ xs)) (is_there x)
        (λ h. ap (standing_at i) e ∙ ap (λ l. at failed (begun x) (left failed l)) (tail_of i x xs e) ∙ begins x xs h)
        (λ h. stands (i + 1) xs (tail_of i x xs e) ∙ idles x xs h)

    pub arrives : (i : ℕ) → said (arrived_at failed items i) ≡ left failed (drop i items)
    unfolding arrived_at
    arrives i = stands i (drop i items) refl

  arrive_talk : (i : ℕ) → talk_of (arrived_at failed items i) ≡ plan_talk failed (drop i items)
  unfolding plan_talk
  arrive_talk =
      arrives talk_at plan_talk (λ k. refl) (λ x xs h. begun_talk failed x _ h) (λ x xs h. idle_talk failed x _ h)

moved : (s : Plan) (m : Move) → talk_of (moved_to s m) ≡ move_talk s.failed (plan_talk s.failed (drop s.next s.items)) m
moved s (Move.To at) = refl
moved s Move.Next = arrive_talk s.failed s.items s.next

stepped : (s : Plan) (a : Answer) (rx : List ℕ) → talk_of (step_of s a rx) ≡ answered (talk_of s) a rx
unfolding step_of
stepped s a rx = moved s (next_at s.failed s.at a rx) ∙ move_talk_lem s.failed _ s.at a rx

pub follows : Follows step_of ask_of talk_of
follows = record { stepped = stepped; asked = λ s. (shows s.failed _ s.at).0 }

pub run_talk : (s : Plan) (xs : List (Answer × List ℕ)) → talk_of (run step_of s xs) ≡ run answered (talk_of s) xs
run_talk = runs step_of ask_of talk_of follows

pub outcome_talk : (s : Plan) → outcome_of s ≡ ended (λ x. x) (talk_of s)
outcome_talk s = (shows s.failed _ s.at).1

-- ---- a plan begins with its items

nothing_talk : (failed : Refusal) (n : ℕ) → plan_talk failed (replicate n Item.Nothing) ≡ done Outcome.Done
unfolding plan_talk
nothing_talk failed zero = refl
nothing_talk failed (suc n) = nothing_talk failed n

filled_talk : (failed : Refusal) (n : ℕ) (items : List Item) → plan_talk failed (items ++ replicate n Item.Nothing) ≡ plan_talk failed items
unfolding plan_talk
filled_talk failed n [] = nothing_talk failed n
filled_talk failed n (i ∷ is) = ap (item_talk failed i) (filled_talk failed n is)

pub start_talk : (failed : Refusal) (items : List Item) → talk_of (plan_of failed items) ≡ plan_talk failed items
start_talk failed items = arrive_talk failed (filled items) 0 ∙ filled_talk failed (15 - length items) items

-- ---- how often a plan asks

-- a read and a write in front
pub read_within : (n m : ℕ) (failed : Refusal) (address : ℕ) (k : ℕ → Talk Outcome) → n < m → ((w : ℕ) → Within n (k w)) → Within m (read_word failed address k)
read_within n m failed address k l h = ask_within n m (Ask.Read address 4) (λ a rx. on_word refused (word_reply failed a rx) k) l (λ a rx. word_within n (word_reply failed a rx) k h)

pub write_within : (n m : ℕ) (failed : Refusal) (address word : ℕ) (k : Talk Outcome) → n < m → Within n k → Within m (write_word failed address word k)
write_within n m failed address word k l h = ask_within n m (Ask.Word address word) (λ a rx. on_done refused (done_reply failed a (length rx) 0) k) l (λ a rx. done_within n (done_reply failed a (length rx) 0) k h)

pub pause_within : (n m : ℕ) (k : Talk Outcome) → n < m → Within n k → Within m (pause k)
pause_within n m k l h = ask_within n m Ask.Wait (λ a rx. on_done refused (wait_reply a (length rx)) k) l (λ a rx. done_within n (wait_reply a (length rx)) k h)

module _ (failed : Refusal) (k : Talk Outcome) (n : ℕ) (h : Within n k) where
  pub poll_within : (p : Poll) (left m : ℕ) → 1 + 2 * left + n ≤ m → Within m (poll_talk failed p left k)
  unfolding poll_talk
  poll_within p zero m l =
      read_within n m failed (address_of p) (λ w. if shown p w then k else refused (late_of p)) (omega arith)
      (λ w. if_within n (shown p w) k (refused (late_of p)) h tt)
  poll_within p (suc left) m l =
      let c = 1 + 2 * left + n in
      read_within (suc c) m failed (address_of p) (λ w. if shown p w then k else pause (poll_talk failed p left k)) (omega arith)
      (λ w. if_within (suc c) (shown p w) k (pause (poll_talk failed p left k)) (more n (suc c) k (omega arith) h)
      (pause_within c (suc c) (poll_talk failed p left k) (omega arith) (poll_within p left c (omega arith))))

  pub rest_within : (left m : ℕ) → 2 * left + n ≤ m → Within m (echo_rest failed left k)
  unfolding echo_rest
  rest_within zero m l = more n m k (omega arith) h
  rest_within (suc left) m l =
      let c = 2 * left + n in
      write_within (suc c) m failed 0x400 (echo_word left) (read_back failed (echo_word left) (echo_rest failed left k)) (omega arith)
      (read_within c (suc c) failed 0x400 (λ w. if eqb w (echo_word left) then echo_rest failed left k else refused Refusal.SpiFailedRamEcho) (omega arith)
      (λ w. if_within c (eqb w (echo_word left)) (echo_rest failed left k) (refused Refusal.SpiFailedRamEcho) (rest_within left c (omega arith)) tt))

  pub item_within : (item : Item) (m : ℕ) → asks_of item + n ≤ m → Within m (item_talk failed item k)
  unfolding echo_rest
  item_within (Item.Change c) m l =
      read_within (suc n) m failed c.address (λ w. write_word failed c.address (modified c w) k) (omega arith)
      (λ w. write_within n (suc n) failed c.address (modified c w) k (omega arith) h)
  item_within (Item.Poll p left) m l = poll_within p left m l
  item_within Item.Echo m l = rest_within 32 m l
  item_within Item.Nothing m l = more n m k (omega arith) h

pub bound : (failed : Refusal) (items : List Item) → Within (all_asks items) (plan_talk failed items)
unfolding plan_talk
bound failed [] = tt
bound failed (item ∷ items) = item_within failed (plan_talk failed items) (all_asks items) (bound failed items) item (asks_of item + all_asks items) (omega arith)

-- ---- calls that are plans

pub call_talk : (p : Prepared) → talk_of (plan_for p) ≡ talk_for p
call_talk (ready failed items) = start_talk failed items
call_talk (turned_down r) = refl

pub call_bound : (p : Prepared) → Within (asks_for p) (talk_for p)
call_bound (ready failed items) = bound failed items
call_bound (turned_down r) = tt

pub call_within : (n : ℕ) (p : Prepared) → asks_for p ≤ n → Within n (talk_for p)
call_within n p l = more (asks_for p) n (talk_for p) l (call_bound p)

-- a test in front, by which a call is refused before any exchange
pub test_within : (n : ℕ) (b : Bool) (p : Prepared) (r : Refusal) → Within n (talk_for p) → Within n (talk_for (if b then p else turned_down r))
test_within n b p r h = by_if (λ q. Within n (talk_for q)) b (λ e. h) (λ e. tt)

pub modify_bound : (address clear set : ℕ) → Within 2 (talk_for (modify address clear set))
unfolding modify
modify_bound address clear set = test_within 2 (ltb address (2 ^ 12)) (ready _ _) _ (bound _ _)

pub verify_bound : Within 64 (talk_for verify)
verify_bound = call_bound verify
