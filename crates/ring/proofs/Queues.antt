-- The queue's slots: which are held, which is shown, and what a claim and a send change of them.
-- Assumes nothing.
use Prim.Native.Nat.{ℕ, zero, suc, ◌+◌, ◌*◌, ◌<◌}
use mathlib.Core.Path.{◌≡◌, refl, sym, ap, ◌∙◌}
use mathlib.Core.Bool.{Bool, true, false, not}
use mathlib.Core.List.{List, [], ◌∷◌, Perm}
use native.Mathlib.Omega.{arith}
use borrow.Author.Tests.{not-true}
use lib.ListN.{length, get_or, set, replicate}
use lib.Seq.{get_or-set_same, get_or-set_other}
use Rattle.laws.proofs.Choice.{by_if}
use Rattle.field.specs.Field.{with_field, digit}
use Rattle.field.specs.Settings.{◌:=◌, settings}
use Rattle.fifo.specs.Status.{TFNRFNIF, TFERFFIF}
use Rattle.ring.specs.declared.queue.Queue.{Queue}
use Rattle.ring.specs.Ring.{depth}
use Rattle.ring.specs.Queue.{gather, is_held, free, full, empty, status, fresh, controlled, marked, showing, claimed, freed, sent}
use Rattle.ring.specs.QueueLaws.{FullMeans, EmptyMeans, QueueStatusBits, QueueShows}
use Rattle.ring.proofs.Words.{depth_most}
use Rattle.ring.proofs.Places.{clash, holds_throughout, gather_more}

-- ---- full and empty

pub full_means_lem : FullMeans
unfolding full free
full_means_lem frozen q = holds_throughout (is_held q) (depth frozen)

pub empty_means_lem : EmptyMeans
unfolding empty
empty_means_lem frozen q =
    let (to, from) = holds_throughout (λ k. not (is_held q k)) (depth frozen) in
    (λ e k h. not-true (is_held q k) (to e k h), λ none. from (λ k h. ap not (none k h)))

-- two bits of a word that is 0 otherwise, by computing
two : (a b : Bool) → settings (TFNRFNIF := digit a ∷ TFERFFIF := digit b ∷ []) 0 ≡ digit a + 4 * digit b
unfolding with_field
two true true = refl
two true false = refl
two false true = refl
two false false = refl

pub queue_status_bits_lem : QueueStatusBits
unfolding status
queue_status_bits_lem frozen q = two (not (full frozen q)) (empty frozen q)

-- ---- flags

-- a list of flags, one of them set
pub flag_same : (l : List Bool) (w : ℕ) (v : Bool) → w < length l → get_or (set l w v) w false ≡ v
flag_same l w v h = get_or-set_same l w v false h

pub flag_other : (l : List Bool) (w : ℕ) (v : Bool) (j : ℕ) → (j ≡ w → ⊥) → get_or (set l w v) j false ≡ get_or l j false
flag_other l w v j ne = get_or-set_other l w j v false ne

module _ (frozen : ℕ) (q : Queue) where
  -- what a claim comes to, either way of the slot shown next
  pub by_claim : (P : Queue → Type 0) → full frozen q ≡ false → (full frozen (marked q) ≡ true → P (marked q))
      → (full frozen (marked q) ≡ false → P (showing (free frozen (marked q)) (marked q))) → P (claimed frozen q)
  unfolding claimed
  by_claim P e f g = rw e (by_if P (full frozen (marked q)) f g)

  pub claimed_flags : full frozen q ≡ false → (claimed frozen q).held ≡ set q.held q.shown true
  unfolding marked showing
  claimed_flags e = by_claim (λ x. x.held ≡ set q.held q.shown true) e (λ t. refl) (λ t. refl)

  pub freed_flags : (k : ℕ) → (freed frozen k q).held ≡ set q.held k false
  unfolding freed
  freed_flags k = refl

  pub sent_flags : (k : ℕ) → (sent frozen k q).held ≡ set q.held k false
  unfolding sent controlled
  sent_flags k = by_if (λ (x : Queue). x.held ≡ set q.held k false) (empty frozen (freed frozen k q)) (λ t. freed_flags k) (λ t. freed_flags k)

-- no slot is held by a fresh queue
none_set : (n k : ℕ) → get_or (replicate n false) k false ≡ false
none_set zero k = refl
none_set (suc n) zero = refl
none_set (suc n) (suc k) = none_set n k

pub fresh_held : (w k : ℕ) → is_held (fresh w) k ≡ false
unfolding fresh
fresh_held w k = none_set 32 k

-- ---- what is held, gathered

module _ {A : Type 0} (frozen : ℕ) (q : Queue) (f : ℕ → A) where
  -- a claim adds the slot shown
  pub claimed_held : full frozen q ≡ false → q.shown < depth frozen → is_held q q.shown ≡ false → length q.held ≡ 32
      → Perm (gather (is_held (claimed frozen q)) f 0 (depth frozen)) (f q.shown ∷ gather (is_held q) f 0 (depth frozen))
  claimed_held e l o all =
      let at = flag_same q.held q.shown true (omega (arith, depth_most frozen)) in
      gather_more (is_held q) (is_held (claimed frozen q)) f q.shown 0 (depth frozen) (omega arith) (omega arith) o
      (rw (claimed_flags frozen q e) at) (λ j ne. rw (claimed_flags frozen q e) (flag_other q.held q.shown true j ne))

  -- of a queue r with slot k's flag cleared that slot is gone
  cleared_held : (k : ℕ) (r : Queue) → r.held ≡ set q.held k false → k < depth frozen → is_held q k ≡ true → length q.held ≡ 32
      → Perm (gather (is_held q) f 0 (depth frozen)) (f k ∷ gather (is_held r) f 0 (depth frozen))
  cleared_held k r e l is all =
      let at = flag_same q.held k false (omega (arith, depth_most frozen)) in
      gather_more (is_held r) (is_held q) f k 0 (depth frozen) (omega arith) (omega arith) (rw e at) is (λ j ne. sym (rw e (flag_other q.held k false j ne)))

  pub freed_held : (k : ℕ) → k < depth frozen → is_held q k ≡ true → length q.held ≡ 32
      → Perm (gather (is_held q) f 0 (depth frozen)) (f k ∷ gather (is_held (freed frozen k q)) f 0 (depth frozen))
  freed_held k = cleared_held k (freed frozen k q) (freed_flags frozen q k)

  pub sent_held : (k : ℕ) → k < depth frozen → is_held q k ≡ true → length q.held ≡ 32
      → Perm (gather (is_held q) f 0 (depth frozen)) (f k ∷ gather (is_held (sent frozen k q)) f 0 (depth frozen))
  sent_held k = cleared_held k (sent frozen k q) (sent_flags frozen q k)

-- ---- the slot shown

-- showing another slot changes nothing of what is free
showing_full : (frozen k : ℕ) (q : Queue) → full frozen (showing k q) ≡ full frozen q
unfolding full free showing
showing_full frozen k q = refl

showing_free : (frozen k : ℕ) (q : Queue) → free frozen (showing k q) ≡ free frozen q
unfolding free showing
showing_free frozen k q = refl

pub shows : QueueShows
unfolding marked showing freed claimed
shows frozen q = record {
  stays = λ e k. rw e;
  lowest = λ e. by_claim frozen q (λ x. full frozen x ≡ false → x.shown ≡ free frozen x) e (λ t f. clash f t) (λ t f. sym (showing_free frozen _ (marked q)));
  last = λ e. by_claim frozen q (λ x. full frozen x ≡ true → x.shown ≡ q.shown) e (λ t f. refl) (λ t f. clash (showing_full frozen _ (marked q) ∙ t) f);
  nothing = λ e. rw e;
  next = λ e k. rw e;
}
