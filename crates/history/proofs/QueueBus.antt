-- What a bus step does to the queue's lists.
-- Assumes nothing.
use Prim.Native.Nat.{ℕ, ◌%◌, ◌^◌}
use mathlib.Core.Path.{◌≡◌, refl, ◌∙◌}
use mathlib.Core.Bool.{Bool, true, false, ◌&&◌}
use mathlib.Core.List.Perm
use mathlib.Core.List.{List, [], ◌∷◌, ◌++◌, map, append-nil, Perm}
use borrow.Author.Tests.{leb-false, ltb-false}
use Rattle.std.specs.Prelude.{if◌then◌else◌}
use Rattle.laws.proofs.Choice.{by_if}
use Rattle.fifo.specs.Control.{is_fifo}
use Rattle.header.specs.declared.Header.{Header}
use Rattle.message.specs.Message.{Message, holds}
use Rattle.ring.specs.Queue as queue
use Rattle.ring.proofs.Queues.{sent_held}
use Rattle.state.specs.declared.Model.{Model}
use Rattle.state.specs.Model.{frozen_at, with_queue}
use Rattle.bus.specs.Bus.{nothing, output_of, sends, send_model, give}
use Rattle.bus.specs.Queue.{queue_slot, queue_item, held_queue, winner, queue_sends, queue_output, queue_model}
use Rattle.bus.proofs.QueueLaws.{queue_winner_lem}
use Rattle.bus.proofs.Arriving.{by_deliver, by_give, receives_is}
use Rattle.bus.proofs.Fitting.{object_fits}
use Rattle.bus.proofs.Sorts.{by_sort}
use Rattle.reach.specs.Bus.{Bus, Send, SendQueue, Deliver, Sort, stepped}
use Rattle.reach.proofs.Queue.{held_on, sends_told}
use Rattle.history.specs.History.{Said, left_queue, says}
use Rattle.history.specs.Lists.{queue_accepted, queue_sent}
use Rattle.history.proofs.Sound.{Sound}
use Rattle.history.proofs.QueueSlots.{fifo_queue, filled_queue}
use Rattle.history.proofs.QueueLists.{QueueListed, QueueMoves, queue_snoc, queue_quiet, queue_decodes}

module _ (c : Model) (s : Sound c) where
  -- what a step of a FIFO does
  give_queue : (n hit d : ℕ) (header : Header) (time : ℕ) (payload : List ℕ) → held_queue (give c n hit d header time payload).model ≡ held_queue c
  give_queue n hit d header time payload =
      by_give c n header d time payload (λ x. held_queue x.model ≡ held_queue c) hit (λ a. refl) (λ a b. refl) (λ a b x. refl)
      (λ a b x z. fifo_queue c n _)
      (λ a b x z.
      let (h, r) = receives_is c n b in
      fifo_queue _ n _ ∙ filled_queue c s n h (leb-false _ _ z) _ (object_fits c n hit d header time payload (ltb-false _ _ x)))

  -- a send from the queue takes the winner
  module _ (t : List Said) (l : QueueListed c t) (e : queue_sends c ≡ true) where
    abbrev k : ℕ
    k = winner c

    taken : Perm (held_queue c) (queue_item c k ∷ held_queue (with_queue c (queue.sent (frozen_at c 0) k c.queue)))
    unfolding queue_item queue_slot
    taken =
        let b = queue_winner_lem c e in
        let on = (sends_told c e).0 in
        let w : ℕ = frozen_at c 0 in
        rw (held_on c on, held_on (with_queue c (queue.sent w k c.queue)) on) (sent_held w c.queue (queue_item c) k b.lt b.is s.valid.queue.held)

    -- which decodes
    decodes : (m : Message) × (queue_item c k ≡ holds m)
    decodes = queue_decodes (queue_accepted t) (queue_sent t) _ _ (Perm.trans l (Perm.append_left (map holds (queue_sent t)) taken))

    goes : QueueMoves c (left_queue (output_of (queue_item c k))) (with_queue c (queue.sent (frozen_at c 0) k c.queue))
    goes = let (m, i) = decodes in rw (append-nil (held_queue c), i) (rw i at taken)

  send_queue : (t : List Said) → QueueListed c t → (b : Bool) → queue_sends c ≡ b
      → QueueMoves c (left_queue (if b then output_of (queue_item c (winner c)) else nothing)) (if b then with_queue c (queue.sent (frozen_at c 0) (winner c) c.queue) else c)
  send_queue t l true e = goes t l e
  send_queue t l false e = queue_quiet c c (left_queue nothing) refl refl refl

  moves : (t : List Said) → QueueListed c t → (b : Bus) → QueueMoves c (says b c) (stepped b c)
  unfolding stepped send_model queue_model queue_output
  moves t l (Send n) = queue_quiet c _ (says (Send n) c) (by_if (λ (x : Model). held_queue x ≡ held_queue c) (is_fifo n && sends c n) (λ e. fifo_queue c n _) (λ e. refl)) refl refl
  moves t l SendQueue = send_queue t l (queue_sends c) refl
  moves t l (Deliver n header dlc time payload) =
      queue_quiet c _ (says (Deliver n header dlc time payload) c)
      (by_deliver c n header dlc (time % 2 ^ 32) payload (λ x. held_queue x.model ≡ held_queue c) (λ i. refl) (λ i t. refl) (λ i t d. refl)
      (λ i t e w. give_queue n 0 dlc header (time % 2 ^ 32) payload)) refl refl
  moves t l (Sort header dlc time payload) =
      queue_quiet c _ (says (Sort header dlc time payload) c)
      (by_sort c header dlc (time % 2 ^ 32) payload (λ x. held_queue x.model ≡ held_queue c) (λ t. refl) (λ t e. refl) (λ t e z. refl) (λ t e z g. refl)
      (λ t e z g w. give_queue _ _ dlc header (time % 2 ^ 32) payload)) refl refl

  pub queue_stepped : (t : List Said) → QueueListed c t → (b : Bus) → QueueListed (stepped b c) (t ++ (says b c ∷ []))
  queue_stepped t l b = queue_snoc c (stepped b c) t (says b c) l (moves t l b)
