-- The queue's lists: what is accepted is what was sent and what is held together, each as often.
-- Assumes nothing.
use Prim.Native.Nat.{ℕ, ◌+◌}
use mathlib.Core.Path.{◌≡◌, refl, ap, ◌∙◌}
use mathlib.Core.List.Perm
use mathlib.Core.List.{List, [], ◌∷◌, ◌++◌, map, map-append, append-nil, append_assoc, Perm}
use mathlib.Core.List.{Permᴰ}
use native.Mathlib.Omega.{arith}
use Rattle.message.specs.Message.{Message, Decoding, holds, no_frame, short}
use Rattle.state.specs.declared.Model.{Model}
use Rattle.bus.specs.Queue.{held_queue}
use Rattle.history.specs.History.{Said, called}
use Rattle.history.specs.Lists.{queued_in, queue_accepted, queue_sent_in, queue_sent, queued}
use mathlib.Core.Logic.{∥∥₁_elim}
use Rattle.history.specs.Command.{Command}
use Rattle.call.specs.declared.Outcome.{Outcome}
use Rattle.history.proofs.Bus.{one_more}

abbrev pub QueueListed : Model → List Said → Type 0
QueueListed c t = Perm (map holds (queue_accepted t)) (map holds (queue_sent t) ++ held_queue c)

-- a change of the chip, and what is said of it, fit together
abbrev pub QueueMoves : Model → Said → Model → Type 0
QueueMoves c x d = Perm (held_queue c ++ map holds (queued_in x)) (map holds (queue_sent_in x) ++ held_queue d)

accepted_snoc : (t : List Said) (x : Said) → queue_accepted (t ++ (x ∷ [])) ≡ queue_accepted t ++ queued_in x
unfolding queue_accepted
accepted_snoc = one_more queue_accepted queued_in refl (λ x t. refl)

sent_snoc : (t : List Said) (x : Said) → queue_sent (t ++ (x ∷ [])) ≡ queue_sent t ++ queue_sent_in x
unfolding queue_sent
sent_snoc = one_more queue_sent queue_sent_in refl (λ x t. refl)

pub queue_same : (c d : Model) (t : List Said) → held_queue d ≡ held_queue c → QueueListed c t → QueueListed d t
queue_same c d t e l = rw e l

pub queue_snoc : (c d : Model) (t : List Said) (x : Said) → QueueListed c t → QueueMoves c x d → QueueListed d (t ++ (x ∷ []))
queue_snoc c d t x l m =
    rw (
      accepted_snoc t x,
      sent_snoc t x,
      map-append holds (queue_accepted t) (queued_in x),
      map-append holds (queue_sent t) (queue_sent_in x),
      append_assoc (map holds (queue_sent t)) (map holds (queue_sent_in x)) (held_queue d),
    )
    (Perm.trans (Perm.append_right (map holds (queued_in x)) l)
    (rw (append_assoc (map holds (queue_sent t)) (held_queue c) (map holds (queued_in x))) (Perm.append_left (map holds (queue_sent t)) m)))

-- what is said moves no message, and nothing held changed
pub queue_quiet : (c d : Model) (x : Said) → held_queue d ≡ held_queue c → queued_in x ≡ [] → queue_sent_in x ≡ [] → QueueMoves c x d
queue_quiet c d x e a b = rw (e, a, b, append-nil (held_queue c)) (Perm.refl (held_queue c))

-- of a call
pub queue_called : (c d : Model) (k : Command) (o : Outcome) (buf : List ℕ) → held_queue d ≡ held_queue c → queued k o ≡ [] → QueueMoves c (called k o buf) d
queue_called c d k o buf e a = queue_quiet c d (called k o buf) e a refl

-- ---- what is held was accepted, so it can be decoded

-- those that can't
abbrev strange : Decoding → ℕ
strange (holds m) = 0
strange no_frame = 1
strange short = 1

abbrev stranges : List Decoding → ℕ
stranges [] = 0
stranges (x ∷ l) = strange x + stranges l

stranges_perm : {k l : List Decoding} → Permᴰ k l → stranges k ≡ stranges l
stranges_perm Permᴰ.nil = refl
stranges_perm (Permᴰ.cons {a = a} {b = b} {l₁ = k} {l₂ = l} e p) = rw e (ap (λ (n : ℕ). strange b + n) (stranges_perm p))
stranges_perm (Permᴰ.swap {a = a} {b = b} {a' = c} {b' = d} {l = l} e f) = rw (e, f) (omega arith)
stranges_perm (Permᴰ.trans p q) = stranges_perm p ∙ stranges_perm q

stranges_append : (k l : List Decoding) → stranges (k ++ l) ≡ stranges k + stranges l
stranges_append [] l = omega arith
stranges_append (x ∷ k) l = rw (stranges_append k l) (omega arith)

stranges_none : (ms : List Message) → stranges (map holds ms) ≡ 0
stranges_none [] = refl
stranges_none (m ∷ ms) = omega (arith, stranges_none ms)

-- the first of some that are held
pub queue_decodes : (xs ys : List Message) (x : Decoding) (r : List Decoding) → Perm (map holds xs) (map holds ys ++ (x ∷ r)) → (m : Message) × (x ≡ holds m)
queue_decodes xs ys x r p = go x refl
  where
    not_strange : strange x ≡ 1 → Permᴰ (map holds xs) (map holds ys ++ (x ∷ r)) → ⊥
    not_strange z d = omega (arith, z, stranges_perm d, stranges_none xs, stranges_append (map holds ys) (x ∷ r))

    go : (y : Decoding) → x ≡ y → (m : Message) × (x ≡ holds m)
    go (holds m) e = (m, e)
    go no_frame e = absurd (∥∥₁_elim p (λ a b. absurd a) (not_strange (ap strange e)))
    go short e = absurd (∥∥₁_elim p (λ a b. absurd a) (not_strange (ap strange e)))
