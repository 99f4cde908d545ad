-- Runs of events: bus steps, one after the other, and calls in which no exchange fails.
-- Assumes nothing.
use Prim.Native.Nat.{ℕ}
use mathlib.Core.Path.{◌≡◌, refl, ap, subst, ◌∙◌}
use mathlib.Core.Bool.{true}
use mathlib.Core.List.{List, [], ◌∷◌, ◌++◌, map, append-nil, append_assoc}
use Rattle.fifo.specs.Control.{is_fifo}
use Rattle.message.specs.Message.{Message}
use Rattle.call.specs.declared.Outcome.{Outcome}
use Rattle.tx_fifo.specs.PushAt.{PushAt}
use Rattle.state.specs.declared.Fixed.{Fixed}
use Rattle.state.specs.declared.Model.{Model}
use Rattle.reach.specs.Bus.{Bus, Send, SendQueue, Deliver, Sort, stepped}
use Rattle.reach.proofs.Kept.{bus_valid}
use Rattle.history.specs.Command.{Command}
use Rattle.history.specs.History.{Event, Exchange, On, Said, called, left, left_queue, arrived, Doing, idle, World, says, event, after}
use Rattle.history.specs.Demand.{buses, calm, at_status, calls}
use Rattle.history.proofs.Sound.{Sound}
use Rattle.history.proofs.Bus.{Listed, lists_snoc, Later, bus_good}
use Rattle.history.proofs.Line.{world}
use Rattle.history.proofs.Mid.{PushMid, push_later}

-- what bus steps say, one after the other
unfoldable pub spoken_of : List Bus → Model → List Said
spoken_of [] c = []
spoken_of (b ∷ bs) c = says b c ∷ spoken_of bs (stepped b c)

-- ---- events, one list after another

pub after_append : (es fs : List Event) (v : World) → after (es ++ fs) v ≡ after fs (after es v)
unfolding after
after_append [] fs v = refl
after_append (e ∷ es) fs v = after_append es fs _

pub after_buses : (bs : List Bus) (c : Model) (d : Doing) (t : List Said)
    → after (map On bs) (world c d t) ≡ world (buses bs c) d (t ++ spoken_of bs c)
unfolding after event buses spoken_of
after_buses [] c d t = rw append-nil
after_buses (b ∷ bs) c d t = after_buses bs (stepped b c) d (t ++ (says b c ∷ [])) ∙ rw append_assoc

-- bus steps, and then an exchange that the chip answers
pub after_calm : (bs : List Bus) (r : List (List Bus)) (c : Model) (d : Doing) (t : List Said)
    → after (calm (bs ∷ r)) (world c d t) ≡ after (calm r) (event Exchange d (buses bs c) (t ++ spoken_of bs c))
unfolding after calm
after_calm bs r c d t = after_append (map On bs) (Exchange ∷ calm r) (world c d t) ∙ ap (after (Exchange ∷ calm r)) (after_buses bs c d t)

-- ---- the calls among what is said

pub calls_append : (s t : List Said) → calls (s ++ t) ≡ calls s ++ calls t
unfolding calls
calls_append [] t = refl
calls_append (called k o buf ∷ s) t = ap (λ (r : List Said). called k o buf ∷ r) (calls_append s t)
calls_append (left k o ∷ s) t = calls_append s t
calls_append (left_queue o ∷ s) t = calls_append s t
calls_append (arrived k m d ∷ s) t = calls_append s t

-- a bus step is no call
no_call : (b : Bus) (c : Model) (t : List Said) → calls (says b c ∷ t) ≡ calls t
unfolding calls
no_call (Send n) c t = refl
no_call SendQueue c t = refl
no_call (Deliver n header dlc time payload) c t = refl
no_call (Sort header dlc time payload) c t = refl

no_calls : (bs : List Bus) (c : Model) → calls (spoken_of bs c) ≡ []
unfolding spoken_of calls
no_calls [] c = refl
no_calls (b ∷ bs) c = no_call b c (spoken_of bs (stepped b c)) ∙ no_calls bs (stepped b c)

pub calls_buses : (t : List Said) (bs : List Bus) (c : Model) → calls (t ++ spoken_of bs c) ≡ calls t
calls_buses t bs c = calls_append t (spoken_of bs c) ∙ rw (no_calls bs c) (append-nil (calls t))

pub calls_snoc : (t : List Said) (k : Command) (o : Outcome) (buf : List ℕ) → calls (t ++ (called k o buf ∷ [])) ≡ calls t ++ (called k o buf ∷ [])
unfolding calls
calls_snoc t k o buf = calls_append t (called k o buf ∷ [])

-- no call is under way: nothing more is said by one
pub idle_calm : (r : List (List Bus)) (c : Model) (t : List Said) → calls (after (calm r) (world c idle t)).said ≡ calls t
unfolding after calm event
idle_calm [] c t = refl
idle_calm (bs ∷ r) c t =
    ap (λ (v : World). calls v.said) (after_calm bs r c idle t) ∙ idle_calm r (buses bs c) (t ++ spoken_of bs c) ∙ calls_buses t bs c

-- ---- what bus steps leave

pub record Fit (c : Model) (t : List Said) : Type 0 where
  pub sound : Sound c
  pub lists : Listed c t

module _ (c : Model) (t : List Said) (f : Fit c t) (b : Bus) where
  pub step_later : Later c (stepped b c)
  step_later = (bus_good c f.sound t f.lists b).later

  pub step_fit : Fit (stepped b c) (t ++ (says b c ∷ []))
  step_fit = record {
    sound = record { valid = bus_valid b c f.sound.valid; out = ap (λ (x : Fixed). x.configuring) step_later.fixed ∙ f.sound.out };
    lists = lists_snoc c (stepped b c) t (says b c) f.lists (bus_good c f.sound t f.lists b).moves;
  }

-- what a bus step leaves, bus steps leave
module _ (P : Model → Type 0) (kept : (c : Model) (t : List Said) → Fit c t → (b : Bus) → P c → P (stepped b c)) where
  pub buses_keep : (bs : List Bus) (c : Model) (t : List Said) → Fit c t → P c → P (buses bs c)
  unfolding buses
  buses_keep [] c t f p = p
  buses_keep (b ∷ bs) c t f p = buses_keep bs (stepped b c) (t ++ (says b c ∷ [])) (step_fit c t f b) (kept c t f b p)

pub buses_fit : (bs : List Bus) (c : Model) (t : List Said) → Fit c t → Fit (buses bs c) (t ++ spoken_of bs c)
unfolding buses spoken_of
buses_fit [] c t f = rw append-nil f
buses_fit (b ∷ bs) c t f =
    subst (Fit (buses bs (stepped b c))) (append_assoc t (says b c ∷ []) (spoken_of bs (stepped b c))) (buses_fit bs (stepped b c) (t ++ (says b c ∷ [])) (step_fit c t f b))

pub buses_fixed : (bs : List Bus) (c : Model) (t : List Said) → Fit c t → (buses bs c).fixed ≡ c.fixed
buses_fixed bs c t f = buses_keep (λ d. d.fixed ≡ c.fixed) (λ d u g b e. (step_later d u g b).fixed ∙ e) bs c t f refl

pub buses_push : (n : ℕ) → is_fifo n ≡ true → (m : Message) (bytes : List ℕ) (a : PushAt) (bs : List Bus) (c : Model) (t : List Said) → Fit c t
    → PushMid c n m bytes a → PushMid (buses bs c) n m bytes a
buses_push n i m bytes a = buses_keep (λ c. PushMid c n m bytes a) (λ c t f b. push_later c (stepped b c) (step_later c t f b) n i m bytes a)

-- ---- bus steps of several lists

pub buses_append : (xs bs : List Bus) (c : Model) → buses (xs ++ bs) c ≡ buses bs (buses xs c)
unfolding buses
buses_append [] bs c = refl
buses_append (x ∷ xs) bs c = buses_append xs bs (stepped x c)

-- the chip at the status read
pub at_status_lem : (v : World) (b₁ b₂ : List Bus) (r : List (List Bus)) → at_status v (b₁ ∷ b₂ ∷ r) ≡ buses b₂ (buses b₁ v.chip)
at_status_lem v b₁ b₂ r = buses_append b₁ (b₂ ++ []) v.chip ∙ ap (λ (bs : List Bus). buses bs (buses b₁ v.chip)) (append-nil b₂)
