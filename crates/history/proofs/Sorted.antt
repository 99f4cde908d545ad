-- A frame that the filters sorted is handed out with its filter: the lists, at its place in them.
-- Assumes nothing.
use Prim.Native.Nat.{ℕ, ◌%◌, ◌^◌}
use native.Mathlib.Omega.{arith}
use mathlib.Core.Path.{◌≡◌, refl, sym, ap, ◌∙◌}
use mathlib.Core.Bool.{true}
use mathlib.Core.List.{List, [], ◌∷◌, ◌++◌, map, map-append, append-nil, append_assoc, head-eq_of_cons-eq, tail-eq_of_cons-eq}
use borrow.Author.Tests.{eq-eqb}
use lib.ListN.{length, length-map}
use Rattle.std.specs.Prelude.{Result, Ok}
use Rattle.laws.proofs.Choice.{by_if}
use Rattle.fifo.specs.Control.{is_fifo}
use Rattle.header.specs.declared.Header.{Header}
use Rattle.message.specs.Message.{Message, Decoding, holds}
use Rattle.call.specs.declared.Found.{Found}
use Rattle.call.specs.declared.Outcome.{Outcome}
use Rattle.rx_fifo.specs.Outcome.{message_of}
use Rattle.driver.specs.Call.{Call}
use Rattle.driver.specs.Step.{outcome_of}
use Rattle.state.specs.declared.Model.{Model}
use Rattle.bus.specs.declared.arrival.Undelivered.{Undelivered}
use Rattle.bus.specs.Bus.{incoming}
use Rattle.bus.specs.Held.{held}
use Rattle.bus.specs.Sort.{filter_for, target_for, sort_of}
use Rattle.bus.proofs.Arriving.{never, give_iff}
use Rattle.bus.proofs.Sorts.{by_sort}
use Rattle.reach.specs.Bus.{Bus, Sort}
use Rattle.history.specs.Command.{Command, Get, started}
use Rattle.history.specs.History.{Event, Begin, Exchange, Fail, On, Said, called, Doing, idle, busy, World, halfway, is_over, settled, says, event, after}
use Rattle.history.specs.Lists.{only, taken, accepted, accepted_in, handed_out, handed_out_in}
use Rattle.history.specs.Demand.{start, world}
use Rattle.history.specs.Sorted.{FilterTold}
use Rattle.history.proofs.Bus.{accepted_append, handed_out_append}
use Rattle.history.proofs.Calm.{after_append}
use Rattle.history.proofs.Theorem.{holds_always}

-- ---- what was said stays, and more is said behind it

abbrev Grown : List Said → World → Type 0
Grown t v = (u : List Said) × (v.said ≡ t ++ u)

settled_grown : (c : Model) (t : List Said) (k : Command) (s : Call) (rx : List ℕ) → Grown t (settled c t k s rx)
unfolding settled
settled_grown c t k s rx =
    by_if (Grown t) (is_over (outcome_of s)) (λ o. (_, refl))
    (λ o. by_if (Grown t) (halfway k s) (λ f. (_, refl)) (λ f. ([], sym (append-nil t))))

event_grown : (x : Event) (d : Doing) (c : Model) (t : List Said) → Grown t (event x d c t)
unfolding event
event_grown (Begin k) idle c t = settled_grown c t k (started k) []
event_grown (Begin k) (busy j s) c t = ([], sym (append-nil t))
event_grown Exchange idle c t = ([], sym (append-nil t))
event_grown Exchange (busy k s) c t = settled_grown _ t k _ _
event_grown Fail idle c t = ([], sym (append-nil t))
event_grown Fail (busy k s) c t = settled_grown _ t k _ _
event_grown (On b) d c t = (_, refl)

after_grown : (es : List Event) (v : World) → Grown v.said (after es v)
unfolding after
after_grown [] v = ([], sym (append-nil v.said))
after_grown (x ∷ es) v =
    let (u, e) = event_grown x v.doing v.chip v.said in
    let (w, f) = after_grown es (event x v.doing v.chip v.said) in
    (u ++ w, f ∙ ap (λ (t : List Said). t ++ w) e ∙ append_assoc v.said u w)

-- ---- places in lists

-- what stands behind as many others
same_place : {A : Type 0} (xs ys r s : List A) {x y : A} → length xs ≡ length ys → xs ++ (x ∷ r) ≡ ys ++ (y ∷ s) → x ≡ y
same_place [] [] r s l e = head-eq_of_cons-eq e
same_place [] (b ∷ ys) r s l e = absurd (omega arith)
same_place (a ∷ xs) [] r s l e = absurd (omega arith)
same_place (a ∷ xs) (b ∷ ys) r s l e = same_place xs ys r s (omega arith) (tail-eq_of_cons-eq e)

own : (n : ℕ) (ms : List Message) → only n n ms ≡ ms
own n ms = rw (eq-eqb n n refl)

-- a message accepted after i others, and one handed out after i others, are the same
meet : (n : ℕ) (d : List Decoding) (t t₁ t₂ u₁ u₂ : List Said) (x y : Said) (m k : Message)
    → map holds (accepted n t) ≡ map holds (handed_out n t) ++ d
    → t ≡ t₁ ++ (x ∷ t₂) → accepted_in n x ≡ m ∷ [] → t ≡ u₁ ++ (y ∷ u₂) → handed_out_in n y ≡ k ∷ []
    → length (handed_out n u₁) ≡ length (accepted n t₁) → m ≡ k
unfolding accepted handed_out
meet n d t t₁ t₂ u₁ u₂ x y m k l e a f b i =
    let here : accepted n t ≡ accepted n t₁ ++ (m ∷ accepted n t₂)
    = ap (accepted n) e ∙ accepted_append n t₁ (x ∷ t₂) ∙ ap (λ (z : List Message). accepted n t₁ ++ (z ++ accepted n t₂)) a in
    let there : handed_out n t ≡ handed_out n u₁ ++ (k ∷ handed_out n u₂)
    = ap (handed_out n) f ∙ handed_out_append n u₁ (y ∷ u₂) ∙ ap (λ (z : List Message). handed_out n u₁ ++ (z ++ handed_out n u₂)) b in
    let both : map holds (accepted n t₁) ++ (holds m ∷ map holds (accepted n t₂)) ≡ map holds (handed_out n u₁) ++ (holds k ∷ (map holds (handed_out n u₂) ++ d))
    = sym (map-append holds (accepted n t₁) (m ∷ accepted n t₂)) ∙ ap (map holds) (sym here) ∙ l ∙ ap (λ (z : List Message). map holds z ++ d) there
    ∙ ap (λ (z : List Decoding). z ++ d) (map-append holds (handed_out n u₁) (k ∷ handed_out n u₂))
    ∙ append_assoc (map holds (handed_out n u₁)) (holds k ∷ map holds (handed_out n u₂)) d in
    let q : holds m ≡ holds k = same_place (map holds (accepted n t₁)) (map holds (handed_out n u₁)) _ _ (simp length-map (sym i)) both in
    cc

-- ---- the frame

-- a frame that was sorted has a FIFO
sorted_fifo : (c : Model) (header : Header) (dlc time : ℕ) (payload : List ℕ)
    → (sort_of c header dlc time payload).delivery ≡ Ok tt → is_fifo (sort_of c header dlc time payload).fifo ≡ true
sorted_fifo c header dlc time payload =
    let f : ℕ = filter_for c header in
    by_sort c header dlc time payload (λ s. s.delivery ≡ Ok tt → is_fifo s.fifo ≡ true)
    (λ t. never _ refl) (λ t e. never _ refl) (λ t e z. never _ refl) (λ t e z g. never _ refl)
    (λ t e z g k q. ((give_iff c (target_for c f) f dlc header time payload t e).0 q).fifo)

told_filter : (f : Found) (buffer : List ℕ) (m : Message) → message_of f buffer ≡ m → f.filter ≡ m.filter
unfolding message_of
told_filter f buffer m e = ap (λ (k : Message). k.filter) e

pub filter_told_lem : FilterTold
unfolding event after incoming
filter_told_lem c w g es ds header dlc time payload f buffer r q h =
    let b : Bus = Sort header dlc time payload in
    let v : World = world c w es in
    let z : World = world c w (es ++ (On b ∷ ds)) in
    let s = sort_of v.chip header dlc (time % 2 ^ 32) payload in
    let n : ℕ = s.fifo in
    let m : Message = incoming v.chip n s.filter header dlc (time % 2 ^ 32) payload in
    let (u, grown) = after_grown ds (event (On b) v.doing v.chip v.said) in
    let split : z.said ≡ v.said ++ (says b v.chip ∷ u)
    = ap (λ (x : World). x.said) (after_append es (On b ∷ ds) (start c w)) ∙ grown ∙ append_assoc v.said (says b v.chip ∷ []) u in
    let took : accepted_in n (says b v.chip) ≡ m ∷ [] = own n _ ∙ ap (λ (d : Result (Unit {0}) Undelivered). taken d m) q in
    let same : m ≡ message_of f buffer
    = meet n (held z.chip n) z.said v.said u h.before h.behind (says b v.chip) (called (Get n h.lent) (Outcome.Message f) buffer) m (message_of f buffer)
    ((holds_always c w g (es ++ (On b ∷ ds)) r).lists n (sorted_fifo v.chip header dlc (time % 2 ^ 32) payload q))
    split took h.is (own n _) h.others in
    (told_filter f buffer m (sym same), sym same)
