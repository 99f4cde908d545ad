-- What sort answers and leaves.
-- Assumes nothing.
use Rattle.std.specs.Prelude.{Ok}
use Prim.Native.Nat.{ℕ}
use mathlib.Core.Path.{◌≡◌, refl}
use mathlib.Core.Bool.{true, false, not}
use mathlib.Core.List.{List, [], ◌∷◌}
use mathlib.Core.Logic.{◌↔◌}
use native.Mathlib.Omega.{arith}
use borrow.Author.Tests.{eqb-true, eq-eqb, leb-false, lt-leb, ltb-true, not-true, not-false}
use lib.Dec.{ltb, leb, eqb}
use lib.ListN.{length}
use Rattle.laws.proofs.Choice.{by_if}
use Rattle.field.specs.Field.{read}
use Rattle.configuration.specs.CanControl.{DNCNT}
use Rattle.spi.specs.declared.refusal.Refusal.{Refusal}
use Rattle.header.specs.declared.Header.{Header}
use Rattle.header.specs.Header.{top_id}
use Rattle.message.specs.Message.{arrival_check}
use Rattle.filters.specs.Filters.{filter_count}
use Rattle.state.specs.declared.Model.{Model}
use Rattle.bus.specs.declared.sorting.Sorted.{Sorted}
use Rattle.bus.specs.Sort.{filter_for, target_for, unsorted, taken_by, sorted_by, sort_of}
use Rattle.bus.specs.Numbers.{delivery_numbers, sorting_numbers, sorted_numbers}
use Rattle.bus.specs.Laws.{means_payload, Leaves, sort_answer, SortAnswers, Misfits, Sort22, Sortable, SortedIff, SortLeaves}
use Rattle.bus.proofs.Arriving.{agree, agreed, by_check_lem, give_told, not_22, misfit, give_iff, give_leaves, kept, never, clash}

module _ (m : Model) (header : Header) (dlc time : ℕ) (payload : List ℕ) where
  -- what holds of each answer holds of sort's; each may use the tests that lead to it
  pub by_sort : (P : Sorted → Type 0)
      → (ltb (top_id header.extended) header.id ≡ true → P (unsorted Refusal.BadIdentifier m))
      → (ltb (top_id header.extended) header.id ≡ false → means_payload header dlc payload ≡ false → P (unsorted Refusal.BadPayload m))
      → (ltb (top_id header.extended) header.id ≡ false → means_payload header dlc payload ≡ true
      → eqb (read DNCNT m.setup.con) 0 ≡ false → P (unsorted Refusal.DeviceNet m))
      → (ltb (top_id header.extended) header.id ≡ false → means_payload header dlc payload ≡ true
      → eqb (read DNCNT m.setup.con) 0 ≡ true → leb filter_count (filter_for m header) ≡ true → P (unsorted Refusal.NoMatch m))
      → (ltb (top_id header.extended) header.id ≡ false → means_payload header dlc payload ≡ true
      → eqb (read DNCNT m.setup.con) 0 ≡ true → leb filter_count (filter_for m header) ≡ false → arrival_check header dlc (length payload) ≡ Ok tt
      → P (taken_by m (filter_for m header) dlc header time payload))
      → P (sort_of m header dlc time payload)
  unfolding sort_of
  by_sort P a b c d e =
      by_check_lem m 0 header dlc time payload (λ y. P (sorted_by y m header dlc time payload)) a b
      (λ t f w. by_if P (not (eqb (read DNCNT m.setup.con) 0)) (λ x. c t f (not-true _ x))
      (λ x. by_if P (leb filter_count (filter_for m header)) (d t f (not-false _ x)) (λ y. e t f (not-false _ x) y w)))

pub sort_answers_lem : SortAnswers
sort_answers_lem m header dlc time payload =
    let f : ℕ = filter_for m header in
    let n : ℕ = target_for m f in
    by_sort m header dlc time payload (λ x. sorted_numbers x ≡ sort_answer m header dlc payload)
    (λ t. rw t)
    (λ t e. rw (t, e))
    (λ t e z. rw (t, e, z))
    (λ t e z g. rw (t, e, z, g))
    (λ t e z g k. rw (t, e, z, g) (give_told m n f dlc header time payload (λ x c. sorting_numbers x n f ≡ 0 ∷ c ∷ n ∷ f ∷ []) refl refl refl refl refl))

pub sort_22 : Sort22
sort_22 m header dlc time payload =
    by_sort m header dlc time payload (λ x. (sorted_numbers x ≡ 22 ∷ []) ↔ Misfits header dlc payload)
    (λ t. (not_22 21 [] refl, λ h. absurd (omega (arith, h.identifier, ltb-true))))
    (λ t f. (λ e. misfit header dlc payload t f, λ h. refl))
    (λ t e z. (not_22 31 [] refl, fits e))
    (λ t e z g. (not_22 30 [] refl, fits e))
    (λ t e z g k.
    let f : ℕ = filter_for m header in
    let n : ℕ = target_for m f in
    let o : (l : List ℕ) → 0 ∷ l ≡ 22 ∷ [] → Misfits header dlc payload = λ l. not_22 0 l refl in (
      give_told m n f dlc header time payload (λ x c. sorting_numbers x n f ≡ 22 ∷ [] → Misfits header dlc payload) (o _) (o _) (o _) (o _) (o _),
      fits e,
    ))
  where
    fits : {X : Type 0} → means_payload header dlc payload ≡ true → Misfits header dlc payload → X
    fits e h = absurd (h.not_both (agree header dlc payload e).0 (agree header dlc payload e).1)

pub sorted_iff_lem : SortedIff
sorted_iff_lem m header dlc time payload =
    let f : ℕ = filter_for m header in
    let n : ℕ = target_for m f in
    by_sort m header dlc time payload (λ x. (x.delivery ≡ Ok tt) ↔ Sortable m header dlc payload)
    (λ t. (never _ refl, λ h. absurd (omega (arith, h.deliverable.identifier, ltb-true))))
    (λ t e. (never _ refl, λ h. clash e (agreed header dlc payload h.deliverable.dlc_fits h.deliverable.meant)))
    (λ t e z. (never _ refl, λ h. clash z (eq-eqb _ _ h.dncnt)))
    (λ t e z g. (never _ refl, λ h. clash (lt-leb _ _ h.match) g))
    (λ t e z g k.
    let (to, back) = give_iff m n f dlc header time payload t e in (
      λ q. record { dncnt = eqb-true _ _ z; match = leb-false filter_count f g; deliverable = to q },
      λ h. back h.deliverable,
    ))

pub sort_leaves_lem : SortLeaves
sort_leaves_lem m header dlc time payload =
    by_sort m header dlc time payload (λ x. Leaves (delivery_numbers x.delivery) m x.model x.fifo)
    (λ t. kept (21 ∷ []) m 0 refl)
    (λ t e. kept (22 ∷ []) m 0 refl)
    (λ t e z. kept (31 ∷ []) m 0 refl)
    (λ t e z g. kept (30 ∷ []) m 0 refl)
    (λ t e z g k. give_leaves m (target_for m (filter_for m header)) (filter_for m header) dlc header time payload)
