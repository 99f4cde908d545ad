-- A word put into the body is read back, and every other word is as it was.
-- Assumes nothing.
use Prim.Native.Nat.{ℕ, suc, ◌+◌, ◌*◌, ◌^◌, ◌≤◌, ◌<◌}
use mathlib.Core.Path.{◌≡◌, sym, ap, ◌∙◌}
use mathlib.Core.List.{List, ◌++◌, append_assoc}
use native.Mathlib.Omega.{arith}
use lib.Dec.{eqb}
use lib.ListN.{length, get_or, take, drop}
use lib.Seq.{sets, sets-eq, get_or-set_other, drop_at, length-take-le}
use borrow.Author.Tests.{eqb-true, eqb-false}
use Rattle.laws.proofs.Choice.{by_if}
use Rattle.words.specs.Words.{le_bytes, le_at}
use Rattle.words.proofs.Laws.{le_back, le_drop}
use Rattle.parts.specs.Parts.{put}
use Rattle.configure.specs.Numbers.{word}
use Rattle.configure.specs.Moves.{Stored}

module _ (l : List ℕ) (k w : ℕ) (fits : 4 * k + 4 ≤ length l) where
  abbrev after : List ℕ
  after = put l (4 * k) (le_bytes w)

  stores : after ≡ sets l (4 * k) (le_bytes w)
  unfolding put le_bytes
  stores = sym (append_assoc (take (4 * k) l) (le_bytes w) (drop (4 * k + 4) l)) ∙ sym (sets-eq (le_bytes w) l (4 * k) fits)

  -- a byte that is none of the four
  byte : (x : ℕ) → (4 * k ≤ x → x < 4 * k + 4 → ⊥) → get_or after x 0 ≡ get_or l x 0
  unfolding le_bytes
  byte x h =
      let e : x ≡ 4 * k → ⊥ = λ e. h (omega arith) (omega arith) in
      let f : x ≡ suc (4 * k) → ⊥ = λ e. h (omega arith) (omega arith) in
      let g : x ≡ suc (suc (4 * k)) → ⊥ = λ e. h (omega arith) (omega arith) in
      let i : x ≡ suc (suc (suc (4 * k))) → ⊥ = λ e. h (omega arith) (omega arith) in
      ap (λ (s : List ℕ). get_or s x 0) stores ∙ rw (get_or-set_other, get_or-set_other, get_or-set_other, get_or-set_other)

  same : (j : ℕ) → w < 2 ^ 32 → j ≡ k → le_at after (4 * j) ≡ w
  unfolding put
  same j small e =
      ap (λ (i : ℕ). le_at after (4 * i)) e ∙ le_drop after (4 * k)
      ∙ ap (λ (s : List ℕ). le_at s 0) (drop_at (take (4 * k) l) (le_bytes w ++ drop (4 * k + length (le_bytes w)) l) (4 * k) (length-take-le (4 * k) l (omega arith)))
      ∙ le_back w (drop (4 * k + length (le_bytes w)) l) small

  other : (j : ℕ) → (j ≡ k → ⊥) → le_at after (4 * j) ≡ le_at l (4 * j)
  unfolding le_at
  other j e =
      let apart : (i : ℕ) → i < 4 → 4 * k ≤ 4 * j + i → 4 * j + i < 4 * k + 4 → ⊥ = λ i l h m. e (omega arith) in
      rw (byte (4 * j) (λ h m. e (omega arith)), byte (4 * j + 1) (apart 1 (omega arith)), byte (4 * j + 2) (apart 2 (omega arith)), byte (4 * j + 3) (apart 3 (omega arith)))

  pub stored : w < 2 ^ 32 → Stored k w l after
  unfolding word
  stored small j = by_if (λ (v : ℕ). le_at after (4 * j) ≡ v) (eqb j k) (λ e. same j small (eqb-true j k e)) (λ e. other j (eqb-false j k e))
