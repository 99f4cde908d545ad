-- What is left of `filters::Filters::match_word`: the loop's two arms.
-- Assumes nothing.
use mathlib.Core.Path.{◌≡◌, refl, sym, ◌∙◌}
use mathlib.Core.Bool.{Bool}
use Prim.Native.Nat.{ℕ}
use native.Mathlib.Omega.{arith}
use Rattle.filters.specs.Filters.{hits, tests}
use Rattle.filters.proofs.Word.{bit_set, bit_clear}
use Rattle.filters.proofs.Filters.match_word.Goals as goal
use Rattle.filters.proofs.Filters.match_word.Goals.{then-matching, else-matching}

pub loop-f-init : goal.loop-f-init
unfolding tests
loop-f-init c = (omega arith, refl)

pub loop-f-preserved : goal.loop-f-preserved
loop-f-preserved c =
    let s = c.args.self in
    let id = c.args.id in
    let l = c.loop-f in
    let p : ℕ → Bool = hits s.control.now s.object.now s.mask.now id.extended id.sid id.eid in
    let m : c.matching.result ≡ p l.f = rw (← c.control_at.ensures, ← c.enabled-enabled.ensures) c.matching.ensures in
    elim c.if-matching.branch [
      | then-matching w ↦ (omega arith, w.w-is ∙ bit_set p l.f l.w l.invariant.1 (omega arith) (sym m ∙ w.if-matching.true))
      | else-matching w ↦ (omega arith, w.w-is ∙ bit_clear p l.f l.w l.invariant.1 (sym m ∙ w.if-matching.false))
    ]
