use mathlib.Core.Bool.{beq}
use Rattle.std.proofs.Common.{arith, refl, sym, ◌≡◌, ◌<◌, ℕ, Bool, true, false, not, if◌then◌else◌}
use Rattle.ring.proofs.Places.{first_is}
use Rattle.ring.proofs.queue.run.Invariants.{is}
use Rattle.ring.proofs.queue.run.Goals as goal

-- a flag that is not as wanted
differs : (x on : Bool) → not (beq x on) ≡ true → (if on then x else not x) ≡ false
differs true true h = sym h
differs true false h = refl
differs false true h = refl
differs false false h = sym h

pub returns-then-held-k : goal.returns-then-held-k
returns-then-held-k c =
    let a = c.args in
    (sym (first_is (is a.held.now a.on) a.depth c.loop-k.k (omega arith) c.loop-k.invariant (λ h. differs _ a.on c.if-held-k.true)), omega arith)

pub returns : goal.returns
returns c =
    let a = c.args in
    let before : (j : ℕ) → j < a.depth → is a.held.now a.on j ≡ true = λ j l. c.loop-k.invariant j (omega arith) in
    (sym (first_is (is a.held.now a.on) a.depth a.depth (omega arith) before (λ h. absurd (omega arith))), omega arith)
