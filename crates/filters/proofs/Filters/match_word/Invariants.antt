-- What the loop of `filters::Filters::match_word` keeps: the word so far has the tests of the filters so far.
-- Assumes nothing.
use mathlib.Core.Path.{◌≡◌}
use Prim.Native.Nat.{◌≤◌}
use Rattle.filters.specs.Filters.{hits, tests}
use Rattle.filters.proofs.Filters.match_word.Given as goal

abbrev pub invariant-loop-f : goal.invariant-loop-f
invariant-loop-f l =
    let s = l.self in
    (l.f ≤ 32) × (l.w ≡ tests (hits s.control.now s.object.now s.mask.now l.id.extended l.id.sid l.id.eid) 0 l.f)
