use Rattle.std.proofs.Common.{◌≡◌, ℕ, ◌<◌, Bool, true, false, List, not, get_or, if◌then◌else◌}
use Rattle.ring.proofs.queue.run.Given as goal

-- slot k is held, or with `on` false is free
abbrev pub is : List Bool → Bool → ℕ → Bool
is held on k = if on then get_or held k false else not (get_or held k false)

abbrev pub invariant-loop-k : goal.invariant-loop-k
invariant-loop-k l = (j : ℕ) → j < l.k → is l.held l.on j ≡ true
