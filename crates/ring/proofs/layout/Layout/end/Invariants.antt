use Rattle.std.proofs.Common.{◌≡◌, ◌≤◌, ◌*◌, ◌+◌}
use Rattle.ring.specs.Layout.{end}
use Rattle.ring.proofs.layout.Layout.end.Given as goal

abbrev pub invariant-loop-i : goal.invariant-loop-i
invariant-loop-i l = (l.sum ≡ end l.self.queue l.self.words.now l.i) × (l.sum ≤ 2432 * l.i + 2432)
