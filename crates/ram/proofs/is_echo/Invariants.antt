-- What the loop of `ram::is_echo` keeps: the words before word i are those of the pattern.
-- Assumes nothing.
use mathlib.Core.Path.{◌≡◌}
use Prim.Native.Nat.{◌*◌}
use lib.ListN.{take}
use Rattle.ram.specs.Echo.{bit_words}
use Rattle.ram.proofs.is_echo.Given as goal

abbrev pub invariant-loop-i : goal.invariant-loop-i
invariant-loop-i l = take (4 * l.i) l.rx ≡ bit_words l.i
