-- What the loop of `ram::echo_pattern` keeps: the words of the bits below i are there, and zeros behind them.
-- Assumes nothing.
use mathlib.Core.Path.{◌≡◌}
use Rattle.parts.specs.Parts.{zeroed}
use Rattle.ram.specs.Echo.{bit_words}
use Rattle.ram.proofs.echo_pattern.Given as goal

abbrev pub invariant-loop-i : goal.invariant-loop-i
invariant-loop-i l = l.p ≡ zeroed 128 (bit_words l.i)
