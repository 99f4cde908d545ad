-- What is left of `ram::echo_pattern`: one word more, and none is left behind 32.
-- Assumes nothing.
use Prim.Native.Nat.{ℕ}
use mathlib.Core.Path.{◌≡◌, ap, ◌∙◌}
use native.Mathlib.Omega.{arith}
use Rattle.parts.specs.Parts.{zeroed}
use Rattle.ram.specs.Echo.{bit_words}
use Rattle.ram.proofs.Pattern.{no_words, next_word, all_words}
use Rattle.ram.proofs.echo_pattern.Goals as goal

pub loop-i-init : goal.loop-i-init
loop-i-init c = no_words

pub loop-i-preserved : goal.loop-i-preserved
loop-i-preserved c = next_word c.loop-i.i c.loop-i.invariant c.echo_word.ensures c.le_bytes.ensures c.put_at.ensures

pub returns : goal.returns
returns c =
    let over : c.loop-i.i ≡ 32 = omega arith in
    c.loop-i.invariant ∙ ap (λ (n : ℕ). zeroed 128 (bit_words n)) over ∙ all_words
