-- What is left of `ram::is_echo`: where a word differs the bytes do, and behind the last word all are the same.
-- Assumes nothing.
use Prim.Native.Nat.{◌*◌, ◌^◌}
use mathlib.Core.Path.{◌≡◌, sym, ap, ◌∙◌}
use mathlib.Core.List.{List}
use Prim.Native.Nat.{ℕ}
use native.Mathlib.Omega.{arith}
use borrow.Author.Tests.{eqb-true, eqb-false}
use lib.ListN.{length}
use Rattle.words.specs.Words.{le_at}
use Rattle.ram.specs.Echo.{echo_bytes}
use Rattle.ram.proofs.Laws.{same_law}
use Rattle.ram.proofs.Tests.{no_echo}
use Rattle.ram.proofs.Pattern.{length_echo, no_words_back, next_back, all_back, word_at}
use Rattle.ram.proofs.is_echo.Goals as goal

pub returns-then-rx-ne-ECHO_LEN : goal.returns-then-rx-ne-ECHO_LEN
returns-then-rx-ne-ECHO_LEN c = no_echo c.args.rx.now (λ e. c.if-rx-ne-ECHO_LEN.true (ap length e ∙ length_echo))

pub loop-i-init : goal.loop-i-init
loop-i-init c = no_words_back c.args.rx.now

pub returns-then-not-is_word : goal.returns-then-not-is_word
returns-then-not-is_word c =
    no_echo c.args.rx.now
    (λ e.
    eqb-false (le_at c.args.rx.now (4 * c.loop-i.i)) (2 ^ c.loop-i.i) (sym c.is_word.ensures ∙ c.if-not-is_word.true)
    (ap (λ (s : List ℕ). le_at s (4 * c.loop-i.i)) e ∙ word_at c.loop-i.i (omega arith)))

pub loop-i-preserved : goal.loop-i-preserved
loop-i-preserved c =
    next_back c.loop-i.i c.args.rx.now (omega arith) (λ k. omega (arith, c.type_inv.rx k)) c.loop-i.invariant
    (eqb-true (le_at c.args.rx.now (4 * c.loop-i.i)) (2 ^ c.loop-i.i) (sym c.is_word.ensures ∙ c.if-not-is_word.false))

pub returns : goal.returns
returns c =
    let rx = c.args.rx.now in
    let over : c.loop-i.i ≡ 32 = omega arith in
    sym ((same_law rx echo_bytes).1 (all_back rx c.if-rx-ne-ECHO_LEN.false (rw over at c.loop-i.invariant)))
