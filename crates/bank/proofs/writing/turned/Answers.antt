use mathlib.Core.List.{append-nil}
use Rattle.std.proofs.Common.{arith, rules, ◌≡◌, ◌∙◌, ap, length, length-append, length-drop}
use Rattle.std.proofs.lemmas.List.{take_all, drop_all, get_or_default, length-map, length-take}
use Rattle.std.proofs.lemmas.List.Edits.{map_over_more}
use Rattle.ring.specs.Ring.{turned}
use Rattle.bank.proofs.writing.turned.Goals as goal

pub loop-f-preserved : goal.loop-f-preserved
loop-f-preserved c =
    let a = c.args in
    let i = c.loop-f in
    let e : length a.m.fifo ≡ 32 = search rules in
    let l : length i.f-items ≡ 32 = ap length i.invariant ∙ simp (length-append, length-map, length-take, length-drop) (omega arith) in
    rw c.turned.ensures
    (map_over_more (turned a.entering) a.m.fifo i.f-items i.f-index _ (omega arith) i.invariant (get_or_default i.f-items i.f-index _ _ (omega arith)))

pub returns : goal.returns
returns c =
    let a = c.args in
    let i = c.loop-f in
    let e : length a.m.fifo ≡ 32 = search rules in
    rw (c.turned-2.ensures, i.invariant, take_all i.f-index a.m.fifo (omega arith), drop_all i.f-index a.m.fifo (omega arith), append-nil)
