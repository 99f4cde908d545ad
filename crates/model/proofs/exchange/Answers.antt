-- `model::exchange` meets its contract.
-- Assumes nothing.
use Rattle.std.proofs.Common.{◌≡◌, ℕ, List, sym, arith}
use borrow.Author.Tests.{le-leb}
use Rattle.operation.specs.declared.operation.Operation.{Operation}
use Rattle.operation.specs.Operation.{asked}
use Rattle.operation.specs.Laws.{Sized}
use Rattle.operation.proofs.Sizes.{sizes}
use Rattle.bank.specs.Registers.{register_written}
use Rattle.parts.proofs.Laws.{put_none}
use Rattle.model.proofs.Puts.{write_fills}
use Rattle.model.specs.Exchange.{exchange, performed, lent}
use Rattle.model.proofs.exchange.Goals as goal

-- what an exchange wants that is read as p
wants : (s : List ℕ) (want : ℕ) (p : Operation) → p ≡ asked s want → Sized s want p
wants s want p e = rw (sym e) at (sizes s want)

pub put_word-requires : goal.put_word-requires
put_word-requires c = omega (arith, wants c.args.sent.now c.args.want _ c.in-Read.ensures)

pub put_checked-requires : goal.put_checked-requires
put_checked-requires c = omega (arith, wants c.args.sent.now c.args.want _ c.in-Checked.ensures)

pub put_ram-requires : goal.put_ram-requires
put_ram-requires c = (wants c.args.sent.now c.args.want _ c.in-ReadRam.ensures, c.if-rx-want.false)

pub wrote_ram-requires : goal.wrote_ram-requires
wrote_ram-requires c = (wants c.args.sent.now c.args.want _ c.in-WriteRam.ensures).1

pub returns-in-Reset : goal.returns-in-Reset
unfolding lent exchange performed
returns-in-Reset c =
    let l = le-leb _ _ c.if-rx-want.false in
    let e = sym c.in-Reset.ensures in
    (rw (c.told-in-Reset.ensures, c.fresh.ensures, l, e), rw (l, e) (sym (put_none _)))

pub returns-in-Write : goal.returns-in-Write
unfolding lent exchange performed
returns-in-Write c =
    let l = le-leb _ _ c.if-rx-want.false in
    let e = sym c.in-Write.ensures in
    (rw (c.wrote.ensures, l, e), rw (l, e) (write_fills (register_written c.args.m c.in-Write.r c.in-Write.w).granted c.args.rx.now))

pub returns-in-WriteRam : goal.returns-in-WriteRam
unfolding lent exchange performed
returns-in-WriteRam c =
    let l = le-leb _ _ c.if-rx-want.false in
    let e = sym c.in-WriteRam.ensures in
    (rw (c.told-in-WriteRam.ensures, c.wrote_ram.ensures, l, e), rw (l, e) (sym (put_none _)))
