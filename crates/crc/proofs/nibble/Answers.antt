-- What is left of `crc::nibble`: the table has a word for each number of four bits, and computes to its rule; four shifts go by it.
-- Assumes nothing.
use mathlib.Core.Path.{ap, ◌∙◌}
use Prim.Native.Nat.{◌*◌, ◌%◌, ◌^◌}
use lib.Bits.{bit_xor, xor_lt}
use lib.Pow.{shr_lt}
use Rattle.crc.specs.Crc.{shift1, shifts}
use Rattle.crc.proofs.Table.{at}
use Rattle.crc.proofs.Linear.{entry, entered}
use Rattle.crc.proofs.nibble.Goals as goal

pub bounds-c : goal.bounds-c
bounds-c c = xor_lt 4 _ _ (shr_lt 4 12 c.ranges.c.fits) c.requires

pub returns : goal.returns
unfolding shift1 shifts
returns c =
    ap (bit_xor (c.args.c * 2 ^ 4 % 2 ^ 16)) (at entry 16 _ (xor_lt 4 _ _ (shr_lt 4 12 c.ranges.c.fits) c.requires)) ∙ entered c.args.c c.args.n
