-- What is left of `field::get`: a mask of k ones is the remainder by 2 ^ k.
-- Assumes nothing.
use lib.Bits.{and_mask}
use Rattle.field.proofs.get.Goals as goal

pub returns : goal.returns
returns c = rw (c.ones.ensures, and_mask)
