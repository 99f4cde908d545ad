-- What is left of `field::set`: the word that the shifts and masks compute.
-- Assumes nothing.
use borrow.Author.Rules.{rules}
use Rattle.field.proofs.Masks.{set_is}
use Rattle.field.proofs.set.Goals as goal

pub returns : goal.returns
returns c = rw c.ones.ensures (set_is 32 _ _ _ _ c.ranges.word.fits (search rules) (search rules))
