-- The iterator's first place is what the definition's search finds.
use Rattle.std.proofs.Common.{rules, tests, ◌∙◌}
use lib.Dec.{eqb}
use lib.ListN.{take}
use Rattle.std.proofs.lemmas.Iterator.Search.{position_from_yields_List}
use Rattle.std.proofs.lemmas.Iterator.Adapters.{position_from-zero}
use Rattle.std.proofs.lemmas.Iterator.{YieldsList-from_slice}
use Rattle.header.specs.Dlc.{dlcs, lengths, dlc_of}
use Rattle.header.proofs.Search.{found}
use Rattle.header.proofs.dlc.dlc_for_len.Goals as goal

pub returns : goal.returns
unfolding dlc_of
returns c =
    let xs = take (dlcs c.args.fdf) lengths in
    position_from_yields_List (λ x. eqb x c.args.len) _ _ c.position.result c.position.ensures.ran (YieldsList-from_slice xs cc) (λ x b q k. search (rules, tests))
    ∙ position_from-zero (λ x. eqb x c.args.len) xs ∙ found c.args.len xs 0
