-- The widths, added up.
use Rattle.std.proofs.Common.{arith, ◌∙◌}
use Rattle.std.proofs.lemmas.Iterator.{YieldsList-from_slice}
use Rattle.std.proofs.lemmas.Iterator.Consumers.{sum_from_yields_List, fits_from_yields_list}
use Rattle.card.specs.Bytes.{sum}
use Rattle.card.specs.Card.{widths}
use Rattle.card.proofs.end.Goals as goal

pub sum-requires-clause-fits : goal.sum-requires-clause-fits
unfolding widths
sum-requires-clause-fits c =
    fits_from_yields_list c.iter.result _ (YieldsList-from_slice (widths c.args.b) (c.iter.ensures.rest ∙ c.table.ensures)) (omega arith)

pub returns : goal.returns
unfolding widths sum
returns c =
    let e = sum_from_yields_List c.iter.result c.sum.result c.sum.ensures.ran (YieldsList-from_slice (widths c.args.b) (c.iter.ensures.rest ∙ c.table.ensures)) in
    (omega (arith, e), omega (arith, e))
