-- By the size, by how many headers there can be, and then by the headers.
use Rattle.std.proofs.Common.{sym, ◌∙◌, arith}
use Rattle.shelf.proofs.Calls.{not-size, by_fits, too_many}
use Rattle.shelf.proofs.taking.accepts.Goals as goal

pub returns-then-shelf-term : goal.returns-then-shelf-term
returns-then-shelf-term c = not-size c.args.term c.args.shelf.now c.if-shelf-term.true

pub returns-then-n-term : goal.returns-then-n-term
returns-then-n-term c =
    let a = c.args in
    let n = c.count_on-n.result in
    sym (too_many a.shelf.now n a.term (omega arith)) ∙ by_fits a.term a.shelf.now n c.if-shelf-term.false c.count_on-n.ensures.0

pub returns : goal.returns
returns c = let a = c.args in c.fits.ensures ∙ by_fits a.term a.shelf.now c.count_on-n.result c.if-shelf-term.false c.count_on-n.ensures.0
