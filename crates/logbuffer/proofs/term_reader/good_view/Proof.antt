-- The first test that fails decides.
use Rattle.std.proofs.Common.{rules, le-leb}
use borrow.Author.Tests.{lt-leb}
use Rattle.model.specs.TermReader.{good_view}
use Rattle.logbuffer.proofs.term_reader.good_view.Statement.{statement}
use Rattle.logbuffer.proofs.term_reader.good_view.Tie as tie

returns : tie.Need-returns-then-p-gt2
unfolding good_view
returns c = let a = c.args in rw (lt-leb a.p.partition 2 c.if-p-gt2.true)

returns-2 : tie.Need-returns
unfolding good_view
returns-2 c = let a = c.args in rw (le-leb a.p.partition 2 c.if-p-gt2.false) c.within_term.ensures

pub good_view_spec : {M : Type 1} → statement M
good_view_spec = tie.close (tie.spec returns (search rules) (search rules) returns-2)
