-- The change of a record that is closed.
use Rattle.model.specs.LogBufferDescriptor.{with_closed, changed}
use borrow.Author.Rules.{rules}
use Rattle.publication.proofs.positions.close.Statement.{statement}
use Rattle.publication.proofs.positions.close.Tie as tie

returns : tie.Need-returns
unfolding with_closed changed
returns c = c.change.ensures

pub close_spec : {M : Type 1} → statement M
close_spec = tie.close (tie.spec (search rules) returns)
