-- One mark is another.
use mathlib.Core.Path.{refl}
use borrow.Author.Rules.{rules}
use Rattle.model.specs.LogBufferDescriptor.{noted, with_mark}
use Rattle.publication.proofs.clearing.marked.Statement.{statement}
use Rattle.publication.proofs.clearing.marked.Tie as tie

returns : tie.Need-returns
unfolding with_mark noted
returns c = refl

pub marked_spec : {M : Type 1} → statement M
marked_spec = tie.close (tie.spec (search rules) returns)
