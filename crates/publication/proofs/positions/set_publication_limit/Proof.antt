-- The change of a record whose limit is another.
use Rattle.model.specs.Publication.{change_of}
use Rattle.model.specs.LogBufferDescriptor.{with_limit, changed}
use mir.Facts.{to_z-of_z}
use lib.IntN.{ℤ}
use mathlib.Core.Path.{ap, ◌∙◌}
use borrow.Author.Rules.{rules}
use Rattle.publication.proofs.positions.set_publication_limit.Statement.{statement}
use Rattle.publication.proofs.positions.set_publication_limit.Tie as tie

returns : tie.Need-returns
unfolding with_limit changed
returns c = let s = c in c.change.ensures ∙ ap (λ (z : ℤ). change_of s.args.rec (with_limit s.args.rec z)) (to_z-of_z s.ranges.limit)

pub set_publication_limit_spec : {M : Type 1} → statement M
set_publication_limit_spec = tie.close (tie.spec (search rules) returns)
