-- A number below 0 is cut to 0; any other is its bits.
use mathlib.Core.Path.{◌∙◌}
use Rattle.logbuffer.proofs.Signed.{long-by}
use Rattle.image.proofs.Bounds.{below-zero, not-below}
use borrow.Author.Rules.{rules}
use Rattle.image.proofs.limits.natural_position.Statement.{statement}
use Rattle.image.proofs.limits.natural_position.Tie as tie

returns : tie.Need-returns-then-limit-lt0
returns c = let s = c in below-zero s.args.limit s.ranges.limit c.if-limit-lt0.true

returns-2 : tie.Need-returns-else-limit-lt0
returns-2 c = let s = c in long-by s.args.limit c.long-bits.ensures.0 s.ranges.limit ∙ not-below s.args.limit s.ranges.limit c.if-limit-lt0.false

pub natural_position_spec : {M : Type 1} → statement M
natural_position_spec = tie.close (tie.spec (search rules) returns returns-2)
