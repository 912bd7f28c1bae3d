-- Every byte is a copy of 0.
use Rattle.std.proofs.Common.{ap, ◌∙◌, rules}
use Rattle.model.specs.Bytes.{zeros}
use Rattle.publication.proofs.clearing.clear.Goals as goal

pub returns : goal.returns
unfolding zeros
returns c = c.fill.ensures.after (λ y e. e)
