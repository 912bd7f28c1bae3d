-- Nothing is held.
use Rattle.std.specs.Prelude.{Err}
use Rattle.std.proofs.Common.{[], ap}
use Rattle.holding.specs.declared.laying.Held.{Held}
use Rattle.holding.specs.Holding.{padded, holding_with}
use Rattle.holding.proofs.refused.Goals as goal

pub returns : goal.returns
unfolding padded
returns c = ap (λ (h : Held). holding_with (Err c.args.error) h (padded [])) c.nothing-held.ensures
