-- Nothing is held before the first card.
use Rattle.std.proofs.Common.{refl}
use Rattle.holding.specs.Holding.{latest, held_of}
use Rattle.holding.proofs.laying.nothing.Goals as goal

pub returns : goal.returns
unfolding held_of latest
returns c = refl
