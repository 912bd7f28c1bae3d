-- In the same term by sums.
use Rattle.std.proofs.Common.{min}
use Rattle.tally.proofs.Spots.{same-term}
use Rattle.tally.proofs.step.Stream.onward.Goals as goal

pub returns-then-n-at : goal.returns-then-n-at
returns-then-n-at c = let a = c.args in same-term (min a.self.bits 30) a.p a.n a.at c.requires.0 c.if-n-at.true
