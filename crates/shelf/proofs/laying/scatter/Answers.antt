-- One byte more.
use Rattle.std.proofs.Common.{arith}
use Rattle.shelf.proofs.Scatters.{scatter-on}
use Rattle.shelf.proofs.laying.scatter.Goals as goal

pub loop-b-preserved : goal.loop-b-preserved
loop-b-preserved c =
    let a = c.args in
    scatter-on a.term.now a.at a.n a.k a.out.now (omega arith) (omega arith) c.loop-b.b c.loop-b.out (omega arith) c.loop-b.invariant
