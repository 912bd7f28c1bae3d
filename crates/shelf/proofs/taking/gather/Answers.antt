-- One byte more, and at last all of them.
use Rattle.std.proofs.Common.{arith}
use Rattle.shelf.proofs.Walks.{gather-start, gather-on, gathered-all}
use Rattle.shelf.proofs.taking.gather.Goals as goal

pub loop-b-init : goal.loop-b-init
loop-b-init c = let a = c.args in gather-start a.shelf.now a.n a.k a.out.now a.to (omega arith) (omega arith) (omega arith)

pub loop-b-preserved : goal.loop-b-preserved
loop-b-preserved c =
    let a = c.args in
    gather-on a.shelf.now a.n a.k a.out.now a.to (omega arith) (omega arith) (omega arith) c.loop-b.out c.loop-b.b (omega arith) c.loop-b.invariant

pub returns : goal.returns
returns c =
    let a = c.args in
    gathered-all a.shelf.now a.n a.k a.out.now a.to (omega arith) (omega arith) (omega arith) c.loop-b.out c.loop-b.b c.loop-b.invariant (omega arith)
