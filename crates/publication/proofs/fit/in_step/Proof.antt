-- A test that fails settles the conjunction.
use mathlib.Core.Path.{ap}
use native.Mathlib.Omega.{arith}
use borrow.Author.Tests.{lt-ltb, le-ltb}
use borrow.Author.Rules.{rules}
use lib.Dec.{eqb}
use Rattle.publication.specs.Fits.{in_step}
use Rattle.publication.proofs.fit.in_step.Statement.{statement}
use Rattle.publication.proofs.fit.in_step.Tie as tie

returns : tie.Need-returns-then-id-gt4294967295
unfolding in_step
returns c = let h = c.if-id-gt4294967295.true in simp (le-ltb c.args.v.id 4294967296 (omega arith))

returns-2 : tie.Need-returns-then-initial-gt4294967295
unfolding in_step
returns-2 c = let h = c.if-initial-gt4294967295.true in let k = c.if-id-gt4294967295.false in
    simp (lt-ltb c.args.v.id 4294967296 (omega arith), le-ltb c.args.v.initial 4294967296 (omega arith))

returns-3 : tie.Need-returns
unfolding in_step
returns-3 c = let h = c.if-initial-gt4294967295.false in let k = c.if-id-gt4294967295.false in let a = c.args in
    simp (lt-ltb a.v.id 4294967296 (omega arith), lt-ltb a.v.initial 4294967296 (omega arith)) (ap (λ n. eqb n a.v.count) c.id_minus.ensures)

pub in_step_spec : {M : Type 1} → statement M
in_step_spec = tie.close (tie.spec returns returns-2 (search rules) (search rules) (search rules) (search rules) returns-3)
