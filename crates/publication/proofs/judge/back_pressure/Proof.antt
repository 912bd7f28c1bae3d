-- The tests pick the case.
use native.Mathlib.Omega.{arith}
use Rattle.model.proofs.Sound.{begin-most}
use Rattle.model.proofs.OfferLaws.{pressed-7, pressed-8, pressed-9}
use borrow.Author.Rules.{rules}
use Rattle.publication.proofs.judge.back_pressure.Statement.{statement}
use Rattle.publication.proofs.judge.back_pressure.Tie as tie

returns : tie.Need-returns-then-begin-offset
returns c = pressed-7 c.args.v c.args.m (omega (arith, c.requires.1.0, c.if-begin-offset.true))

returns-2 : tie.Need-returns-then-connected-eq1
returns-2 c = pressed-8 c.args.v c.args.m (omega (arith, c.requires.1.0, c.if-begin-offset.false)) c.if-connected-eq1.true

returns-3 : tie.Need-returns
returns-3 c = pressed-9 c.args.v c.args.m (omega (arith, c.requires.1.0, c.if-begin-offset.false)) c.if-connected-eq1.false

pub back_pressure_spec : {M : Type 1} → statement M
back_pressure_spec =
    tie.close (tie.spec (λ c. omega (arith, begin-most _ c.requires.0, c.requires.1.0)) (λ c. omega (arith, begin-most _ c.requires.0, c.requires.1.0)) (search rules) returns returns-2 returns-3)
