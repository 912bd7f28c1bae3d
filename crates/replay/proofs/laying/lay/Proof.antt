-- Four stores, one behind the other.
use native.Mathlib.Omega.{arith}
use lib.ListN.{length-set}
use borrow.Author.Rules.{rules}
use Rattle.replay.proofs.laying.lay.Statement.{statement}
use Rattle.replay.proofs.laying.lay.Tie as tie

pub lay_spec : {M : Type 1} → statement M
lay_spec =
    tie.close
    (tie.spec
    (search rules)
    (search rules)
    (search rules)
    (search rules)
    (search rules)
    (λ c. simp length-set (omega (arith, c.requires)))
    (search rules)
    (search rules)
    (λ c. simp length-set (omega (arith, c.requires)))
    (search rules)
    (search rules)
    (λ c. simp length-set (omega (arith, c.requires)))
    (search rules)
    (search rules))
