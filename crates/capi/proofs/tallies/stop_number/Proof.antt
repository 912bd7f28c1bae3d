-- Case by case.
use mathlib.Core.Path.{sym, ap}
use borrow.Author.Rules.{rules}
use lib.IntN.{pos}
use Rattle.tally.specs.declared.step.Stop.{Stop}
use Rattle.tally.specs.Tally.{stop_number}
use Rattle.capi.proofs.tallies.stop_number.Statement.{statement}
use Rattle.capi.proofs.tallies.stop_number.Tie as tie

pub stop_number_spec : {M : Type 1} → statement M
stop_number_spec =
    tie.close
    (tie.spec
    (search rules)
    (search rules)
    (search rules)
    (search rules)
    (search rules)
    (search rules)
    (λ c. ap (λ (s : Stop). pos (stop_number s)) (sym c.in-Reached.is))
    (λ c. ap (λ (s : Stop). pos (stop_number s)) (sym c.in-Writing.is))
    (λ c. ap (λ (s : Stop). pos (stop_number s)) (sym c.in-Free.is))
    (λ c. ap (λ (s : Stop). pos (stop_number s)) (sym c.in-OtherTerm.is))
    (λ c. ap (λ (s : Stop). pos (stop_number s)) (sym c.in-PastSecond.is))
    (λ c. ap (λ (s : Stop). pos (stop_number s)) (sym c.in-UnsoundFrame.is)))
