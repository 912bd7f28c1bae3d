-- Case by case.
use mathlib.Core.Path.{sym, ap}
use borrow.Author.Rules.{rules}
use Rattle.tally.specs.Tally.{writing_size}
use Rattle.capi.proofs.tallies.writing_size.Statement.{statement}
use Rattle.capi.proofs.tallies.writing_size.Tie as tie

pub writing_size_spec : {M : Type 1} → statement M
writing_size_spec =
    tie.close
    (tie.spec
    (search rules)
    (search rules)
    (search rules)
    (search rules)
    (search rules)
    (search rules)
    (λ c. ap writing_size (sym c.in-Reached.is))
    (λ c. ap writing_size (sym c.in-Writing.is))
    (λ c. ap writing_size (sym c.in-Free.is))
    (λ c. ap writing_size (sym c.in-OtherTerm.is))
    (λ c. ap writing_size (sym c.in-PastSecond.is))
    (λ c. ap writing_size (sym c.in-UnsoundFrame.is)))
