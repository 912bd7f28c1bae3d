-- Case by case.
use mathlib.Core.Path.{sym, ap}
use borrow.Author.Rules.{rules}
use Rattle.model.specs.Rule.{rule_number}
use Rattle.publication.proofs.rule.number.Statement.{statement}
use Rattle.publication.proofs.rule.number.Tie as tie

pub number_spec : {M : Type 1} → statement M
number_spec =
    tie.close
    (tie.spec
    (search rules)
    (search rules)
    (search rules)
    (search rules)
    (search rules)
    (search rules)
    (search rules)
    (search rules)
    (search rules)
    (search rules)
    (search rules)
    (search rules)
    (search rules)
    (search rules)
    (search rules)
    (search rules)
    (search rules)
    (λ c. ap rule_number (sym c.in-IllegalArgument.is))
    (λ c. ap rule_number (sym c.in-IllegalRecord.is))
    (λ c. ap rule_number (sym c.in-PublicationClosed.is))
    (λ c. ap rule_number (sym c.in-ExceedsMaxPayloadLength.is))
    (λ c. ap rule_number (sym c.in-CountOutOfStep.is))
    (λ c. ap rule_number (sym c.in-LimitPastMaxPosition.is))
    (λ c. ap rule_number (sym c.in-BackPressured.is))
    (λ c. ap rule_number (sym c.in-NotConnected.is))
    (λ c. ap rule_number (sym c.in-ExceedsMaxMessageLength.is))
    (λ c. ap rule_number (sym c.in-TailOverflow.is))
    (λ c. ap rule_number (sym c.in-TripPastMaxPosition.is))
    (λ c. ap rule_number (sym c.in-LastTerm.is))
    (λ c. ap rule_number (sym c.in-NotCleared.is))
    (λ c. ap rule_number (sym c.in-TermRotated.is))
    (λ c. ap rule_number (sym c.in-Unfragmented.is))
    (λ c. ap rule_number (sym c.in-Fragmented.is))
    (λ c. ap rule_number (sym c.in-Claimed.is)))
