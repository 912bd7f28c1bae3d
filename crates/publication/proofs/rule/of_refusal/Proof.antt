-- Case by case.
use mathlib.Core.Path.{sym, ap}
use borrow.Author.Rules.{rules}
use Rattle.model.proofs.RuleLaws.{refused_rule}
use Rattle.publication.proofs.rule.of_refusal.Statement.{statement}
use Rattle.publication.proofs.rule.of_refusal.Tie as tie

pub of_refusal_spec : {M : Type 1} → statement M
of_refusal_spec =
    tie.close
    (tie.spec
    (search rules)
    (search rules)
    (search rules)
    (search rules)
    (search rules)
    (search rules)
    (search rules)
    (search rules)
    (search rules)
    (search rules)
    (search rules)
    (search rules)
    (search rules)
    (search rules)
    (search rules)
    (search rules)
    (search rules)
    (search rules)
    (search rules)
    (search rules)
    (search rules)
    (λ c. ap refused_rule (sym c.in-IllegalArgument.is))
    (λ c. ap refused_rule (sym c.in-IllegalRecord.is))
    (λ c. ap refused_rule (sym c.in-PositionOutOfRange.is))
    (λ c. ap refused_rule (sym c.in-ExceedsMaxPayloadLength.is))
    (λ c. ap refused_rule (sym c.in-PublicationClosed.is))
    (λ c. ap refused_rule (sym c.in-AdminAction.is))
    (λ c. ap refused_rule (sym c.in-MaxPositionExceeded.is))
    (λ c. ap refused_rule (sym c.in-BackPressured.is))
    (λ c. ap refused_rule (sym c.in-NotConnected.is))
    (λ c. ap refused_rule (sym c.in-ExceedsMaxMessageLength.is))
    (λ c. ap refused_rule (sym c.in-TailOverflow.is))
    (λ c. ap refused_rule (sym c.in-LastTerm.is))
    (λ c. ap refused_rule (sym c.in-ActionPossiblyDelayed.is))
    (λ c. ap refused_rule (sym c.in-ClaimMismatch.is))
    (λ c. ap refused_rule (sym c.in-NewPositionOutOfRange.is))
    (λ c. ap refused_rule (sym c.in-NewPositionNotAligned.is))
    (λ c. ap refused_rule (sym c.in-AssemblyFull.is))
    (λ c. ap refused_rule (sym c.in-NotCleared.is))
    (λ c. ap refused_rule (sym c.in-NotDue.is))
    (λ c. ap refused_rule (sym c.in-FrameTooShort.is))
    (λ c. ap refused_rule (sym c.in-FramePastTerm.is)))
