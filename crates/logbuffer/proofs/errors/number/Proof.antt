-- Case by case.
use Rattle.std.proofs.Common.{sym, ap, rules}
use Rattle.model.specs.Errors.{number_of}
use Rattle.logbuffer.proofs.errors.number.Statement.{statement}
use Rattle.logbuffer.proofs.errors.number.Tie as tie

pub number_spec : {M : Type 1} → statement M
number_spec =
    tie.close
    (tie.spec
    (search rules)
    (search rules)
    (search rules)
    (search rules)
    (search rules)
    (search rules)
    (search rules)
    (search rules)
    (search rules)
    (search rules)
    (search rules)
    (search rules)
    (search rules)
    (search rules)
    (search rules)
    (search rules)
    (search rules)
    (search rules)
    (search rules)
    (search rules)
    (search rules)
    (λ c. ap number_of (sym c.in-IllegalArgument.is))
    (λ c. ap number_of (sym c.in-IllegalRecord.is))
    (λ c. ap number_of (sym c.in-PositionOutOfRange.is))
    (λ c. ap number_of (sym c.in-ExceedsMaxPayloadLength.is))
    (λ c. ap number_of (sym c.in-PublicationClosed.is))
    (λ c. ap number_of (sym c.in-AdminAction.is))
    (λ c. ap number_of (sym c.in-MaxPositionExceeded.is))
    (λ c. ap number_of (sym c.in-BackPressured.is))
    (λ c. ap number_of (sym c.in-NotConnected.is))
    (λ c. ap number_of (sym c.in-ExceedsMaxMessageLength.is))
    (λ c. ap number_of (sym c.in-TailOverflow.is))
    (λ c. ap number_of (sym c.in-LastTerm.is))
    (λ c. ap number_of (sym c.in-ActionPossiblyDelayed.is))
    (λ c. ap number_of (sym c.in-ClaimMismatch.is))
    (λ c. ap number_of (sym c.in-NewPositionOutOfRange.is))
    (λ c. ap number_of (sym c.in-NewPositionNotAligned.is))
    (λ c. ap number_of (sym c.in-AssemblyFull.is))
    (λ c. ap number_of (sym c.in-NotCleared.is))
    (λ c. ap number_of (sym c.in-NotDue.is))
    (λ c. ap number_of (sym c.in-FrameTooShort.is))
    (λ c. ap number_of (sym c.in-FramePastTerm.is)))
