-- Document 01's number of each refusal ("Answers, by number"), as document 02 amends them, and the place that a refusal carries.
use Rattle.std.specs.Prelude.{ℕ, ℤ, pos}
use Rattle.model.specs.declared.Error.{Error}
use Rattle.model.specs.declared.Error.TheVariants.{IllegalArgument, IllegalRecord, PositionOutOfRange, ExceedsMaxPayloadLength, PublicationClosed, AdminAction, MaxPositionExceeded, BackPressured, NotConnected, ExceedsMaxMessageLength, TailOverflow, LastTerm, ActionPossiblyDelayed, ClaimMismatch, NewPositionOutOfRange, NewPositionNotAligned, AssemblyFull, NotCleared, NotDue, FrameTooShort, FramePastTerm}

abbrev pub number_of : Error → ℤ
number_of IllegalArgument = pos 1
number_of IllegalRecord = pos 2
number_of PositionOutOfRange = pos 3
number_of ExceedsMaxPayloadLength = pos 4
number_of PublicationClosed = pos 5
number_of AdminAction = pos 6
number_of MaxPositionExceeded = pos 7
number_of BackPressured = pos 8
number_of NotConnected = pos 9
number_of ExceedsMaxMessageLength = pos 10
number_of TailOverflow = pos 11
number_of LastTerm = pos 12
number_of ActionPossiblyDelayed = pos 13
number_of ClaimMismatch = pos 14
number_of NewPositionOutOfRange = pos 15
number_of NewPositionNotAligned = pos 16
number_of AssemblyFull = pos 18
number_of NotCleared = pos 19
number_of NotDue = pos 20
number_of (FrameTooShort place) = pos 22
number_of (FramePastTerm place) = pos 23

-- The place that 22 and 23 carry, the frame's offset in its term (R-7 of document 02); 0 where no frame is refused.
abbrev pub place_of : Error → ℕ
place_of IllegalArgument = 0
place_of IllegalRecord = 0
place_of PositionOutOfRange = 0
place_of ExceedsMaxPayloadLength = 0
place_of PublicationClosed = 0
place_of AdminAction = 0
place_of MaxPositionExceeded = 0
place_of BackPressured = 0
place_of NotConnected = 0
place_of ExceedsMaxMessageLength = 0
place_of TailOverflow = 0
place_of LastTerm = 0
place_of ActionPossiblyDelayed = 0
place_of ClaimMismatch = 0
place_of NewPositionOutOfRange = 0
place_of NewPositionNotAligned = 0
place_of AssemblyFull = 0
place_of NotCleared = 0
place_of NotDue = 0
place_of (FrameTooShort place) = place
place_of (FramePastTerm place) = place
