-- Document 01's number and values for each case of each answer: 0 and the values for an answer, and for a refusal its number and no
-- values; and the place of the frame that is refused, which 22 and 23 tell (R-7 of document 02). The contracts say which case is answered, these what
-- that case is in the papers.
use Rattle.std.specs.Prelude.{ℕ, cond, List, [], ◌∷◌, ℤ, pos, negsuc, Result, Ok, Err, ⊤, Bool}
use Rattle.model.specs.declared.Error.{Error}
use Rattle.model.specs.declared.Error.TheVariants.{ActionPossiblyDelayed}
use Rattle.model.specs.declared.Claim.{Claim}
use Rattle.model.specs.declared.HeaderFields.{HeaderFields}
use Rattle.model.specs.declared.Appended.{Appended}
use Rattle.model.specs.declared.Appended.TheVariants.{Offset as AppendedOffset, Tripped as AppendedTripped, Refused as AppendedRefused}
use Rattle.model.specs.declared.AppendedClaim.{AppendedClaim}
use Rattle.model.specs.declared.AppendedClaim.TheVariants.{Claimed as AppendedClaimClaimed, Tripped as AppendedClaimTripped, Refused as AppendedClaimRefused}
use Rattle.model.specs.declared.Claimed.{Claimed}
use Rattle.model.specs.declared.Course.{Course}
use Rattle.model.specs.declared.Course.TheVariants.{Refuse as CourseRefuse, Stray as CourseStray, Trip as CourseTrip, Fit as CourseFit}
use Rattle.model.specs.declared.FrameLength.{FrameLength}
use Rattle.model.specs.declared.FrameLength.TheVariants.{Free as LengthFree, Writing as LengthWriting, Finished as LengthFinished}
use Rattle.model.specs.declared.FrameLength.{FrameLength}
use Rattle.model.specs.declared.Frame.{Frame}
use Rattle.model.specs.declared.Frame.TheVariants.{Absent as FrameAbsent, Unsound as FrameUnsound, Padding as FramePadding, Data as FrameData}
use Rattle.model.specs.declared.Span.{Span}
use Rattle.model.specs.declared.HeaderFields.{HeaderFields}
use Rattle.model.specs.declared.FramesRead.{FramesRead}
use Rattle.model.specs.declared.FramesRead.TheVariants.{Walked as FramesReadWalked, Refused as FramesReadRefused}
use Rattle.model.specs.declared.TermRead.{TermRead}
use Rattle.model.specs.declared.GapScanned.{GapScanned}
use Rattle.model.specs.declared.GapScanned.TheVariants.{Gap as GapScannedGap, NoGap as GapScannedNoGap}
use Rattle.model.specs.declared.Polled.{Polled}
use Rattle.model.specs.declared.Peeked.{Peeked}
use Rattle.model.specs.declared.Block.{Block}
use Rattle.model.specs.declared.Assembled.{Assembled}
use Rattle.model.specs.declared.Assembled.TheVariants.{Nothing as AssembledNothing, Fragment as AssembledFragment, Message as AssembledMessage}
use Rattle.model.specs.declared.Replayed.{Replayed}
use Rattle.model.specs.declared.Replayed.TheVariants.{InLog as ReplayedInLog, InBuffer as ReplayedInBuffer, End as ReplayedEnd}
use Rattle.model.specs.Errors.{number_of, place_of}
use Rattle.model.specs.FrameDescriptor.{unsound_frame}

-- the place is an offset in a term; it is 0 where no frame is refused
pub record Told : Type 0 where
  pub number : ℤ
  pub values : List ℤ
  pub place : ℕ

abbrev pub answered : List ℤ → Told
answered values = record { number = pos 0; values = values; place = 0 }

abbrev pub refused : Error → Told
refused e = record { number = number_of e; values = []; place = place_of e }

-- a claim's record: partition, offset, frame length, term id
abbrev pub claim_values : Claim → List ℤ
claim_values c = c.partition ∷ c.offset ∷ c.length ∷ c.term_id ∷ []

-- a header's fields in their order, and the position past the frame
abbrev pub field_values : HeaderFields → List ℤ
field_values f =
    f.frame_length ∷ pos f.version ∷ pos f.flags ∷ pos f.frame_type ∷ f.term_offset ∷ f.session_id ∷ f.stream_id ∷ f.term_id
    ∷ f.reserved_value ∷ f.position ∷ []

-- opening, limit change, close, commit, abort, rotation, set_position, closing an image
abbrev pub outcome_told : Result ⊤ Error → Told
outcome_told (Ok _) = answered []
outcome_told (Err e) = refused e

-- position, limit, window
abbrev pub positioned_told : Result ℤ Error → Told
positioned_told (Ok p) = answered (p ∷ [])
positioned_told (Err e) = refused e

-- the course of an append: into the term it has no number yet, past its end it is -2 in the Rust
abbrev pub course_told : Course → Told
course_told (CourseRefuse e) = refused e
course_told CourseStray = refused ActionPossiblyDelayed
course_told CourseTrip = answered (negsuc 1 ∷ [])
course_told CourseFit = answered []

-- the appenders of messages
abbrev pub appended_told : Appended → Told
appended_told (AppendedOffset n) = answered (pos n ∷ [])
appended_told AppendedTripped = answered (negsuc 1 ∷ [])
appended_told (AppendedRefused e) = refused e

-- the appender of claims
abbrev pub appended_claim_told : AppendedClaim → Told
appended_claim_told (AppendedClaimClaimed n c) = answered (pos n ∷ claim_values c)
appended_claim_told AppendedClaimTripped = answered (negsuc 1 ∷ [])
appended_claim_told (AppendedClaimRefused e) = refused e

-- offer
abbrev pub offered_told : Result ℤ Error → Told
offered_told (Ok p) = answered (p ∷ [])
offered_told (Err e) = refused e

-- claim
abbrev pub claimed_told : Result Claimed Error → Told
claimed_told (Ok given) = answered (given.position ∷ claim_values given.claim)
claimed_told (Err e) = refused e

-- where a lent body or a view lies
abbrev pub located_told : Result Span Error → Told
located_told (Ok span) = answered (pos span.start ∷ pos span.end ∷ [])
located_told (Err e) = refused e

-- a length word by its sign: 0 for free; 1 for being written, and the size; 2 for finished, and the length
abbrev pub frame_length_told : FrameLength → Told
frame_length_told LengthFree = answered (pos 0 ∷ [])
frame_length_told (LengthWriting n) = answered (pos 1 ∷ pos n ∷ [])
frame_length_told (LengthFinished n) = answered (pos 2 ∷ pos n ∷ [])

-- the frame length reader
abbrev pub length_read_told : Result FrameLength Error → Told
length_read_told (Ok l) = frame_length_told l
length_read_told (Err e) = refused e

-- what stands at a place, its offset in the term: no finished frame; an unsound one; else 0 for padding or 1 for data, as the type field has it,
-- and the length
abbrev pub frame_told : ℕ → Frame → Told
frame_told place FrameAbsent = answered []
frame_told place (FrameUnsound n) = refused (unsound_frame n place)
frame_told place (FramePadding n) = answered (pos 0 ∷ pos n ∷ [])
frame_told place (FrameData n) = answered (pos 1 ∷ pos n ∷ [])

-- header fields
abbrev pub header_told : Result HeaderFields Error → Told
header_told (Ok f) = answered (field_values f)
header_told (Err e) = refused e

-- the walk that `read` and the polls go by: entries, fragments, bytes moved, bytes settled
abbrev pub frames_told : FramesRead → Told
frames_told (FramesReadWalked w) = answered (pos w.entries ∷ pos w.fragments ∷ pos w.moved ∷ pos w.settled ∷ [])
frames_told (FramesReadRefused e) = refused e

-- read
abbrev pub read_told : Result TermRead Error → Told
read_told (Ok read) = answered (pos read.offset ∷ pos read.fragments ∷ [])
read_told (Err e) = refused e

-- scan
abbrev pub scanned_told : Result ℕ Error → Told
scanned_told (Ok n) = answered (pos n ∷ [])
scanned_told (Err e) = refused e

-- scan_for_gap: the end of the walk, then, if there is a gap, its term id, offset and length, and 1 if it starts on a frame being written, else 0
abbrev pub gap_told : Result GapScanned Error → Told
gap_told (Ok (GapScannedGap id offset n written)) = answered (pos offset ∷ id ∷ pos offset ∷ pos n ∷ cond written (pos 1) (pos 0) ∷ [])
gap_told (Ok (GapScannedNoGap n)) = answered (pos n ∷ [])
gap_told (Err e) = refused e

-- scan_for_availability
abbrev pub availability_told : Result ℤ Error → Told
availability_told (Ok n) = answered (n ∷ [])
availability_told (Err e) = refused e

-- poll, bounded_poll, controlled_poll: fragments, entries
abbrev pub polled_told : Result Polled Error → Told
polled_told (Ok polled) = answered (pos polled.fragments ∷ pos polled.entries ∷ [])
polled_told (Err e) = refused e

-- controlled_peek: position, entries
abbrev pub peeked_told : Result Peeked Error → Told
peeked_told (Ok peeked) = answered (peeked.position ∷ pos peeked.entries ∷ [])
peeked_told (Err e) = refused e

-- block_poll
abbrev pub block_told : Result Block Error → Told
block_told (Ok block) = answered (pos block.offset ∷ pos block.length ∷ block.session_id ∷ block.term_id ∷ [])
block_told (Err e) = refused e

-- is_end_of_stream: 1 for yes, 0 for no
abbrev pub end_told : Result Bool Error → Told
end_told (Ok b) = answered (cond b (pos 1) (pos 0) ∷ [])
end_told (Err e) = refused e

-- the assembler: nothing; 1 and a part of the term; 2 and a part of the lent buffer
abbrev pub assembled_told : Result Assembled Error → Told
assembled_told (Ok AssembledNothing) = answered []
assembled_told (Ok (AssembledFragment at n)) = answered (pos 1 ∷ pos at ∷ pos n ∷ [])
assembled_told (Ok (AssembledMessage at n)) = answered (pos 2 ∷ pos at ∷ pos n ∷ [])
assembled_told (Err e) = refused e

-- a replay: 1 and a part of the log; 2 and a part of the lent buffer; at the end no values
abbrev pub replayed_told : Result Replayed Error → Told
replayed_told (Ok (ReplayedInLog at n)) = answered (pos 1 ∷ pos at ∷ pos n ∷ [])
replayed_told (Ok (ReplayedInBuffer at n)) = answered (pos 2 ∷ pos at ∷ pos n ∷ [])
replayed_told (Ok ReplayedEnd) = answered []
replayed_told (Err e) = refused e
