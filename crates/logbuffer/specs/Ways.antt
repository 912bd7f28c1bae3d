-- The way of an append for a caller who has read the record's numbers: its course, the offset after it, and the raw tail that moves.
-- `reply_with` and `claim_reply_with` say what such a caller makes of it; `reply-way` and `claim-way` (proofs/Ways.antt) are the laws that this
-- is the appenders' reply.
use Rattle.std.specs.Prelude.{ℕ, ◌+◌, ◌*◌, ◌%◌, Bool, cond, ◌&&◌, Option, Some, None, List, [], ◌∷◌, length, pos, ◌==◌, nat_le, nat_lt, slice_set}
use Rattle.std.specs.Int.{w32}
use Rattle.std.proofs.Common.{to_z}
use Rattle.model.specs.declared.LogRecord.{LogRecord}
use Rattle.model.specs.declared.Reading.{Reading}
use Rattle.model.specs.declared.Error.{Error}
use Rattle.model.specs.declared.Error.TheVariants.{IllegalArgument, ActionPossiblyDelayed}
use Rattle.model.specs.declared.Course.{Course}
use Rattle.model.specs.declared.Course.TheVariants.{Refuse, Stray, Trip, Fit}
use Rattle.model.specs.declared.Appended.{Appended}
use Rattle.model.specs.declared.Appended.TheVariants.{Offset, Tripped, Refused}
use Rattle.model.specs.declared.AppendReply.{AppendReply}
use Rattle.model.specs.declared.Claim.{Claim}
use Rattle.model.specs.declared.AppendedClaim.{AppendedClaim}
use Rattle.model.specs.declared.AppendedClaim.TheVariants.{Claimed, Tripped as ClaimTripped, Refused as ClaimRefused}
use Rattle.model.specs.declared.AppendClaimReply.{AppendClaimReply}
use Rattle.model.specs.FrameDescriptor.{space}
use Rattle.model.specs.LogBufferDescriptor.{reading_of, raw_of, changed}
use Rattle.model.specs.TermAppender.{cut, need, fragment, written, claimed, course, bytes_by, reply_by, good_message}
use Rattle.logbuffer.specs.declared.way.Way.{Way}

-- on every course but a refusal the tail moves
abbrev pub way_to : Reading → ℕ → Course → Way
way_to v needed x = record { course = x; end = v.offset + needed; tail = raw_of v.id (v.offset + needed) }

abbrev pub no_way : Error → Way
no_way e = record { course = Refuse e; end = 0; tail = pos 0 }

abbrev pub way_by : Reading → ℕ → Course → Way
way_by v needed (Refuse e) = no_way e
way_by v needed Stray = way_to v needed Stray
way_by v needed Trip = way_to v needed Trip
way_by v needed Fit = way_to v needed Fit

-- what both appenders of messages ask of their arguments, and a term id of 32 bits; else 1
abbrev pub good_append : Reading → ℕ → ℕ → ℕ → Bool
good_append v k payload m =
    good_message k m && (nat_le 32 payload && (nat_le payload 2147483648 && (payload % 32 == 0 && nat_lt v.id 4294967296)))

unfoldable pub course_of : Reading → ℕ → ℕ → ℕ → ℕ → ℕ → Course
course_of v n k payload m given = cond (good_append v k payload m) (course v n (need payload m) given) (Refuse IllegalArgument)

-- the same for a claim
abbrev pub good_claiming : Reading → ℕ → ℕ → Bool
good_claiming v k m = good_message k m && nat_lt v.id 4294967296

unfoldable pub claim_course : Reading → ℕ → ℕ → ℕ → ℕ → Course
claim_course v n k m given = cond (good_claiming v k m) (course v n (space m) given) (Refuse IllegalArgument)

-- ---- what the two calls answer and leave: the record's numbers, log, partition, then the message's or the claim's

abbrev pub append_way : Reading → List ℕ → ℕ → ℕ → List ℕ → ℕ → Way
append_way v log k payload m given = way_by v (need payload (length m)) (course_of v (length log) k payload (length m) given)

abbrev pub append_way_bytes : Reading → List ℕ → ℕ → ℕ → List ℕ → ℕ → ℕ → List ℕ
append_way_bytes v log k payload m reserved given =
    bytes_by v k log (written v log (k * v.term) v.offset (cut payload reserved m)) (course_of v (length log) k payload (length m) given)

-- a message as one frame goes the way of a claim of its length, and leaves the frame
abbrev pub one_way_bytes : Reading → List ℕ → ℕ → List ℕ → ℕ → ℕ → List ℕ
one_way_bytes v log k m reserved given =
    bytes_by v k log (written v log (k * v.term) v.offset (fragment 192 reserved m ∷ [])) (claim_course v (length log) k (length m) given)

abbrev pub claim_way : Reading → List ℕ → ℕ → ℕ → ℕ → Way
claim_way v log k n given = way_by v (space n) (claim_course v (length log) k n given)

abbrev pub claim_way_bytes : Reading → List ℕ → ℕ → ℕ → ℕ → List ℕ
claim_way_bytes v log k n given = bytes_by v k log (claimed v log (k * v.term) n) (claim_course v (length log) k n given)

-- ---- one frame, or all of a message's, where they fit: the offset after them, which is answered, and what is left

-- Whether so many bytes have room at the tail, in a log of n bytes that are three terms. No more is asked of the record: its other ranges are its
-- caller's to judge.
unfoldable pub has_room : Reading → ℕ → ℕ → Bool
has_room v n needed =
    nat_le v.offset 2147483647 && (nat_le v.term 1073741824 && (n == 3 * v.term && nat_le (v.offset + needed) v.term))

-- a frame with a body of m bytes, at partition k
unfoldable pub frame_fits : Reading → ℕ → ℕ → ℕ → Bool
frame_fits v n k m = good_claiming v k m && has_room v n (space m)

-- all frames of a message of m bytes, cut by a payload limit p
unfoldable pub frames_fit : Reading → ℕ → ℕ → ℕ → ℕ → Bool
frames_fit v n k p m = good_append v k p m && has_room v n (need p m)

abbrev pub fit_end : Reading → List ℕ → ℕ → ℕ → Option ℕ
fit_end v log k m = cond (frame_fits v (length log) k m) (Some (v.offset + space m)) None

abbrev pub message_fit_bytes : Reading → List ℕ → ℕ → List ℕ → ℕ → List ℕ
message_fit_bytes v log k m reserved =
    cond (frame_fits v (length log) k (length m)) (written v log (k * v.term) v.offset (fragment 192 reserved m ∷ [])) log

abbrev pub fragmented_end : Reading → List ℕ → ℕ → ℕ → ℕ → Option ℕ
fragmented_end v log k p m = cond (frames_fit v (length log) k p m) (Some (v.offset + need p m)) None

abbrev pub fragmented_fit_bytes : Reading → List ℕ → ℕ → ℕ → List ℕ → ℕ → List ℕ
fragmented_fit_bytes v log k p m reserved =
    cond (frames_fit v (length log) k p (length m)) (written v log (k * v.term) v.offset (cut p reserved m)) log

abbrev pub claim_fit_bytes : Reading → List ℕ → ℕ → ℕ → List ℕ
claim_fit_bytes v log k n = cond (frame_fits v (length log) k n) (claimed v log (k * v.term) n) log

-- ---- what a caller makes of it

-- the record with partition k's tail at the way's
abbrev pub tail_at : LogRecord → ℕ → Way → LogRecord
tail_at r k w = changed r (slice_set r.tails k w.tail) r.active_term_count r.publication_limit r.is_closed

abbrev pub moved_with : LogRecord → ℕ → Way → Course → LogRecord
moved_with r k w (Refuse e) = r
moved_with r k w Stray = tail_at r k w
moved_with r k w Trip = tail_at r k w
moved_with r k w Fit = tail_at r k w

abbrev pub appended_with : Way → Course → Appended
appended_with w (Refuse e) = Refused e
appended_with w Stray = Refused ActionPossiblyDelayed
appended_with w Trip = Tripped
appended_with w Fit = Offset w.end

abbrev pub reply_with : LogRecord → ℕ → Way → AppendReply
reply_with r k w = record { next = moved_with r k w w.course; answer = appended_with w w.course }

-- with the claim's record, which only a claim that fits answers
abbrev pub claimed_with : Way → Claim → Course → AppendedClaim
claimed_with w c (Refuse e) = ClaimRefused e
claimed_with w c Stray = ClaimRefused ActionPossiblyDelayed
claimed_with w c Trip = ClaimTripped
claimed_with w c Fit = Claimed w.end c

abbrev pub claim_reply_with : LogRecord → ℕ → Way → Claim → AppendClaimReply
claim_reply_with r k w c = record { next = moved_with r k w w.course; answer = claimed_with w c w.course }

-- ---- a message by the record: cut by a payload limit p into partition k, its reserved value z, for term id g

abbrev pub message_reply : LogRecord → List ℕ → ℕ → ℕ → List ℕ → ℕ → AppendReply
message_reply r log k p m g =
    reply_by r (reading_of r k) k (need p (length m)) (course_of (reading_of r k) (length log) k p (length m) g)

abbrev pub message_bytes : LogRecord → List ℕ → ℕ → ℕ → List ℕ → ℕ → ℕ → List ℕ
message_bytes r log k p m z g =
    bytes_by (reading_of r k) k log (written (reading_of r k) log (k * (reading_of r k).term) (reading_of r k).offset (cut p z m))
    (course_of (reading_of r k) (length log) k p (length m) g)

-- the payload limit of a message of m bytes in fragments; 0, which is refused, where there is none
abbrev pub fragment_limit : ℕ → ℕ → ℕ
fragment_limit m p = cond (nat_le 1 m && nat_le p 2147483647) p 0

-- the record of a claim of n bytes by its bits
abbrev pub claim_bits : Reading → ℕ → ℕ → Claim
claim_bits v k n =
    record { partition = to_z w32 k; offset = to_z w32 v.offset; length = to_z w32 ((n + 32) % 4294967296); term_id = to_z w32 v.id }
