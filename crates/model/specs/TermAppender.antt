-- The appenders: a message cut into frames, what is written, which way an append goes and what it answers and leaves
-- ("Writing" in document 01). Read BufferClaim or Publication next.
use Rattle.std.specs.Prelude.{ℕ, zero, suc, ◌+◌, ◌-◌, ◌*◌, ◌%◌, Bool, cond, ◌&&◌, List, [], ◌∷◌, ◌++◌, eqb, leb, ltb, length, take, drop, ℤ, pos}
use Rattle.std.specs.Int.{w32}
use Rattle.std.proofs.Common.{to_z}
use Rattle.model.specs.declared.LogRecord.{LogRecord}
use Rattle.model.specs.declared.Claim.{Claim}
use Rattle.model.specs.declared.Reading.{Reading}
use Rattle.model.specs.declared.Error.TheVariants.{IllegalArgument, IllegalRecord, TailOverflow, ActionPossiblyDelayed}
use Rattle.model.specs.declared.Course.{Course}
use Rattle.model.specs.declared.Course.TheVariants.{Refuse, Stray, Trip, Fit}
use Rattle.model.specs.declared.Appended.{Appended}
use Rattle.model.specs.declared.Appended.TheVariants.{Offset, Tripped, Refused}
use Rattle.model.specs.declared.AppendReply.{AppendReply}
use Rattle.model.specs.declared.AppendedClaim.TheVariants.{Claimed, Tripped as ClaimTripped, Refused as ClaimRefused}
use Rattle.model.specs.declared.AppendClaimReply.{AppendClaimReply}
use Rattle.model.specs.Bytes.{word, long, splice, zeros}
use Rattle.model.specs.FrameDescriptor.{space, negated}
use Rattle.model.specs.DataFrameHeader.{Header, header24, header_bytes}
use Rattle.model.specs.LogBufferDescriptor.{reading_of, sound, good_partition, with_tail}

-- ---- frames

-- a header at an offset of the record's term, version 0
abbrev pub header_of : Reading → ℕ → ℕ → ℕ → ℕ → ℕ → Header
header_of v offset len flags type reserved =
    record { length = len; version = 0; flags = flags; type = type; offset = offset; session = v.session; stream = v.stream; id = v.id; reserved = reserved }

-- the 24 bytes of it that writing a header sets: claims and paddings leave the reserved value as it is
unfoldable pub header : Reading → ℕ → ℕ → ℕ → ℕ → List ℕ
header v offset len flags type = header24 (header_of v offset len flags type 0)

-- a data frame to be written: its flags, its reserved value (the bits), its body
pub data Fragment : Type 0 where
  fragment : ℕ → ℕ → List ℕ → Fragment

abbrev pub body_of : Fragment → List ℕ
body_of (fragment flags reserved body) = body

-- its bytes in a log: the 32 of its header, which counts them and the body, and the body
unfoldable pub fragment_bytes : Reading → ℕ → Fragment → List ℕ
fragment_bytes v offset (fragment flags reserved body) = header_bytes (header_of v offset (length body + 32) flags 1 reserved) ++ body

-- fragments written one after another from an offset of the partition that starts at base
unfoldable pub written : Reading → List ℕ → ℕ → ℕ → List Fragment → List ℕ
written v log base offset [] = log
written v log base offset (f ∷ fs) = written v (splice log (base + offset) (fragment_bytes v offset f)) base (offset + space (length (body_of f))) fs

-- A message cut by the payload limit: each fragment but the last is full; `first` is 0x80 for the first fragment and 0 after it, and the
-- last has 0x40 more. The fuel is any number above the message's length.
unfoldable pub cut_from : ℕ → ℕ → ℕ → ℕ → List ℕ → List Fragment
cut_from zero payload first reserved m = []
cut_from (suc fuel) payload first reserved m =
    cond (leb (length m) payload) (fragment (first + 64) reserved m ∷ [])
    (fragment first reserved (take payload m) ∷ cut_from fuel payload 0 reserved (drop payload m))

unfoldable pub cut : ℕ → ℕ → List ℕ → List Fragment
cut payload reserved m = cut_from (suc (length m)) payload 128 reserved m

-- the aligned lengths of frames, added up
unfoldable pub sizes : List Fragment → ℕ
sizes [] = 0
sizes (f ∷ fs) = space (length (body_of f)) + sizes fs

-- What an append of n bytes needs: the sum over the frames of a message of n bytes, whatever they are (`need-is`, proofs/Cut.antt).
-- `need-formula` there is the Rust's formula for it.
unfoldable pub need : ℕ → ℕ → ℕ
need payload n = sizes (cut payload 0 (zeros n))

-- one padding frame fills the rest of the term, both flags set, the reserved value untouched; none where nothing is left
unfoldable pub padded : Reading → List ℕ → ℕ → List ℕ
padded v log base =
    cond (ltb v.offset v.term) (splice log (base + v.offset) (header v v.offset (v.term - v.offset) 192 0)) log

-- a claimed frame: its length stored negative, both flags, type 1; the body and the reserved value are left as they are
unfoldable pub claimed : Reading → List ℕ → ℕ → ℕ → List ℕ
claimed v log base n = splice log (base + v.offset) (header v v.offset (negated (n + 32)) 192 1)

-- ---- the way of an append

-- in order, after the arguments: 2, 11, 13, then into the term (an end equal to the term's fits) or past it
unfoldable pub course : Reading → ℕ → ℕ → ℕ → Course
course v n needed given =
    cond (sound v n)
    (cond (leb (v.offset + needed) 2147483647)
    (cond (eqb v.id given)
    (cond (leb (v.offset + needed) v.term) Fit Trip)
    Stray)
    (Refuse TailOverflow))
    (Refuse IllegalRecord)

-- the tail moves first, on every way that is not refused before it
abbrev pub moved_by : LogRecord → Reading → ℕ → ℕ → Course → LogRecord
moved_by r v k needed (Refuse e) = r
moved_by r v k needed Stray = with_tail r k v.id (v.offset + needed)
moved_by r v k needed Trip = with_tail r k v.id (v.offset + needed)
moved_by r v k needed Fit = with_tail r k v.id (v.offset + needed)

-- what the log holds after it, `new` where the append fits
abbrev pub bytes_by : Reading → ℕ → List ℕ → List ℕ → Course → List ℕ
bytes_by v k log new (Refuse e) = log
bytes_by v k log new Stray = log
bytes_by v k log new Trip = padded v log (k * v.term)
bytes_by v k log new Fit = new

abbrev pub appended_by : Reading → ℕ → Course → Appended
appended_by v needed (Refuse e) = Refused e
appended_by v needed Stray = Refused ActionPossiblyDelayed
appended_by v needed Trip = Tripped
appended_by v needed Fit = Offset (v.offset + needed)

abbrev pub reply_by : LogRecord → Reading → ℕ → ℕ → Course → AppendReply
reply_by r v k needed x = record { next = moved_by r v k needed x; answer = appended_by v needed x }

-- ---- messages

abbrev pub good_message : ℕ → ℕ → Bool
good_message k m = good_partition k && leb m 2147483647

unfoldable pub unfragmented_course : LogRecord → ℕ → ℕ → ℕ → ℕ → Course
unfragmented_course r n k m given =
    cond (good_message k m) (course (reading_of r k) n (space m) given) (Refuse IllegalArgument)

-- also refused: length 0, and a payload limit that is no positive multiple of 32
abbrev pub good_fragments : ℕ → ℕ → ℕ → Bool
good_fragments k m payload = good_message k m && (leb 1 m && (leb 32 payload && (leb payload 2147483647 && eqb (payload % 32) 0)))

unfoldable pub fragmented_course : LogRecord → ℕ → ℕ → ℕ → ℕ → ℕ → Course
fragmented_course r n k m payload given =
    cond (good_fragments k m payload)
    (course (reading_of r k) n (need payload m) given) (Refuse IllegalArgument)

-- The entry points, on the arguments as they come: record, log, partition, message, reserved value, payload limit, term id.
abbrev pub unfragmented_reply : LogRecord → List ℕ → ℤ → List ℕ → ℤ → AppendReply
unfragmented_reply r log partition m given =
    reply_by r (reading_of r (word partition)) (word partition) (space (length m))
    (unfragmented_course r (length log) (word partition) (length m) (word given))

abbrev pub unfragmented_bytes : LogRecord → List ℕ → ℤ → List ℕ → ℤ → ℤ → List ℕ
unfragmented_bytes r log partition m reserved given =
    bytes_by (reading_of r (word partition)) (word partition) log
    (written (reading_of r (word partition)) log (word partition * (reading_of r (word partition)).term) (reading_of r (word partition)).offset (fragment 192 (long reserved) m ∷ []))
    (unfragmented_course r (length log) (word partition) (length m) (word given))

abbrev pub fragmented_reply : LogRecord → List ℕ → ℤ → List ℕ → ℤ → ℤ → AppendReply
fragmented_reply r log partition m payload given =
    reply_by r (reading_of r (word partition)) (word partition) (need (word payload) (length m))
    (fragmented_course r (length log) (word partition) (length m) (word payload) (word given))

abbrev pub fragmented_bytes : LogRecord → List ℕ → ℤ → List ℕ → ℤ → ℤ → ℤ → List ℕ
fragmented_bytes r log partition m reserved payload given =
    bytes_by (reading_of r (word partition)) (word partition) log
    (written (reading_of r (word partition)) log (word partition * (reading_of r (word partition)).term) (reading_of r (word partition)).offset (cut (word payload) (long reserved) m))
    (fragmented_course r (length log) (word partition) (length m) (word payload) (word given))

-- ---- claims

-- a claim's record: the frame's partition, offset, length and term id
unfoldable pub claim_record : Reading → ℕ → ℕ → Claim
claim_record v k n = record { partition = pos k; offset = pos v.offset; length = pos (n + 32); term_id = to_z w32 v.id }

abbrev pub claim_appended_by : LogRecord → Reading → ℕ → ℕ → Course → AppendClaimReply
claim_appended_by r v k n (Refuse e) = record { next = r; answer = ClaimRefused e }
claim_appended_by r v k n Stray = record { next = moved_by r v k (space n) Stray; answer = ClaimRefused ActionPossiblyDelayed }
claim_appended_by r v k n Trip = record { next = moved_by r v k (space n) Trip; answer = ClaimTripped }
claim_appended_by r v k n Fit = record { next = moved_by r v k (space n) Fit; answer = Claimed (v.offset + space n) (claim_record v k n) }

abbrev pub claim_append_reply : LogRecord → List ℕ → ℤ → ℤ → ℤ → AppendClaimReply
claim_append_reply r log partition n given =
    claim_appended_by r (reading_of r (word partition)) (word partition) (word n)
    (unfragmented_course r (length log) (word partition) (word n) (word given))

abbrev pub claim_append_bytes : LogRecord → List ℕ → ℤ → ℤ → ℤ → List ℕ
claim_append_bytes r log partition n given =
    bytes_by (reading_of r (word partition)) (word partition) log
    (claimed (reading_of r (word partition)) log (word partition * (reading_of r (word partition)).term) (word n))
    (unfragmented_course r (length log) (word partition) (word n) (word given))
