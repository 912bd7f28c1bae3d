-- Reading a term: the walk over frames that every poll takes, entries, `read`, header fields, and views of bodies and blocks
-- ("Reading" in document 01). Read TermScan or Image next.
use Rattle.std.specs.Prelude.{ℕ, zero, suc, ◌+◌, ◌-◌, ◌*◌, ◌/◌, ◌%◌, Bool, true, cond, ◌&&◌, ◌||◌, List, [], ◌∷◌, ◌++◌, eqb, leb, ltb, length, drop, ℤ, pos, negsuc, neg_ℤ, ◌+ℤ◌, Result, Ok, Err, ⊤}
use Rattle.std.specs.Int.{w32, w64}
use Rattle.std.proofs.Common.{to_z}
use Rattle.model.specs.declared.LogRecord.{LogRecord}
use Rattle.model.specs.declared.Reading.{Reading}
use Rattle.model.specs.declared.Error.{Error}
use Rattle.model.specs.declared.Error.TheVariants.{IllegalArgument}
use Rattle.model.specs.declared.FrameLength.{FrameLength}
use Rattle.model.specs.declared.FrameLength.{FrameLength}
use Rattle.model.specs.declared.Frame.{Frame}
use Rattle.model.specs.declared.Frame.TheVariants.{Absent, Unsound, Padding, Data}
use Rattle.model.specs.declared.HeaderFields.{HeaderFields}
use Rattle.model.specs.declared.HeaderFields.{HeaderFields}
use Rattle.model.specs.declared.Walk.{Walk}
use Rattle.model.specs.declared.FramesRead.{FramesRead}
use Rattle.model.specs.declared.FramesRead.TheVariants.{Walked as AllWalked, Refused as WalkRefused}
use Rattle.model.specs.declared.TermRead.{TermRead}
use Rattle.model.specs.declared.Span.{Span}
use Rattle.model.specs.Bytes.{word}
use Rattle.model.specs.Parts.{located_by}
use Rattle.model.specs.FrameDescriptor.{align, length_at, frame_at, is_unsound, unsound_frame_at, flags_at, ends}
use Rattle.model.specs.DataFrameHeader.{Header, header_at}
use Rattle.model.specs.LogBufferDescriptor.{position_of, reading, sound, within_term, good_partition, good_offset, first_rows, frame_row}

-- ---- the walk

-- What a walk gives: the (offset, length) of each body handed out, how many fragments count, how many bytes it moved, and how many of
-- them up to its last whole message or padding (a peek's result).
pub record Walked : Type 0 where
  pub entries : List (ℕ × ℕ)
  pub fragments : ℕ
  pub moved : ℕ
  pub settled : ℕ

abbrev pub still : Walked
still = record { entries = []; fragments = 0; moved = 0; settled = 0 }

-- The handler's answers: 1 abort, 2 break, 3 commit, 4 continue; the first belongs to the next fragment. Where none are given, 4.
abbrev pub next_action : List ℕ → ℕ
next_action [] = 4
next_action (a ∷ acts) = a

abbrev pub rest_actions : List ℕ → List ℕ
rest_actions [] = []
rest_actions (a ∷ acts) = acts

-- settled bytes before more of them: a frame that ends nothing by itself counts where a later one does
abbrev pub settled_by : Bool → ℕ → ℕ → ℕ
settled_by whole size later = cond (whole || ltb 0 later) (size + later) 0

-- a padding frame of this size passed: it is not counted, and always settles
abbrev pub passed : ℕ → Walked → Walked
passed size w = record { entries = w.entries; fragments = w.fragments; moved = size + w.moved; settled = size + w.settled }

-- a data frame of length n at an offset handed out, and then w
abbrev pub handed : ℕ → ℕ → Bool → Walked → Walked
handed at n whole w =
    record {
      entries = (at + 32, n - 32) ∷ w.entries;
      fragments = suc w.fragments;
      moved = align n + w.moved;
      settled = settled_by whole (align n) w.settled;
    }

-- abort hands it out and stays before it; break goes no further; commit and continue go on
abbrev pub handed_by : ℕ → ℕ → ℕ → Bool → Walked → Walked
handed_by action at n whole w =
    cond (eqb action 1) (record { entries = (at + 32, n - 32) ∷ []; fragments = 0; moved = 0; settled = 0 })
    (cond (eqb action 2) (handed at n whole still) (handed at n whole w))

-- one frame, and `go` from the offset after it with so many fragments to come and these actions; a walk stops at an unsound frame
abbrev pub over : Frame → Bool → ℕ → ℕ → List ℕ → (ℕ → ℕ → List ℕ → Walked) → Walked
over Absent whole at limit acts go = still
over (Unsound n) whole at limit acts go = still
over (Padding n) whole at limit acts go = passed (align n) (go (at + align n) (suc limit) acts)
over (Data n) whole at limit acts go = handed_by (next_action acts) at n whole (go (at + align n) limit (rest_actions acts))

-- From an offset of the term that starts at base, while below `end` and with fragments left to read. The fuel is at least the bytes
-- left to the end.
unfoldable pub walk : ℕ → List ℕ → ℕ → ℕ → ℕ → ℕ → ℕ → List ℕ → Walked
walk zero log base term end at limit acts = still
walk (suc fuel) log base term end at zero acts = still
walk (suc fuel) log base term end at (suc limit) acts =
    cond (leb end at) still
    (over (frame_at (drop (base + at) log) (term - at)) (ends (flags_at (drop (base + at) log))) at limit acts
    (λ a l more. walk fuel log base term end a l more))

-- whether the first frame is looked at and is unsound (22, 23)
abbrev pub first_unsound : List ℕ → ℕ → ℕ → ℕ → ℕ → ℕ → Bool
first_unsound log base term end at limit = ltb at end && (ltb 0 limit && is_unsound (frame_at (drop (base + at) log) (term - at)))

-- ---- arguments

-- a limit of 0 or less reads nothing
abbrev pub natural : ℤ → ℕ
natural (pos n) = n
natural (negsuc n) = 0

-- lent entries: not fewer than the fragment limit, two numbers an entry, in a slice of at most 2147483647
abbrev pub good_entries : ℕ → ℕ → Bool
good_entries slots limit = leb slots 2147483647 && leb limit (slots / 2)

-- lent actions: each 1 to 4
unfoldable pub good_actions : List ℕ → Bool
good_actions [] = true
good_actions (a ∷ acts) = (leb 1 a && leb a 4) && good_actions acts

-- and not fewer than the fragment limit, in a slice of at most 2147483647
abbrev pub good_control : List ℕ → ℕ → Bool
good_control acts limit = good_actions acts && (leb (length acts) 2147483647 && leb limit (length acts))

-- the lent slice with the entries written from its start, the rest untouched
unfoldable pub numbers : List (ℕ × ℕ) → List ℤ
numbers [] = []
numbers (e ∷ es) = pos e.0 ∷ pos e.1 ∷ numbers es

unfoldable pub laid : List ℤ → List (ℕ × ℕ) → List ℤ
laid slots es = numbers es ++ drop (2 * length es) slots

abbrev pub entries_by : List ℤ → Walked → Result ⊤ Error → List ℤ
entries_by slots w (Ok _) = laid slots w.entries
entries_by slots w (Err e) = slots

-- ---- the walk as the leaf library offers it: any numbers

-- A term that lies in the log, its length a multiple of 32; an end inside it; an offset that is a multiple of 32; room for the entries.
-- Where the term starts is not judged beyond that.
abbrev pub good_walk : ℕ → ℕ → ℕ → ℕ → ℕ → ℕ → ℕ → Bool
good_walk n base term end at limit slots =
    leb (base + term) n && (leb term 1073741824 && (eqb (term % 32) 0 && (leb end term && (eqb (at % 32) 0 && good_entries slots limit))))

-- and the handler's answers: none, where nobody handles, or good ones
abbrev pub good_handler : List ℕ → ℕ → Bool
good_handler acts limit = eqb (length acts) 0 || good_control acts limit

unfoldable pub frames_verdict : List ℕ → ℕ → ℕ → ℕ → ℕ → ℕ → List ℕ → ℕ → Result ⊤ Error
frames_verdict log base term end at limit acts slots =
    cond (good_walk (length log) base term end at limit slots && good_handler acts limit)
    (frame_row (first_unsound log base term end at limit) (unsound_frame_at log base at))
    (Err IllegalArgument)

abbrev pub walk_of : Walked → Walk
walk_of w = record { entries = length w.entries; fragments = w.fragments; moved = w.moved; settled = w.settled }

abbrev pub frames_by : Walked → Result ⊤ Error → FramesRead
frames_by w (Ok _) = AllWalked (walk_of w)
frames_by w (Err e) = WalkRefused e

-- the refusal of a walk that was refused; of any other there is none, and 1 stands for it
abbrev pub frames_refusal : FramesRead → Error
frames_refusal (AllWalked w) = IllegalArgument
frames_refusal (WalkRefused e) = e

-- the walk's answer as a read of a term gives it: the offset that it came to, and the fragments
abbrev pub read_from : ℕ → FramesRead → Result TermRead Error
read_from at (AllWalked w) = Ok (record { offset = at + w.moved; fragments = w.fragments })
read_from at (WalkRefused e) = Err e

-- log, where the term starts, its length, the end, the offset, the fragment limit, the actions, the lent entries
unfoldable pub frames_of : List ℕ → ℕ → ℕ → ℕ → ℕ → ℕ → List ℕ → List ℤ → FramesRead
frames_of log base term end at limit acts slots =
    frames_by (walk term log base term end at limit acts) (frames_verdict log base term end at limit acts (length slots))

unfoldable pub frames_entries : List ℕ → ℕ → ℕ → ℕ → ℕ → ℕ → List ℕ → List ℤ → List ℤ
frames_entries log base term end at limit acts slots =
    entries_by slots (walk term log base term end at limit acts) (frames_verdict log base term end at limit acts (length slots))

-- ---- `read`: record, log, partition, offset, fragment limit, lent entries. In order: 1, 2, 22 or 23.

-- Where it may start: the place of a frame, or the term's end, where nothing is left to read.
abbrev pub good_start : ℕ → Reading → Bool
good_start at v = eqb (at % 32) 0 && within_term at v

unfoldable pub read_verdict : Reading → List ℕ → ℕ → ℕ → ℕ → ℕ → Result ⊤ Error
read_verdict v log k at limit slots =
    first_rows (good_partition k && (good_start at v && good_entries slots limit)) (sound v (length log))
    (frame_row (first_unsound log (k * v.term) v.term v.term at limit) (unsound_frame_at log (k * v.term) at))

abbrev pub read_walk : Reading → List ℕ → ℕ → ℕ → ℕ → Walked
read_walk v log k at limit = walk v.term log (k * v.term) v.term v.term at limit []

abbrev pub read_by : ℕ → Walked → Result ⊤ Error → Result TermRead Error
read_by at w (Ok _) = Ok (record { offset = at + w.moved; fragments = w.fragments })
read_by at w (Err e) = Err e

unfoldable pub read_of : LogRecord → List ℕ → ℤ → ℤ → ℤ → List ℤ → Result TermRead Error
read_of r log partition offset limit slots =
    read_by (word offset) (read_walk (reading r) log (word partition) (word offset) (natural limit))
    (read_verdict (reading r) log (word partition) (word offset) (natural limit) (length slots))

unfoldable pub read_entries : LogRecord → List ℕ → ℤ → ℤ → ℤ → List ℤ → List ℤ
read_entries r log partition offset limit slots =
    entries_by slots (read_walk (reading r) log (word partition) (word offset) (natural limit))
    (read_verdict (reading r) log (word partition) (word offset) (natural limit) (length slots))

-- ---- header fields: record, log, partition, offset. In order: 1, 2.

-- the next multiple of 32, of any number
abbrev pub alignℤ : ℤ → ℤ
alignℤ (pos n) = pos (align n)
alignℤ (negsuc n) = neg_ℤ (pos ((n + 1) / 32 * 32))

-- the signed view of a header, and the position past its frame: that of its term id and of the aligned end
unfoldable pub fields_of : Reading → ℕ → Header → HeaderFields
fields_of v at h =
    record {
      frame_length = to_z w32 h.length;
      version = h.version;
      flags = h.flags;
      frame_type = h.type;
      term_offset = to_z w32 h.offset;
      session_id = to_z w32 h.session;
      stream_id = to_z w32 h.stream;
      term_id = to_z w32 h.id;
      reserved_value = to_z w64 h.reserved;
      position = position_of h.id v.initial v.term at +ℤ alignℤ (to_z w32 h.length);
    }

unfoldable pub header_verdict : Reading → ℕ → ℕ → ℕ → Result ⊤ Error
header_verdict v n k at = first_rows (good_partition k && good_offset at v) (sound v n) (Ok tt)

abbrev pub header_by : HeaderFields → Result ⊤ Error → Result HeaderFields Error
header_by f (Ok _) = Ok f
header_by f (Err e) = Err e

unfoldable pub header_call : LogRecord → List ℕ → ℤ → ℤ → Result HeaderFields Error
header_call r log partition offset =
    header_by (fields_of (reading r) (word offset) (header_at (drop (word partition * (reading r).term + word offset) log)))
    (header_verdict (reading r) (length log) (word partition) (word offset))

-- ---- the frame length reader: record, log, partition, offset. In order: 1, 2, as for a header's fields.

abbrev pub length_by : FrameLength → Result ⊤ Error → Result FrameLength Error
length_by l (Ok _) = Ok l
length_by l (Err e) = Err e

unfoldable pub length_call : LogRecord → List ℕ → ℤ → ℤ → Result FrameLength Error
length_call r log partition offset =
    length_by (length_at (drop (word partition * (reading r).term + word offset) log))
    (header_verdict (reading r) (length log) (word partition) (word offset))

-- ---- a view of a body or a block: record, log, partition, offset, length, inside the term. In order: 1, 2.

unfoldable pub good_view : Reading → ℕ → ℕ → ℕ → Bool
good_view v k at n = good_partition k && within_term (at + n) v

unfoldable pub view_verdict : Reading → ℕ → ℕ → ℕ → ℕ → Result ⊤ Error
view_verdict v m k at n = first_rows (good_view v k at n) (sound v m) (Ok tt)

-- where it lies; `part_of` of Parts is the part, and `located_number` what the companion call answers
unfoldable pub view_of : LogRecord → List ℕ → ℤ → ℤ → ℤ → Result Span Error
view_of r log partition offset n =
    located_by (word partition * (reading r).term + word offset) (word partition * (reading r).term + word offset + word n)
    (view_verdict (reading r) (length log) (word partition) (word offset) (word n))
