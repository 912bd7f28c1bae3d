-- Data frames as they lie: what a replay takes without a poll. `whole_says` and `data-turn` (proofs/InPlace.antt) say that this is the turn
-- of the definitions.
use Rattle.std.specs.Prelude.{ℕ, zero, suc, ◌+◌, ◌-◌, ◌*◌, ◌%◌, ◌≤◌, ◌<◌, ◌≡◌, Bool, true, false, cond, ◌&&◌, not, List, eqb, leb, ltb, length, drop, Option, Some, None, Result, Ok, Err}
use Rattle.model.specs.declared.Error.{Error}
use Rattle.std.specs.Int.Count.{ones}
use Rattle.model.specs.declared.LogRecord.{LogRecord}
use Rattle.model.specs.declared.Reading.{Reading}
use Rattle.model.specs.declared.Assembled.{Assembled}
use Rattle.model.specs.declared.Assembled.TheVariants.{Nothing, Fragment, Message}
use Rattle.model.specs.declared.Replayed.{Replayed}
use Rattle.model.specs.declared.Replayed.TheVariants.{InLog, InBuffer, End}
use Rattle.model.specs.Bytes.{long}
use Rattle.model.specs.FrameDescriptor.{frame_at, flags_at, begins, ends}
use Rattle.model.specs.LogBufferDescriptor.{reading, partition_of, publisher_position, good_position, sound}
use Rattle.model.specs.TermReader.{natural}
use Rattle.logbuffer.specs.Whole.{data_length}
use Rattle.model.specs.Image.{Image}
use Rattle.replay.specs.declared.frames.Whole.{Whole}
use Rattle.replay.specs.declared.frames.Found.{Found}
use Rattle.model.specs.FragmentAssembler.{Sessions, Assembly}

-- what the inner functions ask of a term length: one bit, or 0 where there is no term
pub record TermOrNone (term : ℕ) : Type 0 where
  pub high : term ≤ 1073741824
  pub one_bit : 0 < term → ones term ≡ 1

-- and where they look for a whole message, of the log too: three such terms, each a number of frames' boundaries
pub record TermsOf (n term : ℕ) : Type 0 where
  pub fits : TermOrNone term
  pub term-32 : term % 32 ≡ 0
  pub three : 0 < term → 3 * term ≤ n

-- the publisher's position, where a replay stops; 0 where ids that no log has put it below
abbrev pub stop_at : Reading → ℕ
stop_at v = natural (publisher_position v)

-- where a position lies in the log: at its offset in the partition of its term
abbrev pub index_at : ℕ → ℕ → ℕ
index_at term p = partition_of p term * term + p % term

-- the length of the data frame at a position below a stop; 0 where there is none, and where there is no term
unfoldable pub data_at : List ℕ → ℕ → ℕ → ℕ → ℕ
data_at log term stop p =
    cond (ltb p stop && (ltb 0 term && eqb (p % 32) 0)) (data_length (frame_at (drop (index_at term p) log) (term - p % term))) 0

-- both flags mark a whole message
unfoldable pub whole_at : List ℕ → ℕ → ℕ → ℕ → ℕ
whole_at log term stop p =
    let frame = drop (index_at term p) log in
    cond (begins (flags_at frame) && ends (flags_at frame)) (data_at log term stop p) 0

-- a whole message as the code finds it: the index of its frame, and the frame's length; none where that is 0
abbrev pub whole_with : ℕ → ℕ → Option Whole
whole_with index zero = None
whole_with index (suc n) = Some (record { index = index; length = suc n })

-- no message, as a walk over whole messages has it
abbrev pub found_none : ℕ → ℕ → Found
found_none number base = record { number = number; base = base; frame = None }

-- the term length where nothing is refused before a frame is looked at, and the image is open; else 0
unfoldable pub open_term : Image → Reading → ℕ → ℕ → ℕ
open_term i v n lent = cond (leb lent 2147483647 && (not i.closed && sound v n)) v.term 0

abbrev pub whole_of : LogRecord → List ℕ → Image → ℕ → ℕ
whole_of r log i lent = whole_at log (open_term i (reading r) (length log) lent) (stop_at (reading r)) (long i.position)

-- and where it lies, as the code finds it
abbrev pub whole_in : LogRecord → List ℕ → Image → ℕ → Option Whole
whole_in r log i lent = whole_with (index_at (reading r).term (long i.position)) (whole_of r log i lent)

-- rows 2 and 3 refuse nothing, and the position is not below the publisher's: the replay is over
unfoldable pub over_by : Reading → ℕ → ℕ → Bool
over_by v n p = sound v n && (good_position v p && not (ltb p (stop_at v)))

-- the sessions that a frame leaves: a refused one leaves them as they were
abbrev pub kept_as : Sessions → Sessions → Result Assembled Error → Sessions
kept_as s t (Ok Nothing) = t
kept_as s t (Ok (Fragment at n)) = t
kept_as s t (Ok (Message at n)) = t
kept_as s t (Err e) = s

abbrev pub kept_by : Sessions → Assembly → Sessions
kept_by s a = kept_as s a.next a.answer

abbrev pub is_refused : Result Assembled Error → Bool
is_refused (Ok Nothing) = false
is_refused (Ok (Fragment at n)) = false
is_refused (Ok (Message at n)) = false
is_refused (Err e) = true

-- the reply by the answer to the data frame of n bytes that lies at an index
abbrev pub replied_by : ℕ → ℕ → Result Assembled Error → Result Replayed Error
replied_by index n (Ok Nothing) = Ok End
replied_by index n (Ok (Fragment at m)) = Ok (InLog (index + 32) (n - 32))
replied_by index n (Ok (Message at m)) = Ok (InBuffer at m)
replied_by index n (Err e) = Err e
