-- What is proved of the words, as statements. proofs/ has a proof of each, under the name that is said with it.
use Rattle.std.specs.Prelude.{◌≡◌, ℕ, ◌-◌, ◌*◌, ◌≤◌, min, Bool, List, ℤ, pos, length, Ok}
use Rattle.std.specs.Int.{w32, w64}
use Rattle.std.proofs.Common.{SFits}
use Rattle.model.specs.declared.LogRecord.{LogRecord}
use Rattle.model.specs.declared.Error.{Error}
use Rattle.model.specs.Bytes.{word}
use Rattle.model.specs.LogBufferDescriptor.{changed, noted, reading}
use Rattle.model.specs.TermReader.{natural, walk}
use Rattle.model.specs.TermScan.{Available, available_from, availability_judge, availability_of}
use Rattle.model.specs.Image.{moved_to}
use Rattle.model.specs.History.{Call, offer, claim, fill, commit, abort, set_limit, close, clear, raise, World, step}
use Rattle.model.specs.Corollaries.{RefusedWith}
use Rattle.logbuffer.specs.Assembler.{sessions_of}
use Rattle.image.specs.Images.{state_of}
use Rattle.replay.specs.Replays.{state_of as state_of_replay}
use Rattle.capi.specs.declared.replies.AvailabilityReply.{AvailabilityReply}
use Rattle.capi.specs.Replies.{availability_reply}
use Rattle.capi.specs.Words.{at, record_in, record_out, limit_out, closed_out, slowest_out, marks_out, image_in, image_out, shut_out, assembler_in, assembler_out, replay_in, replay_out}

-- an array of so many words of 64 bits, as a call is lent it
pub record Words (n : ℕ) (w : List ℤ) : Type 0 where
  pub count : length w ≡ n
  pub fits : (i : ℕ) → SFits w64 (at w i)

-- ---- a refusal leaves every byte

-- Where the next value of a call is the value that it was given, as after a refusal, no byte of the words changes, gaps among them (Kept, `record-kept`,
-- `image-kept`, `assembler-kept`, `replay-kept`).
abbrev pub RecordKept : Type 0
RecordKept =
    (w : List ℤ) → Words 14 w
    → ((record_out w (record_in w) ≡ w) × ((limit_out w (record_in w) ≡ w) × (closed_out w (record_in w) ≡ w))) × ((slowest_out w (record_in w) ≡ w) × (marks_out w (record_in w) ≡ w))

abbrev pub ImageKept : Type 0
ImageKept = (w : List ℤ) → Words 2 w → (image_out w (state_of (image_in w)) ≡ w) × (shut_out w (state_of (image_in w)) ≡ w)

abbrev pub AssemblerKept : Type 0
AssemblerKept = (w : List ℤ) → Words 25 w → assembler_out w (sessions_of (assembler_in w)) ≡ w

abbrev pub ReplayKept : Type 0
ReplayKept = (w : List ℤ) (buffer : List ℕ) → Words 27 w → replay_out w (state_of_replay (replay_in w) buffer) ≡ w

-- what a call of demand 3 leaves of the record's words, by the contracts of src/writing.rt, and where it begins
abbrev pub words_by : List ℤ → Call → LogRecord → List ℤ
words_by w (offer m reserved) r = record_out w r
words_by w (claim n) r = record_out w r
words_by w (fill c b) r = w
words_by w (commit c) r = w
words_by w (abort c) r = w
words_by w (set_limit n) r = limit_out w r
words_by w close r = closed_out w r
words_by w (clear k) r = marks_out w r
words_by w (raise p) r = slowest_out w r

abbrev pub world : List ℤ → List ℕ → World
world w log = record { record· = record_in w; log = log }

-- so each of them that is refused without a trip leaves every byte of the record (Steps, `refusals-keep`)
abbrev pub RefusalsKeep : Type 0
RefusalsKeep = (w : List ℤ) (log : List ℕ) (y : Call) (e : Error) → Words 14 w → RefusedWith (step (world w log) y).answer e
    → words_by w y (step (world w log) y).next.record· ≡ w

-- ---- calls in a row

-- Tails, count and marks are all that an append or a rotation changes of a record, and what is left in the words is read again (Steps, `record-back`).
pub record Moved (a r : LogRecord) : Type 0 where
  pub tails : List ℤ
  pub count : ℤ
  pub marks : List Bool
  pub three : length tails ≡ 3
  pub three-marks : length marks ≡ 3
  pub fits : SFits w32 count
  pub same : r ≡ noted (changed a tails count a.publication_limit a.is_closed) a.slowest_position marks

abbrev pub RecordBack : Type 0
RecordBack = (w : List ℤ) (r : LogRecord) → Words 14 w → Moved (record_in w) r → record_in (record_out w r) ≡ r

-- So the next call through the face begins at the record that this one gives: a list of calls through the face is a list of calls of demand 3
-- (Steps, `steps_back`).
abbrev pub StepsBack : Type 0
StepsBack = (w : List ℤ) (log : List ℕ) (y : Call) → Words 14 w → record_in (words_by w y (step (world w log) y).next.record·) ≡ (step (world w log) y).next.record·

-- The same of an image that a call moves (Steps, `image-back`).
abbrev pub ImageBack : Type 0
ImageBack = (w : List ℤ) (p : ℤ) → Words 2 w → state_of (image_in (image_out w (moved_to (state_of (image_in w)) p))) ≡ moved_to (state_of (image_in w)) p

-- ---- numbers of 32 bits

-- No walk gives more fragments, or more entries, than its limit: a fragment limit of 32 bits, or, in a peek, the count of actions, which row 1 keeps at
-- 2147483647 or less. So `cut32` (Replies) cuts nothing that a read, a poll or a peek gives (Narrow, `narrow`).
abbrev pub NothingCut : Type 0
NothingCut = (fuel : ℕ) (log : List ℕ) (base term end at limit : ℕ) (acts : List ℕ)
    → ((walk fuel log base term end at limit acts).fragments ≤ limit) × (length (walk fuel log base term end at limit acts).entries ≤ limit)

-- ---- availability's two numbers

-- what a scan for availability counts in a term
abbrev pub counted_from : LogRecord → List ℕ → ℤ → ℤ → ℤ → Available
counted_from r log partition offset maximum =
    available_from (reading r).term log (word partition * (reading r).term) (reading r).term (word offset)
    (min (natural maximum) ((reading r).term - word offset)) 0 0

-- Of a scan that is not refused, the reply's numbers are those two: neither runs into the other (Apart, `availability-apart`).
abbrev pub AvailabilityApart : Type 0
AvailabilityApart = (r : LogRecord) (log : List ℕ) (partition offset maximum : ℤ) → availability_judge r log (word partition) (word offset) ≡ Ok tt
    → availability_reply (availability_of r log partition offset maximum)
    ≡ record { code = pos 0; padding = (counted_from r log partition offset maximum).padding; available = (counted_from r log partition offset maximum).available }
