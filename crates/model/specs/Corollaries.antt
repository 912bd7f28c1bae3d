-- What else holds of every list of calls on a log fresh from opening, and of every call and poll, each by itself. Proved in
-- proofs/Corollaries.antt.
use Rattle.std.specs.Prelude.{◌≡◌, ◌⊎◌, ℕ, ◌+◌, ◌-◌, ◌*◌, ◌/◌, ◌%◌, ◌<◌, ◌≤◌, Bool, true, false, not, List, [], ◌∷◌, length, drop, ℤ, pos, Result, Ok, Err, ⊤}
use Rattle.model.specs.declared.LogRecord.{LogRecord}
use Rattle.model.specs.declared.Frame.{Frame}
use Rattle.model.specs.declared.Frame.TheVariants.{Absent, Unsound, Padding, Data}
use Rattle.model.specs.declared.Error.{Error}
use Rattle.model.specs.declared.Error.TheVariants.{IllegalArgument, IllegalRecord, PositionOutOfRange, ExceedsMaxPayloadLength, PublicationClosed, AdminAction, MaxPositionExceeded, BackPressured, NotConnected, ExceedsMaxMessageLength, TailOverflow, LastTerm, ActionPossiblyDelayed, ClaimMismatch, NewPositionOutOfRange, NewPositionNotAligned, AssemblyFull, NotCleared, NotDue, FrameTooShort, FramePastTerm}
use Rattle.model.specs.declared.Claimed.{Claimed}
use Rattle.model.specs.Bytes.{long}
use Rattle.model.specs.FrameDescriptor.{align, frame_at}
use Rattle.model.specs.LogBufferDescriptor.{partition_of, reading}
use Rattle.model.specs.TermAppender.{need}
use Rattle.model.specs.Publication.{open_of}
use Rattle.model.specs.TermReader.{laid}
use Rattle.model.specs.Image.{Image, moved_to, poll_of}
use Rattle.model.specs.History.{Call, offer, claim, fill, commit, abort, set_limit, close, clear, raise, Answer, offered, claimed, outcome, World, step, answers, no_terms, AllGiven}
use Rattle.model.specs.Demand.{opened, shape}

-- ---- no two alike: each position answered to an accepted offer or claim is greater than all before it

abbrev pub RisesOffered : ℕ → Result ℤ Error → (ℕ → Type 0) → Type 0
RisesOffered low (Ok p) rest = (n : ℕ) × (p ≡ pos n) × (low < n) × rest n
RisesOffered low (Err e) rest = rest low

abbrev pub RisesClaimed : ℕ → Result Claimed Error → (ℕ → Type 0) → Type 0
RisesClaimed low (Ok given) rest = (n : ℕ) × (given.position ≡ pos n) × (low < n) × rest n
RisesClaimed low (Err e) rest = rest low

abbrev pub RisesBy : ℕ → Answer → (ℕ → Type 0) → Type 0
RisesBy low (offered t a) rest = RisesOffered low a rest
RisesBy low (claimed t a) rest = RisesClaimed low a rest
RisesBy low (outcome a) rest = rest low

unfoldable pub Rising : ℕ → List (Call × Answer) → Type 0
Rising low [] = Unit {0}
Rising low (t ∷ ts) = RisesBy low t.1 (λ n. Rising n ts)

-- From a log fresh from opening, for every list of calls, whatever claim records they are given, and however far the stream goes.
unfoldable pub NoTwoAlike : Type 0
NoTwoAlike =
    (log : List ℕ) (term mtu initial session stream : ℤ) → (open_of log term mtu initial session stream).answer ≡ Ok tt
    → (calls : List Call) → Rising 0 (answers (opened log term mtu initial session stream) calls)

-- ---- refusals that cannot come in a season: 9 and 13, 2 but from a limit change, and 6 without a trip

abbrev pub rare : Bool → Error → Bool
rare tripped IllegalArgument = false
rare tripped IllegalRecord = true
rare tripped PositionOutOfRange = false
rare tripped ExceedsMaxPayloadLength = false
rare tripped PublicationClosed = false
rare tripped AdminAction = not tripped
rare tripped MaxPositionExceeded = false
rare tripped BackPressured = false
rare tripped NotConnected = true
rare tripped ExceedsMaxMessageLength = false
rare tripped TailOverflow = false
rare tripped LastTerm = false
rare tripped ActionPossiblyDelayed = true
rare tripped ClaimMismatch = false
rare tripped NewPositionOutOfRange = false
rare tripped NewPositionNotAligned = false
rare tripped AssemblyFull = false
rare tripped NotCleared = false
rare tripped NotDue = false
rare tripped (FrameTooShort place) = false
rare tripped (FramePastTerm place) = false

abbrev pub UsualOffered : Bool → Result ℤ Error → Type 0
UsualOffered t (Ok p) = Unit {0}
UsualOffered t (Err e) = rare t e ≡ false

abbrev pub UsualClaimed : Bool → Result Claimed Error → Type 0
UsualClaimed t (Ok given) = Unit {0}
UsualClaimed t (Err e) = rare t e ≡ false

abbrev pub UsualOutcome : Result ⊤ Error → Type 0
UsualOutcome (Ok _) = Unit {0}
UsualOutcome (Err e) = rare false e ≡ false

abbrev pub UsualAnswer : Answer → Type 0
UsualAnswer (offered t a) = UsualOffered t a
UsualAnswer (claimed t a) = UsualClaimed t a
UsualAnswer (outcome a) = UsualOutcome a

abbrev pub Usual : Call → Answer → Type 0
Usual (offer m reserved) a = UsualAnswer a
Usual (claim n) a = UsualAnswer a
Usual (fill k b) a = UsualAnswer a
Usual (commit k) a = UsualAnswer a
Usual (abort k) a = UsualAnswer a
Usual (set_limit n) a = Unit {0}
Usual close a = UsualAnswer a
Usual (clear k) a = UsualAnswer a
Usual (raise p) a = UsualAnswer a

unfoldable pub AllUsual : List (Call × Answer) → Type 0
AllUsual [] = Unit {0}
AllUsual (t ∷ ts) = Usual t.0 t.1 × AllUsual ts

-- under the premises of a season
unfoldable pub NothingRare : Type 0
NothingRare =
    (log : List ℕ) (term mtu initial session stream : ℤ) → (open_of log term mtu initial session stream).answer ≡ Ok tt
    → (calls : List Call) → AllGiven (shape (opened log term mtu initial session stream)) [] no_terms (opened log term mtu initial session stream) calls
    → AllUsual (answers (opened log term mtu initial session stream) calls)

-- ---- a call that is refused without a trip leaves record and log as they were

abbrev pub RefusedWith : Answer → Error → Type 0
RefusedWith (offered t a) e = (t ≡ false) × (a ≡ Err e)
RefusedWith (claimed t a) e = (t ≡ false) × (a ≡ Err e)
RefusedWith (outcome a) e = a ≡ Err e

-- for every record and log, sound or not
unfoldable pub RefusalsChangeNothing : Type 0
RefusalsChangeNothing = (w : World) (y : Call) (e : Error) → RefusedWith (step w y).answer e → (step w y).next ≡ w

-- ---- the fragments that a poll answers are the data frames that it passed

-- frames that lie one behind the other in a term, from an offset to an end
unfoldable pub LieTo : List ℕ → ℕ → ℕ → ℕ → List Frame → ℕ → Type 0
LieTo log base term at [] end = at ≡ end
LieTo log base term at (Absent ∷ xs) end = ⊥
LieTo log base term at (Unsound n ∷ xs) end = ⊥
LieTo log base term at (Padding n ∷ xs) end = (frame_at (drop (base + at) log) (term - at) ≡ Padding n) × LieTo log base term (at + align n) xs end
LieTo log base term at (Data n ∷ xs) end = (frame_at (drop (base + at) log) (term - at) ≡ Data n) × LieTo log base term (at + align n) xs end

-- the bodies of the data frames among them, in order
unfoldable pub bodies_of : ℕ → List Frame → List (ℕ × ℕ)
bodies_of at [] = []
bodies_of at (Absent ∷ xs) = []
bodies_of at (Unsound n ∷ xs) = []
bodies_of at (Padding n ∷ xs) = bodies_of (at + align n) xs
bodies_of at (Data n ∷ xs) = (at + 32, n - 32) ∷ bodies_of (at + align n) xs

-- a poll that answers n fragments and m entries has passed these frames; p is the image's position
pub record PollPassed (r : LogRecord) (log : List ℕ) (i : Image) (slots : List ℤ) (limit : ℤ) (n m : ℕ) : Type 0 where
  pub frames : List Frame
  pub moved : ℕ
  pub lie : LieTo log (partition_of (long i.position) (reading r).term * (reading r).term) (reading r).term (long i.position % (reading r).term) frames
      (long i.position % (reading r).term + moved)
  pub fragments : n ≡ length (bodies_of (long i.position % (reading r).term) frames)
  pub entries : m ≡ n
  pub written : (poll_of r log i slots limit).slots ≡ laid slots (bodies_of (long i.position % (reading r).term) frames)
  pub next : ((poll_of r log i slots limit).next ≡ moved_to i (pos (long i.position + moved))) ⊎ (((poll_of r log i slots limit).next ≡ i) × (moved ≡ 0))

-- for every record, log, image and lent entries
unfoldable pub PollsCountFrames : Type 0
PollsCountFrames =
    (r : LogRecord) (log : List ℕ) (i : Image) (slots : List ℤ) (limit : ℤ) (n m : ℕ) → (poll_of r log i slots limit).answer ≡ Ok (record { fragments = n; entries = m })
    → PollPassed r log i slots limit n m

-- ---- R-5 of document 02: what a fragmented append needs, by arithmetic without a branch

-- `need` is the sum over the frames. For every length and payload limit that row 1 lets through it is the length rounded up to 32, plus 32 for
-- every frame, the frames being the length divided by the payload limit, rounded up.
unfoldable pub NeedArithmetic : Type 0
NeedArithmetic =
    (payload n : ℕ) → 1 ≤ n → n ≤ 2147483647 → 32 ≤ payload → payload % 32 ≡ 0 → need payload n ≡ align n + 32 * ((n + (payload - 1)) / payload)
