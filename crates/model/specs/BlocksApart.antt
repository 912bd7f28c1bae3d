-- Blocks apart: the bytes [position - need, position) of the stream that an accepted offer or claim took are nobody else's, so blocks of
-- numbers that are worked out from positions never overlap. `blocks-apart` (proofs/BlocksApart.antt) proves it for every list of calls.
use Rattle.std.specs.Prelude.{◌≡◌, ℕ, ◌+◌, ◌-◌, ◌*◌, ◌/◌, ◌%◌, ◌≤◌, List, [], ◌∷◌, length, ℤ, pos, Result, Ok, Err}
use Rattle.model.specs.declared.Error.{Error}
use Rattle.model.specs.declared.Claimed.{Claimed}
use Rattle.model.specs.Bytes.{word}
use Rattle.model.specs.FrameDescriptor.{space}
use Rattle.model.specs.TermAppender.{need}
use Rattle.model.specs.Publication.{open_of}
use Rattle.model.specs.History.{Call, offer, claim, fill, commit, abort, set_limit, close, clear, raise, Answer, offered, claimed, outcome, answers}
use Rattle.model.specs.Demand.{opened, shape}

-- ---- bytes

-- what a call takes of the stream where it is accepted, by the payload limit
abbrev pub takes : ℕ → Call → ℕ
takes payload (offer m reserved) = need payload (length m)
takes payload (claim n) = space (word n)
takes payload (fill k b) = 0
takes payload (commit k) = 0
takes payload (abort k) = 0
takes payload (set_limit n) = 0
takes payload close = 0
takes payload (clear k) = 0
takes payload (raise p) = 0

-- Given where the last accepted one ended: this one's position is higher by at least what it takes, and both are multiples of 32.
abbrev pub Takes : ℕ → ℕ → ℕ → Type 0
Takes size low n = (size % 32 ≡ 0) × (32 ≤ size) × (n % 32 ≡ 0) × (low + size ≤ n)

abbrev pub ApartOffered : ℕ → ℕ → Result ℤ Error → (ℕ → Type 0) → Type 0
ApartOffered size low (Ok p) rest = (n : ℕ) × (p ≡ pos n) × Takes size low n × rest n
ApartOffered size low (Err e) rest = rest low

abbrev pub ApartClaimed : ℕ → ℕ → Result Claimed Error → (ℕ → Type 0) → Type 0
ApartClaimed size low (Ok given) rest = (n : ℕ) × (given.position ≡ pos n) × Takes size low n × rest n
ApartClaimed size low (Err e) rest = rest low

abbrev pub ApartBy : ℕ → ℕ → Answer → (ℕ → Type 0) → Type 0
ApartBy size low (offered t a) rest = ApartOffered size low a rest
ApartBy size low (claimed t a) rest = ApartClaimed size low a rest
ApartBy size low (outcome a) rest = rest low

unfoldable pub Apart : ℕ → ℕ → List (Call × Answer) → Type 0
Apart payload low [] = Unit {0}
Apart payload low (t ∷ ts) = ApartBy (takes payload t.0) low t.1 (λ n. Apart payload n ts)

-- ---- blocks

-- So many numbers for every 32 bytes: a position's block begins here, and has that many.
abbrev pub block_at : ℕ → ℕ → ℕ
block_at each p = (p - 32) / 32 * each

-- Each accepted request's block begins at the first number that no block before it has, or later.
abbrev pub FreeOffered : ℕ → ℕ → Result ℤ Error → (ℕ → Type 0) → Type 0
FreeOffered each free (Ok p) rest = (n : ℕ) × (p ≡ pos n) × (free ≤ block_at each n) × rest (block_at each n + each)
FreeOffered each free (Err e) rest = rest free

abbrev pub FreeClaimed : ℕ → ℕ → Result Claimed Error → (ℕ → Type 0) → Type 0
FreeClaimed each free (Ok given) rest = (n : ℕ) × (given.position ≡ pos n) × (free ≤ block_at each n) × rest (block_at each n + each)
FreeClaimed each free (Err e) rest = rest free

abbrev pub FreeBy : ℕ → ℕ → Answer → (ℕ → Type 0) → Type 0
FreeBy each free (offered t a) rest = FreeOffered each free a rest
FreeBy each free (claimed t a) rest = FreeClaimed each free a rest
FreeBy each free (outcome a) rest = rest free

unfoldable pub Free : ℕ → ℕ → List (Call × Answer) → Type 0
Free each free [] = Unit {0}
Free each free (t ∷ ts) = FreeBy each free t.1 (λ n. Free each n ts)

-- From a log fresh from opening, for every list of calls, whatever claim records they are given, and however far the stream goes.
unfoldable pub BlocksApart : Type 0
BlocksApart =
    (log : List ℕ) (term mtu initial session stream : ℤ) → (open_of log term mtu initial session stream).answer ≡ Ok tt
    → (calls : List Call)
    → Apart (shape (opened log term mtu initial session stream)).payload 0 (answers (opened log term mtu initial session stream) calls)
    × ((each : ℕ) → Free each 0 (answers (opened log term mtu initial session stream) calls))
