-- Calls on a log, one after another, and the history that calls and answers tell (document 01, "Reading", last paragraph).
-- Read Replay next.
use Rattle.std.specs.Prelude.{◌≡◌, ◌⊎◌, ℕ, ◌+◌, ◌-◌, ◌*◌, ◌%◌, ◌≤◌, Bool, cond, List, [], ◌∷◌, ◌++◌, eqb, leb, length, take, drop, ℤ, Result, Ok, Err, ⊤}
use Rattle.model.specs.declared.LogRecord.{LogRecord}
use Rattle.model.specs.declared.Claim.{Claim}
use Rattle.model.specs.declared.Reading.{Reading}
use Rattle.model.specs.declared.Error.{Error}
use Rattle.model.specs.declared.Error.TheVariants.{IllegalArgument, IllegalRecord, PositionOutOfRange, ExceedsMaxPayloadLength, PublicationClosed, AdminAction, MaxPositionExceeded, BackPressured, NotConnected, ExceedsMaxMessageLength, TailOverflow, LastTerm, ActionPossiblyDelayed, ClaimMismatch, NewPositionOutOfRange, NewPositionNotAligned, AssemblyFull, NotCleared, NotDue, FrameTooShort, FramePastTerm}
use Rattle.model.specs.declared.Claimed.{Claimed}
use Rattle.model.specs.Bytes.{word, zeros}
use Rattle.model.specs.FrameDescriptor.{space}
use Rattle.model.specs.LogBufferDescriptor.{id_minus, payload_limit}
use Rattle.model.specs.TermAppender.{need}
use Rattle.model.specs.BufferClaim.{write_of, write_bytes, commit_of, commit_bytes, abort_bytes}
use Rattle.model.specs.Rule.{is_trip}
use Rattle.model.specs.Publication.{limit_of, close_of, raise_of, clear_of, clear_bytes, offer_of, offer_bytes, claim_of, claim_bytes}

-- ---- calls

-- `fill` is a lending of a claim's body and what is written into it (`write_of`, `write_bytes`): these bytes from its start on, as far as the
-- body goes. All that writers can do to a body is to leave it with other bytes, so one such call stands for any writings.
pub data Call : Type 0 where
  offer : List ℕ → ℤ → Call
  claim : ℤ → Call
  fill : Claim → List ℕ → Call
  commit abort : Claim → Call
  set_limit : ℤ → Call
  close : Call
  clear : ℤ → Call
  raise : ℤ → Call

-- An offer or a claim also answers whether it tripped: the rule that decided says so (R-10 of document 02).
pub data Answer : Type 0 where
  offered : Bool → Result ℤ Error → Answer
  claimed : Bool → Result Claimed Error → Answer
  outcome : Result ⊤ Error → Answer

-- what a call gets and leaves: the record and the log
pub record World : Type 0 where
  pub record· : LogRecord
  pub log : List ℕ

pub record Step : Type 0 where
  pub answer : Answer
  pub next : World

-- one call, by the definition of each
unfoldable pub step : World → Call → Step
step w (offer m reserved) =
    record {
      answer = offered (is_trip (offer_of w.record· w.log m).rule) (offer_of w.record· w.log m).answer;
      next = record { record· = (offer_of w.record· w.log m).next; log = offer_bytes w.record· w.log m reserved };
    }
step w (claim n) =
    record {
      answer = claimed (is_trip (claim_of w.record· w.log n).rule) (claim_of w.record· w.log n).answer;
      next = record { record· = (claim_of w.record· w.log n).next; log = claim_bytes w.record· w.log n };
    }
step w (fill c b) =
    record { answer = outcome (write_of w.record· w.log c b); next = record { record· = w.record·; log = write_bytes w.record· w.log c b } }
step w (commit c) =
    record { answer = outcome (commit_of w.record· w.log c); next = record { record· = w.record·; log = commit_bytes w.record· w.log c } }
step w (abort c) =
    record { answer = outcome (commit_of w.record· w.log c); next = record { record· = w.record·; log = abort_bytes w.record· w.log c } }
step w (set_limit n) =
    record { answer = outcome (limit_of w.record· n).answer; next = record { record· = (limit_of w.record· n).next; log = w.log } }
step w close =
    record { answer = outcome (close_of w.record·).answer; next = record { record· = (close_of w.record·).next; log = w.log } }
step w (clear k) =
    record { answer = outcome (clear_of w.record· w.log k).answer; next = record { record· = (clear_of w.record· w.log k).next; log = clear_bytes w.record· w.log k } }
step w (raise p) =
    record { answer = outcome (raise_of w.record· p).answer; next = record { record· = (raise_of w.record· p).next; log = w.log } }

-- each call gets the record and log that the last one left; the calls with their answers, and the world left
unfoldable pub answers : World → List Call → List (Call × Answer)
answers w [] = []
answers w (x ∷ xs) = (x, (step w x).answer) ∷ answers (step w x).next xs

unfoldable pub left : World → List Call → World
left w [] = w
left w (x ∷ xs) = left (step w x).next xs

-- ---- the history

-- what opening fixed for good: term length, payload limit, session, stream and initial id
pub record Shape : Type 0 where
  pub term : ℕ
  pub payload : ℕ
  pub session : ℕ
  pub stream : ℕ
  pub initial : ℕ

abbrev pub shape_of : Reading → Shape
shape_of v = record { term = v.term; payload = payload_limit v; session = v.session; stream = v.stream; initial = v.initial }

-- a claim is open until it is committed or aborted
pub data State : Type 0 where
  open· committed aborted : State

-- What document 01 calls a stretch: an offered message (with its reserved value), a claim with its body, or padding of so many bytes.
pub data Extent : Type 0 where
  message : ℤ → List ℕ → Extent
  claimed· : State → List ℕ → Extent
  padding : ℕ → Extent

-- an extent takes what its append needs; extents lie end to end from 0
unfoldable pub size_of : Shape → Extent → ℕ
size_of c (message reserved m) = need c.payload (length m)
size_of c (claimed· s b) = space (length b)
size_of c (padding n) = n

unfoldable pub size_all : Shape → List Extent → ℕ
size_all c [] = 0
size_all c (e ∷ h) = size_of c e + size_all c h

unfoldable pub pad_to : Shape → List Extent → List Extent
pad_to c h = cond (eqb (size_all c h % c.term) 0) h (h ++ (padding (c.term - size_all c h % c.term) ∷ []))

-- one refused after a trip (6, 7, 12, 19) adds padding to the term's end, none where the last extent ends there
abbrev pub after_refusal : Shape → List Extent → Bool → List Extent
after_refusal c h tripped = cond tripped (pad_to c h) h

-- the term of a claim record
unfoldable pub term_of : Shape → Claim → ℕ
term_of c k = id_minus (word k.term_id) c.initial

-- the position at which a claim's extent begins
unfoldable pub start_of : Shape → Claim → ℕ
start_of c k = term_of c k * c.term + word k.offset

-- the history with the extent that begins at q changed by f
unfoldable pub edit : Shape → (Extent → Extent) → ℕ → List Extent → List Extent
edit c f q [] = []
edit c f q (e ∷ h) = cond (leb (size_of c e) q) (e ∷ edit c f (q - size_of c e) h) (f e ∷ h)

-- writings change the open body, commit makes it a message, abort leaves none
abbrev pub overlay : List ℕ → List ℕ → List ℕ
overlay body b = take (length body) b ++ drop (length b) body

abbrev pub written· : List ℕ → Extent → Extent
written· b (message reserved m) = message reserved m
written· b (claimed· s body) = claimed· s (overlay body b)
written· b (padding n) = padding n

abbrev pub turned : State → Extent → Extent
turned s (message reserved m) = message reserved m
turned s (claimed· t body) = claimed· s body
turned s (padding n) = padding n

abbrev pub after_offer : Shape → List Extent → List ℕ → ℤ → Bool → Result ℤ Error → List Extent
after_offer c h m reserved tripped (Ok p) = h ++ (message reserved m ∷ [])
after_offer c h m reserved tripped (Err e) = after_refusal c h tripped

-- an open claim of as many zeros as it asks for
abbrev pub after_claim : Shape → List Extent → ℤ → Bool → Result Claimed Error → List Extent
after_claim c h n tripped (Ok given) = h ++ (claimed· open· (zeros (word n)) ∷ [])
after_claim c h n tripped (Err e) = after_refusal c h tripped

abbrev pub after_done : List Extent → List Extent → Result ⊤ Error → List Extent
after_done h next (Ok _) = next
after_done h next (Err e) = h

-- the history after one more call and its answer; all else, refusals too, changes nothing
unfoldable pub tell : Shape → List Extent → Call → Answer → List Extent
tell c h (offer m reserved) (offered t a) = after_offer c h m reserved t a
tell c h (offer m reserved) (claimed t a) = h
tell c h (offer m reserved) (outcome a) = h
tell c h (claim n) (offered t a) = h
tell c h (claim n) (claimed t a) = after_claim c h n t a
tell c h (claim n) (outcome a) = h
tell c h (fill k b) (offered t a) = h
tell c h (fill k b) (claimed t a) = h
tell c h (fill k b) (outcome a) = after_done h (edit c (written· b) (start_of c k) h) a
tell c h (commit k) (offered t a) = h
tell c h (commit k) (claimed t a) = h
tell c h (commit k) (outcome a) = after_done h (edit c (turned committed) (start_of c k) h) a
tell c h (abort k) (offered t a) = h
tell c h (abort k) (claimed t a) = h
tell c h (abort k) (outcome a) = after_done h (edit c (turned aborted) (start_of c k) h) a
tell c h (set_limit n) a = h
tell c h close a = h
tell c h (clear k) a = h
tell c h (raise p) a = h

unfoldable pub told : Shape → List Extent → List (Call × Answer) → List Extent
told c h [] = h
told c h (t ∷ ts) = told c (tell c h t.0 t.1) ts

-- the messages of accepted offers and committed claims before the first claim still open
unfoldable pub messages : List Extent → List (List ℕ)
messages [] = []
messages (message reserved m ∷ h) = m ∷ messages h
messages (claimed· open· b ∷ h) = []
messages (claimed· committed b ∷ h) = b ∷ messages h
messages (claimed· aborted b ∷ h) = messages h
messages (padding n ∷ h) = messages h

-- the bytes of messages, added up
unfoldable pub total : List (List ℕ) → ℕ
total [] = 0
total (m ∷ ms) = length m + total ms

-- ---- what the calls are given

-- the claim records that claims have answered
abbrev pub learnt : List Claim → Result Claimed Error → List Claim
learnt ks (Ok given) = given.claim ∷ ks
learnt ks (Err e) = ks

abbrev pub learn : List Claim → Answer → List Claim
learn ks (offered t a) = ks
learn ks (claimed t a) = learnt ks a
learn ks (outcome a) = ks

unfoldable pub Among : Claim → List Claim → Type 0
Among k [] = ⊥
Among k (l ∷ ks) = (k ≡ l) ⊎ Among k ks

-- ---- the terms begun and cleared, as calls and answers tell them

-- the count of rotations, and the number of terms cleared: those below it
pub record Terms : Type 0 where
  pub turns : ℕ
  pub cleared : ℕ

abbrev pub no_terms : Terms
no_terms = record { turns = 0; cleared = 0 }

-- 6 after a trip begins a term
abbrev pub turned_by : Terms → Bool → Error → Terms
turned_by s tripped IllegalArgument = s
turned_by s tripped IllegalRecord = s
turned_by s tripped PositionOutOfRange = s
turned_by s tripped ExceedsMaxPayloadLength = s
turned_by s tripped PublicationClosed = s
turned_by s tripped AdminAction = record { turns = cond tripped (s.turns + 1) s.turns; cleared = s.cleared }
turned_by s tripped MaxPositionExceeded = s
turned_by s tripped BackPressured = s
turned_by s tripped NotConnected = s
turned_by s tripped ExceedsMaxMessageLength = s
turned_by s tripped TailOverflow = s
turned_by s tripped LastTerm = s
turned_by s tripped ActionPossiblyDelayed = s
turned_by s tripped ClaimMismatch = s
turned_by s tripped NewPositionOutOfRange = s
turned_by s tripped NewPositionNotAligned = s
turned_by s tripped AssemblyFull = s
turned_by s tripped NotCleared = s
turned_by s tripped NotDue = s
turned_by s tripped (FrameTooShort place) = s
turned_by s tripped (FramePastTerm place) = s

abbrev pub turned_offer : Terms → Bool → Result ℤ Error → Terms
turned_offer s tripped (Ok p) = s
turned_offer s tripped (Err e) = turned_by s tripped e

abbrev pub turned_claim : Terms → Bool → Result Claimed Error → Terms
turned_claim s tripped (Ok given) = s
turned_claim s tripped (Err e) = turned_by s tripped e

-- A clearing at a count of 2 or more clears the term two before the active one, and all before it are cleared already; at 0 and 1 it
-- clears none.
abbrev pub cleared_if : Terms → Result ⊤ Error → Terms
cleared_if s (Ok _) = record { turns = s.turns; cleared = s.turns - 1 }
cleared_if s (Err e) = s

unfoldable pub tell_terms : Terms → Call → Answer → Terms
tell_terms s (offer m reserved) (offered t a) = turned_offer s t a
tell_terms s (offer m reserved) (claimed t a) = s
tell_terms s (offer m reserved) (outcome a) = s
tell_terms s (claim n) (offered t a) = s
tell_terms s (claim n) (claimed t a) = turned_claim s t a
tell_terms s (claim n) (outcome a) = s
tell_terms s (fill k b) a = s
tell_terms s (commit k) a = s
tell_terms s (abort k) a = s
tell_terms s (set_limit n) a = s
tell_terms s close a = s
tell_terms s (clear k) (offered t a) = s
tell_terms s (clear k) (claimed t a) = s
tell_terms s (clear k) (outcome a) = cleared_if s a
tell_terms s (raise p) a = s

unfoldable pub told_terms : Terms → List (Call × Answer) → Terms
told_terms s [] = s
told_terms s (t ∷ ts) = told_terms (tell_terms s t.0 t.1) ts

-- ---- what the calls are given

-- Lendings, commits and aborts get only claim records that claims on this log answered, and none of a term that is cleared.
abbrev pub Given : Shape → List Claim → Terms → Call → Type 0
Given c ks s (offer m reserved) = Unit {0}
Given c ks s (claim n) = Unit {0}
Given c ks s (fill k b) = Among k ks × (s.cleared ≤ term_of c k)
Given c ks s (commit k) = Among k ks × (s.cleared ≤ term_of c k)
Given c ks s (abort k) = Among k ks × (s.cleared ≤ term_of c k)
Given c ks s (set_limit n) = Unit {0}
Given c ks s close = Unit {0}
Given c ks s (clear k) = Unit {0}
Given c ks s (raise p) = Unit {0}

unfoldable pub AllGiven : Shape → List Claim → Terms → World → List Call → Type 0
AllGiven c ks s w [] = Unit {0}
AllGiven c ks s w (x ∷ xs) = Given c ks s x × AllGiven c (learn ks (step w x).answer) (tell_terms s x (step w x).answer) (step w x).next xs
