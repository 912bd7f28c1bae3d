-- A season, and demand 3, word for word against their parts. `season` and `demand3` (proofs/Season.antt) prove `Season` and `Demand3`.
--
-- "under demand 3's other premises, with clearings and rises of the slowest reader now among the calls"
--                                                                every `calls : List Call` (History), `open_of .. .answer ≡ Ok tt`, `AllGiven`
-- "if no claim is left open in a cleared term"                   not asked: it holds without (such a claim lies before every start)
-- "and no claim record of such a term is used after its clearing" `Given` (History): the records' terms are not below `cleared`
-- "polling from 0 or any answered position"                      `Start.told`
-- "of a term not yet cleared"                                    `Start.kept`, for 0 too; a term is position / term length
-- "only while below the publisher's position and until nothing comes and nothing moves"   `turn`, `Quiet` (Replay)
-- "ends"                                                         `finish`
-- "having handed out exactly the later messages before the first claim after that position still open, each once, equal and ordered"
--                                                                `exact`, with `from`: the extents from the position on, and `messages`
-- Which terms are cleared is told by calls and answers alone: `told_terms` (History).
--
-- Demand 3 is `Demand3`, with one premise more, that no term is cleared. Its words, most of which a season shares:
-- "for every list of offers, claims, lendings, writings into lent bodies of open claims, commits, aborts, limit changes and closes,
--  refused ones included"                                        every `calls : List Call` (History), every argument
-- "from a log fresh from our opening"                            `open_of .. .answer ≡ Ok tt`, for every log lent to it
-- "if the stream ends short of three full terms"                 the publisher's position below `3 * (shape w).term`, the last premise of `Demand3`
-- "any replay of the log so left comes to an end"                `finish` of `ReplayedFree`: some poll hands out nothing and moves nothing
-- "having handed out exactly the messages of accepted offers and committed claims before the first claim still open, equal in every
--  byte, each once, in the order of their stretches"             `exact` of `ReplayedFree`, with `messages` (History)
-- "message stretches, claim stretches without one and end-of-term paddings lie end to end and add up to the publisher's position"
--                                                                `adds-up`, with `size_all`: the extents' sizes, one after another
-- "each answered position the end of its own stretch"            `ends`
-- "Each call gets the record and log the last one left, which nobody else writes"        `left`, `answers`
-- "lendings, commits and aborts get only claim records that claims on this log answered" `AllGiven`
-- "A replay polls from position 0 by a fresh image, whatever the fragment limits of 1 or more, until nothing comes and nothing moves"
--                                                                `start`, `free_rounds`, `QuietPoll` (Replay), `Allowed`
-- "into a fresh assembler whose parts each hold the longest fragmented message"           `start`, `Holds`
-- "A replay's lent slices meet row 1"                            `Allowed`, and the buffer's length in `UpheldShort` and `Upheld`
use Rattle.std.specs.Prelude.{◌≡◌, ℕ, ◌-◌, ◌*◌, ◌/◌, ◌<◌, ◌≤◌, List, [], ◌∷◌, length, ℤ, pos, ◌⊎◌, leb, true, cond, Result, Ok, Err}
use Rattle.model.specs.declared.Error.{Error}
use Rattle.std.specs.Int.Signed.{lt_z}
use Rattle.model.specs.declared.Claimed.{Claimed}
use Rattle.model.specs.declared.Replayed.TheVariants.{End}
use Rattle.model.specs.LogBufferDescriptor.{reading, publisher_position}
use Rattle.model.specs.Publication.{open_of, open_bytes}
use Rattle.model.specs.TermReader.{natural, good_entries}
use Rattle.model.specs.FragmentAssembler.{part_length}
use Rattle.model.specs.History.{Call, Answer, offered, claimed, outcome, World, answers, left, Shape, shape_of, Extent, message, claimed·, padding, size_of, size_all, tell, told, messages, no_terms, told_terms, AllGiven}
use Rattle.model.specs.Replay.{Polls, start, rounds, QuietPoll, Quiet, free_rounds, next_of, from_start, standing, replayed}

-- ---- the answered positions

-- an answered position is the end of the history told just after the call
abbrev pub EndOffered : ℕ → Result ℤ Error → Type 0
EndOffered size (Ok p) = p ≡ pos size
EndOffered size (Err e) = Unit {0}

abbrev pub EndClaimed : ℕ → Result Claimed Error → Type 0
EndClaimed size (Ok given) = given.position ≡ pos size
EndClaimed size (Err e) = Unit {0}

abbrev pub EndAt : ℕ → Answer → Type 0
EndAt size (offered t a) = EndOffered size a
EndAt size (claimed t a) = EndClaimed size a
EndAt size (outcome a) = Unit {0}

unfoldable pub Ends : Shape → List Extent → List (Call × Answer) → Type 0
Ends c h [] = Unit {0}
Ends c h (t ∷ ts) = EndAt (size_all c (tell c h t.0 t.1)) t.1 × Ends c (tell c h t.0 t.1) ts

-- ---- where a replay may start

-- a position that an accepted offer or claim answered
abbrev pub IsOffered : ℕ → Result ℤ Error → Type 0
IsOffered p (Ok q) = q ≡ pos p
IsOffered p (Err e) = ⊥

abbrev pub IsClaimed : ℕ → Result Claimed Error → Type 0
IsClaimed p (Ok given) = given.position ≡ pos p
IsClaimed p (Err e) = ⊥

abbrev pub IsAnswer : ℕ → Answer → Type 0
IsAnswer p (offered t a) = IsOffered p a
IsAnswer p (claimed t a) = IsClaimed p a
IsAnswer p (outcome a) = ⊥

unfoldable pub Answered : ℕ → List (Call × Answer) → Type 0
Answered p [] = ⊥
Answered p (t ∷ ts) = IsAnswer p t.1 ⊎ Answered p ts

-- the extents from a position on
unfoldable pub from : Shape → ℕ → List Extent → List Extent
from c p [] = []
from c p (e ∷ h) = cond (leb p 0) (e ∷ h) (from c (p - size_of c e) h)

-- ---- replays

-- fragment limits of 1 or more, and lent entries that row 1 lets through
pub record Allowed (ps : Polls) : Type 0 where
  pub some : (n : ℕ) → 1 ≤ natural (ps.limit n)
  pub slots : (n : ℕ) → good_entries (length (ps.slots n)) (natural (ps.limit n)) ≡ true

-- a part holds each fragmented message
unfoldable pub Holds : Shape → ℕ → List Extent → Type 0
Holds c part [] = Unit {0}
Holds c part (message reserved m ∷ h) = (c.payload < length m → length m ≤ part) × Holds c part h
Holds c part (claimed· s b ∷ h) = Holds c part h
Holds c part (padding n ∷ h) = Holds c part h

-- Any replay of the world left from a position comes to an end, and at any end it has handed out exactly ms. The image's session is any
-- number, and the lent buffer may hold anything.
pub record Replayed (w : World) (p : ℕ) (session : ℤ) (buffer : List ℕ) (ms : List (List ℕ)) : Type 0 where
  pub finish : (ps : Polls) → Allowed ps → (n : ℕ) × Quiet w.record· w.log ps (start p session buffer) n
  pub exact : (ps : Polls) → Allowed ps → (n : ℕ) → Quiet w.record· w.log ps (start p session buffer) n
      → (rounds w.record· w.log ps (start p session buffer) n).out ≡ ms

-- the same of demand 3's own replay
pub record ReplayedFree (w : World) (p : ℕ) (session : ℤ) (buffer : List ℕ) (ms : List (List ℕ)) : Type 0 where
  pub finish : (ps : Polls) → Allowed ps → (n : ℕ) × QuietPoll w.record· w.log ps (free_rounds w.record· w.log ps (start p session buffer) n) n
  pub exact : (ps : Polls) → Allowed ps → (n : ℕ) → QuietPoll w.record· w.log ps (free_rounds w.record· w.log ps (start p session buffer) n) n
      → (free_rounds w.record· w.log ps (start p session buffer) n).out ≡ ms

-- The same message by message: what `next_of` (Replay) gives, one call after another, is ms; and every call after these answers the end.
pub record GivesAll (w : World) (p : ℕ) (session : ℤ) (buffer : List ℕ) (ms : List (List ℕ)) : Type 0 where
  pub each : (most : ℕ) → length ms < most → replayed most w.record· w.log (from_start (pos p) session buffer) ≡ ms
  pub ended : (n : ℕ) → length ms ≤ n → (next_of w.record· w.log (standing n w.record· w.log (from_start (pos p) session buffer))).answer ≡ Ok End

-- ---- the season

-- the log that opening leaves, and the history that calls on it tell
abbrev pub opened : List ℕ → ℤ → ℤ → ℤ → ℤ → ℤ → World
opened log term mtu initial session stream =
    record { record· = (open_of log term mtu initial session stream).next; log = open_bytes log term mtu initial session stream }

abbrev pub shape : World → Shape
shape w = shape_of (reading w.record·)

abbrev pub history : World → List Call → List Extent
history w calls = told (shape w) [] (answers w calls)

-- how many terms the calls have cleared
abbrev pub cleared_by : World → List Call → ℕ
cleared_by w calls = (told_terms no_terms (answers w calls)).cleared

-- 0 or an answered position, of a term not yet cleared
pub record Start (w : World) (calls : List Call) (p : ℕ) : Type 0 where
  pub told : (p ≡ 0) ⊎ Answered p (answers w calls)
  pub kept : cleared_by w calls ≤ p / (shape w).term

pub record Upheld (w : World) (calls : List Call) : Type 0 where
  pub replayed : (p : ℕ) → Start w calls p → (session : ℤ) (buffer : List ℕ) → length buffer ≤ 2147483647
      → Holds (shape w) (part_length (length buffer)) (from (shape w) p (history w calls))
      → Replayed (left w calls) p session buffer (messages (from (shape w) p (history w calls)))
  pub gives : (p : ℕ) → Start w calls p → (session : ℤ) (buffer : List ℕ) → length buffer ≤ 2147483647
      → Holds (shape w) (part_length (length buffer)) (from (shape w) p (history w calls))
      → GivesAll (left w calls) p session buffer (messages (from (shape w) p (history w calls)))
  pub adds-up : publisher_position (reading (left w calls).record·) ≡ pos (size_all (shape w) (history w calls))
  pub ends : Ends (shape w) [] (answers w calls)

unfoldable pub Season : Type 0
Season =
    (log : List ℕ) (term mtu initial session stream : ℤ) → (open_of log term mtu initial session stream).answer ≡ Ok tt
    → (calls : List Call) → let w = opened log term mtu initial session stream in AllGiven (shape w) [] no_terms w calls → Upheld w calls

-- ---- demand 3

-- from 0, polls wherever they stand, until nothing comes and nothing moves; and message by message
pub record UpheldShort (w : World) (calls : List Call) : Type 0 where
  pub replayed : (session : ℤ) (buffer : List ℕ) → length buffer ≤ 2147483647 → Holds (shape w) (part_length (length buffer)) (history w calls)
      → ReplayedFree (left w calls) 0 session buffer (messages (history w calls))
  pub gives : (session : ℤ) (buffer : List ℕ) → length buffer ≤ 2147483647 → Holds (shape w) (part_length (length buffer)) (history w calls)
      → GivesAll (left w calls) 0 session buffer (messages (history w calls))
  pub adds-up : publisher_position (reading (left w calls).record·) ≡ pos (size_all (shape w) (history w calls))
  pub ends : Ends (shape w) [] (answers w calls)

-- of a stream that ends short of three terms and whose first term is not cleared
unfoldable pub Demand3 : Type 0
Demand3 =
    (log : List ℕ) (term mtu initial session stream : ℤ) → (open_of log term mtu initial session stream).answer ≡ Ok tt
    → (calls : List Call)
    → let w = opened log term mtu initial session stream in
    AllGiven (shape w) [] no_terms w calls → cleared_by w calls ≡ 0 → lt_z (publisher_position (reading (left w calls).record·)) (pos (3 * (shape w).term)) ≡ true → UpheldShort w calls
