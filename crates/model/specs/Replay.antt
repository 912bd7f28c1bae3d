-- A replay: polls from a position by a fresh image into a fresh assembler, only while below the publisher's position. Read Demand next.
use Rattle.std.specs.Prelude.{ℕ, zero, suc, ◌+◌, ◌-◌, ◌*◌, Bool, false, cond, not, ◌&&◌, ◌⊎◌, eqb, leb, ◌≡◌, List, [], ◌∷◌, ◌++◌, length, take, drop, get_or, replicate, ℤ, pos, Result, Ok, Err}
use Rattle.model.specs.declared.Error.{Error}
use Rattle.std.specs.Int.Signed.{lt_z}
use Rattle.model.specs.declared.LogRecord.{LogRecord}
use Rattle.model.specs.declared.Error.TheVariants.{IllegalArgument}
use Rattle.model.specs.declared.Polled.{Polled}
use Rattle.model.specs.declared.Assembled.{Assembled}
use Rattle.model.specs.declared.Assembled.TheVariants.{Nothing, Fragment, Message}
use Rattle.model.specs.declared.Replayed.{Replayed}
use Rattle.model.specs.declared.Replayed.TheVariants.{InLog, InBuffer, End}
use Rattle.model.specs.Bytes.{long}
use Rattle.model.specs.LogBufferDescriptor.{reading, partition_of, publisher_position, good_position, sound}
use Rattle.model.specs.TermReader.{natural}
use Rattle.model.specs.Image.{Image, new_image, PollReply, poll_of}
use Rattle.model.specs.FragmentAssembler.{Sessions, fresh, Assembly, assemble_of}

-- where a replay stands: the image, the assembler with its lent buffer, and the messages handed out so far
pub record Replaying : Type 0 where
  pub image : Image
  pub sessions : Sessions
  pub buffer : List ℕ
  pub out : List (List ℕ)

-- what the assembler's answer hands out: a part of the term that starts at base, or of the lent buffer
abbrev pub handed_out : List ℕ → ℕ → List ℕ → Result Assembled Error → List (List ℕ)
handed_out log base buffer (Ok Nothing) = []
handed_out log base buffer (Ok (Fragment at n)) = take n (drop (base + at) log) ∷ []
handed_out log base buffer (Ok (Message at n)) = take n (drop at buffer) ∷ []
handed_out log base buffer (Err e) = []

abbrev pub after : List ℕ → ℕ → Replaying → Assembly → Replaying
after log base p a =
    record { image = p.image; sessions = a.next; buffer = a.buffer; out = p.out ++ handed_out log base a.buffer a.answer }

-- one entry, the offset of a body in partition k, given to the assembler: its frame starts 32 before it
unfoldable pub feed : LogRecord → List ℕ → ℕ → Replaying → ℤ → Replaying
feed r log k p entry =
    after log (k * (reading r).term) p (assemble_of r log p.sessions p.buffer (pos k) (pos (natural entry - 32)))

-- the first n entries of a lent slice, two numbers each
unfoldable pub feed_all : LogRecord → List ℕ → ℕ → ℕ → List ℤ → Replaying → Replaying
feed_all r log k zero slots p = p
feed_all r log k (suc n) slots p = feed_all r log k n (drop 2 slots) (feed r log k p (get_or slots 0 (pos 0)))

-- one poll, with a fragment limit and lent entries, and each entry to the assembler
abbrev pub entries_of : Result Polled Error → ℕ
entries_of (Ok polled) = polled.entries
entries_of (Err e) = 0

abbrev pub with_image : Replaying → Image → Replaying
with_image p i = record { image = i; sessions = p.sessions; buffer = p.buffer; out = p.out }

unfoldable pub round : LogRecord → List ℕ → ℤ → List ℤ → Replaying → Replaying
round r log limit slots p =
    feed_all r log (partition_of (long p.image.position) (reading r).term)
    (entries_of (poll_of r log p.image slots limit).answer) (poll_of r log p.image slots limit).slots
    (with_image p (poll_of r log p.image slots limit).next)

-- from a position by a fresh image into a fresh assembler over a lent buffer
abbrev pub start : ℕ → ℤ → List ℕ → Replaying
start from session buffer = record { image = new_image (pos from) session; sessions = fresh; buffer = buffer; out = [] }

-- below the publisher's position
abbrev pub is_below : LogRecord → ℤ → Bool
is_below r p = lt_z (pos (long p)) (publisher_position (reading r))

-- a poll only while below it
unfoldable pub turn : LogRecord → List ℕ → ℤ → List ℤ → Replaying → Replaying
turn r log limit slots p = cond (is_below r p.image.position) (round r log limit slots p) p

-- the polls of a replay, each with its own fragment limit and lent entries
pub record Polls : Type 0 where
  pub limit : ℕ → ℤ
  pub slots : ℕ → List ℤ

unfoldable pub rounds : LogRecord → List ℕ → Polls → Replaying → ℕ → Replaying
rounds r log ps p zero = p
rounds r log ps p (suc n) = turn r log (ps.limit n) (ps.slots n) (rounds r log ps p n)

-- nothing comes and nothing moves at the n-th poll
pub record QuietPoll (r : LogRecord) (log : List ℕ) (ps : Polls) (p : Replaying) (n : ℕ) : Type 0 where
  pub comes : (poll_of r log p.image (ps.slots n) (ps.limit n)).answer ≡ Ok (record { fragments = 0; entries = 0 })
  pub moves : (poll_of r log p.image (ps.slots n) (ps.limit n)).next ≡ p.image

-- the replay is over: not below the publisher's position, or quiet
abbrev pub Quiet : LogRecord → List ℕ → Polls → Replaying → ℕ → Type 0
Quiet r log ps p n = (is_below r (rounds r log ps p n).image.position ≡ false) ⊎ QuietPoll r log ps (rounds r log ps p n) n

-- demand 3's own replay, of a stream short of three terms: polls wherever it stands
unfoldable pub free_rounds : LogRecord → List ℕ → Polls → Replaying → ℕ → Replaying
free_rounds r log ps p zero = p
free_rounds r log ps p (suc n) = round r log (ps.limit n) (ps.slots n) (free_rounds r log ps p n)

-- ---- message by message, as the crate `replay` runs it: polls of one fragment each, until one gives a message

pub record ReplayState : Type 0 where
  pub image : Image
  pub sessions : Sessions
  pub buffer : List ℕ

pub record NextReply : Type 0 where
  pub answer : Result Replayed Error
  pub next : ReplayState

abbrev pub giving : ReplayState → Result Replayed Error → NextReply
giving s a = record { answer = a; next = s }

-- after a fragment of the term that starts at base: t is where the replay stands behind it. A fragment that is refused leaves the replay
-- before it, at s, so that the next call refuses the same.
abbrev pub given_by : ℕ → ReplayState → ReplayState → Result Assembled Error → (ReplayState → NextReply) → NextReply
given_by base s t (Ok Nothing) go = go t
given_by base s t (Ok (Fragment at n)) go = giving t (Ok (InLog (base + at) n))
given_by base s t (Ok (Message at n)) go = giving t (Ok (InBuffer at n))
given_by base s t (Err e) go = giving s (Err e)

abbrev pub assembled_to : Image → Assembly → ReplayState
assembled_to i a = record { image = i; sessions = a.next; buffer = a.buffer }

-- a poll of one fragment into two numbers
abbrev pub poll_one : LogRecord → List ℕ → Image → PollReply
poll_one r log i = poll_of r log i (replicate 2 (pos 0)) (pos 1)

-- what is given to the assembler: the frame of the first entry, in the partition of the position polled from
abbrev pub assemble_one : LogRecord → List ℕ → ReplayState → Assembly
assemble_one r log s =
    assemble_of r log s.sessions s.buffer (pos (partition_of (long s.image.position) (reading r).term))
    (pos (natural (get_or (poll_one r log s.image).slots 0 (pos 0)) - 32))

-- Nothing came and nothing moved, or only padding did, or a fragment came.
abbrev pub turn_by : LogRecord → List ℕ → ReplayState → Result Polled Error → (ReplayState → NextReply) → NextReply
turn_by r log s (Err e) go = giving s (Err e)
turn_by r log s (Ok polled) go =
    cond (eqb polled.entries 0)
    (cond (eqb (long (poll_one r log s.image).next.position) (long s.image.position)) (giving s (Ok End))
    (go (record { image = (poll_one r log s.image).next; sessions = s.sessions; buffer = s.buffer })))
    (given_by (partition_of (long s.image.position) (reading r).term * (reading r).term) s
    (assembled_to (poll_one r log s.image).next (assemble_one r log s)) (assemble_one r log s).answer go)

-- where rows 2 and 3 refuse nothing, from the publisher's position on there is nothing to replay
abbrev pub is_over : LogRecord → List ℕ → ℤ → Bool
is_over r log p = sound (reading r) (length log) && (good_position (reading r) (long p) && not (is_below r p))

unfoldable pub next_from : ℕ → LogRecord → List ℕ → ReplayState → NextReply
next_from zero r log s = giving s (Ok End)
next_from (suc fuel) r log s =
    cond (is_over r log s.image.position) (giving s (Ok End)) (turn_by r log s (poll_one r log s.image).answer (λ t. next_from fuel r log t))

-- Row 1, the lent buffer, is judged before anything else. Each turn that goes on moves, and no replay passes more than three terms, so the bytes of the log are enough turns.
unfoldable pub next_of : LogRecord → List ℕ → ReplayState → NextReply
next_of r log s =
    cond (leb (length s.buffer) 2147483647) (next_from (suc (3 * (reading r).term)) r log s) (giving s (Err IllegalArgument))

-- from a position by a fresh image into a fresh assembler over a lent buffer
abbrev pub from_start : ℤ → ℤ → List ℕ → ReplayState
from_start from session buffer = record { image = new_image from session; sessions = fresh; buffer = buffer }

-- where so many calls leave it
unfoldable pub standing : ℕ → LogRecord → List ℕ → ReplayState → ReplayState
standing zero r log s = s
standing (suc n) r log s = standing n r log (next_of r log s).next

-- the messages that it gives, at most so many
abbrev pub message_by : List ℕ → ReplayState → Result Replayed Error → List (List ℕ) → List (List ℕ)
message_by log s (Ok (InLog from n)) rest = take n (drop from log) ∷ rest
message_by log s (Ok (InBuffer at n)) rest = take n (drop at s.buffer) ∷ rest
message_by log s (Ok End) rest = []
message_by log s (Err e) rest = []

unfoldable pub replayed : ℕ → LogRecord → List ℕ → ReplayState → List (List ℕ)
replayed zero r log s = []
replayed (suc most) r log s = message_by log (next_of r log s).next (next_of r log s).answer (replayed most r log (next_of r log s).next)
