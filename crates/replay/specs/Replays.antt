-- A replay of the code with its lent buffer, as the definitions have it; and one turn of it, told without what follows it.
use Rattle.std.specs.Prelude.{ℕ, zero, suc, ◌+◌, ◌-◌, ◌*◌, min, Bool, true, false, cond, List, [], ◌∷◌, eqb, ℤ, pos, Option, Some, None, Result, Ok, Err}
use Rattle.model.specs.declared.Error.{Error}
use Rattle.model.specs.declared.LogRecord.{LogRecord}
use Rattle.model.specs.declared.Polled.{Polled}
use Rattle.model.specs.declared.Assembled.{Assembled}
use Rattle.model.specs.declared.Assembled.TheVariants.{Nothing, Fragment, Message}
use Rattle.model.specs.declared.Replayed.{Replayed}
use Rattle.model.specs.declared.Replayed.TheVariants.{InLog, InBuffer, End}
use Rattle.model.specs.Bytes.{long}
use Rattle.model.specs.Answers.{Told, answered, refused}
use Rattle.model.specs.LogBufferDescriptor.{reading, partition_of}
use Rattle.model.specs.TermReader.{natural}
use Rattle.model.specs.Image.{Image as ImageState}
use Rattle.model.specs.FragmentAssembler.{Assembly, assemble_of}
use Rattle.model.specs.Replay.{ReplayState, NextReply as NextSaid, assembled_to, poll_one, assemble_one, is_over, next_of, from_start}
use Rattle.image.specs.declared.Image.{Image}
use Rattle.image.specs.Images.{state_of as image_state}
use Rattle.logbuffer.specs.Assembler.{sessions_of}
use Rattle.replay.specs.declared.Replay.{Replay}
use Rattle.replay.specs.declared.NextReply.{NextReply}
use Rattle.replay.specs.declared.TurnReply.{TurnReply}
use Rattle.replay.specs.declared.Counted.{Counted}

abbrev pub replay_of : Image → ℕ → List ℤ → List ℕ → Replay
replay_of image count ids held = record { image = image; assembler = record { count = count; ids = ids; held = held } }

abbrev pub state_of : Replay → List ℕ → ReplayState
state_of p buffer = record { image = image_state p.image; sessions = sessions_of p.assembler; buffer = buffer }

abbrev pub next_reply_of : NextReply → List ℕ → NextSaid
next_reply_of x buffer = record { answer = x.answer; next = state_of x.next buffer }

-- what the replay answers, or None where it goes on; and where it then stands
pub record Turned : Type 0 where
  pub answer : Option (Result Replayed Error)
  pub next : ReplayState

abbrev pub turned : TurnReply → List ℕ → Turned
turned t buffer = record { answer = t.answer; next = state_of t.next buffer }

abbrev pub stops : ReplayState → Result Replayed Error → Turned
stops s a = record { answer = Some a; next = s }

abbrev pub goes_on : ReplayState → Turned
goes_on s = record { answer = None; next = s }

-- after a fragment of the term that starts at base: from s, before it, to t, behind it; one that is refused leaves the replay at s
abbrev pub fragment_turn : ℕ → ReplayState → ReplayState → Result Assembled Error → Turned
fragment_turn base s t (Ok Nothing) = goes_on t
fragment_turn base s t (Ok (Fragment at n)) = stops t (Ok (InLog (base + at) n))
fragment_turn base s t (Ok (Message at n)) = stops t (Ok (InBuffer at n))
fragment_turn base s t (Err e) = stops s (Err e)

-- the same for an answer that is no part of the log
abbrev pub elsewhere_on : Result Assembled Error → Bool
elsewhere_on (Ok Nothing) = true
elsewhere_on (Ok (Fragment at n)) = false
elsewhere_on (Ok (Message at n)) = false
elsewhere_on (Err e) = false

abbrev pub elsewhere_by : Result Assembled Error → Result Replayed Error
elsewhere_by (Ok Nothing) = Ok End
elsewhere_by (Ok (Fragment at n)) = Ok End
elsewhere_by (Ok (Message at n)) = Ok (InBuffer at n)
elsewhere_by (Err e) = Err e

abbrev pub elsewhere_next : Replay → Replay → Result Assembled Error → Replay
elsewhere_next s t (Ok Nothing) = t
elsewhere_next s t (Ok (Fragment at n)) = t
elsewhere_next s t (Ok (Message at n)) = t
elsewhere_next s t (Err e) = s

-- the fragment whose body is at an entry of partition k, given to the assembler; i is the image that has passed it
abbrev pub given : LogRecord → List ℕ → ReplayState → ℕ → ℤ → Assembly
given r log s k entry = assemble_of r log s.sessions s.buffer (pos k) (pos (natural entry - 32))

abbrev pub fragment_given : LogRecord → List ℕ → ReplayState → ImageState → ℕ → ℤ → Turned
fragment_given r log s i k entry = fragment_turn (k * (reading r).term) s (assembled_to i (given r log s k entry)) (given r log s k entry).answer

abbrev pub refusal_by : Result Polled Error → Result Replayed Error
refusal_by (Ok polled) = Ok End
refusal_by (Err e) = Err e

abbrev pub turn_said : LogRecord → List ℕ → ReplayState → Result Polled Error → Turned
turn_said r log s (Err e) = stops s (Err e)
turn_said r log s (Ok polled) =
    cond (eqb polled.entries 0)
    (cond (eqb (long (poll_one r log s.image).next.position) (long s.image.position)) (stops s (Ok End))
    (goes_on (record { image = (poll_one r log s.image).next; sessions = s.sessions; buffer = s.buffer })))
    (fragment_turn (partition_of (long s.image.position) (reading r).term * (reading r).term) s
    (assembled_to (poll_one r log s.image).next (assemble_one r log s)) (assemble_one r log s).answer)

abbrev pub turn_of : LogRecord → List ℕ → ReplayState → Turned
turn_of r log s = cond (is_over r log s.image.position) (stops s (Ok End)) (turn_said r log s (poll_one r log s.image).answer)

-- ---- counted from a position to the end

pub record Tally : Type 0 where
  pub answer : Result Counted Error
  pub buffer : List ℕ

-- a sum that stays in 64 bits
abbrev pub added_to : ℕ → ℕ → ℕ
added_to bytes n = min (bytes + n) 18446744073709551615

abbrev pub gives_by : Result Replayed Error → Bool
gives_by (Ok (InLog from n)) = true
gives_by (Ok (InBuffer at n)) = true
gives_by (Ok End) = false
gives_by (Err e) = false

abbrev pub length_by : Result Replayed Error → ℕ
length_by (Ok (InLog from n)) = n
length_by (Ok (InBuffer at n)) = n
length_by (Ok End) = 0
length_by (Err e) = 0

abbrev pub counted_by : Result Replayed Error → ℕ → ℕ → Result Counted Error
counted_by (Ok (InLog from n)) messages bytes = Ok (record { messages = messages; bytes = bytes })
counted_by (Ok (InBuffer at n)) messages bytes = Ok (record { messages = messages; bytes = bytes })
counted_by (Ok End) messages bytes = Ok (record { messages = messages; bytes = bytes })
counted_by (Err e) messages bytes = Err e

-- with so many messages and bytes counted, and so many replies left
unfoldable pub count_from : ℕ → LogRecord → List ℕ → ReplayState → ℕ → ℕ → Tally
count_from zero r log s messages bytes = record { answer = Ok (record { messages = messages; bytes = bytes }); buffer = s.buffer }
count_from (suc left) r log s messages bytes =
    cond (gives_by (next_of r log s).answer) (count_from left r log (next_of r log s).next (messages + 1) (added_to bytes (length_by (next_of r log s).answer)))
    (record { answer = counted_by (next_of r log s).answer messages bytes; buffer = (next_of r log s).next.buffer })

-- a message takes a place of its own in the log, so its bytes bound the messages
abbrev pub count_of : LogRecord → List ℕ → ℤ → ℤ → List ℕ → Tally
count_of r log from session buffer = count_from (3 * (reading r).term + 1) r log (from_start from session buffer) 0 0

-- document 01's number and values: messages, bytes
abbrev pub counted_told : Result Counted Error → Told
counted_told (Ok counts) = answered (pos counts.messages ∷ pos counts.bytes ∷ [])
counted_told (Err e) = refused e
