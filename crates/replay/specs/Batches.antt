-- A batch: up to so many messages at once, four numbers for each in a lent slice: where it lies (1 in the log, 2 in the lent buffer), from, its
-- length, and the position behind it. Each is a reply of `next_of`. A message in the lent buffer ends the batch, for the next one may lie over
-- it. A refusal is answered where nothing was laid before it; else it ends the batch, and comes with the next call.
use Rattle.std.specs.Prelude.{ℕ, zero, suc, ◌+◌, ◌*◌, ◌/◌, cond, ◌&&◌, List, [], ◌∷◌, eqb, leb, pos, length, set, Result, Ok, Err}
use Rattle.model.specs.declared.Error.{Error}
use Rattle.model.specs.declared.LogRecord.{LogRecord}
use Rattle.model.specs.declared.Error.TheVariants.{IllegalArgument}
use Rattle.model.specs.declared.Replayed.{Replayed}
use Rattle.model.specs.declared.Replayed.TheVariants.{InLog, InBuffer, End}
use Rattle.model.specs.Bytes.{long}
use Rattle.model.specs.Answers.{Told, answered, refused}
use Rattle.model.specs.Replay.{ReplayState, next_of}
use Rattle.replay.specs.declared.BatchReply.{BatchReply}
use Rattle.replay.specs.Replays.{state_of}

pub record Batch : Type 0 where
  pub answer : Result ℕ Error
  pub next : ReplayState
  pub numbers : List ℕ

-- message i of a lent slice
abbrev pub laid_at : List ℕ → ℕ → ℕ → ℕ → ℕ → ℕ → List ℕ
laid_at slots i place from n position = set (set (set (set slots (4 * i) place) (4 * i + 1) from) (4 * i + 2) n) (4 * i + 3) position

-- the end of a batch after i messages, by a reply that is no message in the log
abbrev pub last_by : ℕ → Result Replayed Error → Result ℕ Error
last_by i (Ok (InLog from n)) = Ok i
last_by i (Ok (InBuffer at n)) = Ok (i + 1)
last_by i (Ok End) = Ok i
last_by i (Err e) = cond (eqb i 0) (Err e) (Ok i)

abbrev pub last_numbers : List ℕ → ℕ → ℕ → Result Replayed Error → List ℕ
last_numbers slots i position (Ok (InLog from n)) = slots
last_numbers slots i position (Ok (InBuffer at n)) = laid_at slots i 2 at n position
last_numbers slots i position (Ok End) = slots
last_numbers slots i position (Err e) = slots

-- what a reply leads to, after i messages; y is where the replay then stands, `go` what follows a message in the log
abbrev pub ending : ReplayState → List ℕ → ℕ → Result Replayed Error → Batch
ending y slots i a = record { answer = last_by i a; next = y; numbers = last_numbers slots i (long y.image.position) a }

abbrev pub batch_by : ReplayState → List ℕ → ℕ → Result Replayed Error → (List ℕ → Batch) → Batch
batch_by y slots i (Ok (InLog from n)) go = go (laid_at slots i 1 from n (long y.image.position))
batch_by y slots i (Ok (InBuffer at n)) go = ending y slots i (Ok (InBuffer at n))
batch_by y slots i (Ok End) go = ending y slots i (Ok End)
batch_by y slots i (Err e) go = ending y slots i (Err e)

-- so many more, after i
unfoldable pub batch_from : ℕ → LogRecord → List ℕ → ReplayState → List ℕ → ℕ → Batch
batch_from zero r log s slots i = record { answer = Ok i; next = s; numbers = slots }
batch_from (suc left) r log s slots i =
    batch_by (next_of r log s).next slots i (next_of r log s).answer (λ out. batch_from left r log (next_of r log s).next out (i + 1))

-- Row 1, the lent buffer and the lent numbers, is judged before anything else.
unfoldable pub batch_of : LogRecord → List ℕ → ReplayState → List ℕ → Batch
batch_of r log s slots =
    cond (leb (length s.buffer) 2147483647 && leb (length slots) 2147483647) (batch_from (length slots / 4) r log s slots 0)
    (record { answer = Err IllegalArgument; next = s; numbers = slots })

abbrev pub batch_reply_of : BatchReply → List ℕ → List ℕ → Batch
batch_reply_of x buffer numbers = record { answer = x.answer; next = state_of x.next buffer; numbers = numbers }

-- the papers' number and values: how many were laid
abbrev pub batched_told : Result ℕ Error → Told
batched_told (Ok n) = answered (pos n ∷ [])
batched_told (Err e) = refused e
