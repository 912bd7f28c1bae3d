-- R-3 of document 02: closed decides before too long. The claim's ladder as document 01 had it stands here beside the one in Publication, and
-- `ClosedFirst` says that one kind of answer differs. Proved in proofs/ClosedFirst.antt.
use Rattle.std.specs.Prelude.{◌≡◌, ℕ, ◌*◌, Bool, true, false, ◌&&◌, not, List, ltb, length, ℤ, Result, Err, ⊤}
use Rattle.model.specs.declared.Error.{Error}
use Rattle.model.specs.declared.LogRecord.{LogRecord}
use Rattle.model.specs.declared.Reading.{Reading}
use Rattle.model.specs.declared.Error.TheVariants.{IllegalArgument, IllegalRecord, ExceedsMaxPayloadLength, PublicationClosed}
use Rattle.model.specs.declared.Claimed.{Claimed}
use Rattle.model.specs.Bytes.{word}
use Rattle.model.specs.FrameDescriptor.{space}
use Rattle.model.specs.LogBufferDescriptor.{active, reading, payload_limit, sound}
use Rattle.model.specs.TermAppender.{claimed}
use Rattle.model.specs.Publication.{refuse_if, after_closed, tail_room, next_by, log_by, claimed_by, claim_of, claim_bytes}

-- ---- the claim as document 01 had it: 1, 2, 4, 5, then as an offer without 10

unfoldable pub claim_verdict_before : Reading → ℕ → ℕ → Result ⊤ Error
claim_verdict_before v n m =
    refuse_if (ltb 2147483647 m) IllegalArgument
    (refuse_if (not (sound v n)) IllegalRecord
    (refuse_if (ltb (payload_limit v) m) ExceedsMaxPayloadLength
    (refuse_if v.closed PublicationClosed
    (after_closed v m
    (tail_room v (space m))))))

-- the next record, and the answer
unfoldable pub claim_before : LogRecord → List ℕ → ℤ → LogRecord × Result Claimed Error
claim_before r log m = (
  next_by r (reading r) (space (word m)) (claim_verdict_before (reading r) (length log) (word m)),
  claimed_by r (reading r) (word m) (claim_verdict_before (reading r) (length log) (word m)),
)

unfoldable pub claim_bytes_before : LogRecord → List ℕ → ℤ → List ℕ
claim_bytes_before r log m =
    log_by r (reading r) log (claimed (reading r) log (active r * (reading r).term) (word m))
    (space (word m)) (claim_verdict_before (reading r) (length log) (word m))

-- ---- what R-3 changes

-- next record and answer as they are now
abbrev pub claim_now : LogRecord → List ℕ → ℤ → LogRecord × Result Claimed Error
claim_now r log m = ((claim_of r log m).next, (claim_of r log m).answer)

-- the one kind: rows 1 and 2 let the claim pass, the publication is closed, and the claim is over the payload limit
unfoldable pub closed_and_long : LogRecord → List ℕ → ℤ → Bool
closed_and_long r log m =
    not (ltb 2147483647 (word m)) && (sound (reading r) (length log) && ((reading r).closed && ltb (payload_limit (reading r)) (word m)))

-- a claim of that kind: 5 for 4, and record and log as they were, now as before
pub record FiveForFour (r : LogRecord) (log : List ℕ) (m : ℤ) : Type 0 where
  pub before : claim_before r log m ≡ (r, Err ExceedsMaxPayloadLength)
  pub now : claim_now r log m ≡ (r, Err PublicationClosed)
  pub log-before : claim_bytes_before r log m ≡ log
  pub log-now : claim_bytes r log m ≡ log

-- any other: answer, next record and log are the old ones
pub record AsBefore (r : LogRecord) (log : List ℕ) (m : ℤ) : Type 0 where
  pub reply : claim_now r log m ≡ claim_before r log m
  pub bytes : claim_bytes r log m ≡ claim_bytes_before r log m

-- for every record, log and length
unfoldable pub ClosedFirst : Type 0
ClosedFirst = (r : LogRecord) (log : List ℕ) (m : ℤ) → (closed_and_long r log m ≡ true → FiveForFour r log m) × (closed_and_long r log m ≡ false → AsBefore r log m)
