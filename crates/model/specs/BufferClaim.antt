-- A claim's body, lent to be written, or written; commit and abort. Each demands that the frame's header still shows minus the claim's
-- length and its term id ("Writing" in document 01, last paragraph). In order: 1, 2, 14. Read Publication next.
use Rattle.std.specs.Prelude.{ℕ, ◌+◌, ◌-◌, ◌*◌, ◌%◌, Bool, cond, ◌&&◌, List, eqb, leb, length, take, drop, Result, Ok, Err, ⊤}
use Rattle.model.specs.declared.Error.{Error}
use Rattle.model.specs.declared.LogRecord.{LogRecord}
use Rattle.model.specs.declared.Claim.{Claim}
use Rattle.model.specs.declared.Reading.{Reading}
use Rattle.model.specs.declared.Error.TheVariants.{IllegalArgument, ClaimMismatch}
use Rattle.model.specs.declared.Span.{Span}
use Rattle.model.specs.Bytes.{word, le2, le4, splice}
use Rattle.model.specs.Parts.{located_by}
use Rattle.model.specs.DataFrameHeader.{type_field, header_at}
use Rattle.model.specs.FrameDescriptor.{align, negated}
use Rattle.model.specs.LogBufferDescriptor.{reading, sound, within_term, good_partition, first_rows}

-- where the claim's frame starts in the log
abbrev pub claim_start : Reading → Claim → ℕ
claim_start v c = word c.partition * v.term + word c.offset

-- a partition, an offset that is a multiple of 32, a length of at least 32, an aligned end inside the term
unfoldable pub good_claim : Reading → Claim → Bool
good_claim v c =
    good_partition (word c.partition) && (eqb (word c.offset % 32) 0 && (leb 32 (word c.length)
    && within_term (word c.offset + align (word c.length)) v))

-- the header at a place still shows the claim
unfoldable pub matches : List ℕ → ℕ → Claim → Bool
matches log at c =
    eqb (header_at (drop at log)).length (negated (word c.length)) && eqb (header_at (drop at log)).id (word c.term_id)

unfoldable pub claim_check : LogRecord → List ℕ → Claim → Result ⊤ Error
claim_check r log c =
    first_rows (good_claim (reading r) c) (sound (reading r) (length log))
    (cond (matches log (claim_start (reading r) c) c) (Ok tt) (Err ClaimMismatch))

-- ---- the body: between the header and the slack

abbrev pub body_start : LogRecord → Claim → ℕ
body_start r c = claim_start (reading r) c + 32

abbrev pub body_end : LogRecord → Claim → ℕ
body_end r c = claim_start (reading r) c + word c.length

-- where it lies, by value; `part_of` of Parts is the part, and `located_number` what the companion call answers
unfoldable pub locate_of : LogRecord → List ℕ → Claim → Result Span Error
locate_of r log c = located_by (body_start r c) (body_end r c) (claim_check r log c)

-- A lending and its writing in one: the bytes lie over the body from its start on, as far as it goes. More than 2147483647 of them
-- are refused 1.
unfoldable pub write_span : LogRecord → List ℕ → Claim → ℕ → Result Span Error
write_span r log c n = cond (leb n 2147483647) (locate_of r log c) (Err IllegalArgument)

abbrev pub write_outcome : Result Span Error → Result ⊤ Error
write_outcome (Ok span) = Ok tt
write_outcome (Err e) = Err e

abbrev pub write_over : List ℕ → List ℕ → Result Span Error → List ℕ
write_over log b (Ok span) = splice log span.start (take (span.end - span.start) b)
write_over log b (Err e) = log

abbrev pub write_of : LogRecord → List ℕ → Claim → List ℕ → Result ⊤ Error
write_of r log c b = write_outcome (write_span r log c (length b))

abbrev pub write_bytes : LogRecord → List ℕ → Claim → List ℕ → List ℕ
write_bytes r log c b = write_over log b (write_span r log c (length b))

-- ---- commit stores the length; abort also sets type 0

abbrev pub outcome_of : Result ⊤ Error → Result ⊤ Error
outcome_of (Ok _) = Ok tt
outcome_of (Err e) = Err e

unfoldable pub commit_of : LogRecord → List ℕ → Claim → Result ⊤ Error
commit_of r log c = outcome_of (claim_check r log c)

abbrev pub changed_by : List ℕ → List ℕ → Result ⊤ Error → List ℕ
changed_by log new (Ok _) = new
changed_by log new (Err e) = log

unfoldable pub commit_bytes : LogRecord → List ℕ → Claim → List ℕ
commit_bytes r log c = changed_by log (splice log (claim_start (reading r) c) (le4 (word c.length))) (claim_check r log c)

unfoldable pub abort_bytes : LogRecord → List ℕ → Claim → List ℕ
abort_bytes r log c =
    changed_by log (splice (splice log (claim_start (reading r) c + type_field) (le2 0)) (claim_start (reading r) c) (le4 (word c.length)))
    (claim_check r log c)
