-- A commit that nothing refuses, on a shorter path: the numbers it asks, what it asks of them, and the log after it. `commit-fits` (proofs/Commits.antt) is
-- the law that the call of `model` answers and leaves the same.
use Rattle.std.specs.Prelude.{ℕ, ◌+◌, Bool, cond, ◌&&◌, List, length, bit_or, nat_le}
use Rattle.model.specs.declared.Claim.{Claim}
use Rattle.model.specs.declared.LogRecord.{LogRecord}
use Rattle.model.specs.declared.Reading.{Reading}
use Rattle.model.specs.Bytes.{word, long, splice, le4}
use Rattle.model.specs.FrameDescriptor.{align}
use Rattle.model.specs.LogBufferDescriptor.{tail_of, sound}
use Rattle.model.specs.BufferClaim.{claim_start, matches}
use Rattle.logbuffer.specs.Reads.{reading_by}

-- the bits of the three raw tails and of a claim's offset
abbrev pub all_bits : LogRecord → Claim → ℕ
all_bits r c = bit_or (bit_or (bit_or (long (tail_of r 0)) (long (tail_of r 1))) (long (tail_of r 2))) (word c.offset)

-- the record read with these for its tail
abbrev pub read_all : LogRecord → Claim → Reading
read_all r c = reading_by r (all_bits r c)

-- a partition, a length of at least 32, a sound record with those bits, an aligned end inside the term
unfoldable pub claim_fits : LogRecord → ℕ → Claim → Bool
claim_fits r n c =
    nat_le (word c.partition) 2 && (nat_le 32 (word c.length) && (sound (read_all r c) n
    && nat_le (word c.offset + align (word c.length)) (read_all r c).term))

-- and a header that shows the claim
abbrev pub commit_fits : LogRecord → List ℕ → Claim → Bool
commit_fits r log c = claim_fits r (length log) c && matches log (claim_start (read_all r c) c) c

abbrev pub commit_fit_bytes : LogRecord → List ℕ → Claim → List ℕ
commit_fit_bytes r log c = cond (commit_fits r log c) (splice log (claim_start (read_all r c) c) (le4 (word c.length))) log
