-- R-14 of document 02, for planners of blocks: how far later positions can shift where a message grows by a byte. On the same record and log
-- both messages are answered a position, so neither trips. With a payload limit of 64 the answered position moves like this:
--
--    bytes      0    1 .. 32   33 .. 64   65 .. 96   97 .. 128   129 ..
--    position  32      64         96        160         192       256
--    rise          32        32        64         32          64
--
-- 64 where the longer message has a further frame (its header, and 32 bytes more), else 32 where 32 divides the shorter length, else 0. A claim
-- within the payload limit is one frame, so it never rises by 64. Proved in proofs/OneByteMore.antt, for every payload limit at a time.
use Rattle.std.specs.Prelude.{◌≡◌, ℕ, ◌+◌, ◌%◌, ◌<◌, Bool, false, cond, List, eqb, ltb, length, ℤ, pos, ◌+ℤ◌, Ok}
use Rattle.model.specs.declared.LogRecord.{LogRecord}
use Rattle.model.specs.declared.Claim.{Claim}
use Rattle.model.specs.LogBufferDescriptor.{reading, payload_limit}
use Rattle.model.specs.TermAppender.{cut}
use Rattle.model.specs.Publication.{offer_of, claim_of}

-- the frames that are written for a message offered on a record
abbrev pub frames : LogRecord → List ℕ → ℕ
frames r m = length (cut (payload_limit (reading r)) 0 m)

-- from n bytes to one more, with a further frame or without
abbrev pub rise : Bool → ℕ → ℕ
rise further n = cond further 64 (cond (eqb (n % 32) 0) 32 0)

-- any record and log, and any two messages of which the longer has one byte more
unfoldable pub OneByteMore : Type 0
OneByteMore =
    (r : LogRecord) (log m longer : List ℕ) (p q : ℤ) → length longer ≡ length m + 1
    → (offer_of r log m).answer ≡ Ok p → (offer_of r log longer).answer ≡ Ok q
    → q ≡ p +ℤ pos (rise (ltb (frames r m) (frames r longer)) (length m))

-- the same of claims
unfoldable pub OneByteMoreClaimed : Type 0
OneByteMoreClaimed =
    (r : LogRecord) (log : List ℕ) (n : ℕ) (p q : ℤ) (k l : Claim) → n < 2147483647
    → (claim_of r log (pos n)).answer ≡ Ok (record { position = p; claim = k }) → (claim_of r log (pos (n + 1))).answer ≡ Ok (record { position = q; claim = l })
    → q ≡ p +ℤ pos (rise false n)
