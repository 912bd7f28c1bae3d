-- R-10 of document 02, as a statement: the rule that an offer or a claim answers is the first in the order that applies, and tells the answer's
-- number and whether the tail has moved. Proved in proofs/DecidingRule.antt.
use Rattle.std.specs.Prelude.{◌≡◌, ℕ, ◌+◌, ◌≤◌, true, false, List, length, ℤ}
use Rattle.model.specs.declared.LogRecord.{LogRecord}
use Rattle.model.specs.declared.Rule.{Rule}
use Rattle.model.specs.declared.OfferReply.{OfferReply}
use Rattle.model.specs.declared.ClaimReply.{ClaimReply}
use Rattle.model.specs.Bytes.{word}
use Rattle.model.specs.Answers.{offered_told, claimed_told}
use Rattle.model.specs.LogBufferDescriptor.{reading_of, active, reading, is_ready}
use Rattle.model.specs.Rule.{rule_number, rule_place, moves, Asked, message, claim, needs, holds}
use Rattle.model.specs.Publication.{offer_of, offer_bytes, claim_of, claim_bytes}

-- What is asked for on this record and log is decided by this rule, with this number, and leaves this record and this log.
pub record Decides (r : LogRecord) (log : List ℕ) (a : Asked) (rule : Rule) (number : ℤ) (next : LogRecord) (left : List ℕ) : Type 0 where
  -- its test holds, and that of no rule before it
  pub applies : holds (reading r) (is_ready r) (length log) a rule ≡ true
  pub first : (x : Rule) → holds (reading r) (is_ready r) (length log) a x ≡ true → rule_place rule ≤ rule_place x
  -- its number is the answer's
  pub numbered : number ≡ rule_number rule
  -- tripped or accepted: the tail of the partition that was active has moved by the need, which is 32 at least
  pub moved : moves rule ≡ true → (reading_of next (active r)).offset ≡ (reading r).offset + needs (reading r) a
  pub some : 32 ≤ needs (reading r) a
  -- any other: record and log are as they were
  pub still : moves rule ≡ false → (next ≡ r) × (left ≡ log)

abbrev pub OfferDecided : LogRecord → List ℕ → List ℕ → ℤ → OfferReply → Type 0
OfferDecided r log m reserved reply =
    Decides r log (message (length m)) reply.rule (offered_told reply.answer).number reply.next (offer_bytes r log m reserved)

abbrev pub ClaimDecided : LogRecord → List ℕ → ℤ → ClaimReply → Type 0
ClaimDecided r log m reply = Decides r log (claim (word m)) reply.rule (claimed_told reply.answer).number reply.next (claim_bytes r log m)

-- For every record, log and message, and for every record, log and length. That there are three tails is the record's type.
pub record DecidingRule : Type 0 where
  pub offers : (r : LogRecord) (log m : List ℕ) (reserved : ℤ) → length r.tails ≡ 3 → OfferDecided r log m reserved (offer_of r log m)
  pub claims : (r : LogRecord) (log : List ℕ) (m : ℤ) → length r.tails ≡ 3 → ClaimDecided r log m (claim_of r log m)
