-- Each answer as it crosses to C: document 01's number, 0 for none, and 01's values (`Answers` of the model), 0 where there are none. The place of a frame
-- that is refused crosses where an answer has its first value, or a message its start (R-7 of document 02).
use Rattle.std.specs.Prelude.{ℕ, ◌-◌, ◌/◌, ◌%◌, min, Bool, true, false, cond, ltb, ℤ, pos, negsuc, get_or, length, Result, Ok, Err, ⊤}
use Rattle.model.specs.declared.Error.{Error}
use Rattle.model.specs.Rule.{rule_place}
use Rattle.model.specs.Answers.{Told, outcome_told, positioned_told, offered_told, claimed_told, located_told, appended_told, appended_claim_told, header_told, length_read_told, read_told, scanned_told, gap_told, polled_told, peeked_told, block_told, end_told, assembled_told, replayed_told}
use Rattle.model.specs.Errors.{number_of, place_of}
use Rattle.model.specs.Bytes.{long}
use Rattle.model.specs.LogBufferDescriptor.{partition_of, reading}
use Rattle.model.specs.TermReader.{natural}
use Rattle.model.specs.declared.LogRecord.{LogRecord}
use Rattle.model.specs.declared.Claim.{Claim}
use Rattle.model.specs.declared.HeaderFields.{HeaderFields}
use Rattle.model.specs.declared.Rule.{Rule}
use Rattle.model.specs.declared.Claimed.{Claimed}
use Rattle.model.specs.declared.Span.{Span}
use Rattle.model.specs.declared.Appended.{Appended}
use Rattle.model.specs.declared.AppendedClaim.{AppendedClaim}
use Rattle.model.specs.declared.HeaderFields.{HeaderFields}
use Rattle.model.specs.declared.FrameLength.{FrameLength}
use Rattle.model.specs.declared.TermRead.{TermRead}
use Rattle.model.specs.declared.GapScanned.{GapScanned}
use Rattle.model.specs.declared.GapScanned.TheVariants.{Gap, NoGap}
use Rattle.model.specs.declared.Polled.{Polled}
use Rattle.model.specs.declared.Peeked.{Peeked}
use Rattle.model.specs.declared.Block.{Block}
use Rattle.model.specs.declared.Assembled.{Assembled}
use Rattle.model.specs.declared.Replayed.{Replayed}
use Rattle.replay.specs.declared.Counted.{Counted}
use Rattle.capi.specs.Words.{claim_words}
use Rattle.capi.specs.declared.replies.PositionReply.{PositionReply}
use Rattle.capi.specs.declared.replies.OfferReply.{OfferReply}
use Rattle.capi.specs.declared.replies.ClaimReply.{ClaimReply}
use Rattle.capi.specs.declared.replies.SpanReply.{SpanReply}
use Rattle.capi.specs.declared.replies.AppendReply.{AppendReply}
use Rattle.capi.specs.declared.replies.AppendClaimReply.{AppendClaimReply}
use Rattle.capi.specs.declared.replies.HeaderReply.{HeaderReply}
use Rattle.capi.specs.declared.replies.FrameLengthReply.{FrameLengthReply}
use Rattle.capi.specs.declared.replies.ReadReply.{ReadReply}
use Rattle.capi.specs.declared.replies.ScanReply.{ScanReply}
use Rattle.capi.specs.declared.replies.GapReply.{GapReply}
use Rattle.capi.specs.declared.replies.AvailabilityReply.{AvailabilityReply}
use Rattle.capi.specs.declared.replies.PollReply.{PollReply}
use Rattle.capi.specs.declared.replies.PeekReply.{PeekReply}
use Rattle.capi.specs.declared.replies.BlockReply.{BlockReply}
use Rattle.capi.specs.declared.replies.EndOfStreamReply.{EndOfStreamReply}
use Rattle.capi.specs.declared.replies.AssemblyReply.{AssemblyReply}
use Rattle.capi.specs.declared.replies.NextReply.{NextReply}
use Rattle.capi.specs.declared.replies.BatchReply.{BatchReply}
use Rattle.capi.specs.declared.replies.CountReply.{CountReply}

-- the value at an index; the same where it is a size; whether it is below 0, as where an append tripped
abbrev pub value : ℕ → Told → ℤ
value i t = get_or t.values i (pos 0)

abbrev pub negative : ℤ → Bool
negative (pos n) = false
negative (negsuc n) = true

abbrev pub size : ℕ → Told → ℕ
size i t = natural (value i t)

-- the value at an index, or, since a refusal has none, the place of the frame that it refuses
abbrev pub value_or_place : ℕ → Told → ℤ
value_or_place i t = get_or t.values i (pos t.place)

abbrev pub size_or_place : ℕ → Told → ℕ
size_or_place i t = natural (value_or_place i t)

-- A number that 32 bits hold; none that a call gives is cut (`NothingCut` of Theorems).
abbrev pub cut32 : ℕ → ℕ
cut32 n = min n 4294967295

-- ---- the record's calls

abbrev pub outcome_number : Result ⊤ Error → ℤ
outcome_number a = (outcome_told a).number

abbrev pub position_reply : Result ℤ Error → PositionReply
position_reply a = record { code = (positioned_told a).number; position = value 0 (positioned_told a) }

-- ---- writing

-- the rule by its place in the order (R-10 of document 02)
abbrev pub offer_reply : Result ℤ Error → Rule → OfferReply
offer_reply a x = record { code = (offered_told a).number; rule = rule_place x; position = value 0 (offered_told a) }

-- a claim's record after a first value
abbrev pub claim_at : Told → Claim
claim_at t = record { partition = value 1 t; offset = value 2 t; length = value 3 t; term_id = value 4 t }

abbrev pub claim_reply : Result Claimed Error → Rule → ClaimReply
claim_reply a x = record { code = (claimed_told a).number; rule = rule_place x; position = value 0 (claimed_told a); claim = claim_words (claim_at (claimed_told a)) }

-- a part of the log by its first index and its length
abbrev pub span_reply : Result Span Error → SpanReply
span_reply a = record { code = (located_told a).number; start = size 0 (located_told a); length = size 1 (located_told a) - size 0 (located_told a) }

abbrev pub append_reply : Appended → AppendReply
append_reply a = record { code = (appended_told a).number; is_tripped = negative (value 0 (appended_told a)); offset = size 0 (appended_told a) }

abbrev pub append_claim_reply : AppendedClaim → AppendClaimReply
append_claim_reply a =
    record {
      code = (appended_claim_told a).number;
      is_tripped = negative (value 0 (appended_claim_told a));
      offset = size 0 (appended_claim_told a);
      claim = claim_words (claim_at (appended_claim_told a));
    }

-- ---- frames of a term

abbrev pub fields_at : Told → HeaderFields
fields_at t =
    record {
      frame_length = value 0 t;
      version = size 1 t;
      flags = size 2 t;
      frame_type = size 3 t;
      term_offset = value 4 t;
      session_id = value 5 t;
      stream_id = value 6 t;
      term_id = value 7 t;
      reserved_value = value 8 t;
      position = value 9 t;
    }

abbrev pub header_reply : Result HeaderFields Error → HeaderReply
header_reply a = record { code = (header_told a).number; fields = fields_at (header_told a) }

-- 0, 1 or 2: free, being written, finished
abbrev pub frame_length_reply : Result FrameLength Error → FrameLengthReply
frame_length_reply a = record { code = (length_read_told a).number; state = value 0 (length_read_told a); length = size 1 (length_read_told a) }

abbrev pub read_reply : Result TermRead Error → ReadReply
read_reply a = record { code = (read_told a).number; fragments = cut32 (size 1 (read_told a)); offset = size_or_place 0 (read_told a) }

abbrev pub scan_reply : Result ℕ Error → ScanReply
scan_reply a = record { code = (scanned_told a).number; offset = size_or_place 0 (scanned_told a) }

-- a gap has values of its own behind the offset that the walk came to
abbrev pub starts_written : Result GapScanned Error → Bool
starts_written (Ok (Gap id offset n written)) = written
starts_written (Ok (NoGap n)) = false
starts_written (Err e) = false

abbrev pub gap_reply : Result GapScanned Error → GapReply
gap_reply a =
    record {
      code = (gap_told a).number;
      is_gap = ltb 1 (length (gap_told a).values);
      is_being_written = starts_written a;
      term_id = value 1 (gap_told a);
      offset = size_or_place 0 (gap_told a);
      length = size 3 (gap_told a);
    }

-- Document 01 answers padding × 2^32 + available. Here the two stand apart, the quotient and the remainder of that number's bits; with a refusal the second is
-- the place (`AvailabilityApart` of Theorems has them as the walk counts them).
abbrev pub availability_reply : Result ℤ Error → AvailabilityReply
availability_reply (Ok n) = record { code = pos 0; padding = long n / 4294967296; available = long n % 4294967296 }
availability_reply (Err e) = record { code = number_of e; padding = 0; available = place_of e }

-- ---- images

-- the partition of the position at which a read begins: there lie the frames that it tells by their offsets in a term
abbrev pub partition_at : LogRecord → ℤ → ℤ
partition_at r p = pos (partition_of (long p) (reading r).term)

-- it stands beside an answer; a refusal, which has no values, has 0
abbrev pub answered_in : ℤ → Told → ℤ
answered_in k t = cond (ltb 0 (length t.values)) k (pos 0)

abbrev pub poll_reply : ℤ → Result Polled Error → PollReply
poll_reply k a =
    record {
      code = (polled_told a).number;
      fragments = cut32 (size_or_place 0 (polled_told a));
      entries = cut32 (size 1 (polled_told a));
      partition = answered_in k (polled_told a);
    }

abbrev pub peek_reply : ℤ → Result Peeked Error → PeekReply
peek_reply k a =
    record {
      code = (peeked_told a).number;
      entries = cut32 (size 1 (peeked_told a));
      position = value_or_place 0 (peeked_told a);
      partition = answered_in k (peeked_told a);
    }

abbrev pub block_reply : ℤ → Result Block Error → BlockReply
block_reply k a =
    record {
      code = (block_told a).number;
      partition = answered_in k (block_told a);
      offset = size_or_place 0 (block_told a);
      length = size 1 (block_told a);
      session_id = value 2 (block_told a);
      term_id = value 3 (block_told a);
    }

-- yes and no cross as themselves
abbrev pub is_yes : Result Bool Error → Bool
is_yes (Ok b) = b
is_yes (Err e) = false

abbrev pub end_of_stream_reply : Result Bool Error → EndOfStreamReply
end_of_stream_reply a = record { code = (end_told a).number; is_eos = is_yes a }

-- ---- assembler and replay; the place of a message is 0 nowhere, 1 in the log, 2 in the lent buffer

abbrev pub assembly_reply : Result Assembled Error → AssemblyReply
assembly_reply a =
    record {
      code = (assembled_told a).number;
      place = value 0 (assembled_told a);
      start = size_or_place 1 (assembled_told a);
      length = size 2 (assembled_told a);
    }

abbrev pub next_reply : Result Replayed Error → NextReply
next_reply a =
    record {
      code = (replayed_told a).number;
      place = value 0 (replayed_told a);
      start = size_or_place 1 (replayed_told a);
      length = size 2 (replayed_told a);
    }

-- how many messages a batch laid; refused, the place
abbrev pub batch_reply : Result ℕ Error → BatchReply
batch_reply (Ok n) = record { code = pos 0; messages = n }
batch_reply (Err e) = record { code = number_of e; messages = place_of e }

-- a count of messages and of their bytes; refused, the first is the place
abbrev pub count_reply : Result Counted Error → CountReply
count_reply (Ok counts) = record { code = pos 0; messages = counts.messages; bytes = counts.bytes }
count_reply (Err e) = record { code = number_of e; messages = place_of e; bytes = 0 }
