-- The marked positions of document 01, each as a theorem, and a few cases of our own that tell a right definition from a wrong one.
-- Term 65,536, mtu 96, initial id 7, limit large, tail 0 unless a case says so. Where the log's bytes do not matter, the case holds for
-- every log of three terms; else the log is empty.
use Rattle.std.specs.Prelude.{Ok}
use Prim.Native.Nat.{ℕ}
use mathlib.Core.Path.{◌≡◌, refl, ap, ap₂, ◌∙◌}
use mathlib.Core.Bool.{Bool, true, false}
use mathlib.Core.List.{List, [], ◌∷◌, ◌++◌}
use native.Mathlib.Omega.{arith}
use lib.ListN.{length, get_or, take, drop, replicate}
use lib.IntN.{ℤ, pos, negsuc}
use lib.Count.{ones, ones_in}
use Rattle.model.specs.declared.LogRecord.{LogRecord}
use Rattle.model.specs.declared.Claim.{Claim}
use Rattle.model.specs.declared.OfferReply.{OfferReply}
use Rattle.model.specs.declared.Rule.{Rule}
use Rattle.model.specs.declared.Rule.TheVariants.{PublicationClosed, ExceedsMaxPayloadLength, CountOutOfStep, LimitPastMaxPosition, TripPastMaxPosition, TermRotated, Unfragmented, Fragmented, Claimed}
use Rattle.model.specs.Bytes.{le2, le4, le8, u16, u32, i32, splice, zeros}
use Rattle.model.specs.Answers.{Told, outcome_told, positioned_told, offered_told, claimed_told, polled_told, gap_told, availability_told}
use Rattle.model.specs.FrameDescriptor.{frame_length_of, frame_at}
use Rattle.model.specs.DataFrameHeader.{header24, header_bytes}
use Rattle.model.specs.LogBufferDescriptor.{reading_of, sound_record, sound, changed, with_tail, with_count, noted, with_mark, next_tail, rotated, raw_of, term_id_of, term_offset_of, position_of}
use Rattle.model.specs.TermAppender.{header, fragment, fragment_bytes, written, cut_from, cut, sizes, need, padded, claimed, claim_record}
use Rattle.model.specs.BufferClaim.{good_claim, matches, claim_check, commit_of, commit_bytes, abort_bytes}
use Rattle.model.specs.Rule.{order, holds, first_of, decided}
use Rattle.model.specs.Publication.{opened_record, not_due, clear_verdict, clear_of, open_record, position_call, pressed, after_closed, before_append, on_trip, append_next, offer_of, offer_bytes, claim_verdict, claim_of, claim_bytes}
use Rattle.model.specs.TermReader.{walk}
use Rattle.model.specs.TermScan.{scan_verdict, rebuild, gap_length, gap_judge, gap_of, available_from, availability_judge, availability_of}
use Rattle.model.specs.Image.{PollReply, new_image, readable, poll_verdict, poll_of}
use Rattle.model.proofs.Splice.{drop-splice, length-splice}
use Rattle.model.proofs.Cut.{need-one}

-- tails, initial id, mtu, count, limit, closed
abbrev pub record_at : List ℤ → ℤ → ℕ → ℕ → ℕ → Bool → LogRecord
record_at tails initial mtu count limit closed =
    record {
      tails = tails;
      active_term_count = pos count;
      initial_term_id = initial;
      term_length = pos 65536;
      mtu_length = pos mtu;
      session_id = pos 5;
      stream_id = pos 6;
      is_connected = pos 1;
      publication_limit = pos limit;
      end_of_stream_position = pos 9223372036854775807;
      is_closed = closed;
      slowest_position = pos 0;
      is_cleared = false ∷ true ∷ true ∷ [];
      active_transport_count = pos 0;
      correlation_id = pos 0;
      page_size = pos 0;
    }

-- a log in its first term, the tail at an offset
abbrev pub tails_at : ℕ → List ℤ
tails_at offset = raw_of 7 offset ∷ raw_of 5 0 ∷ raw_of 6 0 ∷ []

abbrev pub tail_at : ℕ → LogRecord
tail_at offset = record_at (tails_at offset) (pos 7) 96 0 1000000 false

-- a log in its last term, count and id 2147483647
abbrev pub last_at : ℕ → ℕ → LogRecord
last_at mtu offset = record_at (replicate 3 (raw_of 2147483647 offset)) (pos 0) mtu 2147483647 4611686018427387904 false

-- a log in its first term whose tail shows the id of the second: its count is out of step
abbrev pub ahead_at : ℕ → LogRecord
ahead_at offset = record_at (raw_of 8 offset ∷ raw_of 5 0 ∷ raw_of 6 0 ∷ []) (pos 7) 96 0 1000000 false

-- a log in its third term, the term full: the slowest reader's position, and whether partition 0 is marked
abbrev third_at : ℕ → Bool → LogRecord
third_at slowest marked =
    record {
      tails = raw_of 7 65536 ∷ raw_of 8 65536 ∷ raw_of 9 65536 ∷ [];
      active_term_count = pos 2;
      initial_term_id = pos 7;
      term_length = pos 65536;
      mtu_length = pos 96;
      session_id = pos 5;
      stream_id = pos 6;
      is_connected = pos 1;
      publication_limit = pos 1000000;
      end_of_stream_position = pos 9223372036854775807;
      is_closed = false;
      slowest_position = pos slowest;
      is_cleared = marked ∷ false ∷ false ∷ [];
      active_transport_count = pos 0;
      correlation_id = pos 0;
      page_size = pos 0;
    }

-- a message of n bytes
abbrev pub bytes : ℕ → List ℕ
bytes n = replicate n 1

-- what is answered, in document 01's numbers
abbrev pub is : ℤ → List ℤ → Told
is number values = record { number = number; values = values; place = 0 }

-- and by which rule
abbrev offer_says : OfferReply → Told × Rule
offer_says o = (offered_told o.answer, o.rule)

module _ (log : List ℕ) (full : length log ≡ 196608) where
  -- ---- offers into an empty term

  offer-0 : offered_told (offer_of (tail_at 0) log []).answer ≡ is (pos 0) (pos 32 ∷ [])
  unfolding offer_of reading_of sound_record sound raw_of pressed after_closed before_append need sizes cut cut_from zeros ones ones_in
  offer-0 = rw full

  offer-64 : offered_told (offer_of (tail_at 0) log (bytes 64)).answer ≡ is (pos 0) (pos 96 ∷ [])
  unfolding offer_of reading_of sound_record sound raw_of pressed after_closed before_append need sizes cut cut_from zeros ones ones_in
  offer-64 = rw full

  offer-65 : offered_told (offer_of (tail_at 0) log (bytes 65)).answer ≡ is (pos 0) (pos 160 ∷ [])
  unfolding offer_of reading_of sound_record sound raw_of pressed after_closed before_append need sizes cut cut_from zeros ones ones_in
  offer-65 = rw full

  -- its frames: length, version, flags
  offer-65-first : take 6 (offer_bytes (tail_at 0) log (bytes 65) (pos 0)) ≡ 96 ∷ 0 ∷ 0 ∷ 0 ∷ 0 ∷ 128 ∷ []
  unfolding offer_bytes reading_of sound_record sound raw_of pressed after_closed before_append need sizes zeros ones ones_in written cut cut_from fragment_bytes header header24 header_bytes splice le2 le4 le8
  offer-65-first = rw full

  offer-65-last : take 6 (drop 96 (offer_bytes (tail_at 0) log (bytes 65) (pos 0))) ≡ 33 ∷ 0 ∷ 0 ∷ 0 ∷ 0 ∷ 64 ∷ []
  unfolding offer_bytes reading_of sound_record sound raw_of pressed after_closed before_append need sizes zeros ones ones_in written cut cut_from fragment_bytes header header24 header_bytes splice le2 le4 le8
  offer-65-last = rw full

  -- the second frame's body holds the last byte of the message
  offer-65-body : get_or (offer_bytes (tail_at 0) log (bytes 65) (pos 0)) 128 0 ≡ 1
  unfolding offer_bytes reading_of sound_record sound raw_of pressed after_closed before_append need sizes zeros ones ones_in written cut cut_from fragment_bytes header header24 header_bytes splice le2 le4 le8
  offer-65-body = rw full

  -- a second offer, on the record and the log that the first one left, goes behind it
  offer-again-on : (more : List ℕ) → length more ≡ 196608 → offered_told (offer_of (offer_of (tail_at 0) log []).next more []).answer ≡ is (pos 0) (pos 64 ∷ [])
  unfolding offer_of reading_of sound_record sound raw_of pressed after_closed before_append need sizes cut cut_from zeros ones ones_in append_next changed with_tail
  offer-again-on more long = rw (full, long)

  offer-bytes : offer_bytes (tail_at 0) log [] (pos 0) ≡ splice log 0 (fragment_bytes (reading_of (tail_at 0) 0) 0 (fragment 192 0 []))
  unfolding offer_bytes reading_of sound_record sound raw_of pressed after_closed before_append need sizes cut cut_from zeros ones ones_in written
  offer-bytes = rw full

  frame-long : length (fragment_bytes (reading_of (tail_at 0) 0) 0 (fragment 192 0 [])) ≡ 32
  unfolding fragment_bytes header_bytes header24 le2 le4 le8
  frame-long = refl

  offer-again : offered_told (offer_of (offer_of (tail_at 0) log []).next (offer_bytes (tail_at 0) log [] (pos 0)) []).answer ≡ is (pos 0) (pos 64 ∷ [])
  offer-again = offer-again-on (offer_bytes (tail_at 0) log [] (pos 0)) (ap length offer-bytes ∙ length-splice log 0 _ (omega (arith, frame-long)) ∙ full)

  offer-160 : offered_told (offer_of (tail_at 0) log (bytes 160)).answer ≡ is (pos 0) (pos 256 ∷ [])
  unfolding offer_of reading_of sound_record sound raw_of pressed after_closed before_append need sizes cut cut_from zeros ones ones_in
  offer-160 = rw full

  -- the flags of its three frames
  offer-160-flags : get_or (offer_bytes (tail_at 0) log (bytes 160) (pos 0)) 5 0
      ∷ get_or (offer_bytes (tail_at 0) log (bytes 160) (pos 0)) 101 0
      ∷ get_or (offer_bytes (tail_at 0) log (bytes 160) (pos 0)) 197 0 ∷ []
      ≡ 128 ∷ 0 ∷ 64 ∷ []
  unfolding offer_bytes reading_of sound_record sound raw_of pressed after_closed before_append need sizes zeros ones ones_in written cut cut_from fragment_bytes header header24 header_bytes splice le2 le4 le8
  offer-160-flags = rw full

  -- ---- at the term's end

  offer-exact : offered_told (offer_of (tail_at 65440) log (bytes 64)).answer ≡ is (pos 0) (pos 65536 ∷ [])
  unfolding offer_of reading_of sound_record sound raw_of pressed after_closed before_append need sizes cut cut_from zeros ones ones_in
  offer-exact = rw full

  trip : offered_told (offer_of (tail_at 65472) log (bytes 64)).answer ≡ is (pos 6) []
  unfolding offer_of reading_of sound_record sound raw_of pressed after_closed before_append need sizes cut cut_from zeros ones ones_in on_trip
  trip = rw full

  trip-count : (offer_of (tail_at 65472) log (bytes 64)).next.active_term_count ≡ pos 1
  unfolding offer_of reading_of sound_record sound raw_of pressed after_closed before_append need sizes cut cut_from zeros ones ones_in on_trip append_next changed noted with_mark with_tail with_count next_tail rotated
  trip-count = rw full

  -- a padding frame of 64, both flags, type 0
  trip-bytes : offer_bytes (tail_at 65472) log (bytes 64) (pos 0) ≡ splice log 65472 (header (reading_of (tail_at 65472) 0) 65472 64 192 0)
  unfolding offer_bytes reading_of sound_record sound raw_of pressed after_closed before_append need sizes cut cut_from zeros ones ones_in padded
  trip-bytes = rw full

  trip-padding : take 8 (drop 65472 (offer_bytes (tail_at 65472) log (bytes 64) (pos 0))) ≡ 64 ∷ 0 ∷ 0 ∷ 0 ∷ 0 ∷ 192 ∷ 0 ∷ 0 ∷ []
  unfolding header header24 le2 le4
  trip-padding = ap (λ (l : List ℕ). take 8 (drop 65472 l)) trip-bytes ∙ ap (take 8) (drop-splice log 65472 _ (omega arith))

  -- then an offer of 0 bytes, on the record and the log left
  trip-then-on : (more : List ℕ) → length more ≡ 196608 → offered_told (offer_of (offer_of (tail_at 65472) log (bytes 64)).next more []).answer ≡ is (pos 0) (pos 65568 ∷ [])
  unfolding offer_of reading_of sound_record sound raw_of pressed after_closed before_append need sizes cut cut_from zeros ones ones_in on_trip append_next changed noted with_mark with_tail with_count next_tail rotated
  trip-then-on more long = rw (full, long)

  padding-long : length (header (reading_of (tail_at 65472) 0) 65472 64 192 0) ≡ 24
  unfolding header header24 le2 le4
  padding-long = refl

  trip-then : offered_told (offer_of (offer_of (tail_at 65472) log (bytes 64)).next (offer_bytes (tail_at 65472) log (bytes 64) (pos 0)) []).answer ≡ is (pos 0) (pos 65568 ∷ [])
  trip-then = trip-then-on (offer_bytes (tail_at 65472) log (bytes 64) (pos 0)) (ap length trip-bytes ∙ length-splice log 65472 _ (omega (arith, padding-long)) ∙ full)

  -- ---- a claim

  claim-10 : claimed_told (claim_of (tail_at 0) log (pos 10)).answer ≡ is (pos 0) (pos 64 ∷ pos 0 ∷ pos 0 ∷ pos 42 ∷ pos 7 ∷ [])
  unfolding claim_of reading_of sound_record sound raw_of pressed after_closed claim_verdict claim_record ones ones_in
  claim-10 = rw full

  claim-stored : i32 (claim_bytes (tail_at 0) log (pos 10)) ≡ negsuc 41
  unfolding claim_bytes reading_of sound_record sound raw_of pressed after_closed claim_verdict claimed header header24 splice le2 le4 u32 ones ones_in
  claim-stored = rw full

  -- ---- cases of our own

  -- a claim too long on a closed publication: 5 before 4 (R-3 of document 02; document 01 had 4)
  claim-long-closed : claimed_told (claim_of (record_at (tails_at 0) (pos 7) 96 0 1000000 true) log (pos 65)).answer ≡ is (pos 5) []
  unfolding claim_of reading_of sound_record sound raw_of pressed after_closed claim_verdict ones ones_in
  claim-long-closed = rw full

  -- an offer on a closed publication that is not below its limit: 5 before 8
  offer-closed : offered_told (offer_of (record_at (tails_at 0) (pos 7) 96 0 0 true) log (bytes 8193)).answer ≡ is (pos 5) []
  unfolding offer_of reading_of sound_record sound raw_of pressed after_closed before_append need sizes cut cut_from zeros ones ones_in
  offer-closed = rw full

  -- in the last term a trip gives 7 where twice the offset is over the term length, else 12
  last-term-7 : offered_told (offer_of (last_at 96 65472) log (bytes 64)).answer ≡ is (pos 7) []
  unfolding offer_of reading_of sound_record sound raw_of pressed after_closed before_append need sizes cut cut_from zeros ones ones_in on_trip
  last-term-7 = rw full

  last-term-12 : offered_told (offer_of (last_at 65504 32768) log (bytes 60000)).answer ≡ is (pos 12) []
  unfolding offer_of reading_of sound_record sound raw_of pressed after_closed before_append ones ones_in on_trip
  last-term-12 = rw (full, need-one 65472 60000 (omega arith))

  -- ---- the deciding rule (R-10 of document 02)

  -- 6 twice: a term full at its own count rotates; a tail one term ahead of its count is refused as it stands, though its term is full too
  rotates : offer_says (offer_of (tail_at 65472) log (bytes 64)) ≡ (is (pos 6) [], TermRotated)
  unfolding offer_of reading_of sound_record sound raw_of pressed after_closed before_append need sizes cut cut_from zeros ones ones_in on_trip decided first_of order holds
  rotates = rw full

  out-of-step : offer_says (offer_of (ahead_at 65472) log (bytes 64)) ≡ (is (pos 6) [], CountOutOfStep)
  unfolding offer_of reading_of sound_record sound raw_of pressed after_closed before_append need sizes cut cut_from zeros ones ones_in on_trip decided first_of order holds
  out-of-step = rw full

  -- 7 twice: by the limit, the last term full; and after a trip, below a limit of 2^62
  past-at-limit : offer_says (offer_of (record_at (replicate 3 (raw_of 2147483647 65536)) (pos 0) 96 2147483647 0 false) log (bytes 64)) ≡ (is (pos 7) [], LimitPastMaxPosition)
  unfolding offer_of reading_of sound_record sound raw_of pressed after_closed before_append need sizes cut cut_from zeros ones ones_in on_trip decided first_of order holds
  past-at-limit = rw full

  past-on-trip : offer_says (offer_of (last_at 96 65472) log (bytes 64)) ≡ (is (pos 7) [], TripPastMaxPosition)
  unfolding offer_of reading_of sound_record sound raw_of pressed after_closed before_append need sizes cut cut_from zeros ones ones_in on_trip decided first_of order holds
  past-on-trip = rw full

  -- closed before too long; and too long before a count out of step
  closed-decides : (claim_of (record_at (tails_at 0) (pos 7) 96 0 1000000 true) log (pos 65)).rule ≡ PublicationClosed
  unfolding claim_of reading_of sound_record sound raw_of ones ones_in decided first_of order holds
  closed-decides = rw full

  too-long-decides : (claim_of (ahead_at 0) log (pos 65)).rule ≡ ExceedsMaxPayloadLength
  unfolding claim_of reading_of sound_record sound raw_of ones ones_in decided first_of order holds
  too-long-decides = rw full

  -- accepted: in one frame, in more, claimed
  accepted : (offer_of (tail_at 0) log (bytes 64)).rule ∷ (offer_of (tail_at 0) log (bytes 65)).rule ∷ (claim_of (tail_at 0) log (pos 10)).rule ∷ [] ≡ Unfragmented ∷ Fragmented ∷ Claimed ∷ []
  unfolding offer_of claim_of reading_of sound_record sound raw_of need sizes cut cut_from zeros ones ones_in decided first_of order holds
  accepted = rw full

-- ---- past the largest term id (R-8 of document 02)

-- an empty log whose first term has the largest id, its tail at an offset
abbrev top_at : ℕ → LogRecord
top_at offset = record_at (raw_of 2147483647 offset ∷ raw_of 2147483645 0 ∷ raw_of 2147483646 0 ∷ []) (pos 2147483647) 96 0 1000000 false

module _ (log : List ℕ) (full : length log ≡ 196608) where
  -- document 01's small input of row 12: now 6, and the next term has the lowest id
  top-turns : offer_says (offer_of (top_at 65472) log (bytes 64)) ≡ (is (pos 6) [], TermRotated)
  unfolding offer_of reading_of sound_record sound raw_of pressed after_closed before_append need sizes cut cut_from zeros ones ones_in on_trip decided first_of order holds
  top-turns = rw full

  top_tail : get_or (offer_of (top_at 65472) log (bytes 64)).next.tails 1 (pos 0) ≡ negsuc 9223372036854775807
  unfolding offer_of reading_of sound_record sound raw_of pressed after_closed before_append need sizes cut cut_from zeros ones ones_in on_trip append_next changed noted with_mark with_tail with_count next_tail rotated
  top_tail = rw full

  -- and then an offer of 0 bytes there, in step
  top-then-on : (more : List ℕ) → length more ≡ 196608 → offered_told (offer_of (offer_of (top_at 65472) log (bytes 64)).next more []).answer ≡ is (pos 0) (pos 65568 ∷ [])
  unfolding offer_of reading_of sound_record sound raw_of pressed after_closed before_append need sizes cut cut_from zeros ones ones_in on_trip append_next changed noted with_mark with_tail with_count next_tail rotated
  top-then-on more long = rw (full, long)

  -- ---- terms used again

  -- count 2, the term full, the next partition not marked: 19, and nothing rotates
  not-cleared : offered_told (offer_of (third_at 0 false) log (bytes 0)).answer ≡ is (pos 19) []
  unfolding offer_of reading_of sound_record sound raw_of pressed after_closed before_append need sizes cut cut_from zeros ones ones_in on_trip
  not-cleared = rw full

  -- marked, it rotates; clearing marks it once the slowest reader is at 65,536
  cleared-rotates : offered_told (offer_of (third_at 65536 true) log (bytes 0)).answer ≡ is (pos 6) []
  unfolding offer_of reading_of sound_record sound raw_of pressed after_closed before_append need sizes cut cut_from zeros ones ones_in on_trip
  cleared-rotates = rw full

  -- and the mark goes
  cleared-turns : (offer_of (third_at 65536 true) log (bytes 0)).next.is_cleared ≡ false ∷ false ∷ false ∷ []
  unfolding offer_of reading_of sound_record sound raw_of pressed after_closed before_append need sizes cut cut_from zeros ones ones_in on_trip append_next changed noted with_mark with_tail with_count next_tail rotated
  cleared-turns = rw full

  clear-marks : clear_of (third_at 65536 false) log (pos 0) ≡ record { next = third_at 65536 true; answer = Ok tt }
  unfolding clear_of clear_verdict not_due noted with_mark reading_of sound_record sound raw_of ones ones_in
  clear-marks = rw full

  -- the slowest reader is still in the term, or a partition is not due: 20
  clear-early : outcome_told (clear_of (third_at 65504 false) log (pos 0)).answer ≡ is (pos 20) []
  unfolding clear_of clear_verdict not_due reading_of sound_record sound raw_of ones ones_in
  clear-early = rw full

  clear-fresh : outcome_told (clear_of (tail_at 0) log (pos 0)).answer ≡ is (pos 20) []
  unfolding clear_of clear_verdict not_due reading_of sound_record sound raw_of ones ones_in
  clear-fresh = rw full

-- ---- numbers

-- id 9, offset 64
position-9 : position_of 9 7 65536 64 ≡ pos 131136
position-9 = refl

position-call : positioned_told (position_call (record_at (replicate 3 (raw_of 9 64)) (pos 7) 96 2 1000000 false)) ≡ is (pos 0) (pos 131136 ∷ [])
unfolding open_record reading_of sound_record raw_of ones ones_in
position-call = refl

-- raw tail -4294967296: id -1, offset 0
raw-id : term_id_of (negsuc 4294967295) ≡ negsuc 0
raw-id = refl

raw-offset : term_offset_of (negsuc 4294967295) 65536 ≡ 0
raw-offset = refl

-- The log is empty, or as a case says, in its first bytes; the rest may hold anything.
module _ (rest : List ℕ) (full : length rest ≡ 196480) where
  -- ---- a claim of 10 on an empty log, committed or aborted

  abbrev claim : Claim
  claim = record { partition = pos 0; offset = pos 0; length = pos 42; term_id = pos 7 }

  abbrev claimed_log : List ℕ
  claimed_log = claim_bytes (tail_at 0) (replicate 128 0 ++ rest) (pos 10)

  abbrev after_claim : LogRecord
  after_claim = (claim_of (tail_at 0) (replicate 128 0 ++ rest) (pos 10)).next

  committed : i32 (commit_bytes after_claim claimed_log claim) ≡ pos 42
  unfolding claim_of claim_bytes commit_bytes claim_check good_claim matches reading_of sound_record sound raw_of pressed after_closed claim_verdict claimed header header24 splice le2 le4 u32 ones ones_in append_next changed with_tail
  committed = simp full

  -- a second commit
  committed-twice : outcome_told (commit_of after_claim (commit_bytes after_claim claimed_log claim) claim) ≡ is (pos 14) []
  unfolding claim_of claim_bytes commit_of commit_bytes claim_check good_claim matches reading_of sound_record sound raw_of pressed after_closed claim_verdict claimed header header24 splice le2 le4 u32 ones ones_in append_next changed with_tail
  committed-twice = simp full

  -- aborted: the length 42, both flags, type 0, session 5, stream 6, term id 7
  abbrev aborted_log : List ℕ
  aborted_log = le4 42 ++ (0 ∷ 192 ∷ 0 ∷ 0 ∷ (le4 0 ++ (le4 5 ++ (le4 6 ++ (le4 7 ++ (replicate 104 0 ++ rest))))))

  aborted : abort_bytes after_claim claimed_log claim ≡ aborted_log
  unfolding claim_of claim_bytes abort_bytes claim_check good_claim matches reading_of sound_record sound raw_of pressed after_closed claim_verdict claimed header header24 splice le2 le4 u32 ones ones_in append_next changed with_tail
  aborted = simp full

  claim-moves : after_claim ≡ tail_at 64
  unfolding claim_of reading_of sound_record sound raw_of pressed after_closed claim_verdict ones ones_in append_next changed with_tail
  claim-moves = simp full

  abbrev poll : LogRecord → List ℕ → PollReply
  poll r log = poll_of r log (new_image (pos 0) (pos 5)) (replicate 20 (pos 0)) (pos 10)

  polled-none : polled_told (poll (tail_at 64) aborted_log).answer ≡ is (pos 0) (pos 0 ∷ pos 0 ∷ [])
  unfolding poll_of poll_verdict readable frame_at frame_length_of walk reading_of sound_record sound raw_of ones ones_in le4 u16 u32
  polled-none = rw full

  -- committed: a poll hands out one fragment, and one entry
  abbrev committed_log : List ℕ
  committed_log = le4 42 ++ (0 ∷ 192 ∷ 1 ∷ 0 ∷ (le4 0 ++ (le4 5 ++ (le4 6 ++ (le4 7 ++ (replicate 104 0 ++ rest))))))

  polled-one : polled_told (poll (tail_at 64) committed_log).answer ≡ is (pos 0) (pos 1 ∷ pos 1 ∷ [])
  unfolding poll_of poll_verdict readable frame_at frame_length_of walk reading_of sound_record sound raw_of ones ones_in le4 u16 u32
  polled-one = rw full

  polled-moves : (poll (tail_at 64) aborted_log).next.position ≡ pos 64
  unfolding poll_of poll_verdict readable frame_at frame_length_of walk reading_of sound_record sound raw_of ones ones_in le4 u16 u32
  polled-moves = rw full

  -- a poll hands out none and moves to 64
  aborted-poll : polled_told (poll after_claim (abort_bytes after_claim claimed_log claim)).answer ≡ is (pos 0) (pos 0 ∷ pos 0 ∷ [])
  aborted-poll = ap₂ (λ (r : LogRecord) (l : List ℕ). polled_told (poll r l).answer) claim-moves aborted ∙ polled-none

  aborted-moves : (poll after_claim (abort_bytes after_claim claimed_log claim)).next.position ≡ pos 64
  aborted-moves = ap₂ (λ (r : LogRecord) (l : List ℕ). (poll r l).next.position) claim-moves aborted ∙ polled-moves

-- ---- scans of a log whose first 132 bytes are as a case says

module _ (rest : List ℕ) (full : length rest ≡ 196476) where
  -- a data frame of 32 at 0, the next nonzero word at 128, high mark 160, from 0
  gap : gap_told (gap_of (tail_at 0) (le4 32 ++ ((0 ∷ 0 ∷ 1 ∷ replicate 121 0) ++ (le4 1 ++ rest))) (pos 0) (pos 7) (pos 0) (pos 160)) ≡ is (pos 0) (pos 32 ∷ pos 7 ∷ pos 32 ∷ pos 96 ∷ pos 0 ∷ [])
  unfolding gap_of gap_judge scan_verdict rebuild gap_length reading_of sound_record sound raw_of ones ones_in le4 u16 u32 frame_at frame_length_of
  gap = simp full

  -- padding 96 at 0, maximum 64
  availability : availability_told (availability_of (tail_at 0) (le4 96 ++ (replicate 128 0 ++ rest)) (pos 0) (pos 0) (pos 64)) ≡ is (pos 0) (pos 274877906976 ∷ [])
  unfolding availability_of availability_judge scan_verdict available_from reading_of sound_record sound raw_of ones ones_in le4 u16 u32 frame_at frame_length_of
  availability = simp full

-- opened at the lowest id: the tails below it have the largest and the one before
lowest-opened : (opened_record (pos 65536) (pos 96) (negsuc 2147483647) (pos 5) (pos 6)).tails ≡ negsuc 9223372036854775807 ∷ pos 9223372028264841216 ∷ pos 9223372032559808512 ∷ []
unfolding opened_record raw_of
lowest-opened = refl

-- one term past the largest id, and one term before the initial one
position-over : position_of 2147483648 2147483647 65536 64 ≡ pos 65600
position-over = refl

position-before : position_of 6 7 65536 0 ≡ negsuc 65535
position-before = refl
