-- The publication: opening, limit change, close, position, limit, window, offer and claim. Each refusal stands in document 01's order
-- ("Answers, by number", last paragraph), as R-3 and R-4 of document 02 amend it, with what it leaves. Which check decided is Rule's. Read TermReader next.
use Rattle.std.specs.Prelude.{ℕ, ◌+◌, ◌-◌, ◌*◌, Bool, true, false, cond, ◌&&◌, ◌||◌, not, List, [], ◌∷◌, eqb, leb, ltb, length, replicate, ℤ, pos, ◌-ℤ◌, Result, Ok, Err, ⊤}
use Rattle.model.specs.declared.LogRecord.{LogRecord}
use Rattle.model.specs.declared.Reading.{Reading}
use Rattle.model.specs.declared.Error.{Error}
use Rattle.model.specs.declared.Error.TheVariants.{IllegalArgument, IllegalRecord, ExceedsMaxPayloadLength, PublicationClosed, AdminAction, MaxPositionExceeded, BackPressured, NotConnected, ExceedsMaxMessageLength, TailOverflow, LastTerm, PositionOutOfRange, NewPositionOutOfRange, NotCleared, NotDue}
use Rattle.model.specs.declared.RecordReply.{RecordReply}
use Rattle.model.specs.declared.OfferReply.{OfferReply}
use Rattle.model.specs.declared.Claimed.{Claimed}
use Rattle.model.specs.declared.ClaimReply.{ClaimReply}
use Rattle.model.specs.Bytes.{word, long, splice, zeros}
use Rattle.model.specs.FrameDescriptor.{space}
use Rattle.model.specs.LogBufferDescriptor.{id_minus, raw_of, active, reading, payload_limit, message_limit, greatest, publisher_position, sound_record, sound, good_position, good_partition, first_rows, with_tail, with_limit, with_closed, with_slowest, with_mark, due, is_ready, last_term, rotated}
use Rattle.model.specs.TermAppender.{written, cut, need, padded, claimed, claim_record}
use Rattle.model.specs.Rule.{message, claim, decided}

-- one rung of a ladder of refusals
abbrev pub refuse_if : Bool → Error → Result ⊤ Error → Result ⊤ Error
refuse_if b e rest = cond b (Err e) rest

-- ---- opening, limit change, close: refuse only 2, judged on the record that they would make

-- the record of an empty log: tails at ids initial, initial - 2, initial - 1
unfoldable pub opened_record : ℤ → ℤ → ℤ → ℤ → ℤ → LogRecord
opened_record term mtu initial session stream =
    record {
      tails = raw_of (word initial) 0 ∷ raw_of (id_minus (word initial) 2) 0 ∷ raw_of (id_minus (word initial) 1) 0 ∷ [];
      active_term_count = pos 0;
      initial_term_id = initial;
      term_length = term;
      mtu_length = mtu;
      session_id = session;
      stream_id = stream;
      is_connected = pos 1;
      publication_limit = pos 0;
      end_of_stream_position = pos 9223372036854775807;
      is_closed = false;
      slowest_position = pos 0;
      is_cleared = false ∷ true ∷ true ∷ [];
      active_transport_count = pos 0;
      correlation_id = pos 0;
      page_size = pos 0;
    }

-- What a refused opening answers: a record of zeros. It breaks row 2 (`no_record_lem`, proofs/Edges.antt), so every call refuses it, with 2, or with
-- 1 where an argument's range comes first.
unfoldable pub no_record : LogRecord
no_record =
    record {
      tails = replicate 3 (pos 0);
      active_term_count = pos 0;
      initial_term_id = pos 0;
      term_length = pos 0;
      mtu_length = pos 0;
      session_id = pos 0;
      stream_id = pos 0;
      is_connected = pos 0;
      publication_limit = pos 0;
      end_of_stream_position = pos 0;
      is_closed = false;
      slowest_position = pos 0;
      is_cleared = replicate 3 false;
      active_transport_count = pos 0;
      correlation_id = pos 0;
      page_size = pos 0;
    }

unfoldable pub open_verdict : LogRecord → ℕ → Result ⊤ Error
open_verdict r n = refuse_if (not (sound (reading r) n)) IllegalRecord (Ok tt)

abbrev pub open_by : LogRecord → Result ⊤ Error → RecordReply
open_by r (Err e) = record { next = no_record; answer = Err e }
open_by r (Ok _) = record { next = r; answer = Ok tt }

abbrev pub open_bytes_by : List ℕ → Result ⊤ Error → List ℕ
open_bytes_by log (Err e) = log
open_bytes_by log (Ok _) = zeros (length log)

unfoldable pub open_of : List ℕ → ℤ → ℤ → ℤ → ℤ → ℤ → RecordReply
open_of log term mtu initial session stream =
    open_by (opened_record term mtu initial session stream) (open_verdict (opened_record term mtu initial session stream) (length log))

unfoldable pub open_bytes : List ℕ → ℤ → ℤ → ℤ → ℤ → ℤ → List ℕ
open_bytes log term mtu initial session stream = open_bytes_by log (open_verdict (opened_record term mtu initial session stream) (length log))

-- the new record, or the old one and 2
unfoldable pub change_of : LogRecord → LogRecord → RecordReply
change_of r next = cond (sound_record (reading next)) (record { next = next; answer = Ok tt }) (record { next = r; answer = Err IllegalRecord })

abbrev pub limit_of : LogRecord → ℤ → RecordReply
limit_of r n = change_of r (with_limit r n)

abbrev pub close_of : LogRecord → RecordReply
close_of r = change_of r (with_closed r)

-- ---- the slowest reader: 2 (of the record as it stands), 3, 15

unfoldable pub raise_verdict : Reading → ℕ → Result ⊤ Error
raise_verdict v p =
    refuse_if (not (sound_record v)) IllegalRecord
    (refuse_if (not (good_position v p)) PositionOutOfRange
    (refuse_if (ltb p v.slowest) NewPositionOutOfRange
    (Ok tt)))

abbrev pub reply_by : LogRecord → LogRecord → Result ⊤ Error → RecordReply
reply_by r next (Err e) = record { next = r; answer = Err e }
reply_by r next (Ok _) = record { next = next; answer = Ok tt }

unfoldable pub raise_of : LogRecord → ℤ → RecordReply
raise_of r p = reply_by r (with_slowest r p) (raise_verdict (reading r) (long p))

-- ---- clearing the partition due next: 1, 2, 20

-- another partition, or one that the slowest reader may still read
unfoldable pub not_due : Reading → ℕ → Bool
not_due v k = not (eqb k (due v.count)) || (leb 2 v.count && ltb v.slowest ((v.count - 1) * v.term))

unfoldable pub clear_verdict : Reading → ℕ → ℕ → Result ⊤ Error
clear_verdict v n k = first_rows (good_partition k) (sound v n) (refuse_if (not_due v k) NotDue (Ok tt))

unfoldable pub clear_of : LogRecord → List ℕ → ℤ → RecordReply
clear_of r log k = reply_by r (with_mark r (word k) true) (clear_verdict (reading r) (length log) (word k))

abbrev pub cleared_by : Reading → List ℕ → ℕ → Result ⊤ Error → List ℕ
cleared_by v log k (Err e) = log
cleared_by v log k (Ok _) = splice log (k * v.term) (zeros v.term)

unfoldable pub clear_bytes : LogRecord → List ℕ → ℤ → List ℕ
clear_bytes r log k = cleared_by (reading r) log (word k) (clear_verdict (reading r) (length log) (word k))

-- ---- position, limit, window: 2, 5

unfoldable pub open_record : Reading → ℤ → Result ℤ Error
open_record v n = cond (sound_record v) (cond v.closed (Err PublicationClosed) (Ok n)) (Err IllegalRecord)

abbrev pub position_call : LogRecord → Result ℤ Error
position_call r = open_record (reading r) (publisher_position (reading r))

abbrev pub limit_call : LogRecord → Result ℤ Error
limit_call r = open_record (reading r) r.publication_limit

abbrev pub window_call : LogRecord → Result ℤ Error
window_call r = open_record (reading r) (r.publication_limit -ℤ publisher_position (reading r))

-- ---- what offer and claim share

-- where the next frame would go, the offset not cut
abbrev pub place : Reading → ℕ
place v = v.count * v.term + v.offset

-- not below the limit: 7, 8 or 9
unfoldable pub pressed : Reading → ℕ → Error
pressed v m = cond (leb (greatest v) (place v + m)) MaxPositionExceeded (cond (eqb v.connected 1) BackPressured NotConnected)

-- 6 (count), 7/8/9, and then `rest`
unfoldable pub after_closed : Reading → ℕ → Result ⊤ Error → Result ⊤ Error
after_closed v m rest =
    refuse_if (not (eqb (id_minus v.id v.initial) v.count)) AdminAction
    (refuse_if (leb v.limit (place v)) (pressed v m)
    rest)

-- 11: the last that leaves everything as it was
abbrev pub tail_room : Reading → ℕ → Result ⊤ Error
tail_room v needed = refuse_if (ltb 2147483647 (v.offset + needed)) TailOverflow (Ok tt)

abbrev pub fits : Reading → ℕ → Bool
fits v needed = leb (v.offset + needed) v.term

-- A trip: 7, 12, 19 where the next partition is not marked (R-4), or rotated and 6. In 7's sum the offset counts twice: the position holds it already.
unfoldable pub on_trip {ℓ} : {X : Type ℓ} → Reading → Bool → X → X → X → X → X
on_trip v ready seven twelve nineteen six =
    cond (ltb (greatest v) (place v + v.offset)) seven (cond (last_term v.count) twelve (cond ready six nineteen))

abbrev pub trip_error : Reading → Bool → Error
trip_error v ready = on_trip v ready MaxPositionExceeded LastTerm NotCleared AdminAction

abbrev pub trip_next : LogRecord → Reading → Bool → LogRecord
trip_next moved v ready = on_trip v ready moved moved moved (rotated moved v.count v.id)

-- the record after the append: the tail moved, and after a trip that gives 6 rotated
unfoldable pub append_next : LogRecord → Reading → ℕ → LogRecord
append_next r v needed =
    cond (fits v needed) (with_tail r (active r) v.id (v.offset + needed))
    (trip_next (with_tail r (active r) v.id (v.offset + needed)) v (is_ready r))

-- ---- offer

-- over both the payload limit and the message limit
abbrev pub too_long : Reading → ℕ → Bool
too_long v m = ltb (payload_limit v) m && ltb (message_limit v) m

abbrev pub need_of : Reading → ℕ → ℕ
need_of v m = need (payload_limit v) m

-- for a message of m bytes and a log of n: 1, 2, 5, 6 (count), 7/8/9, 10, and then `rest`
unfoldable pub before_append : Reading → ℕ → ℕ → Result ⊤ Error → Result ⊤ Error
before_append v n m rest =
    refuse_if (ltb 2147483647 m) IllegalArgument
    (refuse_if (not (sound v n)) IllegalRecord
    (refuse_if v.closed PublicationClosed
    (after_closed v m
    (refuse_if (too_long v m) ExceedsMaxMessageLength
    rest))))

abbrev pub offer_verdict : Reading → ℕ → ℕ → Result ⊤ Error
offer_verdict v n m = before_append v n m (tail_room v (need_of v m))

abbrev pub offered_by : LogRecord → Reading → ℕ → Result ⊤ Error → Result ℤ Error
offered_by r v needed (Err e) = Err e
offered_by r v needed (Ok _) = cond (fits v needed) (Ok (pos (place v + needed))) (Err (trip_error v (is_ready r)))

abbrev pub next_by : LogRecord → Reading → ℕ → Result ⊤ Error → LogRecord
next_by r v needed (Err e) = r
next_by r v needed (Ok _) = append_next r v needed

-- the log after it, `new` where the append fits
abbrev pub log_by : LogRecord → Reading → List ℕ → List ℕ → ℕ → Result ⊤ Error → List ℕ
log_by r v log new needed (Err e) = log
log_by r v log new needed (Ok _) = cond (fits v needed) new (padded v log (active r * v.term))

-- the entry point, on its arguments as they come: record, log, message, reserved value
unfoldable pub offer_of : LogRecord → List ℕ → List ℕ → OfferReply
offer_of r log m =
    record {
      next = next_by r (reading r) (need_of (reading r) (length m)) (offer_verdict (reading r) (length log) (length m));
      answer = offered_by r (reading r) (need_of (reading r) (length m)) (offer_verdict (reading r) (length log) (length m));
      rule = decided (reading r) (is_ready r) (length log) (message (length m));
    }

unfoldable pub offer_bytes : LogRecord → List ℕ → List ℕ → ℤ → List ℕ
offer_bytes r log m reserved =
    log_by r (reading r) log
    (written (reading r) log (active r * (reading r).term) (reading r).offset (cut (payload_limit (reading r)) (long reserved) m))
    (need_of (reading r) (length m)) (offer_verdict (reading r) (length log) (length m))

-- ---- claim

-- for a claim of m bytes and a log of n: 1, 2, 5, 4, then as an offer without 10. Document 01 had 4 before 5; R-3 of document 02 lets closed
-- decide first. ClosedFirst has the ladder as it was, and says what changed.
unfoldable pub claim_verdict : Reading → ℕ → ℕ → Result ⊤ Error
claim_verdict v n m =
    refuse_if (ltb 2147483647 m) IllegalArgument
    (refuse_if (not (sound v n)) IllegalRecord
    (refuse_if v.closed PublicationClosed
    (refuse_if (ltb (payload_limit v) m) ExceedsMaxPayloadLength
    (after_closed v m
    (tail_room v (space m))))))

abbrev pub claimed_by : LogRecord → Reading → ℕ → Result ⊤ Error → Result Claimed Error
claimed_by r v m (Err e) = Err e
claimed_by r v m (Ok _) = cond (fits v (space m)) (Ok (record { position = pos (place v + space m); claim = claim_record v (active r) m })) (Err (trip_error v (is_ready r)))

-- the entry point: record, log, length
unfoldable pub claim_of : LogRecord → List ℕ → ℤ → ClaimReply
claim_of r log m =
    record {
      next = next_by r (reading r) (space (word m)) (claim_verdict (reading r) (length log) (word m));
      answer = claimed_by r (reading r) (word m) (claim_verdict (reading r) (length log) (word m));
      rule = decided (reading r) (is_ready r) (length log) (claim (word m));
    }

unfoldable pub claim_bytes : LogRecord → List ℕ → ℤ → List ℕ
claim_bytes r log m =
    log_by r (reading r) log (claimed (reading r) log (active r * (reading r).term) (word m))
    (space (word m)) (claim_verdict (reading r) (length log) (word m))
