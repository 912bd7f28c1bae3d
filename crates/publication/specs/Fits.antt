-- What is asked of an offer or a claim on the shorter path, and what it answers and leaves. `offer-fits`, `fragmented-fits` and `claim-fits`
-- (proofs/Fits.antt) are the laws that the calls of `model` answer the same.
use Rattle.std.specs.Prelude.{ℕ, ◌+◌, ◌*◌, ◌%◌, Bool, cond, not, ◌&&◌, Option, Some, None, List, [], ◌∷◌, eqb, leb, ltb, pos, length}
use Rattle.model.specs.declared.Reading.{Reading}
use Rattle.model.specs.FrameDescriptor.{space}
use Rattle.model.specs.LogBufferDescriptor.{is_power_of_two, id_minus, raw_of, payload_limit, sound}
use Rattle.model.specs.TermAppender.{cut, fragment, written, claimed, claim_record}
use Rattle.model.specs.Publication.{place, too_long, need_of}
use Rattle.logbuffer.specs.Ways.{frame_fits, frames_fit}
use Rattle.publication.specs.declared.fit.Fitted.{Fitted}
use Rattle.publication.specs.declared.fit.FittedClaim.{FittedClaim}

-- the tail's term id is the count's, and both ids are of 32 bits
unfoldable pub in_step : Reading → Bool
in_step v = ltb v.id 4294967296 && (ltb v.initial 4294967296 && eqb (id_minus v.id v.initial) v.count)

-- the part of row 2 by which a term's beginning is known, and in step
unfoldable pub in_terms : Reading → Bool
in_terms v =
    leb v.count 2147483647 && (leb v.offset 2147483647 && (in_step v
    && (leb 65536 v.term && (leb v.term 1073741824 && is_power_of_two v.term))))

-- a record that is sound for a log of n bytes, in step, and below its limit
unfoldable pub unpressed : Reading → ℕ → Bool
unpressed v n = sound v n && (in_step v && ltb (place v) v.limit)

-- a message or a claim of m bytes that one frame holds, and that nothing refuses in a log of n bytes
unfoldable pub is_open : Reading → ℕ → ℕ → Bool
is_open v n m = unpressed v n && (leb m (payload_limit v) && not v.closed)

-- and that fits at the active partition's tail
abbrev pub is_fit : Reading → ℕ → ℕ → Bool
is_fit v n m = is_open v n m && frame_fits v n (v.count % 3) m

-- a message of m bytes that takes several frames, and that nothing refuses in a log of n bytes
unfoldable pub is_long : Reading → ℕ → ℕ → Bool
is_long v n m = unpressed v n && (ltb (payload_limit v) m && (not (too_long v m) && not v.closed))

-- and whose frames all fit there
abbrev pub is_long_fit : Reading → ℕ → ℕ → Bool
is_long_fit v n m = is_long v n m && frames_fit v n (v.count % 3) (payload_limit v) m

-- ---- the answer: the raw tail and the position after the frame, or after the last of several

abbrev pub fitted_at : Reading → ℕ → Fitted
fitted_at v end = record { tail = raw_of v.id end; position = pos (v.count * v.term + end) }

abbrev pub fitted : Reading → ℕ → ℕ → Option Fitted
fitted v n m = cond (is_fit v n m) (Some (fitted_at v (v.offset + space m))) None

abbrev pub fitted_long : Reading → ℕ → ℕ → Option Fitted
fitted_long v n m = cond (is_long_fit v n m) (Some (fitted_at v (v.offset + need_of v m))) None

abbrev pub claim_at : Reading → ℕ → FittedClaim
claim_at v m = record { after = fitted_at v (v.offset + space m); claim = claim_record v (v.count % 3) m }

abbrev pub fitted_claim : Reading → ℕ → ℕ → Option FittedClaim
fitted_claim v n m = cond (is_fit v n m) (Some (claim_at v m)) None

-- ---- the log

abbrev pub offer_fit_bytes : Reading → List ℕ → List ℕ → ℕ → List ℕ
offer_fit_bytes v log m reserved =
    cond (is_fit v (length log) (length m)) (written v log (v.count % 3 * v.term) v.offset (fragment 192 reserved m ∷ [])) log

abbrev pub fragmented_fit_bytes : Reading → List ℕ → List ℕ → ℕ → List ℕ
fragmented_fit_bytes v log m reserved =
    cond (is_long_fit v (length log) (length m)) (written v log (v.count % 3 * v.term) v.offset (cut (payload_limit v) reserved m)) log

abbrev pub claim_fit_bytes : Reading → List ℕ → ℕ → List ℕ
claim_fit_bytes v log m = cond (is_fit v (length log) m) (claimed v log (v.count % 3 * v.term) m) log
