-- Where the invariant holds, no call is refused with what cannot come.
use Rattle.std.specs.Prelude.{Result, Ok, Err, ⊤}
use mathlib.Core.Path.{◌≡◌, refl, sym, ap, ◌∙◌, subst}
use mathlib.Core.Bool.{Bool, true, false, cond, not}
use Prim.Native.Nat.{ℕ, ◌+◌}
use mathlib.Core.List.{List}
use borrow.Author.Tests.{eq-eqb, not-true}
use lib.Dec.{leb, ltb, eqb}
use lib.ListN.{length}
use lib.IntN.{pos}
use Rattle.model.specs.declared.LogRecord.{LogRecord}
use Rattle.model.specs.declared.RecordReply.{RecordReply}
use Rattle.model.specs.declared.Claim.{Claim}
use Rattle.model.specs.declared.Reading.{Reading}
use Rattle.model.specs.declared.Error.{Error}
use Rattle.model.specs.declared.Error.TheVariants.{IllegalArgument, IllegalRecord, PositionOutOfRange, ExceedsMaxPayloadLength, PublicationClosed, AdminAction, MaxPositionExceeded, BackPressured, NotConnected, ExceedsMaxMessageLength, TailOverflow, LastTerm, ClaimMismatch, NewPositionOutOfRange, NotCleared, NotDue}
use Rattle.model.specs.declared.Span.{Span}
use Rattle.model.specs.Bytes.{word, long}
use Rattle.model.specs.FrameDescriptor.{space}
use Rattle.model.specs.Parts.{located_by}
use Rattle.model.specs.LogBufferDescriptor.{id_minus, reading, active, payload_limit, greatest, good_position, good_partition, sound_record, sound, last_term, is_ready, with_closed, with_mark, with_slowest}
use Rattle.model.specs.TermAppender.{claim_record}
use Rattle.model.specs.BufferClaim.{good_claim, matches, claim_start, claim_check, outcome_of, body_start, body_end, locate_of, write_span, write_outcome, commit_of}
use Rattle.model.specs.Publication.{place, pressed, after_closed, fits, on_trip, trip_error, too_long, need_of, before_append, offer_verdict, offered_by, offer_of, claim_verdict, claimed_by, claim_of, change_of, reply_by, not_due, clear_verdict, clear_of, raise_verdict, raise_of}
use Rattle.model.specs.History.{Call, offer, claim, fill, commit, abort, set_limit, close, clear, raise, World, step, shape_of, Extent, Terms}
use Rattle.model.specs.Corollaries.{rare, UsualOffered, UsualClaimed, UsualOutcome, Usual}
use Rattle.model.proofs.Choice.{cond-case}
use Rattle.model.proofs.Both.{and-true}
use Rattle.model.proofs.RuleLaws.{trips_by, offer-trips, claim-trips}
use Rattle.model.proofs.Tails.{with_rest, closed-reading}
use Rattle.model.proofs.Rising.{clash}
use Rattle.model.proofs.Keeping.{sound-is, own-count}
use Rattle.model.proofs.Kept.{Inv}

-- a verdict that passes, or refuses with what may come
Fine : Result ⊤ Error → Type 0
Fine (Ok _) = Unit {0}
Fine (Err e) = rare false e ≡ false

fine-pass : Fine (Ok tt)
unfolding Fine
fine-pass = tt

fine-no : (e : Error) → rare false e ≡ false → Fine (Err e)
unfolding Fine
fine-no e q = q

outcome-fine : (x : Result ⊤ Error) → Fine x → UsualOutcome (outcome_of x)
unfolding Fine
outcome-fine (Ok _) f = tt
outcome-fine (Err e) f = f

reply-fine : (r next : LogRecord) (x : Result ⊤ Error) → Fine x → UsualOutcome (reply_by r next x).answer
unfolding Fine
reply-fine r next (Ok _) f = tt
reply-fine r next (Err e) f = f

located-fine : (from to : ℕ) (x : Result ⊤ Error) → Fine x → UsualOutcome (write_outcome (located_by from to x))
unfolding Fine
located-fine from to (Ok _) f = tt
located-fine from to (Err e) f = f

fill-fine : (from to n : ℕ) (x : Result ⊤ Error) → Fine x → UsualOutcome (write_outcome (cond (leb n 2147483647) (located_by from to x) (Err IllegalArgument)))
fill-fine from to n x f =
    cond-case (λ (l : Result Span Error). UsualOutcome (write_outcome l)) (leb n 2147483647) (located_by from to x) (Err IllegalArgument) (λ e. located-fine from to x f) (λ e. refl)

sound-closed : (v : Reading) (n : ℕ) → sound v n ≡ true → sound_record (with_rest v v.limit true) ≡ true
unfolding sound sound_record
sound-closed v n s = (and-true (sound_record v) _ s).0

sound-alone : (v : Reading) (n : ℕ) → sound v n ≡ true → sound_record v ≡ true
unfolding sound
sound-alone v n s = (and-true (sound_record v) _ s).0

module _ (r : LogRecord) (log : List ℕ) (h : List Extent) (ks : List Claim) (s : Terms) (i : Inv (shape_of (reading r)) (record { record· = r; log = log }) h ks s) where
  abbrev v : Reading
  v = reading r

  abbrev w : World
  w = record { record· = r; log = log }

  is-sound· : sound v (length log) ≡ true
  is-sound· = sound-is v i.all h ks i.holds (length log) i.long

  rung : (b : Bool) (e : Error) (x : Result ⊤ Error) → rare false e ≡ false → Fine x → Fine (cond b (Err e) x)
  rung b e x q f = cond-case Fine b (Err e) x (λ z. fine-no e q) (λ z. f)

  sound-rung : (x : Result ⊤ Error) → Fine x → Fine (cond (not (sound v (length log))) (Err IllegalRecord) x)
  sound-rung x f = cond-case Fine (not (sound v (length log))) (Err IllegalRecord) x (λ e. clash (sound v (length log)) is-sound· (not-true _ e)) (λ e. f)

  pressed-fine : (m : ℕ) → rare false (pressed v m) ≡ false
  unfolding pressed
  pressed-fine m =
      cond-case (λ (e : Error). rare false e ≡ false) (leb (greatest v) (place v + m)) MaxPositionExceeded _ (λ q. refl)
      (λ q. cond-case (λ (e : Error). rare false e ≡ false) (eqb v.connected 1) BackPressured NotConnected (λ e. refl)
      (λ e. clash (eqb v.connected 1) (eq-eqb v.connected 1 i.holds.fixed.live) e))

  after-fine : (m : ℕ) (x : Result ⊤ Error) → Fine x → Fine (after_closed v m x)
  unfolding after_closed
  after-fine m x f =
      cond-case Fine (not (eqb (id_minus v.id v.initial) v.count)) (Err AdminAction) _
      (λ e. clash (eqb (id_minus v.id v.initial) v.count) (eq-eqb _ _ (own-count v i.all h ks i.holds)) (not-true _ e))
      (λ e. rung (leb v.limit (place v)) (pressed v m) x (pressed-fine m) f)

  offer-fine : (m : ℕ) → Fine (offer_verdict v (length log) m)
  unfolding before_append
  offer-fine m =
      rung (ltb 2147483647 m) IllegalArgument _ refl
      (sound-rung _
      (rung v.closed PublicationClosed _ refl
      (after-fine m _
      (rung (too_long v m) ExceedsMaxMessageLength _ refl
      (rung (ltb 2147483647 (v.offset + need_of v m)) TailOverflow (Ok tt) refl fine-pass)))))

  claim-fine : (m : ℕ) → Fine (claim_verdict v (length log) m)
  unfolding claim_verdict
  claim-fine m =
      rung (ltb 2147483647 m) IllegalArgument _ refl
      (sound-rung _
      (rung v.closed PublicationClosed _ refl
      (rung (ltb (payload_limit v) m) ExceedsMaxPayloadLength _ refl
      (after-fine m _
      (rung (ltb 2147483647 (v.offset + space m)) TailOverflow (Ok tt) refl fine-pass)))))

  trip-fine : rare true (trip_error v (is_ready r)) ≡ false
  unfolding on_trip
  trip-fine = go (ltb (greatest v) (place v + v.offset)) (last_term v.count) (is_ready r)
    where
      go : (a b d : Bool) → rare true (cond a MaxPositionExceeded (cond b LastTerm (cond d AdminAction NotCleared))) ≡ false
      go true b d = refl
      go false true d = refl
      go false false true = refl
      go false false false = refl

  offered-fine : (n : ℕ) (x : Result ⊤ Error) → Fine x → UsualOffered (trips_by v n x) (offered_by r v n x)
  unfolding Fine
  offered-fine n (Err e) f = f
  offered-fine n (Ok _) f = go (fits v n)
    where
      go : (b : Bool) → UsualOffered (not b) (cond b (Ok (pos (place v + n))) (Err (trip_error v (is_ready r))))
      go true = tt
      go false = trip-fine

  claimed-fine : (m : ℕ) (x : Result ⊤ Error) → Fine x → UsualClaimed (trips_by v (space m) x) (claimed_by r v m x)
  unfolding Fine
  claimed-fine m (Err e) f = f
  claimed-fine m (Ok _) f = go (fits v (space m))
    where
      go : (b : Bool) → UsualClaimed (not b) (cond b (Ok (record { position = pos (place v + space m); claim = claim_record v (active r) m })) (Err (trip_error v (is_ready r))))
      go true = tt
      go false = trip-fine

  check-fine : (k : Claim) → Fine (claim_check r log k)
  unfolding claim_check
  check-fine k =
      cond-case Fine (good_claim v k) _ (Err IllegalArgument)
      (λ g. cond-case Fine (sound v (length log)) _ (Err IllegalRecord)
      (λ e. cond-case Fine (matches log (claim_start v k) k) (Ok tt) (Err ClaimMismatch) (λ q. fine-pass) (λ q. fine-no ClaimMismatch refl))
      (λ e. clash (sound v (length log)) is-sound· e))
      (λ e. fine-no IllegalArgument refl)

  clear-fine : (k : ℕ) → Fine (clear_verdict v (length log) k)
  unfolding clear_verdict
  clear-fine k =
      cond-case Fine (good_partition k) _ (Err IllegalArgument)
      (λ g. cond-case Fine (sound v (length log)) _ (Err IllegalRecord) (λ e. rung (not_due v k) NotDue (Ok tt) refl fine-pass) (λ e. clash (sound v (length log)) is-sound· e))
      (λ e. fine-no IllegalArgument refl)

  raise-fine : (p : ℕ) → Fine (raise_verdict v p)
  unfolding raise_verdict
  raise-fine p =
      cond-case Fine (not (sound_record v)) (Err IllegalRecord) _ (λ e. clash (sound_record v) (sound-alone v (length log) is-sound·) (not-true _ e))
      (λ e. rung (not (good_position v p)) PositionOutOfRange _ refl (rung (ltb p v.slowest) NewPositionOutOfRange (Ok tt) refl fine-pass))

  close-fine : (b : Bool) → b ≡ true → UsualOutcome (cond {A = RecordReply} b (record { next = with_closed r; answer = Ok tt }) (record { next = r; answer = Err IllegalRecord })).answer
  close-fine true e = tt
  close-fine false e = clash false e refl

  pub step-usual : (y : Call) → Usual y (step w y).answer
  unfolding step offer_of claim_of write_span locate_of commit_of change_of clear_of raise_of
  step-usual (offer m re) =
      let y = offer_verdict v (length log) (length m) in
      subst (λ (t : Bool). UsualOffered t (offered_by r v (need_of v (length m)) y)) (sym (offer-trips v (is_ready r) (length log) (length m))) (offered-fine (need_of v (length m)) y (offer-fine (length m)))
  step-usual (claim n) =
      let y = claim_verdict v (length log) (word n) in
      subst (λ (t : Bool). UsualClaimed t (claimed_by r v (word n) y)) (sym (claim-trips v (is_ready r) (length log) (word n))) (claimed-fine (word n) y (claim-fine (word n)))
  step-usual (fill k b) = fill-fine (body_start r k) (body_end r k) (length b) (claim_check r log k) (check-fine k)
  step-usual (commit k) = outcome-fine (claim_check r log k) (check-fine k)
  step-usual (abort k) = outcome-fine (claim_check r log k) (check-fine k)
  step-usual (set_limit n) = tt
  step-usual close = close-fine (sound_record (reading (with_closed r))) (ap sound_record (closed-reading r i.tails) ∙ sound-closed v (length log) is-sound·)
  step-usual (clear k) = reply-fine r (with_mark r (word k) true) (clear_verdict v (length log) (word k)) (clear-fine (word k))
  step-usual (raise p) = reply-fine r (with_slowest r p) (raise_verdict v (long p)) (raise-fine (long p))
