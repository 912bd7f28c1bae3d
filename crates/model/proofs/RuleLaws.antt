-- The deciding rule beside the ladder of refusals: what the verdict and the trip say of it. The code names a rule by these laws.
use Rattle.std.specs.Prelude.{Result, Ok, Err, ⊤}
use mathlib.Core.Path.{◌≡◌, refl, sym, ap, ◌∙◌}
use mathlib.Core.Bool.{Bool, true, false, cond, ◌&&◌, not}
use Prim.Native.Nat.{ℕ, ◌+◌}
use native.Mathlib.Omega.{arith}
use borrow.Author.Tests.{lt-ltb, le-ltb, leb-true, leb-false}
use lib.Dec.{eqb, leb, ltb}
use Rattle.model.specs.declared.Reading.{Reading}
use Rattle.model.specs.declared.Error.{Error}
use Rattle.model.specs.declared.Error.TheVariants.{IllegalArgument, IllegalRecord, PositionOutOfRange, ExceedsMaxPayloadLength, PublicationClosed, AdminAction, MaxPositionExceeded, BackPressured, NotConnected, ExceedsMaxMessageLength, TailOverflow, LastTerm, ActionPossiblyDelayed, ClaimMismatch, NewPositionOutOfRange, NewPositionNotAligned, AssemblyFull, NotCleared, NotDue, FrameTooShort, FramePastTerm}
use Rattle.model.specs.declared.Rule.{Rule}
use Rattle.model.specs.declared.Rule.TheVariants.{IllegalArgument as ByArgument, IllegalRecord as ByRecord, PublicationClosed as ByClosed, ExceedsMaxPayloadLength as ByPayload, CountOutOfStep, LimitPastMaxPosition, BackPressured as ByPressure, NotConnected as ByConnection, ExceedsMaxMessageLength as ByMessage, TailOverflow as ByTail, TripPastMaxPosition, LastTerm as ByLastTerm, NotCleared as ByNotCleared, TermRotated, Unfragmented, Fragmented, Claimed}
use Rattle.model.specs.Errors.{number_of}
use Rattle.model.specs.FrameDescriptor.{space}
use Rattle.model.specs.LogBufferDescriptor.{id_minus, payload_limit, message_limit, greatest, sound, last_term}
use Rattle.model.specs.Rule.{rule_number, rule_place, moves, is_trip, message, claim, holds, order, first_of, decided}
use Rattle.model.proofs.Anchors as Anchors
use Rattle.model.specs.Publication.{refuse_if, place, pressed, after_closed, fits, on_trip, need_of, before_append, offer_verdict, claim_verdict}

-- The rule of a refusal that comes before the append: 6 is the count there, and 7 the limit. The refusals that no offer and no claim gives stand with 1.
abbrev pub refused_rule : Error → Rule
refused_rule IllegalArgument = ByArgument
refused_rule IllegalRecord = ByRecord
refused_rule PositionOutOfRange = ByArgument
refused_rule ExceedsMaxPayloadLength = ByPayload
refused_rule PublicationClosed = ByClosed
refused_rule AdminAction = CountOutOfStep
refused_rule MaxPositionExceeded = LimitPastMaxPosition
refused_rule BackPressured = ByPressure
refused_rule NotConnected = ByConnection
refused_rule ExceedsMaxMessageLength = ByMessage
refused_rule TailOverflow = ByTail
refused_rule LastTerm = ByArgument
refused_rule ActionPossiblyDelayed = ByArgument
refused_rule ClaimMismatch = ByArgument
refused_rule NewPositionOutOfRange = ByArgument
refused_rule NewPositionNotAligned = ByArgument
refused_rule AssemblyFull = ByArgument
refused_rule NotCleared = ByArgument
refused_rule NotDue = ByArgument
refused_rule (FrameTooShort at) = ByArgument
refused_rule (FramePastTerm at) = ByArgument

-- the rule of a trip, and of an offer that is accepted
abbrev pub trip_rule : Reading → Bool → Rule
trip_rule v ready = on_trip v ready TripPastMaxPosition ByLastTerm ByNotCleared TermRotated

abbrev pub offered_rule : Reading → ℕ → Rule
offered_rule v m = cond (leb m (payload_limit v)) Unfragmented Fragmented

-- The rule x goes with the verdict: it has the refusal's number and moves nothing; or it is the one of an append that nothing refuses.
abbrev pub Named : Rule → Result ⊤ Error → Rule → Type 0
Named passed (Err e) x = (refused_rule e ≡ x) × ((number_of e ≡ rule_number x) × (moves x ≡ false))
Named passed (Ok _) x = passed ≡ x

-- ---- rung by rung

-- one order or the other
other : (a b : ℕ) → leb a b ≡ not (ltb b a)
other a b = go (leb a b) refl
  where
    go : (x : Bool) → leb a b ≡ x → x ≡ not (ltb b a)
    go true e = sym (ap not (le-ltb b a (leb-true a b e)))
    go false e = sym (ap not (lt-ltb b a (leb-false a b e)))

module _ (passed : Rule) where
  rung : (b : Bool) (e : Error) (x : Rule) (y : Result ⊤ Error) (z : Rule) → Named passed (Err e) x → Named passed y z → Named passed (refuse_if b e y) (cond b x z)
  rung true e x y z h k = h
  rung false e x y z h k = k

  -- 6 (count), 7/8/9
  middle : (d p q k : Bool) (y : Result ⊤ Error) (z : Rule) → Named passed y z
      → Named passed (refuse_if (not d) AdminAction (refuse_if p (cond q MaxPositionExceeded (cond k BackPressured NotConnected)) y))
      (cond (not d) CountOutOfStep (cond (p && q) LimitPastMaxPosition (cond (p && k) ByPressure (cond (p && not k) ByConnection z))))
  middle false p q k y z h = (refl, (refl, refl))
  middle true true true k y z h = (refl, (refl, refl))
  middle true true false true y z h = (refl, (refl, refl))
  middle true true false false y z h = (refl, (refl, refl))
  middle true false q k y z h = h

-- 11, and then whether the append fits (s) or trips (t); on a trip 7 (g), 12 (l), and 19 unless the next partition is marked (f)
last : (accepted rest : Rule) (o t g l f s : Bool) → accepted ≡ rest → s ≡ not t
    → Named (cond s accepted (cond g TripPastMaxPosition (cond l ByLastTerm (cond f TermRotated ByNotCleared)))) (refuse_if o TailOverflow (Ok tt))
    (cond o ByTail (cond (t && g) TripPastMaxPosition (cond (t && l) ByLastTerm (cond (t && not f) ByNotCleared (cond t TermRotated rest)))))
last accepted rest true t g l f s e h = (refl, (refl, refl))
last accepted rest false true true l f s e h = ap (λ (b : Bool). cond b accepted TripPastMaxPosition) h
last accepted rest false true false true f s e h = ap (λ (b : Bool). cond b accepted ByLastTerm) h
last accepted rest false true false false true s e h = ap (λ (b : Bool). cond b accepted TermRotated) h
last accepted rest false true false false false s e h = ap (λ (b : Bool). cond b accepted ByNotCleared) h
last accepted rest false false g l f s e h = ap (λ (b : Bool). cond b accepted (cond g TripPastMaxPosition (cond l ByLastTerm (cond f TermRotated ByNotCleared)))) h ∙ e

-- ---- the whole

module _ (v : Reading) (ready : Bool) (n m : ℕ) where
  one-or-many : (u f : Bool) → u ≡ not f → cond u Unfragmented Fragmented ≡ cond u Unfragmented (cond f Fragmented Claimed)
  one-or-many true f e = refl
  one-or-many false true e = refl
  one-or-many false false e = absurd (let z : ◌≡◌ {A = ℕ} 0 1 = cc in omega arith)

  pub offer-named : Named (cond (fits v (need_of v m)) (offered_rule v m) (trip_rule v ready)) (offer_verdict v n m) (decided v ready n (message m))
  unfolding decided first_of order holds before_append after_closed pressed on_trip
  offer-named =
      let p = cond (fits v (need_of v m)) (offered_rule v m) (trip_rule v ready) in
      rung p (ltb 2147483647 m) IllegalArgument ByArgument _ _ (refl, (refl, refl))
      (rung p (not (sound v n)) IllegalRecord ByRecord _ _ (refl, (refl, refl))
      (rung p v.closed PublicationClosed ByClosed _ _ (refl, (refl, refl))
      (middle p (eqb (id_minus v.id v.initial) v.count) (leb v.limit (place v)) (leb (greatest v) (place v + m)) (eqb v.connected 1) _ _
      (rung p (ltb (payload_limit v) m && ltb (message_limit v) m) ExceedsMaxMessageLength ByMessage _ _ (refl, (refl, refl))
      (last (offered_rule v m) _ (ltb 2147483647 (v.offset + need_of v m)) (ltb v.term (v.offset + need_of v m)) (ltb (greatest v) (place v + v.offset)) (last_term v.count) ready (fits v (need_of v m))
      (one-or-many (leb m (payload_limit v)) (ltb (payload_limit v) m) (other m (payload_limit v))) (other (v.offset + need_of v m) v.term))))))

  pub claim-named : Named (cond (fits v (space m)) Claimed (trip_rule v ready)) (claim_verdict v n m) (decided v ready n (claim m))
  unfolding decided first_of order holds claim_verdict after_closed pressed on_trip
  claim-named =
      let p = cond (fits v (space m)) Claimed (trip_rule v ready) in
      rung p (ltb 2147483647 m) IllegalArgument ByArgument _ _ (refl, (refl, refl))
      (rung p (not (sound v n)) IllegalRecord ByRecord _ _ (refl, (refl, refl))
      (rung p v.closed PublicationClosed ByClosed _ _ (refl, (refl, refl))
      (rung p (ltb (payload_limit v) m) ExceedsMaxPayloadLength ByPayload _ _ (refl, (refl, refl))
      (middle p (eqb (id_minus v.id v.initial) v.count) (leb v.limit (place v)) (leb (greatest v) (place v + m)) (eqb v.connected 1) _ _
      (last Claimed Claimed (ltb 2147483647 (v.offset + space m)) (ltb v.term (v.offset + space m)) (ltb (greatest v) (place v + v.offset)) (last_term v.count) ready (fits v (space m)) refl
      (other (v.offset + space m) v.term))))))

-- ---- for the code: by the refusal, or by whether the append fits

named-refused : (passed x : Rule) (e : Error) (y : Result ⊤ Error) → y ≡ Err e → Named passed y x → refused_rule e ≡ x
named-refused passed x e (Ok _) q h = absurd (let z : ◌≡◌ {A = ℕ} 0 1 = cc in omega arith)
named-refused passed x e (Err d) q h = let z : d ≡ e = cc in ap refused_rule (sym z) ∙ h.0

named-passed : (passed x : Rule) (y : Result ⊤ Error) → y ≡ Ok tt → Named passed y x → passed ≡ x
named-passed passed x (Ok _) q h = h
named-passed passed x (Err e) q h = absurd (let z : ◌≡◌ {A = ℕ} 0 1 = cc in omega arith)

module _ (v : Reading) (ready : Bool) (n m : ℕ) where
  pub offer-rule-refused : (e : Error) → offer_verdict v n m ≡ Err e → refused_rule e ≡ decided v ready n (message m)
  offer-rule-refused e h = named-refused (cond (fits v (need_of v m)) (offered_rule v m) (trip_rule v ready)) (decided v ready n (message m)) e (offer_verdict v n m) h (offer-named v ready n m)

  pub offer-rule-passed : (b : Bool) → fits v (need_of v m) ≡ b → offer_verdict v n m ≡ Ok tt → cond b (offered_rule v m) (trip_rule v ready) ≡ decided v ready n (message m)
  offer-rule-passed b e h =
      ap (λ (t : Bool). cond t (offered_rule v m) (trip_rule v ready)) (sym e)
      ∙ named-passed (cond (fits v (need_of v m)) (offered_rule v m) (trip_rule v ready)) (decided v ready n (message m)) (offer_verdict v n m) h (offer-named v ready n m)

  pub claim-rule-refused : (e : Error) → claim_verdict v n m ≡ Err e → refused_rule e ≡ decided v ready n (claim m)
  claim-rule-refused e h = named-refused (cond (fits v (space m)) Claimed (trip_rule v ready)) (decided v ready n (claim m)) e (claim_verdict v n m) h (claim-named v ready n m)

  pub claim-rule-passed : (b : Bool) → fits v (space m) ≡ b → claim_verdict v n m ≡ Ok tt → cond b Claimed (trip_rule v ready) ≡ decided v ready n (claim m)
  claim-rule-passed b e h =
      ap (λ (t : Bool). cond t Claimed (trip_rule v ready)) (sym e)
      ∙ named-passed (cond (fits v (space m)) Claimed (trip_rule v ready)) (decided v ready n (claim m)) (claim_verdict v n m) h (claim-named v ready n m)

-- ---- whether the rule is one of a trip

-- an append that nothing refuses trips where it does not fit
abbrev pub trips_by : Reading → ℕ → Result ⊤ Error → Bool
trips_by v needed (Err e) = false
trips_by v needed (Ok _) = not (fits v needed)

trip-trips : (v : Reading) (ready : Bool) → is_trip (trip_rule v ready) ≡ true
unfolding on_trip
trip-trips v ready = go (ltb (greatest v) (place v + v.offset)) (last_term v.count) ready
  where
    go : (g l f : Bool) → is_trip (cond g TripPastMaxPosition (cond l ByLastTerm (cond f TermRotated ByNotCleared))) ≡ true
    go true l f = refl
    go false true f = refl
    go false false true = refl
    go false false false = refl

offered-stays : (v : Reading) (m : ℕ) → is_trip (offered_rule v m) ≡ false
offered-stays v m = go (leb m (payload_limit v))
  where
    go : (b : Bool) → is_trip (cond b Unfragmented Fragmented) ≡ false
    go true = refl
    go false = refl

module _ (v : Reading) (ready : Bool) (needed : ℕ) (accepted : Rule) (stays : is_trip accepted ≡ false) where
  passed-trips : (b : Bool) → is_trip (cond b accepted (trip_rule v ready)) ≡ not b
  passed-trips true = stays
  passed-trips false = trip-trips v ready

  named-trips : (x : Rule) (y : Result ⊤ Error) → Named (cond (fits v needed) accepted (trip_rule v ready)) y x → is_trip x ≡ trips_by v needed y
  named-trips x (Err e) h = ap (λ (b : Bool). b && leb (rule_place x) (rule_place TermRotated)) h.1.1
  named-trips x (Ok _) h = ap is_trip (sym h) ∙ passed-trips (fits v needed)

module _ (v : Reading) (ready : Bool) (n m : ℕ) where
  pub offer-trips : is_trip (decided v ready n (message m)) ≡ trips_by v (need_of v m) (offer_verdict v n m)
  offer-trips = named-trips v ready (need_of v m) (offered_rule v m) (offered-stays v m) (decided v ready n (message m)) (offer_verdict v n m) (offer-named v ready n m)

  pub claim-trips : is_trip (decided v ready n (claim m)) ≡ trips_by v (space m) (claim_verdict v n m)
  claim-trips = named-trips v ready (space m) Claimed refl (decided v ready n (claim m)) (claim_verdict v n m) (claim-named v ready n m)
