-- Every call keeps the invariant: offers and claims, accepted, refused and tripped.
use Rattle.std.specs.Prelude.{Result, Ok, Err, ⊤}
use mathlib.Core.Path.{◌≡◌, refl, sym, ap, ap₂, ◌∙◌, subst}
use mathlib.Core.Bool.{Bool, true, false, cond, not, ◌&&◌}
use Prim.Native.Nat.{ℕ, ◌+◌, ◌*◌, ◌%◌, ◌≤◌, ◌<◌}
use native.Mathlib.Nat.{mul-le-mul_right}
use mathlib.Core.List.{List, [], ◌∷◌, ◌++◌}
use native.Mathlib.Omega.{arith}
use borrow.Author.Tests.{lt-ltb, ltb-false, leb-true, leb-false}
use lib.Dec.{leb, ltb, eqb}
use lib.ListN.{length}
use lib.IntN.{ℤ, pos}
use Rattle.model.specs.declared.LogRecord.{LogRecord}
use Rattle.model.specs.declared.Claim.{Claim}
use Rattle.model.specs.declared.Reading.{Reading}
use Rattle.model.specs.declared.Error.{Error}
use Rattle.model.specs.declared.Error.TheVariants.{IllegalArgument, IllegalRecord, PositionOutOfRange, ExceedsMaxPayloadLength, PublicationClosed, AdminAction, MaxPositionExceeded, BackPressured, NotConnected, ExceedsMaxMessageLength, TailOverflow, LastTerm, ActionPossiblyDelayed, ClaimMismatch, NewPositionOutOfRange, NewPositionNotAligned, AssemblyFull, NotCleared, NotDue, FrameTooShort, FramePastTerm}
use Rattle.model.specs.Bytes.{word, long, zeros}
use Rattle.model.specs.FrameDescriptor.{space, negated}
use Rattle.model.specs.LogBufferDescriptor.{id_plus, id_minus, reading, active, payload_limit, message_limit, greatest, sound, Sound, last_term, with_tail, is_ready, rotated}
use Rattle.model.specs.TermAppender.{Fragment, sizes, written, cut, padded, claimed, claim_record, header}
use Rattle.model.specs.Publication.{place, pressed, after_closed, tail_room, fits, on_trip, trip_error, trip_next, append_next, too_long, need_of, before_append, offer_verdict, offered_by, next_by, log_by, offer_of, offer_bytes, claim_verdict, claimed_by, claim_of, claim_bytes}
use Rattle.model.specs.History.{Call, offer, claim, Answer, offered, World, Step, step, Shape, shape_of, Extent, message, claimed·, open·, size_all, pad_to, after_refusal, tell, learn, Terms, turned_by, tell_terms}
use Rattle.model.specs.History as History
use Rattle.model.specs.Demand.{EndAt}
use Rattle.model.proofs.Choice.{cond-case, split}
use Rattle.model.proofs.Sound.{id-small, term-32}
use Rattle.model.proofs.Cut.{need-one, need-small}
use Rattle.model.proofs.RuleLaws.{trips_by, offer-trips, claim-trips}
use Rattle.model.proofs.Splice.{length-splice}
use Rattle.model.proofs.Cells.{sizes-32}
use Rattle.model.proofs.OneSession.{cells}
use Rattle.model.proofs.Around.{message-size, sizes-cells}
use Rattle.model.proofs.Tails.{reading_with_tail, Tails, moved-reading, moved-tails}
use Rattle.model.proofs.Rising.{clash, Through, read-moved, read-over, over-tails, same_over, count_low}
use Rattle.model.proofs.Window.{Window, laid, laid-all, written-long}
use Rattle.model.proofs.Keeping.{Holds, long-log, is-sound, offer-holds, offer-ends, claim-holds, claim-ends, trip-holds}
use Rattle.model.proofs.Kept.{Marks, Inv, inside, header-24, pad-window, pad-long, active-is, ready-low, moved-kept, over-kept}

abbrev pub Keeps : Shape → List Extent → List Claim → Terms → Call → Step → Type 0
Keeps c h ks s y x =
    Inv c x.next (tell c h y x.answer) (learn ks x.answer) (tell_terms s y x.answer) × EndAt (size_all c (tell c h y x.answer)) x.answer

below_all : (k T : ℕ) → k < 2147483648 → k * T + T ≤ 2147483648 * T
below_all k T h = omega (arith, mul-le-mul_right T h)

-- no refusal without a trip begins a term
pub unturned : (s : Terms) (e : Error) → turned_by s false e ≡ s
unturned s IllegalArgument = refl
unturned s IllegalRecord = refl
unturned s PositionOutOfRange = refl
unturned s ExceedsMaxPayloadLength = refl
unturned s PublicationClosed = refl
unturned s AdminAction = refl
unturned s MaxPositionExceeded = refl
unturned s BackPressured = refl
unturned s NotConnected = refl
unturned s ExceedsMaxMessageLength = refl
unturned s TailOverflow = refl
unturned s LastTerm = refl
unturned s ActionPossiblyDelayed = refl
unturned s ClaimMismatch = refl
unturned s NewPositionOutOfRange = refl
unturned s NewPositionNotAligned = refl
unturned s (FrameTooShort at) = refl
unturned s (FramePastTerm at) = refl
unturned s AssemblyFull = refl
unturned s NotCleared = refl
unturned s NotDue = refl

-- how a kind of call says that it is refused, after a trip or not
record Refusing (c : Shape) (h : List Extent) (ks : List Claim) (s : Terms) (y : Call) (no : Bool → Error → Answer) : Type 0 where
  tells : (b : Bool) (e : Error) → tell c h y (no b e) ≡ after_refusal c h b
  learns : (b : Bool) (e : Error) → learn ks (no b e) ≡ ks
  turns : (b : Bool) (e : Error) → tell_terms s y (no b e) ≡ turned_by s b e
  ends : (n : ℕ) (b : Bool) (e : Error) → EndAt n (no b e)

module _ (r : LogRecord) (log : List ℕ) (h : List Extent) (ks : List Claim) (s : Terms) (t : Tails r) (long· : length log ≡ 3 * (reading r).term) (all : List ℕ)
    (i : Holds (shape_of (reading r)) (reading r) all h ks) (win : Window (reading r).term log all s.cleared) (marks : Marks r s) where
  abbrev v : Reading
  v = reading r

  abbrev c : Shape
  c = shape_of (reading r)

  abbrev T : ℕ
  T = (reading r).term

  abbrev w : World
  w = record { record· = r; log = log }

  even : T % 32 ≡ 0
  even = term-32 v (3 * T) (is-sound v all h ks i (3 * T) refl)

  sound· : Sound v (length log)
  sound· = is-sound v all h ks i (length log) long·

  base-is : v.count % 3 * T ≡ active r * T
  base-is = ap (λ (n : ℕ). n * T) (sym (active-is r))

  -- the active term is in the window, its partition in the log
  low : s.cleared ≤ v.count
  low = omega (arith, marks.low, marks.turns)

  high : v.count ≤ s.cleared + 2
  high = omega (arith, marks.high, marks.turns)

  in-log : v.count % 3 * T + T ≤ length log
  in-log = inside T (v.count % 3) (length log) long· (omega arith)

  in_all : v.count * T + T ≤ length all
  in_all = omega (arith, long-log v all h ks i, below_all v.count T i.low)

  -- ---- refused before the tail moves

  module _ (y : Call) (no : Bool → Error → Answer) (f : Refusing c h ks s y no) where
    none-keeps : (e : Error) → Keeps c h ks s y (record { answer = no false e; next = w })
    none-keeps e = (
      subst (λ (g : List Extent). Inv c w g (learn ks (no false e)) (tell_terms s y (no false e))) (sym (f.tells false e))
          (subst (λ (l : List Claim). Inv c w h l (tell_terms s y (no false e))) (sym (f.learns false e))
          (subst (Inv c w h ks) (sym (f.turns false e ∙ unturned s e)) (record { tails = t; long = long·; all = all; holds = i; window = win; marks = marks }))),
      f.ends _ false e,
    )

    -- ---- a trip

    trip-keeps : (e : Error) (next : LogRecord) (s' : Terms) → turned_by s true e ≡ s' → s'.cleared ≡ s.cleared → Tails next → Marks next s'
        → Holds c (reading next) (padded v all (v.count * T)) (pad_to c h) ks
        → Keeps c h ks s y (record { answer = no true e; next = record { record· = next; log = padded v log (active r * T) } })
    trip-keeps e next s' q z u k g = (
      subst (λ (x : List Extent). Inv c n' x (learn ks (no true e)) (tell_terms s y (no true e))) (sym (f.tells true e))
          (subst (λ (l : List Claim). Inv c n' (pad_to c h) l (tell_terms s y (no true e))) (sym (f.learns true e))
          (subst (Inv c n' (pad_to c h) ks) (sym (f.turns true e ∙ q))
          (record {
            tails = u;
            long = subst (λ (b : ℕ). length (padded v log b) ≡ 3 * T) base-is (pad-long v log all s.cleared v.count low high even i.whole in-log in_all ∙ long·);
            all = padded v all (v.count * T);
            holds = g;
            window = subst (λ (b : ℕ). Window T (padded v log b) (padded v all (v.count * T)) s'.cleared) base-is
                (subst (Window T (padded v log (v.count % 3 * T)) (padded v all (v.count * T))) (sym z) (pad-window v log all s.cleared v.count low high even i.whole in-log in_all win));
            marks = k;
          }))),
      f.ends _ true e,
    )
      where
        n' : World
        n' = record { record· = next; log = padded v log (active r * T) }

    module _ (needed : ℕ) (on : needed % 32 ≡ 0) (le : needed ≤ T) (past : T < v.offset + needed) (room : v.offset + needed ≤ 2147483647) where
      th : Through v (length log) needed
      th = record { is-sound = sound·; room = room }

      abbrev moved : LogRecord
      moved = with_tail r (active r) v.id (v.offset + needed)

      tails' : Tails moved
      tails' = moved-tails r t (v.offset + needed) (omega arith)

      marks' : Marks moved s
      marks' = moved-kept r s marks t (v.offset + needed) (omega arith)

      moved_holds : Holds c (reading moved) (padded v all (v.count * T)) (pad_to c h) ks
      moved_holds =
          subst (λ (x : Reading). Holds c x (padded v all (v.count * T)) (pad_to c h) ks) (sym (moved-reading r t (v.offset + needed) (omega arith)))
          (trip-holds v all h ks i (omega arith) v.count v.id (v.offset + needed) i.here i.low (omega arith) (omega (arith, i.whole)) room)

      module _ (b : last_term v.count ≡ false) where
        more : (reading moved).count < 2147483647
        more = count_low r (length log) needed t th b

        over-holds : Holds c (reading (rotated moved v.count v.id)) (padded v all (v.count * T)) (pad_to c h) ks
        over-holds =
            let e = read-over r (length log) needed t th b in
            let n : v.count < 2147483647 = subst (λ (x : Reading). x.count < 2147483647) (read-moved r (length log) needed t th) more in
            subst (λ (x : Reading). Holds c x (padded v all (v.count * T)) (pad_to c h) ks) (sym e)
            (trip-holds v all h ks i (omega arith) (v.count + 1) (id_plus v.id 1) 0 (omega (arith, i.here)) (omega arith) (omega arith) (omega arith) (omega arith))

        over-marks : is_ready r ≡ true → Marks (rotated moved v.count v.id) (record { turns = s.turns + 1; cleared = s.cleared })
        over-marks y =
            subst (λ (x : LogRecord). Marks x (record { turns = s.turns + 1; cleared = s.cleared })) (sym (same_over r (length log) needed t th b))
            (over-kept moved s marks' tails' more (ready-low r s marks t y))

      tripped : Keeps c h ks s y (record { answer = no true (trip_error v (is_ready r)); next = record { record· = trip_next moved v (is_ready r); log = padded v log (active r * T) } })
      unfolding on_trip
      tripped = go (ltb (greatest v) (place v + v.offset)) (last_term v.count) (is_ready r) refl refl
        where
          go : (a b d : Bool) → last_term v.count ≡ b → is_ready r ≡ d
              → Keeps c h ks s y
              (record {
                answer = no true (cond a MaxPositionExceeded (cond b LastTerm (cond d AdminAction NotCleared)));
                next = record { record· = cond a moved (cond b moved (cond d (rotated moved v.count v.id) moved)); log = padded v log (active r * T) };
              })
          go true b d f g = trip-keeps MaxPositionExceeded moved s refl refl tails' marks' moved_holds
          go false true d f g = trip-keeps LastTerm moved s refl refl tails' marks' moved_holds
          go false false true f g =
              trip-keeps AdminAction (rotated moved v.count v.id) (record { turns = s.turns + 1; cleared = s.cleared }) refl refl (over-tails r (length log) needed t th f) (over-marks f g) (over-holds f)
          go false false false f g = trip-keeps NotCleared moved s refl refl tails' marks' moved_holds

  -- ---- what the ladders let through

  -- a verdict that refuses, or passes with what `Q` says
  Sure : Type 0 → Result ⊤ Error → Type 0
  Sure Q (Ok _) = Q
  Sure Q (Err e) = Unit {0}

  sure-no : (Q : Type 0) (e : Error) → Sure Q (Err e)
  unfolding Sure
  sure-no Q e = tt

  sure-pass : (Q : Type 0) → Q → Sure Q (Ok tt)
  unfolding Sure
  sure-pass Q q = q

  rung : (Q : Type 0) (b : Bool) (e : Error) (x : Result ⊤ Error) → (b ≡ false → Sure Q x) → Sure Q (cond b (Err e) x)
  rung Q b e x f = cond-case (Sure Q) b (Err e) x (λ q. sure-no Q e) f

  after-sure : (Q : Type 0) (m : ℕ) (x : Result ⊤ Error) → Sure Q x → Sure Q (after_closed v m x)
  unfolding after_closed
  after-sure Q m x s = rung Q (not (eqb (id_minus v.id v.initial) v.count)) AdminAction _ (λ e. rung Q (leb v.limit (place v)) (pressed v m) x (λ e. s))

  room-sure : (Q : Type 0) (needed : ℕ) → (v.offset + needed ≤ 2147483647 → Q) → Sure Q (tail_room v needed)
  room-sure Q needed q = rung Q (ltb 2147483647 (v.offset + needed)) TailOverflow (Ok tt) (λ e. sure-pass Q (q (ltb-false 2147483647 (v.offset + needed) e)))

  abbrev OfferPasses : ℕ → Type 0
  OfferPasses m = (too_long v m ≡ false) × (v.offset + need_of v m ≤ 2147483647)

  offer-sure : (m : ℕ) → Sure (OfferPasses m) (offer_verdict v (length log) m)
  unfolding before_append
  offer-sure m =
      let Q = OfferPasses m in
      rung Q (ltb 2147483647 m) IllegalArgument _
      (λ l. rung Q (not (sound v (length log))) IllegalRecord _
      (λ e. rung Q v.closed PublicationClosed _
      (λ e. after-sure Q m _ (rung Q (too_long v m) ExceedsMaxMessageLength _ (λ f. room-sure Q (need_of v m) (λ o. (f, o)))))))

  abbrev ClaimPasses : ℕ → Type 0
  ClaimPasses m = (m ≤ payload_limit v) × (v.offset + space m ≤ 2147483647)

  claim-sure : (m : ℕ) → Sure (ClaimPasses m) (claim_verdict v (length log) m)
  unfolding claim_verdict
  claim-sure m =
      let Q = ClaimPasses m in
      rung Q (ltb 2147483647 m) IllegalArgument _
      (λ l. rung Q (not (sound v (length log))) IllegalRecord _
      (λ e. rung Q v.closed PublicationClosed _
      (λ e. rung Q (ltb (payload_limit v) m) ExceedsMaxPayloadLength _
      (λ f. after-sure Q m _ (room-sure Q (space m) (λ o. (ltb-false (payload_limit v) m f, o)))))))

  -- ---- what an append that is let through needs

  pay-low : 32 ≤ payload_limit v
  pay-low = omega (arith, i.fixed.mtu-low)

  long-rows : (m : ℕ) → payload_limit v < m → too_long v m ≡ false → m ≤ message_limit v
  long-rows m l e = go (ltb (message_limit v) m) refl
    where
      go : (b : Bool) → ltb (message_limit v) m ≡ b → m ≤ message_limit v
      go false q = ltb-false (message_limit v) m q
      go true q = clash (too_long v m) (ap₂ ◌&&◌ (lt-ltb (payload_limit v) m l) q) e

  -- a message in bounds goes into an empty term
  need-most : (m : ℕ) → too_long v m ≡ false → need_of v m ≤ T
  need-most m e =
      split m (payload_limit v)
      (λ l. omega (arith, need-one (payload_limit v) m l, i.fixed.mtu-high, i.fixed.term-low))
      (λ l. omega (arith, need-small (payload_limit v) m pay-low (omega (arith, i.fixed.mtu-low, i.fixed.mtu-32)), long-rows m l e, i.fixed.term-low))

  size_is : (re : ℕ) (m : List ℕ) → sizes (cut (payload_limit v) re m) ≡ need_of v (length m)
  size_is re m = sym (sizes-cells (cut (payload_limit v) re m)) ∙ message-size c (omega (arith, pay-low)) (omega (arith, i.fixed.mtu-low, i.fixed.mtu-32)) re m

  need-32 : (re : ℕ) (m : List ℕ) → need_of v (length m) % 32 ≡ 0
  need-32 re m =
      ap (λ (n : ℕ). n % 32) (sym (message-size c (omega (arith, pay-low)) (omega (arith, i.fixed.mtu-low, i.fixed.mtu-32)) re m)) ∙ sizes-32 (cells (cut (payload_limit v) re m))

  -- ---- offer

  module _ (m : List ℕ) (re : ℤ) where
    abbrev n· : ℕ
    n· = need_of (reading r) (length m)

    abbrev fs : List Fragment
    fs = cut (payload_limit (reading r)) (long re) m

    abbrev new : List ℕ
    new = written v log (active r * T) v.offset fs

    offer-refusing : Refusing c h ks s (offer m re) (λ (b : Bool) (e : Error). offered b (Err e))
    unfolding tell tell_terms
    offer-refusing = record { tells = λ b e. refl; learns = λ b e. refl; turns = λ b e. refl; ends = λ n b e. tt }

    offer-fits : (b : Bool) → fits v n· ≡ b → OfferPasses (length m)
        → Keeps c h ks s (offer m re)
        (record {
          answer = offered (not b) (cond b (Ok (pos (place v + n·))) (Err (trip_error v (is_ready r))));
          next = record { record· = cond b (with_tail r (active r) v.id (v.offset + n·)) (trip_next (with_tail r (active r) v.id (v.offset + n·)) v (is_ready r)); log = cond b new (padded v log (active r * T)) };
        })
    unfolding tell tell_terms
    offer-fits true f q =
        let l : v.offset + n· ≤ T = leb-true (v.offset + n·) T f in
        let z = size_is (long re) m in (
          record {
            tails = moved-tails r t (v.offset + n·) (omega (arith, q.1));
            long = subst (λ (b : ℕ). length (written v log b v.offset fs) ≡ 3 * T) base-is
                (written-long v T s.cleared v.count low high log (v.count % 3 * T) v.offset fs (omega arith) in-log ∙ long·);
            all = written v all (v.count * T) v.offset fs;
            holds = subst (λ (x : Reading). Holds c x (written v all (v.count * T) v.offset fs) (h ++ (message re m ∷ [])) ks) (sym (moved-reading r t (v.offset + n·) (omega (arith, q.1))))
                (offer-holds v all h ks i re m l q.1);
            window = subst (λ (b : ℕ). Window T (written v log b v.offset fs) (written v all (v.count * T) v.offset fs) s.cleared) base-is
                (laid-all v T s.cleared v.count low high log all v.offset fs (omega arith) in-log in_all win);
            marks = moved-kept r s marks t (v.offset + n·) (omega (arith, q.1));
          },
          ap pos (offer-ends v all h ks i re m (omega arith)),
        )
    offer-fits false f q =
        tripped (offer m re) (λ (b : Bool) (e : Error). offered b (Err e)) offer-refusing n· (need-32 (long re) m) (need-most (length m) q.0) (leb-false (v.offset + n·) T f) q.1

    offer-by : (x : Result ⊤ Error) → Sure (OfferPasses (length m)) x
        → Keeps c h ks s (offer m re) (record { answer = offered (trips_by v n· x) (offered_by r v n· x); next = record { record· = next_by r v n· x; log = log_by r v log new n· x } })
    unfolding append_next Sure
    offer-by (Ok _) s = offer-fits (fits v n·) refl s
    offer-by (Err e) s = none-keeps (offer m re) (λ (b : Bool) (e : Error). offered b (Err e)) offer-refusing e

    pub offer-keeps : Keeps c h ks s (offer m re) (step w (offer m re))
    unfolding step offer_of offer_bytes
    offer-keeps =
        let y = offer_verdict v (length log) (length m) in
        subst (λ (b : Bool). Keeps c h ks s (offer m re) (record { answer = offered b (offered_by r v n· y); next = record { record· = next_by r v n· y; log = log_by r v log new n· y } }))
        (sym (offer-trips v (is_ready r) (length log) (length m))) (offer-by y (offer-sure (length m)))

  -- ---- claim

  module _ (n : ℤ) where
    abbrev m· : ℕ
    m· = word n

    abbrev hd : List ℕ
    hd = header v v.offset (negated (word n + 32)) 192 1

    abbrev new· : List ℕ
    new· = claimed v log (active r * T) (word n)

    claim-refusing : Refusing c h ks s (claim n) (λ (b : Bool) (e : Error). History.claimed b (Err e))
    unfolding tell tell_terms
    claim-refusing = record { tells = λ b e. refl; learns = λ b e. refl; turns = λ b e. refl; ends = λ n b e. tt }

    claim-long : v.offset + space m· ≤ T → length (claimed v log (v.count % 3 * T) m·) ≡ 3 * T
    unfolding claimed
    claim-long l = length-splice log (v.count % 3 * T + v.offset) hd (omega (arith, header-24 v v.offset (negated (m· + 32)) 192 1, in-log)) ∙ long·

    claim-window : v.offset + space m· ≤ T → Window T (claimed v log (v.count % 3 * T) m·) (claimed v all (v.count * T) m·) s.cleared
    unfolding claimed
    claim-window l =
        laid T log all v.offset hd (omega (arith, header-24 v v.offset (negated (m· + 32)) 192 1)) s.cleared v.count low high (omega (arith, in-log)) (omega (arith, in_all)) win

    claim-fits : (b : Bool) → fits v (space m·) ≡ b → ClaimPasses m·
        → Keeps c h ks s (claim n)
        (record {
          answer = History.claimed (not b) (cond b (Ok (record { position = pos (place v + space m·); claim = claim_record v (active r) m· })) (Err (trip_error v (is_ready r))));
          next = record { record· = cond b (with_tail r (active r) v.id (v.offset + space m·)) (trip_next (with_tail r (active r) v.id (v.offset + space m·)) v (is_ready r)); log = cond b new· (padded v log (active r * T)) };
        })
    unfolding tell tell_terms
    claim-fits true f q =
        let l : v.offset + space m· ≤ T = leb-true (v.offset + space m·) T f in
        let g = h ++ (claimed· open· (zeros m·) ∷ []) in
        let k = claim-holds v all h ks i (id-small r (active r)) m· q.0 l q.1 in (
          record {
            tails = moved-tails r t (v.offset + space m·) (omega (arith, q.1));
            long = subst (λ (b : ℕ). length (claimed v log b m·) ≡ 3 * T) base-is (claim-long l);
            all = claimed v all (v.count * T) m·;
            holds = subst (λ (x : Reading). Holds c x (claimed v all (v.count * T) m·) g (claim_record v (active r) m· ∷ ks)) (sym (moved-reading r t (v.offset + space m·) (omega (arith, q.1))))
                (subst (λ (a : ℕ). Holds c (reading_with_tail v v.count v.id (v.offset + space m·)) (claimed v all (v.count * T) m·) g (claim_record v a m· ∷ ks)) (sym (active-is r)) k);
            window = subst (λ (b : ℕ). Window T (claimed v log b m·) (claimed v all (v.count * T) m·) s.cleared) base-is (claim-window l);
            marks = moved-kept r s marks t (v.offset + space m·) (omega (arith, q.1));
          },
          ap pos (claim-ends v all h ks i m· (omega arith)),
        )
    claim-fits false f q =
        tripped (claim n) (λ (b : Bool) (e : Error). History.claimed b (Err e)) claim-refusing (space m·) (omega arith) (omega (arith, q.0, i.fixed.mtu-high, i.fixed.term-low)) (leb-false (v.offset + space m·) T f) q.1

    claim-by : (x : Result ⊤ Error) → Sure (ClaimPasses m·) x
        → Keeps c h ks s (claim n) (record { answer = History.claimed (trips_by v (space m·) x) (claimed_by r v m· x); next = record { record· = next_by r v (space m·) x; log = log_by r v log new· (space m·) x } })
    unfolding append_next Sure
    claim-by (Ok _) s = claim-fits (fits v (space m·)) refl s
    claim-by (Err e) s = none-keeps (claim n) (λ (b : Bool) (e : Error). History.claimed b (Err e)) claim-refusing e

    pub claim-keeps : Keeps c h ks s (claim n) (step w (claim n))
    unfolding step claim_of claim_bytes
    claim-keeps =
        let y = claim_verdict v (length log) m· in
        subst (λ (b : Bool). Keeps c h ks s (claim n) (record { answer = History.claimed b (claimed_by r v m· y); next = record { record· = next_by r v (space m·) y; log = log_by r v log new· (space m·) y } }))
        (sym (claim-trips v (is_ready r) (length log) m·)) (claim-by y (claim-sure m·))
