-- The theorem of R-10: the rule answered is the first in the order that applies, for every input, and tells the number and whether the tail has moved.
use Rattle.std.specs.Prelude.{Result, Ok, Err, ⊤}
use Rattle.model.specs.declared.Error.{Error}
use mathlib.Core.Path.{◌≡◌, refl, sym, ap, ◌∙◌}
use mathlib.Core.Bool.{Bool, true, false, cond}
use Prim.Native.Nat.{ℕ, suc, ◌+◌, ◌-◌, ◌*◌, ◌%◌, ◌≤◌, ◌<◌}
use mathlib.Core.List.{List, [], ◌∷◌}
use native.Mathlib.Omega.{arith}
use borrow.Author.Tests.{lt-ltb, leb-false}
use lib.Dec.{eqb, leb, ltb}
use lib.ListN.{length, get_or}
use lib.Seq.{get_or-set_same, get_or-set_other}
use lib.IntN.{ℤ, pos}
use Rattle.model.specs.declared.LogRecord.{LogRecord}
use Rattle.model.specs.declared.Reading.{Reading}
use Rattle.model.specs.declared.Error.TheVariants.{MaxPositionExceeded, LastTerm, NotCleared, AdminAction}
use Rattle.model.specs.declared.Rule.{Rule}
use Rattle.model.specs.declared.Rule.TheVariants.{IllegalArgument as ByArgument, IllegalRecord as ByRecord, PublicationClosed as ByClosed, ExceedsMaxPayloadLength as ByPayload, CountOutOfStep, LimitPastMaxPosition, BackPressured as ByPressure, NotConnected as ByConnection, ExceedsMaxMessageLength as ByMessage, TailOverflow as ByTail, TripPastMaxPosition, LastTerm as ByLastTerm, NotCleared as ByNotCleared, TermRotated, Unfragmented, Fragmented, Claimed}
use Rattle.model.specs.Bytes.{word, long}
use Rattle.model.specs.Errors.{number_of}
use Rattle.model.specs.Answers.{offered_told, claimed_told}
use Rattle.model.specs.FrameDescriptor.{space}
use Rattle.model.specs.LogBufferDescriptor.{id_plus, id_of, offset_of, raw_of, tail_of, reading_of, active, reading, payload_limit, greatest, last_term, is_ready, changed, noted, with_tail, with_mark, with_count, next_tail, rotated}
use Rattle.model.specs.TermAppender.{written, cut, claimed, claim_record}
use Rattle.model.specs.Rule.{rule_number, rule_place, moves, order, first_of, Asked, message, claim, holds, decided}
use Rattle.model.specs.Publication.{place, fits, on_trip, trip_error, append_next, need_of, offer_verdict, offered_by, next_by, log_by, offer_of, offer_bytes, claim_verdict, claimed_by, claim_of, claim_bytes}
use Rattle.model.specs.DecidingRule.{DecidingRule}
use Rattle.model.proofs.Both.{test as test-case}
use Rattle.model.proofs.Choice.{cond-true, cond-false, cond-case, split}
use Rattle.model.proofs.Cut.{need-some}
use Rattle.model.proofs.RawTail.{raw-offset}
use Rattle.model.proofs.Rising.{clash, Lets, lets-through, offer-lets, claim-lets}
use Rattle.model.proofs.RuleLaws.{Named, trip_rule, offered_rule, offer-named, claim-named}

-- ---- the first in the order

-- the rules of a list have the places n, n + 1, ..
Rises : ℕ → List Rule → Type 0
Rises n [] = Unit {0}
Rises n (x ∷ xs) = (rule_place x ≡ n) × Rises (suc n) xs

order-rises : Rises 1 order
unfolding Rises order
order-rises = (refl, (refl, (refl, (refl, (refl, (refl, (refl, (refl, (refl, (refl, (refl, (refl, (refl, (refl, (refl, (refl, (refl, tt)))))))))))))))))

order-long : length order ≡ 17
unfolding order
order-long = refl

-- every rule stands in the order at its place
abbrev Stands : Rule → Type 0
Stands x = (get_or order (rule_place x - 1) Claimed ≡ x) × ((1 ≤ rule_place x) × (rule_place x < 18))

stands : (x : Rule) → Stands x
unfolding order
stands ByArgument = (refl, (omega arith, omega arith))
stands ByRecord = (refl, (omega arith, omega arith))
stands ByClosed = (refl, (omega arith, omega arith))
stands ByPayload = (refl, (omega arith, omega arith))
stands CountOutOfStep = (refl, (omega arith, omega arith))
stands LimitPastMaxPosition = (refl, (omega arith, omega arith))
stands ByPressure = (refl, (omega arith, omega arith))
stands ByConnection = (refl, (omega arith, omega arith))
stands ByMessage = (refl, (omega arith, omega arith))
stands ByTail = (refl, (omega arith, omega arith))
stands TripPastMaxPosition = (refl, (omega arith, omega arith))
stands ByLastTerm = (refl, (omega arith, omega arith))
stands ByNotCleared = (refl, (omega arith, omega arith))
stands TermRotated = (refl, (omega arith, omega arith))
stands Unfragmented = (refl, (omega arith, omega arith))
stands Fragmented = (refl, (omega arith, omega arith))
stands Claimed = (refl, (omega arith, omega arith))

same_place : (x y : Rule) → rule_place x ≡ rule_place y → x ≡ y
same_place x y e = sym (stands x).0 ∙ ap (λ (n : ℕ). get_or order (n - 1) Claimed) e ∙ (stands y).0

module _ (test : Rule → Bool) where
  -- of a list that rises from n, the first that holds stands no later than any that holds
  least : (n : ℕ) (xs : List Rule) (x : Rule) → Rises n xs → n ≤ rule_place x → rule_place x < n + length xs → test x ≡ true
      → (test (first_of test xs) ≡ true) × (rule_place (first_of test xs) ≤ rule_place x)
  unfolding Rises first_of
  least n [] x r low high h = absurd (omega arith)
  least n (y ∷ ys) x r low high h =
      test-case (test y) (λ e. let z = cond-true (test y) y (first_of test ys) e in (ap test z ∙ e, omega (arith, ap rule_place z, r.0)))
      (λ e.
      let l : n < rule_place x = split (rule_place x) n (λ (l : rule_place x ≤ n). clash (test x) h (ap test (same_place x y (omega (arith, r.0))) ∙ e)) (λ (l : n < rule_place x). l) in
      let q = least (suc n) ys x r.1 l (omega arith) h in
      let z = cond-false (test y) y (first_of test ys) e in (ap test z ∙ q.0, omega (arith, ap rule_place z, q.1)))

  -- of the whole order, where any rule holds
  first-in-order : (x : Rule) → test x ≡ true → (test (first_of test order) ≡ true) × (rule_place (first_of test order) ≤ rule_place x)
  first-in-order x h = least 1 order x order-rises (stands x).1.0 (omega (arith, order-long, (stands x).1.1)) h

-- ---- the tail

-- a rotation leaves every tail but that of the next partition
turned-tail : (x : LogRecord) (n i k : ℕ) → ¬ (k ≡ (n + 1) % 3) → tail_of (rotated x n i) k ≡ tail_of x k
unfolding rotated next_tail with_count with_mark noted with_tail changed
turned-tail x n i k h =
    cond-case (λ (y : LogRecord). tail_of y k ≡ tail_of x k) (eqb (id_plus (id_of (tail_of x ((n + 1) % 3))) 2) i) (with_tail x ((n + 1) % 3) (id_plus i 1) 0) x
    (λ q. get_or-set_other x.tails ((n + 1) % 3) k (raw_of (id_plus i 1) 0) (pos 0) h) (λ q. refl)

-- an append moves the tail of the partition that was active, and a rotation another one
module _ (r : LogRecord) (needed : ℕ) (three : length r.tails ≡ 3) (small : (reading r).offset + needed < 4294967296) where
  abbrev v : Reading
  v = reading r

  abbrev moved : LogRecord
  moved = with_tail r (active r) v.id (v.offset + needed)

  abbrev at : LogRecord → ℕ
  at next = offset_of (tail_of next (active r))

  moved_at : at moved ≡ v.offset + needed
  unfolding with_tail changed
  moved_at =
      ap offset_of (get_or-set_same r.tails (active r) (raw_of v.id (v.offset + needed)) (pos 0) (omega arith))
      ∙ raw-offset v.id (v.offset + needed) small

  appended-at : (reading_of (append_next r v needed) (active r)).offset ≡ v.offset + needed
  unfolding append_next on_trip reading_of
  appended-at = go (fits v needed) (ltb (greatest v) (place v + v.offset)) (last_term v.count) (is_ready r)
    where
      go : (b g l f : Bool) → at (cond b moved (cond g moved (cond l moved (cond f (rotated moved v.count v.id) moved)))) ≡ v.offset + needed
      go true g l f = moved_at
      go false true l f = moved_at
      go false false true f = moved_at
      go false false false false = moved_at
      go false false false true = ap offset_of (turned-tail moved v.count v.id (active r) (λ q. omega arith)) ∙ moved_at

-- ---- number, tail, record and log, by the verdict

-- a trip's rule has the refusal's number, and moves the tail
trip-numbered : (v : Reading) (ready : Bool) → (number_of (trip_error v ready) ≡ rule_number (trip_rule v ready)) × (moves (trip_rule v ready) ≡ true)
unfolding on_trip
trip-numbered v ready = go (ltb (greatest v) (place v + v.offset)) (last_term v.count) ready
  where
    go : (g l f : Bool)
        → (number_of (cond g MaxPositionExceeded (cond l LastTerm (cond f AdminAction NotCleared))) ≡ rule_number (cond g TripPastMaxPosition (cond l ByLastTerm (cond f TermRotated ByNotCleared))))
        × (moves (cond g TripPastMaxPosition (cond l ByLastTerm (cond f TermRotated ByNotCleared))) ≡ true)
    go true l f = (refl, refl)
    go false true f = (refl, refl)
    go false false true = (refl, refl)
    go false false false = (refl, refl)

offered-numbered : (v : Reading) (m : ℕ) → (pos 0 ≡ rule_number (offered_rule v m)) × (moves (offered_rule v m) ≡ true)
offered-numbered v m = go (leb m (payload_limit v))
  where
    go : (b : Bool) → (pos 0 ≡ rule_number (cond b Unfragmented Fragmented)) × (moves (cond b Unfragmented Fragmented) ≡ true)
    go true = (refl, refl)
    go false = (refl, refl)

-- the answer's number
abbrev told : Reading → Bool → ℕ → Result ⊤ Error → ℤ
told v ready needed (Ok _) = cond (fits v needed) (pos 0) (number_of (trip_error v ready))
told v ready needed (Err e) = number_of e

offered-told : (r : LogRecord) (v : Reading) (needed : ℕ) (y : Result ⊤ Error) → (offered_told (offered_by r v needed y)).number ≡ told v (is_ready r) needed y
offered-told r v needed (Err e) = refl
offered-told r v needed (Ok _) = go (fits v needed)
  where
    go : (b : Bool) → (offered_told (cond b (Ok (pos (place v + needed))) (Err (trip_error v (is_ready r))))).number ≡ cond b (pos 0) (number_of (trip_error v (is_ready r)))
    go true = refl
    go false = refl

claimed-told : (r : LogRecord) (v : Reading) (m : ℕ) (y : Result ⊤ Error) → (claimed_told (claimed_by r v m y)).number ≡ told v (is_ready r) (space m) y
claimed-told r v m (Err e) = refl
claimed-told r v m (Ok _) = go (fits v (space m))
  where
    go : (b : Bool)
        → (claimed_told (cond b (Ok (record { position = pos (place v + space m); claim = claim_record v (active r) m })) (Err (trip_error v (is_ready r))))).number ≡ cond b (pos 0) (number_of (trip_error v (is_ready r)))
    go true = refl
    go false = refl

module _ (r : LogRecord) (log new : List ℕ) (needed : ℕ) (accepted : Rule) (good : (pos 0 ≡ rule_number accepted) × (moves accepted ≡ true)) (three : length r.tails ≡ 3) where
  abbrev v· : Reading
  v· = reading r

  passes : (b : Bool) → (cond b (pos 0) (number_of (trip_error v· (is_ready r))) ≡ rule_number (cond b accepted (trip_rule v· (is_ready r)))) × (moves (cond b accepted (trip_rule v· (is_ready r))) ≡ true)
  passes true = good
  passes false = trip-numbered v· (is_ready r)

  record Left (y : Result ⊤ Error) (x : Rule) : Type 0 where
    numbered : told v· (is_ready r) needed y ≡ rule_number x
    moved : moves x ≡ true → (reading_of (next_by r v· needed y) (active r)).offset ≡ v·.offset + needed
    still : moves x ≡ false → (next_by r v· needed y ≡ r) × (log_by r v· log new needed y ≡ log)

  by-verdict : (y : Result ⊤ Error) (x : Rule) → Named (cond (fits v· needed) accepted (trip_rule v· (is_ready r))) y x → Lets v· (length log) needed y → Left y x
  by-verdict (Ok _) x h l =
      let p = passes (fits v· needed) in
      let t = lets-through v· (length log) needed l in
      record {
        numbered = p.0 ∙ ap rule_number h;
        moved = λ e. appended-at r needed three (omega (arith, t.room));
        still = λ e. clash (moves x) (ap moves (sym h) ∙ p.1) e;
      }
  by-verdict (Err d) x h l = record { numbered = h.1.0; moved = λ e. clash (moves x) e h.1.1; still = λ e. (refl, refl) }

-- ---- the theorem

module _ (v : Reading) (ready : Bool) (n : ℕ) where
  -- a rule that holds stands no earlier than the one answered
  first-of : (a : Asked) (x : Rule) → holds v ready n a x ≡ true → rule_place (decided v ready n a) ≤ rule_place x
  unfolding decided
  first-of a x h = (first-in-order (holds v ready n a) x h).1

  -- of any message one of the two rules that accept holds by itself, and of any claim the last
  offer-applies : (m : ℕ) → holds v ready n (message m) (decided v ready n (message m)) ≡ true
  unfolding decided holds
  offer-applies m =
      test-case (leb m (payload_limit v)) (λ e. (first-in-order (holds v ready n (message m)) Unfragmented e).0)
      (λ e. (first-in-order (holds v ready n (message m)) Fragmented (lt-ltb (payload_limit v) m (leb-false m (payload_limit v) e))).0)

  claim-applies : (m : ℕ) → holds v ready n (claim m) (decided v ready n (claim m)) ≡ true
  unfolding decided holds
  claim-applies m = (first-in-order (holds v ready n (claim m)) Claimed refl).0

pub deciding-rule : DecidingRule
unfolding offer_of offer_bytes claim_of claim_bytes
deciding-rule =
    record {
      offers = λ r log m reserved three.
          let v = reading r in
          let n = length m in
          let y = offer_verdict v (length log) n in
          let l = by-verdict r log (written v log (active r * v.term) v.offset (cut (payload_limit v) (long reserved) m)) (need_of v n) (offered_rule v n) (offered-numbered v n) three y
          (decided v (is_ready r) (length log) (message n)) (offer-named v (is_ready r) (length log) n) (offer-lets v (length log) n) in
          record {
            applies = offer-applies v (is_ready r) (length log) n;
            first = first-of v (is_ready r) (length log) (message n);
            numbered = offered-told r v (need_of v n) y ∙ l.numbered;
            moved = l.moved;
            some = need-some (payload_limit v) n;
            still = l.still;
          };
      claims = λ r log m three.
          let v = reading r in
          let n = word m in
          let y = claim_verdict v (length log) n in
          let l = by-verdict r log (claimed v log (active r * v.term) n) (space n) Claimed (refl, refl) three y (decided v (is_ready r) (length log) (claim n)) (claim-named v (is_ready r) (length log) n)
          (claim-lets v (length log) n) in
          record {
            applies = claim-applies v (is_ready r) (length log) n;
            first = first-of v (is_ready r) (length log) (claim n);
            numbered = claimed-told r v n y ∙ l.numbered;
            moved = l.moved;
            some = omega arith;
            still = l.still;
          };
    }
