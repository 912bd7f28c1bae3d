-- Every call keeps the tails in step, and the publisher's position does not fall; an accepted offer or claim answers the position that
-- it reaches, and that one is greater. All of it from the tails alone, whatever the log holds, and past the third term.
use Rattle.std.specs.Prelude.{Result, Ok, Err, ⊤, ℤ}
use mathlib.Core.Path.{◌≡◌, refl, sym, ap, ap₂, ◌∙◌, subst}
use mathlib.Core.Bool.{Bool, true, false, cond, not}
use Prim.Native.Nat.{ℕ, ◌+◌, ◌*◌, ◌≤◌, ◌<◌, min}
use native.Mathlib.Nat.{le_refl, le_trans}
use mathlib.Core.List.{List, [], ◌∷◌}
use native.Mathlib.Omega.{arith}
use borrow.Author.Tests.{ltb-false, leb-true, eqb-false, not-false}
use lib.Dec.{leb, ltb, eqb}
use lib.ListN.{length}
use lib.IntN.{pos}
use Rattle.model.specs.declared.LogRecord.{LogRecord}
use Rattle.model.specs.declared.Reading.{Reading}
use Rattle.model.specs.declared.Error.{Error}
use Rattle.model.specs.declared.Error.TheVariants.{IllegalArgument, IllegalRecord, ExceedsMaxPayloadLength, PublicationClosed, AdminAction, ExceedsMaxMessageLength, TailOverflow}
use Rattle.model.specs.declared.RecordReply.{RecordReply}
use Rattle.model.specs.declared.Claimed.{Claimed}
use Rattle.model.specs.Bytes.{word, long}
use Rattle.model.specs.FrameDescriptor.{space}
use Rattle.model.specs.LogBufferDescriptor.{id_plus, id_minus, reading, active, payload_limit, greatest, sound_record, sound, Sound, last_term, with_tail, with_limit, with_closed, with_slowest, with_mark, is_ready, rotated}
use Rattle.model.specs.TermAppender.{claim_record}
use Rattle.model.specs.Publication.{change_of, place, pressed, after_closed, tail_room, fits, on_trip, trip_error, trip_next, append_next, too_long, need_of, before_append, offer_verdict, offered_by, next_by, offer_of, claim_verdict, claimed_by, claim_of, reply_by, raise_verdict, raise_of, clear_verdict, clear_of}
use Rattle.model.specs.History.{Call, offer, claim, fill, commit, abort, set_limit, close, clear, raise, Answer, offered, claimed, outcome, World, step, answers, left}
use Rattle.model.specs.Corollaries.{RisesBy, Rising}
use Rattle.model.proofs.Choice.{cond-case, split}
use Rattle.model.proofs.Sound.{sound-true}
use Rattle.model.proofs.Cut.{need-some}
use Rattle.model.proofs.RuleLaws.{trips_by, offer-trips, claim-trips}
use Rattle.model.proofs.Tails.{reading_with_tail, Tails, moved-reading, moved-tails, rotated-reading, rotated-tails, limit-reading, closed-reading, limit-tails, closed-tails, marked-reading, marked-tails, raised-reading, raised-tails, reached}

-- ---- a ladder that passes

pub clash {ℓ} : {X : Type ℓ} (b : Bool) → b ≡ true → b ≡ false → X
clash b e f = absurd (let z : true ≡ false = sym e ∙ f in let y : ◌≡◌ {A = ℕ} 0 1 = cc in omega arith)

-- what an append that is let through knows: the record is sound, and the tail has room
pub record Through (v : Reading) (n needed : ℕ) : Type 0 where
  pub is-sound : Sound v n
  pub room : v.offset + needed ≤ 2147483647

pub Lets : Reading → ℕ → ℕ → Result ⊤ Error → Type 0
Lets v n needed (Ok _) = Through v n needed
Lets v n needed (Err e) = Unit {0}

lets-no : (v : Reading) (n needed : ℕ) (e : Error) → Lets v n needed (Err e)
unfolding Lets
lets-no v n needed e = tt

lets-pass : (v : Reading) (n needed : ℕ) → Through v n needed → Lets v n needed (Ok tt)
unfolding Lets
lets-pass v n needed t = t

pub lets-through : (v : Reading) (n needed : ℕ) → Lets v n needed (Ok tt) → Through v n needed
unfolding Lets
lets-through v n needed t = t

after-lets : (v : Reading) (n m needed : ℕ) (x : Result ⊤ Error) → Lets v n needed x → Lets v n needed (after_closed v m x)
unfolding after_closed
after-lets v n m needed x h =
    let no = lets-no v n needed in
    cond-case (Lets v n needed) (not (eqb (id_minus v.id v.initial) v.count)) (Err AdminAction) _ (λ e. no AdminAction)
    (λ e. cond-case (Lets v n needed) (leb v.limit (place v)) (Err (pressed v m)) x (λ e. no (pressed v m)) (λ e. h))

room-lets : (v : Reading) (n needed : ℕ) → sound v n ≡ true → Lets v n needed (tail_room v needed)
room-lets v n needed s =
    cond-case (Lets v n needed) (ltb 2147483647 (v.offset + needed)) (Err TailOverflow) (Ok tt) (λ e. lets-no v n needed TailOverflow)
    (λ e. lets-pass v n needed (record { is-sound = sound-true v n s; room = ltb-false 2147483647 (v.offset + needed) e }))

pub offer-lets : (v : Reading) (n m : ℕ) → Lets v n (need_of v m) (offer_verdict v n m)
unfolding before_append
offer-lets v n m =
    let P = Lets v n (need_of v m) in
    let no = lets-no v n (need_of v m) in
    cond-case P (ltb 2147483647 m) (Err IllegalArgument) _ (λ e. no IllegalArgument)
    (λ e. cond-case P (not (sound v n)) (Err IllegalRecord) _ (λ e. no IllegalRecord)
    (λ s. cond-case P v.closed (Err PublicationClosed) _ (λ e. no PublicationClosed)
    (λ e. after-lets v n m (need_of v m) _ (cond-case P (too_long v m) (Err ExceedsMaxMessageLength) _ (λ e. no ExceedsMaxMessageLength) (λ e. room-lets v n (need_of v m) (not-false (sound v n) s))))))

pub claim-lets : (v : Reading) (n m : ℕ) → Lets v n (space m) (claim_verdict v n m)
unfolding claim_verdict
claim-lets v n m =
    let P = Lets v n (space m) in
    let no = lets-no v n (space m) in
    cond-case P (ltb 2147483647 m) (Err IllegalArgument) _ (λ e. no IllegalArgument)
    (λ e. cond-case P (not (sound v n)) (Err IllegalRecord) _ (λ e. no IllegalRecord)
    (λ s. cond-case P v.closed (Err PublicationClosed) _ (λ e. no PublicationClosed)
    (λ e. cond-case P (ltb (payload_limit v) m) (Err ExceedsMaxPayloadLength) _ (λ e. no ExceedsMaxPayloadLength) (λ e. after-lets v n m (space m) _ (room-lets v n (space m) (not-false (sound v n) s))))))

-- ---- the record goes up

-- what an answer says of the position reached
abbrev OfferReaches : ℕ → ℕ → Result ℤ Error → Type 0
OfferReaches low high (Ok p) = (p ≡ pos high) × (low < high)
OfferReaches low high (Err e) = Unit {0}

abbrev ClaimReaches : ℕ → ℕ → Result Claimed Error → Type 0
ClaimReaches low high (Ok given) = (given.position ≡ pos high) × (low < high)
ClaimReaches low high (Err e) = Unit {0}

abbrev pub Reaches : ℕ → ℕ → Answer → Type 0
Reaches low high (offered t a) = OfferReaches low high a
Reaches low high (claimed t a) = ClaimReaches low high a
Reaches low high (outcome a) = Unit {0}

pub record Up (r : LogRecord) (a : Answer) (next : LogRecord) : Type 0 where
  pub tails : Tails next
  pub above : reached (reading r) ≤ reached (reading next)
  pub reaches : Reaches (reached (reading r)) (reached (reading next)) a

stays : (r : LogRecord) (a : Answer) → Tails r → Reaches (reached (reading r)) (reached (reading r)) a → Up r a r
stays r a h q = record { tails = h; above = le_refl _; reaches = q }

-- an append that moves the tail
module _ (r : LogRecord) (n needed : ℕ) (h : Tails r) (t : Through (reading r) n needed) where
  abbrev v : Reading
  v = reading r

  abbrev o : ℕ
  o = (reading r).offset + needed

  small : (reading r).offset + needed < 4294967296
  small = omega (arith, t.room)

  abbrev moved : LogRecord
  moved = with_tail r (active r) (reading r).id ((reading r).offset + needed)

  pub read-moved : reading moved ≡ reading_with_tail v v.count v.id o
  read-moved = moved-reading r h o small

  reached-moved : reached (reading moved) ≡ v.count * v.term + min o v.term
  reached-moved = ap reached read-moved

  moved_up : (a : Answer) → Reaches (reached v) (reached (reading moved)) a → Up r a moved
  moved_up a q = record { tails = moved-tails r h o small; above = omega (arith, reached-moved); reaches = q }

  pub fits-up : 32 ≤ needed → o ≤ v.term → (reached (reading moved) ≡ place v + needed) × (reached v < reached (reading moved))
  fits-up s f = (omega (arith, reached-moved), omega (arith, reached-moved))

  -- rotated
  module _ (below : last_term v.count ≡ false) where
    not_last : v.count < 2147483647
    not_last = split 2147483647 v.count (λ l. absurd (eqb-false v.count 2147483647 below (omega (arith, h.high)))) (λ l. l)

    abbrev over : LogRecord
    over = rotated moved v.count v.id

    pub same_over : over ≡ rotated moved (reading moved).count (reading moved).id
    same_over = ap₂ (rotated moved) (sym (ap (λ (x : Reading). x.count) read-moved)) (sym (ap (λ (x : Reading). x.id) read-moved))

    pub count_low : (reading moved).count < 2147483647
    count_low = subst (λ (x : Reading). x.count < 2147483647) (sym read-moved) not_last

    pub read-over : reading over ≡ reading_with_tail v (v.count + 1) (id_plus v.id 1) 0
    read-over =
        ap reading same_over ∙ rotated-reading moved (moved-tails r h o small) count_low
        ∙ ap (λ (x : Reading). reading_with_tail x (x.count + 1) (id_plus x.id 1) 0) read-moved

    pub over-tails : Tails over
    over-tails = subst Tails (sym same_over) (rotated-tails moved (moved-tails r h o small) count_low)

    over-up : (a : Answer) → Reaches (reached v) (reached (reading over)) a → Up r a over
    over-up a q =
        let e : reached (reading over) ≡ (v.count + 1) * v.term + min 0 v.term = ap reached read-over in
        record { tails = over-tails; above = omega arith; reaches = q }

  -- a trip, whatever is answered that is no position
  trip-up : (ready : Bool) (a : Answer) → ((high : ℕ) → Reaches (reached v) high a) → Up r a (trip_next moved v ready)
  unfolding on_trip
  trip-up ready a q = go (ltb (greatest v) (place v + v.offset)) (last_term v.count) ready refl
    where
      go : (b d f : Bool) → last_term v.count ≡ d → Up r a (cond b moved (cond d moved (cond f (rotated moved v.count v.id) moved)))
      go true d f e = moved_up a (q _)
      go false true f e = moved_up a (q _)
      go false false true e = over-up e a (q _)
      go false false false e = moved_up a (q _)

-- ---- each call

module _ (r : LogRecord) (log : List ℕ) (h : Tails r) where
  abbrev v· : Reading
  v· = reading r

  pay-low : (n : ℕ) → Sound v· n → 32 ≤ payload_limit v·
  pay-low n s = omega (arith, s.mtu-low)

  offer-fits : (m : ℕ) (b : Bool) → fits v· (need_of v· m) ≡ b → Through v· (length log) (need_of v· m)
      → Up r (offered (not b) (cond b (Ok (pos (place v· + need_of v· m))) (Err (trip_error v· (is_ready r)))))
      (cond b (with_tail r (active r) v·.id (v·.offset + need_of v· m)) (trip_next (with_tail r (active r) v·.id (v·.offset + need_of v· m)) v· (is_ready r)))
  offer-fits m true f t =
      let u = fits-up r (length log) (need_of v· m) h t (need-some (payload_limit v·) m) (leb-true _ _ f) in
      moved_up r (length log) (need_of v· m) h t (offered false (Ok (pos (place v· + need_of v· m)))) (ap pos (sym u.0), u.1)
  offer-fits m false f t = trip-up r (length log) (need_of v· m) h t (is_ready r) (offered true (Err (trip_error v· (is_ready r)))) (λ n. tt)

  offer-by : (m : ℕ) (x : Result ⊤ Error) → Lets v· (length log) (need_of v· m) x → Up r (offered (trips_by v· (need_of v· m) x) (offered_by r v· (need_of v· m) x)) (next_by r v· (need_of v· m) x)
  unfolding append_next
  offer-by m (Ok _) l = offer-fits m (fits v· (need_of v· m)) refl (lets-through v· (length log) (need_of v· m) l)
  offer-by m (Err e) l = stays r (offered false (Err e)) h tt

  claim-fits : (m : ℕ) (b : Bool) → fits v· (space m) ≡ b → Through v· (length log) (space m)
      → Up r (claimed (not b) (cond b (Ok (record { position = pos (place v· + space m); claim = claim_record v· (active r) m })) (Err (trip_error v· (is_ready r)))))
      (cond b (with_tail r (active r) v·.id (v·.offset + space m)) (trip_next (with_tail r (active r) v·.id (v·.offset + space m)) v· (is_ready r)))
  claim-fits m true f t =
      let u = fits-up r (length log) (space m) h t (omega arith) (leb-true _ _ f) in
      moved_up r (length log) (space m) h t (claimed false (Ok (record { position = pos (place v· + space m); claim = claim_record v· (active r) m }))) (ap pos (sym u.0), u.1)
  claim-fits m false f t = trip-up r (length log) (space m) h t (is_ready r) (claimed true (Err (trip_error v· (is_ready r)))) (λ n. tt)

  claim-by : (m : ℕ) (x : Result ⊤ Error) → Lets v· (length log) (space m) x → Up r (claimed (trips_by v· (space m) x) (claimed_by r v· m x)) (next_by r v· (space m) x)
  unfolding append_next
  claim-by m (Ok _) l = claim-fits m (fits v· (space m)) refl (lets-through v· (length log) (space m) l)
  claim-by m (Err e) l = stays r (claimed false (Err e)) h tt

  change-up : (next : LogRecord) → Tails next → reached v· ≤ reached (reading next) → Up r (outcome (change_of r next).answer) (change_of r next).next
  unfolding change_of
  change-up next t l = go (sound_record (reading next))
    where
      go : (b : Bool) → Up r (outcome (cond {A = RecordReply} b (record { next = next; answer = Ok tt }) (record { next = r; answer = Err IllegalRecord })).answer)
          (cond {A = RecordReply} b (record { next = next; answer = Ok tt }) (record { next = r; answer = Err IllegalRecord })).next
      go true = record { tails = t; above = l; reaches = tt }
      go false = stays r (outcome (Err IllegalRecord)) h tt

  reply-up : (next : LogRecord) (x : Result ⊤ Error) → Tails next → reached v· ≤ reached (reading next) → Up r (outcome (reply_by r next x).answer) (reply_by r next x).next
  reply-up next (Ok _) t l = record { tails = t; above = l; reaches = tt }
  reply-up next (Err e) t l = stays r (outcome (Err e)) h tt

  pub step-up : (y : Call) → Up r (step (record { record· = r; log = log }) y).answer (step (record { record· = r; log = log }) y).next.record·
  unfolding step offer_of claim_of clear_of raise_of
  step-up (offer m re) =
      let y = offer_verdict v· (length log) (length m) in
      let n = need_of v· (length m) in
      subst (λ (t : Bool). Up r (offered t (offered_by r v· n y)) (next_by r v· n y)) (sym (offer-trips v· (is_ready r) (length log) (length m))) (offer-by (length m) y (offer-lets v· (length log) (length m)))
  step-up (claim n) =
      let y = claim_verdict v· (length log) (word n) in
      subst (λ (t : Bool). Up r (claimed t (claimed_by r v· (word n) y)) (next_by r v· (space (word n)) y)) (sym (claim-trips v· (is_ready r) (length log) (word n))) (claim-by (word n) y (claim-lets v· (length log) (word n)))
  step-up (fill k b) = stays r _ h tt
  step-up (commit k) = stays r _ h tt
  step-up (abort k) = stays r _ h tt
  step-up (set_limit n) = change-up (with_limit r n) (limit-tails r h n) (subst (λ (x : Reading). reached v· ≤ reached x) (sym (limit-reading r h n)) (le_refl _))
  step-up close = change-up (with_closed r) (closed-tails r h) (subst (λ (x : Reading). reached v· ≤ reached x) (sym (closed-reading r h)) (le_refl _))
  step-up (clear k) =
      reply-up (with_mark r (word k) true) (clear_verdict v· (length log) (word k)) (marked-tails r h (word k) true) (subst (λ (x : Reading). reached v· ≤ reached x) (sym (marked-reading r h (word k) true)) (le_refl _))
  step-up (raise p) =
      reply-up (with_slowest r p) (raise_verdict v· (long p)) (raised-tails r h p) (subst (λ (x : Reading). reached v· ≤ reached x) (sym (raised-reading r h p)) (le_refl _))

-- ---- a list of calls

pub run_up : (w : World) (calls : List Call) → Tails w.record· → reached (reading w.record·) ≤ reached (reading (left w calls).record·)
unfolding left
run_up w [] t = le_refl _
run_up w (x ∷ xs) t = let s = step-up w.record· w.log t x in le_trans s.above (run_up (step w x).next xs s.tails)

-- positions that rise from a bound also rise from a lower one
lowered : (low low' : ℕ) (a : Answer) (P : ℕ → Type 0) → low' ≤ low → (P low → P low') → RisesBy low a P → RisesBy low' a P
lowered low low' (offered t a) P l f q = go a q
  where
    go : (b : Result ℤ Error) → RisesBy low (offered t b) P → RisesBy low' (offered t b) P
    go (Ok p) q = (q.0, q.1, omega (arith, q.2), q.3)
    go (Err e) q = f q
lowered low low' (claimed t a) P l f q = go a q
  where
    go : (b : Result Claimed Error) → RisesBy low (claimed t b) P → RisesBy low' (claimed t b) P
    go (Ok given) q = (q.0, q.1, omega (arith, q.2), q.3)
    go (Err e) q = f q
lowered low low' (outcome a) P l f q = f q

pub rises-from : (low low' : ℕ) (ts : List (Call × Answer)) → low' ≤ low → Rising low ts → Rising low' ts
unfolding Rising
rises-from low low' [] l r = tt
rises-from low low' (t ∷ ts) l r = lowered low low' t.1 (λ (n : ℕ). Rising n ts) l (λ q. rises-from low low' ts l q) r

-- each call's answer, and then those of the calls after it
rises_by : (low high : ℕ) (a : Answer) (ts : List (Call × Answer)) → low ≤ high → Reaches low high a → Rising high ts → RisesBy low a (λ n. Rising n ts)
rises_by low high (offered t a) ts l q r = go a q
  where
    go : (b : Result ℤ Error) → OfferReaches low high b → RisesBy low (offered t b) (λ n. Rising n ts)
    go (Ok p) q = (high, q.0, q.1, r)
    go (Err e) q = rises-from high low ts l r
rises_by low high (claimed t a) ts l q r = go a q
  where
    go : (b : Result Claimed Error) → ClaimReaches low high b → RisesBy low (claimed t b) (λ n. Rising n ts)
    go (Ok given) q = (high, q.0, q.1, r)
    go (Err e) q = rises-from high low ts l r
rises_by low high (outcome a) ts l q r = rises-from high low ts l r

-- in any list of calls the answered positions rise
pub rises : (w : World) (calls : List Call) → Tails w.record· → Rising (reached (reading w.record·)) (answers w calls)
unfolding answers Rising
rises w [] t = tt
rises w (x ∷ xs) t =
    let s = step-up w.record· w.log t x in
    rises_by (reached (reading w.record·)) (reached (reading (step w x).next.record·)) (step w x).answer (answers (step w x).next xs) s.above s.reaches (rises (step w x).next xs s.tails)
