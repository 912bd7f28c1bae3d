-- Offers and claims, for the code above the appenders: their ladders taken apart, what a trip leads to, and that an offer that nothing
-- refuses is the append at the active partition with what its answer leads to.
use Rattle.std.specs.Prelude.{Result, Ok, Err, ⊤}
use mathlib.Core.Path.{◌≡◌, refl, sym, ap, ap₂, ◌∙◌, subst}
use mathlib.Core.Bool.{Bool, true, false, cond, ◌&&◌, not}
use Prim.Native.Nat.{ℕ, ◌+◌, ◌*◌, ◌/◌, ◌%◌, ◌≤◌, ◌<◌, min}
use mathlib.Core.List.{List}
use native.Mathlib.Omega.{arith}
use borrow.Author.Tests.{le-leb, lt-leb, leb-true, leb-false, lt-ltb, le-ltb, ltb-false, eq-eqb, ne_eqb}
use lib.Dec.{eqb, leb, ltb}
use lib.ListN.{length}
use lib.IntN.{ℤ, pos}
use Rattle.model.specs.declared.LogRecord.{LogRecord}
use Rattle.model.specs.declared.Reading.{Reading}
use Rattle.model.specs.declared.Error.{Error}
use Rattle.model.specs.declared.Error.TheVariants.{IllegalArgument, IllegalRecord, PublicationClosed, AdminAction, MaxPositionExceeded, BackPressured, NotConnected, ExceedsMaxMessageLength, TailOverflow}
use Rattle.model.specs.declared.Course.{Course}
use Rattle.model.specs.declared.Course.TheVariants.{Refuse as Deny, Stray, Trip, Fit}
use Rattle.model.specs.declared.Appended.{Appended}
use Rattle.model.specs.declared.Appended.TheVariants.{Offset, Tripped, Refused}
use Rattle.model.specs.declared.AppendReply.{AppendReply}
use Rattle.model.specs.declared.OfferReply.{OfferReply}
use Rattle.model.specs.declared.Rule.{Rule}
use Rattle.model.specs.Bytes.{word, long}
use Rattle.model.specs.LogBufferDescriptor.{id_minus, reading, active, payload_limit, greatest, sound, Sound, with_tail, last_term, is_ready, rotated, rotate_log_of}
use Rattle.model.specs.TermAppender.{written, cut, padded, course, reply_by, bytes_by}
use Rattle.model.specs.Rule.{message, decided}
use Rattle.model.specs.Publication.{refuse_if, place, need_of, too_long, pressed, after_closed, tail_room, before_append, offer_verdict, fits, on_trip, trip_error, trip_next, append_next, offered_by, next_by, log_by, offer_of, offer_bytes}
use Rattle.model.proofs.Sound.{id-small}
use Rattle.model.proofs.Append.{Went, course-says, append_reply, append_bytes}
use Rattle.model.proofs.Moving.{rotate-moved}
use Rattle.model.proofs.RuleLaws.{refused_rule, trip_rule, offered_rule, offer-rule-refused, offer-rule-passed}

-- ---- 6 (count), 7/8/9

module _ (v : Reading) (m : ℕ) where
  -- what follows a ladder that passes is what stands behind it
  pub closed-pass : (x : Result ⊤ Error) → after_closed v m (Ok tt) ≡ Ok tt → after_closed v m x ≡ x
  unfolding after_closed
  closed-pass x h = go (not (eqb (id_minus v.id v.initial) v.count)) (leb v.limit (place v)) (pressed v m) h
    where
      go : (a b : Bool) (w : Error) → refuse_if a AdminAction (refuse_if b w (Ok tt)) ≡ Ok tt → refuse_if a AdminAction (refuse_if b w x) ≡ x
      go true b w h = absurd (let z : ◌≡◌ {A = ℕ} 0 1 = cc in omega arith)
      go false true w h = absurd (let z : ◌≡◌ {A = ℕ} 0 1 = cc in omega arith)
      go false false w h = refl

  pub closed-refuse : (x : Result ⊤ Error) (e : Error) → after_closed v m (Ok tt) ≡ Err e → after_closed v m x ≡ Err e
  unfolding after_closed
  closed-refuse x e h = go (not (eqb (id_minus v.id v.initial) v.count)) (leb v.limit (place v)) (pressed v m) h
    where
      go : (a b : Bool) (w : Error) → refuse_if a AdminAction (refuse_if b w (Ok tt)) ≡ Err e → refuse_if a AdminAction (refuse_if b w x) ≡ Err e
      go true b w h = h
      go false true w h = h
      go false false w h = absurd (let z : ◌≡◌ {A = ℕ} 0 1 = cc in omega arith)

  -- its rungs
  pub closed-6 : (id_minus v.id v.initial ≡ v.count → ⊥) → Err AdminAction ≡ after_closed v m (Ok tt)
  unfolding after_closed
  closed-6 h = simp (ne_eqb _ _ h)

  pub closed-7 : id_minus v.id v.initial ≡ v.count → v.limit ≤ place v → Err (pressed v m) ≡ after_closed v m (Ok tt)
  unfolding after_closed
  closed-7 k h = simp (eq-eqb _ _ k, le-leb _ _ h)

  pub closed-last : id_minus v.id v.initial ≡ v.count → place v < v.limit → Ok tt ≡ after_closed v m (Ok tt)
  unfolding after_closed
  closed-last k h = simp (eq-eqb _ _ k, lt-leb _ _ h)

  -- 7, 8, 9
  pub pressed-7 : greatest v ≤ place v + m → MaxPositionExceeded ≡ pressed v m
  unfolding pressed
  pressed-7 h = simp (le-leb _ _ h)

  pub pressed-8 : place v + m < greatest v → v.connected ≡ 1 → BackPressured ≡ pressed v m
  unfolding pressed
  pressed-8 h k = simp (lt-leb _ _ h, eq-eqb _ _ k)

  pub pressed-9 : place v + m < greatest v → (v.connected ≡ 1 → ⊥) → NotConnected ≡ pressed v m
  unfolding pressed
  pressed-9 h k = simp (lt-leb _ _ h, ne_eqb _ _ k)

  -- over both limits
  pub long-no : m ≤ payload_limit v → false ≡ too_long v m
  long-no h = simp (le-ltb _ _ h)

  pub long-small : payload_limit v < m → v.term / 8 ≤ 16777216 → ltb (v.term / 8) m ≡ too_long v m
  long-small h k =
      let e : min (v.term / 8) 16777216 ≡ v.term / 8 = omega arith in
      ap₂ (λ (a : Bool) (x : ℕ). a && ltb x m) (sym (lt-ltb (payload_limit v) m h)) (sym e)

  pub long-large : payload_limit v < m → 16777216 < v.term / 8 → ltb 16777216 m ≡ too_long v m
  long-large h k =
      let e : min (v.term / 8) 16777216 ≡ 16777216 = omega arith in
      ap₂ (λ (a : Bool) (x : ℕ). a && ltb x m) (sym (lt-ltb (payload_limit v) m h)) (sym e)

-- ---- the offer's ladder

abbrev ladder : Bool → Bool → Bool → Bool → Bool → Error → Bool → Result ⊤ Error → Result ⊤ Error
ladder a b c d e w f x =
    refuse_if a IllegalArgument (refuse_if b IllegalRecord (refuse_if c PublicationClosed (refuse_if d AdminAction (refuse_if e w (refuse_if f ExceedsMaxMessageLength x)))))

module _ (v : Reading) (n m : ℕ) where
  pub before-pass : (x : Result ⊤ Error) → before_append v n m (Ok tt) ≡ Ok tt → before_append v n m x ≡ x
  unfolding before_append after_closed
  before-pass x h = go (ltb 2147483647 m) (not (sound v n)) v.closed (not (eqb (id_minus v.id v.initial) v.count)) (leb v.limit (place v)) (pressed v m) (too_long v m) h
    where
      go : (a b c d e : Bool) (w : Error) (f : Bool) → ladder a b c d e w f (Ok tt) ≡ Ok tt → ladder a b c d e w f x ≡ x
      go true b c d e w f h = absurd (let z : ◌≡◌ {A = ℕ} 0 1 = cc in omega arith)
      go false true c d e w f h = absurd (let z : ◌≡◌ {A = ℕ} 0 1 = cc in omega arith)
      go false false true d e w f h = absurd (let z : ◌≡◌ {A = ℕ} 0 1 = cc in omega arith)
      go false false false true e w f h = absurd (let z : ◌≡◌ {A = ℕ} 0 1 = cc in omega arith)
      go false false false false true w f h = absurd (let z : ◌≡◌ {A = ℕ} 0 1 = cc in omega arith)
      go false false false false false w true h = absurd (let z : ◌≡◌ {A = ℕ} 0 1 = cc in omega arith)
      go false false false false false w false h = refl

  pub before-refuse : (x : Result ⊤ Error) (err : Error) → before_append v n m (Ok tt) ≡ Err err → before_append v n m x ≡ Err err
  unfolding before_append after_closed
  before-refuse x err h = go (ltb 2147483647 m) (not (sound v n)) v.closed (not (eqb (id_minus v.id v.initial) v.count)) (leb v.limit (place v)) (pressed v m) (too_long v m) h
    where
      go : (a b c d e : Bool) (w : Error) (f : Bool) → ladder a b c d e w f (Ok tt) ≡ Err err → ladder a b c d e w f x ≡ Err err
      go true b c d e w f h = h
      go false true c d e w f h = h
      go false false true d e w f h = h
      go false false false true e w f h = h
      go false false false false true w f h = h
      go false false false false false w true h = h
      go false false false false false w false h = absurd (let z : ◌≡◌ {A = ℕ} 0 1 = cc in omega arith)

  -- what a ladder that passes says
  pub record Passed : Type 0 where
    pub short : m ≤ 2147483647
    pub is-sound : sound v n ≡ true

  pub passed : before_append v n m (Ok tt) ≡ Ok tt → Passed
  unfolding before_append
  passed h = go (ltb 2147483647 m) (sound v n) refl refl h
    where
      go : (a b : Bool) → ltb 2147483647 m ≡ a → sound v n ≡ b
          → refuse_if a IllegalArgument (refuse_if (not b) IllegalRecord (refuse_if v.closed PublicationClosed (after_closed v m (refuse_if (too_long v m) ExceedsMaxMessageLength (Ok tt))))) ≡ Ok tt → Passed
      go true b ea eb h = absurd (let z : ◌≡◌ {A = ℕ} 0 1 = cc in omega arith)
      go false false ea eb h = absurd (let z : ◌≡◌ {A = ℕ} 0 1 = cc in omega arith)
      go false true ea eb h = record { short = ltb-false _ _ ea; is-sound = eb }

  -- its rungs, from the tests that led there
  pub rung-1 : 2147483647 < m → Err IllegalArgument ≡ before_append v n m (Ok tt)
  unfolding before_append
  rung-1 h = simp (lt-ltb _ _ h)

  module _ (h1 : m ≤ 2147483647) where
    pub rung-2 : sound v n ≡ false → Err IllegalRecord ≡ before_append v n m (Ok tt)
    unfolding before_append
    rung-2 h = simp (le-ltb _ _ h1, h)

    module _ (h2 : sound v n ≡ true) where
      pub rung-5 : v.closed ≡ true → Err PublicationClosed ≡ before_append v n m (Ok tt)
      unfolding before_append
      rung-5 h = simp (le-ltb _ _ h1, h2, h)

      module _ (h3 : v.closed ≡ false) where
        rung-on : after_closed v m (refuse_if (too_long v m) ExceedsMaxMessageLength (Ok tt)) ≡ before_append v n m (Ok tt)
        unfolding before_append
        rung-on = simp (le-ltb _ _ h1, h2, h3)

        pub rung-7 : (x : Result ⊤ Error) (e : Error) → x ≡ after_closed v m (Ok tt) → x ≡ Err e → x ≡ before_append v n m (Ok tt)
        rung-7 x e h k = k ∙ sym (closed-refuse v m (refuse_if (too_long v m) ExceedsMaxMessageLength (Ok tt)) e (sym h ∙ k)) ∙ rung-on

        pub rung-10 : (b : Bool) → after_closed v m (Ok tt) ≡ Ok tt → too_long v m ≡ b → refuse_if b ExceedsMaxMessageLength (Ok tt) ≡ before_append v n m (Ok tt)
        rung-10 b h k = ap (λ (t : Bool). refuse_if t ExceedsMaxMessageLength (Ok tt)) (sym k) ∙ sym (closed-pass v m (refuse_if (too_long v m) ExceedsMaxMessageLength (Ok tt)) h) ∙ rung-on

-- ---- a trip

-- rotation of `next`, handed the count and the term id that it was moved from
abbrev pub Turns : LogRecord → Reading → ℤ → ℤ → Type 0
Turns next v count id = last_term v.count ≡ false → rotate_log_of next count id ≡ record { next = rotated next v.count v.id; answer = Ok tt }

module _ {ℓ} {X : Type ℓ} (v : Reading) (ready : Bool) (seven twelve nineteen six : X) where
  pub trip-7 : greatest v < place v + v.offset → seven ≡ on_trip v ready seven twelve nineteen six
  unfolding on_trip
  trip-7 h = simp (lt-ltb _ _ h)

  module _ (h : place v + v.offset ≤ greatest v) where
    trip-on : (b : Bool) → last_term v.count ≡ b → cond b twelve (cond ready six nineteen) ≡ on_trip v ready seven twelve nineteen six
    unfolding on_trip
    trip-on b e = ap (λ (t : Bool). cond t twelve (cond ready six nineteen)) (sym e) ∙ simp (le-ltb _ _ h)

    pub trip-12 : v.count ≡ 2147483647 → twelve ≡ on_trip v ready seven twelve nineteen six
    trip-12 k = trip-on true (eq-eqb _ _ k)

    pub trip-19 : last_term v.count ≡ false → ready ≡ false → nineteen ≡ on_trip v ready seven twelve nineteen six
    trip-19 k e = ap (λ (t : Bool). cond t six nineteen) (sym e) ∙ trip-on false k

    pub trip-6 : last_term v.count ≡ false → ready ≡ true → six ≡ on_trip v ready seven twelve nineteen six
    trip-6 k e = ap (λ (t : Bool). cond t six nineteen) (sym e) ∙ trip-on false k

pub not_last : (v : Reading) → (v.count ≡ 2147483647 → ⊥) → last_term v.count ≡ false
not_last v k = ne_eqb _ _ k

-- ---- the append, and what its answer leads to

-- for a message of m bytes
abbrev pub after_by : Reading → Bool → ℕ → LogRecord → Appended → OfferReply
after_by v ready m next (Offset end) = record { next = next; answer = Ok (pos (v.count * v.term + end)); rule = offered_rule v m }
after_by v ready m next Tripped = record { next = trip_next next v ready; answer = Err (trip_error v ready); rule = trip_rule v ready }
after_by v ready m next (Refused e) = record { next = next; answer = Err e; rule = refused_rule e }

abbrev pub after : Reading → Bool → ℕ → AppendReply → OfferReply
after v ready m a = after_by v ready m a.next a.answer

pub refused-is : (r : LogRecord) (log m : List ℕ) (reserved : ℤ) (e : Error) → before_append (reading r) (length log) (length m) (Ok tt) ≡ Err e
    → (record { next = r; answer = Err e; rule = refused_rule e } ≡ offer_of r log m) × (log ≡ offer_bytes r log m reserved)
unfolding offer_of offer_bytes
refused-is r log m reserved e h =
    let v = reading r in
    let needed = need_of v (length m) in
    let q : offer_verdict v (length log) (length m) ≡ Err e = before-refuse v (length log) (length m) (tail_room v needed) e h in (
      ap (λ (x : Rule). record { next = r; answer = Err e; rule = x }) (offer-rule-refused v (is_ready r) (length log) (length m) e q)
          ∙ sym (ap (λ (x : Result ⊤ Error). record { next = next_by r v needed x; answer = offered_by r v needed x; rule = decided v (is_ready r) (length log) (message (length m)) }) q),
      sym (ap (log_by r v log (written v log (active r * v.term) v.offset (cut (payload_limit v) (long reserved) m)) needed) q),
    )

module _ (r : LogRecord) (log m : List ℕ) (reserved : ℤ) where
  abbrev v· : Reading
  v· = reading r

  abbrev nd· : ℕ
  nd· = need_of v· (length m)

  abbrev x· : Course
  x· = course v· (length log) nd· v·.id

  abbrev new· : List ℕ
  new· = written v· log (active r * v·.term) v·.offset (cut (payload_limit v·) (long reserved) m)

  abbrev rule· : Rule
  rule· = decided v· (is_ready r) (length log) (message (length m))

  abbrev reply· : Result ⊤ Error → OfferReply
  reply· x = record { next = next_by r v· nd· x; answer = offered_by r v· nd· x; rule = rule· }

  abbrev moved· : LogRecord
  moved· = with_tail r (active r) v·.id (v·.offset + nd·)

  -- what an offer that passes leaves and answers, by whether it fits
  abbrev passed· : Bool → OfferReply
  passed· b = record { next = cond b moved· (trip_next moved· v· (is_ready r)); answer = cond b (Ok (pos (place v· + nd·))) (Err (trip_error v· (is_ready r))); rule = rule· }

  pass-is : (b : Bool) → fits v· nd· ≡ b → reply· (Ok tt) ≡ passed· b
  unfolding append_next
  pass-is b e = ap passed· e

  -- by the two tests that an append makes of a sound reading at its own term
  both : (a b : Bool) → leb (v·.offset + nd·) 2147483647 ≡ a → leb (v·.offset + nd·) v·.term ≡ b → x· ≡ cond a (cond b Fit Trip) (Deny TailOverflow) → offer_verdict v· (length log) (length m) ≡ tail_room v· nd·
      → (after v· (is_ready r) (length m) (reply_by r v· (active r) nd· x·) ≡ offer_of r log m) × (bytes_by v· (active r) log new· x· ≡ offer_bytes r log m reserved)
  unfolding offer_of offer_bytes
  both false b ea eb ex ev =
      let w : offer_verdict v· (length log) (length m) ≡ Err TailOverflow = ev ∙ ap (λ (t : Bool). refuse_if t TailOverflow (Ok tt)) (lt-ltb 2147483647 (v·.offset + nd·) (leb-false (v·.offset + nd·) 2147483647 ea)) in (
        ap (λ (x : Course). after v· (is_ready r) (length m) (reply_by r v· (active r) nd· x)) ex
            ∙ ap (λ (x : Rule). record { next = r; answer = Err TailOverflow; rule = x }) (offer-rule-refused v· (is_ready r) (length log) (length m) TailOverflow w) ∙ sym (ap reply· w),
        ap (bytes_by v· (active r) log new·) ex ∙ sym (ap (log_by r v· log new· nd·) w),
      )
  both true false ea eb ex ev =
      let w : offer_verdict v· (length log) (length m) ≡ (Ok tt) = ev ∙ ap (λ (t : Bool). refuse_if t TailOverflow (Ok tt)) (le-ltb 2147483647 (v·.offset + nd·) (leb-true (v·.offset + nd·) 2147483647 ea)) in (
        ap (λ (x : Course). after v· (is_ready r) (length m) (reply_by r v· (active r) nd· x)) ex
            ∙ ap (λ (x : Rule). record { next = trip_next moved· v· (is_ready r); answer = Err (trip_error v· (is_ready r)); rule = x }) (offer-rule-passed v· (is_ready r) (length log) (length m) false eb w) ∙ sym (ap reply· w ∙ pass-is false eb),
        ap (bytes_by v· (active r) log new·) ex ∙ sym (ap (log_by r v· log new· nd·) w ∙ ap (λ (t : Bool). cond t new· (padded v· log (active r * v·.term))) eb),
      )
  both true true ea eb ex ev =
      let w : offer_verdict v· (length log) (length m) ≡ (Ok tt) = ev ∙ ap (λ (t : Bool). refuse_if t TailOverflow (Ok tt)) (le-ltb 2147483647 (v·.offset + nd·) (leb-true (v·.offset + nd·) 2147483647 ea)) in
      let s : v·.count * v·.term + (v·.offset + nd·) ≡ place v· + nd· = omega arith in (
        ap (λ (x : Course). after v· (is_ready r) (length m) (reply_by r v· (active r) nd· x)) ex
            ∙ ap₂ (λ (p : ℕ) (x : Rule). record { next = moved·; answer = Ok (pos p); rule = x }) s (offer-rule-passed v· (is_ready r) (length log) (length m) true eb w) ∙ sym (ap reply· w ∙ pass-is true eb),
        ap (bytes_by v· (active r) log new·) ex ∙ sym (ap (log_by r v· log new· nd·) w ∙ ap (λ (t : Bool). cond t new· (padded v· log (active r * v·.term))) eb),
      )

  way : sound v· (length log) ≡ true → x· ≡ cond (leb (v·.offset + nd·) 2147483647) (cond (leb (v·.offset + nd·) v·.term) Fit Trip) (Deny TailOverflow)
  unfolding course
  way h = simp (h, eq-eqb v·.id v·.id refl)

  -- an offer that nothing refuses before its append is the append, and what its answer leads to
  pub offer-is : before_append v· (length log) (length m) (Ok tt) ≡ Ok tt
      → (after v· (is_ready r) (length m) (append_reply r log (active r) (payload_limit v·) m v·.id) ≡ offer_of r log m)
      × (append_bytes r log (active r) (payload_limit v·) m (long reserved) v·.id ≡ offer_bytes r log m reserved)
  offer-is h =
      both (leb (v·.offset + nd·) 2147483647) (leb (v·.offset + nd·) v·.term) refl refl (way (passed v· (length log) (length m) h).is-sound)
      (before-pass v· (length log) (length m) (tail_room v· nd·) h)

-- an append that ends at an offset ends in its term
pub end-in : (r : LogRecord) (v : Reading) (k n nd g end : ℕ) (x : Course) → course v n nd g ≡ x → (reply_by r v k nd x).answer ≡ Offset end → end ≤ v.term
end-in r v k n nd g end (Deny e) c h = absurd (let z : ◌≡◌ {A = ℕ} 0 1 = cc in omega arith)
end-in r v k n nd g end Stray c h = absurd (let z : ◌≡◌ {A = ℕ} 0 1 = cc in omega arith)
end-in r v k n nd g end Trip c h = absurd (let z : ◌≡◌ {A = ℕ} 0 1 = cc in omega arith)
end-in r v k n nd g end Fit c h = let e : v.offset + nd ≡ end = cc in omega (arith, (course-says v n nd g Fit c).1)

-- one that tripped leaves a record that turns
pub trip-turns : (r : LogRecord) (v : Reading) (k n nd g : ℕ) (id : ℤ) (x : Course) → v ≡ reading r → k ≡ active r → course v n nd g ≡ x → (reply_by r v k nd x).answer ≡ Tripped
    → length r.tails ≡ 3 → nd % 32 ≡ 0 → word id ≡ v.id → Turns (reply_by r v k nd x).next v r.active_term_count id
trip-turns r v k n nd g id (Deny e) ev ek c h three m ei l = absurd (let z : ◌≡◌ {A = ℕ} 0 1 = cc in omega arith)
trip-turns r v k n nd g id Stray ev ek c h three m ei l = absurd (let z : ◌≡◌ {A = ℕ} 0 1 = cc in omega arith)
trip-turns r v k n nd g id Fit ev ek c h three m ei l = absurd (let z : ◌≡◌ {A = ℕ} 0 1 = cc in omega arith)
trip-turns r v k n nd g id Trip ev ek c h three m ei l =
    let w : Went v n nd = (course-says v n nd g Trip c).0 in
    go v k ev ek w.sound-so w.room ei l
  where
    go : (u : Reading) (j : ℕ) → u ≡ reading r → j ≡ active r → Sound u n → u.offset + nd ≤ 2147483647 → word id ≡ u.id → last_term u.count ≡ false
        → rotate_log_of (with_tail r j u.id (u.offset + nd)) r.active_term_count id ≡ record { next = rotated (with_tail r j u.id (u.offset + nd)) u.count u.id; answer = Ok tt }
    go u j eu ej s o ei l =
        subst (λ (q : Reading). Sound q n → q.offset + nd ≤ 2147483647 → word id ≡ q.id → last_term q.count ≡ false
        → rotate_log_of (with_tail r j q.id (q.offset + nd)) r.active_term_count id ≡ record { next = rotated (with_tail r j q.id (q.offset + nd)) q.count q.id; answer = Ok tt }) (sym eu)
        (subst (λ (i : ℕ). Sound (reading r) n → (reading r).offset + nd ≤ 2147483647 → word id ≡ (reading r).id → last_term (reading r).count ≡ false
        → rotate_log_of (with_tail r i (reading r).id ((reading r).offset + nd)) r.active_term_count id ≡ record { next = rotated (with_tail r i (reading r).id ((reading r).offset + nd)) (reading r).count (reading r).id; answer = Ok tt }) (sym ej)
        (λ s o e l. rotate-moved r n nd id three s (id-small r (active r)) m o e l)) s o ei l
