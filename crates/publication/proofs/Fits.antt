-- The shorter path: what its tests say, its answer's numbers, and that the calls of `model` answer and leave the same.
use Rattle.std.specs.Prelude.{Ok}
use mathlib.Core.Path.{◌≡◌, refl, sym, ap, ap₂, ◌∙◌}
use mathlib.Core.Bool.{Bool, true, false, cond, not, ◌&&◌}
use mathlib.Core.List.{List, [], ◌∷◌}
use Prim.Native.Nat.{ℕ, ◌+◌, ◌*◌, ◌/◌, ◌%◌, ◌≤◌, ◌<◌}
use native.Mathlib.Omega.{arith}
use borrow.Author.Tests.{not-true, leb-true, ltb-true, eqb-true, le-leb, lt-leb, lt-ltb, le-ltb, eq-eqb}
use lib.Count.{ones}
use lib.Dec.{eqb, leb, ltb}
use lib.IntN.{ℤ, pos}
use lib.ListN.{length}
use mir.Syntax.{w32, w64}
use mir.Val.{to_z}
use mir.Facts.{of_z-to_z}
use Rattle.model.specs.declared.LogRecord.{LogRecord}
use Rattle.model.specs.declared.Reading.{Reading}
use Rattle.model.specs.declared.Course.{Course}
use Rattle.model.specs.declared.Course.TheVariants.{Fit}
use Rattle.model.specs.declared.Rule.{Rule}
use Rattle.model.specs.declared.Rule.TheVariants.{Unfragmented, Fragmented, Claimed as ByClaim}
use Rattle.model.specs.Bytes.{word, long}
use Rattle.model.specs.FrameDescriptor.{space}
use Rattle.model.specs.LogBufferDescriptor.{id_minus, reading, active, payload_limit, message_limit, sound, Sound, with_tail, is_ready, raw_of, term_id_of}
use Rattle.model.specs.TermAppender.{need, cut, fragment, written, claimed, course, bytes_by, reply_by, claim_record, claim_appended_by}
use Rattle.model.specs.Publication.{place, too_long, need_of, offer_of, offer_bytes, claim_of, claim_bytes}
use Rattle.model.proofs.Both.{and-true}
use Rattle.model.proofs.Choice.{cond-true, cond-false}
use Rattle.model.proofs.Sound.{sound-true, sound-by, Bounds}
use Rattle.model.proofs.Cut.{need-one, cut-one}
use Rattle.model.proofs.OfferLaws.{closed-last, rung-10, after, offer-is}
use Rattle.logbuffer.proofs.Ways.{fits-true, frames-true}
use Rattle.publication.specs.declared.fit.Fitted.{Fitted}
use Rattle.publication.specs.Fits.{in_step, unpressed, in_terms, is_open, is_fit, is_long, is_long_fit, fitted_at, claim_at}
use Rattle.publication.proofs.OfferBy.{active-by}
use Rattle.publication.proofs.ClaimLaws as claims

-- ---- what the tests say

pub record Unpressed (v : Reading) (n : ℕ) : Type 0 where
  pub is-so : sound v n ≡ true
  pub so : Sound v n
  pub step_in : in_step v ≡ true
  pub id-in : v.id < 4294967296
  pub step : id_minus v.id v.initial ≡ v.count
  pub below : place v < v.limit

pub unpressed-true : (v : Reading) (n : ℕ) → unpressed v n ≡ true → Unpressed v n
unfolding unpressed in_step
unpressed-true v n h =
    let a = and-true (sound v n) _ h in
    let d = and-true (in_step v) _ a.1 in
    let i = and-true (ltb v.id 4294967296) _ d.0 in
    let j = and-true (ltb v.initial 4294967296) _ i.1 in
    record { is-so = a.0; so = sound-true v n a.0; step_in = d.0; id-in = ltb-true _ _ i.0; step = eqb-true _ _ j.1; below = ltb-true _ _ d.1 }

pub open-true : (v : Reading) (n m : ℕ) → is_open v n m ≡ true → Unpressed v n × ((v.closed ≡ false) × (m ≤ payload_limit v))
unfolding is_open
open-true v n m h =
    let a = and-true (unpressed v n) _ h in
    let b = and-true (leb m (payload_limit v)) _ a.1 in
    (unpressed-true v n a.0, (not-true _ b.1, leb-true _ _ b.0))

-- a test that fails contradicts one of these
pub not_opened : (v : Reading) (n m : ℕ) → (Unpressed v n → m ≤ payload_limit v → ⊥) → false ≡ is_open v n m
not_opened v n m never = go (is_open v n m) refl
  where
    go : (b : Bool) → is_open v n m ≡ b → false ≡ b
    go false e = refl
    go true e = let o = open-true v n m e in absurd (never o.0 o.1.1)

-- The part of them that a term's beginning rests on; where it does not hold, nothing is open.
pub record Terms (v : Reading) : Type 0 where
  pub bounded : Bounds v
  pub term-low : 65536 ≤ v.term
  pub one_bit : ones v.term ≡ 1
  pub step_in : in_step v ≡ true

pub terms-true : (v : Reading) → in_terms v ≡ true → Terms v
unfolding in_terms
terms-true v h =
    let a = and-true (leb v.count 2147483647) _ h in
    let b = and-true (leb v.offset 2147483647) _ a.1 in
    let d = and-true (in_step v) _ b.1 in
    let i = and-true (leb 65536 v.term) _ d.1 in
    let j = and-true (leb v.term 1073741824) _ i.1 in
    record {
      bounded = record { term-most = leb-true _ _ j.0; count_most = leb-true _ _ a.0; offset-most = leb-true _ _ b.0 };
      term-low = leb-true _ _ i.0;
      one_bit = eqb-true _ _ j.1;
      step_in = d.0;
    }

pub not-terms : (v : Reading) → (Terms v → ⊥) → false ≡ in_terms v
not-terms v never = go (in_terms v) refl
  where
    go : (b : Bool) → in_terms v ≡ b → false ≡ b
    go false e = refl
    go true e = absurd (never (terms-true v e))

pub terms-of : (v : Reading) (n : ℕ) → Unpressed v n → in_terms v ≡ true
unfolding in_terms
terms-of v n u =
    let s = u.so in
    simp (le-leb _ _ s.count-high, le-leb _ _ s.offset-high, u.step_in, le-leb _ _ s.term-low, le-leb _ _ s.term-high, eq-eqb _ _ s.one_bit)

pub not-stepped : (v : Reading) → in_step v ≡ false → false ≡ in_terms v
not-stepped v h = not-terms v (λ t. let z : ◌≡◌ {A = ℕ} 0 1 = ap (λ (b : Bool). cond b 0 1) (sym t.step_in ∙ h) in omega arith)

pub not-in-terms : (v : Reading) (n m : ℕ) → in_terms v ≡ false → false ≡ is_open v n m
not-in-terms v n m h = not_opened v n m (λ u s. let z : ◌≡◌ {A = ℕ} 0 1 = ap (λ (b : Bool). cond b 0 1) (sym (terms-of v n u) ∙ h) in omega arith)

-- where all but the one bit holds
pub terms-by : (v : Reading) → v.count ≤ 2147483647 → v.offset ≤ 2147483647 → in_step v ≡ true → 65536 ≤ v.term → v.term ≤ 1073741824 → eqb (ones v.term) 1 ≡ in_terms v
unfolding in_terms
terms-by v h1 h2 h3 h4 h5 = simp (le-leb _ _ h1, le-leb _ _ h2, h3, le-leb _ _ h4, le-leb _ _ h5)

-- with these, and the rest of row 2, a position below the limit and a length of one frame, whether it is closed is the answer
pub opened-by : (v : Reading) (n m : ℕ) → Terms v → v.slowest ≤ v.term * 2147483648 → n ≡ 3 * v.term → v.offset % 32 ≡ 0 → v.mtu % 32 ≡ 0 → v.slowest % 32 ≡ 0 → 64 ≤ v.mtu → v.mtu ≤ 65504
    → place v < v.limit → m ≤ payload_limit v → v.limit ≤ 4611686018427387904 → not v.closed ≡ is_open v n m
unfolding is_open unpressed
opened-by v n m t slow three o32 m32 s32 low high below short most =
    let b = t.bounded in
    let so : sound v n ≡ true = sym (sound-by v n t.term-low b.term-most t.one_bit low high m32 b.count_most most slow s32 o32 b.offset-most) ∙ eq-eqb _ _ three in
    simp (so, t.step_in, lt-ltb _ _ below, le-leb _ _ short)

pub long-true : (v : Reading) (n m : ℕ) → is_long v n m ≡ true → Unpressed v n × ((v.closed ≡ false) × ((payload_limit v < m) × (too_long v m ≡ false)))
unfolding is_long
long-true v n m h =
    let a = and-true (unpressed v n) _ h in
    let b = and-true (ltb (payload_limit v) m) _ a.1 in
    let d = and-true (not (too_long v m)) _ b.1 in
    (unpressed-true v n a.0, (not-true _ d.1, (ltb-true _ _ b.0, not-true _ d.0)))

pub long-is : (v : Reading) (n m : ℕ) → unpressed v n ≡ true → payload_limit v < m → (b : Bool) → b ≡ too_long v m → (not b && not v.closed) ≡ is_long v n m
unfolding is_long
long-is v n m u h b e =
    let rest = not (too_long v m) && not v.closed in
    ap (λ (t : Bool). not t && not v.closed) e ∙ sym (ap₂ (λ (x y : Bool). x && (y && rest)) u (lt-ltb _ _ h))

-- ---- the answer's numbers

-- a raw tail put together from numbers, and its term id
pub raw-is : (id end : ℕ) (t : ℤ) → id < 4294967296 → t ≡ to_z w64 (id * 4294967296 + end) → t ≡ raw_of id end
unfolding raw_of
raw-is id end t h e = let k : id ≡ id % 4294967296 = omega arith in e ∙ ap (λ (i : ℕ). to_z w64 (i * 4294967296 + end)) k

pub raw-term : (id end : ℕ) → id < 4294967296 → end < 4294967296 → term_id_of (raw_of id end) ≡ to_z w32 id
unfolding raw_of
raw-term id end h k =
    let e : long (raw_of id end) ≡ id % 4294967296 * 4294967296 + end = of_z-to_z {w = w64} (record { fits = omega arith }) in
    let q : (id % 4294967296 * 4294967296 + end) / 4294967296 ≡ id = omega arith in
    ap (λ (n : ℕ). to_z w32 (n / 4294967296)) e ∙ ap (to_z w32) q

-- the answer of a claim, number by number
pub claim-answer : (v : Reading) (m end : ℕ) (x : Fitted) (a b l i : ℤ) → v.offset + space m ≡ end → x ≡ fitted_at v end → a ≡ pos (v.count % 3) → b ≡ pos v.offset → l ≡ pos (m + 32) → i ≡ to_z w32 v.id
    → record { after = x; claim = record { partition = a; offset = b; length = l; term_id = i } } ≡ claim_at v m
unfolding claim_record
claim-answer v m end x a b l i ee ex ea eb el ei = cc

-- ---- the calls of `model`

course-fits : (v : Reading) (n needed : ℕ) → sound v n ≡ true → v.offset + needed ≤ v.term → v.term ≤ 1073741824 → course v n needed v.id ≡ Fit
unfolding course
course-fits v n needed s room high =
    let l : v.offset + needed ≤ 2147483647 = omega arith in
    simp (s, le-leb _ _ l, eq-eqb v.id v.id refl, le-leb _ _ room)

module _ (r : LogRecord) (log : List ℕ) where
  abbrev v· : Reading
  v· = reading r

  abbrev n· : ℕ
  n· = length log

  part : v·.count % 3 ≡ active r
  part = active-by r v· refl

  -- an offer that nothing refuses and that has room, of one frame or of several
  offer-done : (m : List ℕ) (z : ℤ) → (let p = payload_limit v· in Unpressed v· n· → v·.closed ≡ false → length m ≤ 2147483647 → too_long v· (length m) ≡ false
      → v·.offset + need p (length m) ≤ v·.term
      → (record { next = with_tail r (active r) v·.id (v·.offset + need p (length m)); answer = Ok (pos (v·.count * v·.term + (v·.offset + need p (length m)))); rule = cond (leb (length m) p) Unfragmented Fragmented } ≡ offer_of r log m)
      × (written v· log (active r * v·.term) v·.offset (cut p (long z) m) ≡ offer_bytes r log m z))
  offer-done m z u closed whole long-no room =
      let p = payload_limit v· in
      let last = closed-last v· (length m) u.step u.below in
      let pass = sym (rung-10 v· n· (length m) whole u.is-so closed false (sym last) long-no) in
      let law = offer-is r log m z pass in
      let fit : course v· n· (need p (length m)) v·.id ≡ Fit = course-fits v· n· (need p (length m)) u.is-so room u.so.term-high in (
        sym (ap (λ (x : Course). after v· (is_ready r) (length m) (reply_by r v· (active r) (need p (length m)) x)) fit) ∙ law.0,
        sym (ap (bytes_by v· (active r) log (written v· log (active r * v·.term) v·.offset (cut p (long z) m))) fit) ∙ law.1,
      )

  pub offer-fits : (m : List ℕ) (z : ℤ) → is_fit v· n· (length m) ≡ true
      → (record { next = with_tail r (active r) v·.id (v·.offset + space (length m)); answer = Ok (pos (v·.count * v·.term + (v·.offset + space (length m)))); rule = Unfragmented } ≡ offer_of r log m)
      × (written v· log (active r * v·.term) v·.offset (fragment 192 (long z) m ∷ []) ≡ offer_bytes r log m z)
  offer-fits m z h =
      let a = and-true (is_open v· n· (length m)) _ h in
      let o = open-true v· n· (length m) a.0 in
      let f = fits-true v· n· (v·.count % 3) (length m) a.1 in
      let p = payload_limit v· in
      let one = need-one p (length m) o.1.1 in
      let law = offer-done m z o.0 o.1.0 f.whole (ap (λ (b : Bool). b && ltb (message_limit v·) (length m)) (le-ltb _ _ o.1.1)) (omega (arith, one, f.room)) in (
        ap₂ (λ (d : ℕ) (x : Rule). record { next = with_tail r (active r) v·.id (v·.offset + d); answer = Ok (pos (v·.count * v·.term + (v·.offset + d))); rule = x }) (sym one) (sym (cond-true (leb (length m) p) Unfragmented Fragmented (le-leb _ _ o.1.1))) ∙ law.0,
        ap (λ (l : List _). written v· log (active r * v·.term) v·.offset l) (sym (cut-one p (long z) m o.1.1)) ∙ law.1,
      )

  pub fragmented-fits : (m : List ℕ) (z : ℤ) → is_long_fit v· n· (length m) ≡ true
      → (record { next = with_tail r (active r) v·.id (v·.offset + need_of v· (length m)); answer = Ok (pos (v·.count * v·.term + (v·.offset + need_of v· (length m)))); rule = Fragmented } ≡ offer_of r log m)
      × (written v· log (active r * v·.term) v·.offset (cut (payload_limit v·) (long z) m) ≡ offer_bytes r log m z)
  fragmented-fits m z h =
      let a = and-true (is_long v· n· (length m)) _ h in
      let o = long-true v· n· (length m) a.0 in
      let f = frames-true v· n· (v·.count % 3) (payload_limit v·) (length m) a.1 in
      let law = offer-done m z o.0 o.1.0 f.0.whole o.1.1.1 f.1.room in (
        ap (λ (x : Rule). record { next = with_tail r (active r) v·.id (v·.offset + need_of v· (length m)); answer = Ok (pos (v·.count * v·.term + (v·.offset + need_of v· (length m)))); rule = x }) (sym (cond-false (leb (length m) (payload_limit v·)) Unfragmented Fragmented (lt-leb _ _ o.1.1.0))) ∙ law.0,
        law.1,
      )

  pub claim-fits : (len : ℤ) → is_fit v· n· (word len) ≡ true
      → (record { next = with_tail r (active r) v·.id (v·.offset + space (word len)); answer = Ok (record { position = pos (v·.count * v·.term + (v·.offset + space (word len))); claim = claim_record v· (active r) (word len) }); rule = ByClaim } ≡ claim_of r log len)
      × (claimed v· log (active r * v·.term) (word len) ≡ claim_bytes r log len)
  claim-fits len h =
      let m = word len in
      let a = and-true (is_open v· n· m) _ h in
      let o = open-true v· n· m a.0 in
      let f = fits-true v· n· (v·.count % 3) m a.1 in
      let last = closed-last v· m o.0.step o.0.below in
      let room : v·.offset + space m ≤ 2147483647 = omega (arith, f.room, f.term-high) in
      let pass = sym (claims.claim-11 v· n· m f.whole o.0.is-so o.1.0 o.1.1 false (sym last) (le-ltb _ _ room)) in
      let law = claims.claim-is r log len pass in
      let fit : course v· n· (space m) v·.id ≡ Fit = course-fits v· n· (space m) o.0.is-so f.room f.term-high in (
        sym (ap (λ (x : Course). claims.after v· (is_ready r) (claim_appended_by r v· (active r) m x)) fit) ∙ law.0,
        sym (ap (bytes_by v· (active r) log (claimed v· log (active r * v·.term) m)) fit) ∙ law.1,
      )
