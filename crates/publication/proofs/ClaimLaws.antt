-- The claim's ladder taken apart, and that a claim that nothing refuses is the claiming append at the active partition with what its
-- answer leads to.
use Rattle.std.specs.Prelude.{Result, Ok, Err, ⊤}
use mathlib.Core.Path.{◌≡◌, refl, sym, ap, ap₂, ◌∙◌, subst}
use mathlib.Core.Bool.{Bool, true, false, cond, not}
use Prim.Native.Nat.{ℕ, ◌+◌, ◌*◌, ◌≤◌, ◌<◌}
use mathlib.Core.List.{List}
use native.Mathlib.Omega.{arith}
use borrow.Author.Tests.{le-leb, lt-ltb, le-ltb, ltb-false, eq-eqb}
use lib.Dec.{leb, ltb}
use lib.ListN.{length}
use lib.IntN.{ℤ, pos}
use Rattle.model.specs.declared.LogRecord.{LogRecord}
use Rattle.model.specs.declared.Claim.{Claim}
use Rattle.model.specs.declared.Reading.{Reading}
use Rattle.model.specs.declared.Error.{Error}
use Rattle.model.specs.declared.Error.TheVariants.{IllegalArgument, IllegalRecord, ExceedsMaxPayloadLength, PublicationClosed, TailOverflow}
use Rattle.model.specs.declared.Course.{Course}
use Rattle.model.specs.declared.Course.TheVariants.{Refuse as Deny, Stray, Trip, Fit}
use Rattle.model.specs.declared.AppendedClaim.{AppendedClaim}
use Rattle.model.specs.declared.AppendedClaim.TheVariants.{Claimed as Taken, Tripped, Refused}
use Rattle.model.specs.declared.AppendClaimReply.{AppendClaimReply}
use Rattle.model.specs.declared.ClaimReply.{ClaimReply}
use Rattle.model.specs.declared.Rule.{Rule}
use Rattle.model.specs.declared.Rule.TheVariants.{Claimed as ByClaim}
use Rattle.model.specs.Bytes.{word}
use Rattle.model.specs.FrameDescriptor.{space}
use Rattle.model.specs.LogBufferDescriptor.{reading_of, reading, active, payload_limit, sound, with_tail, is_ready}
use Rattle.model.specs.TermAppender.{padded, claimed, course, bytes_by, claim_record, claim_appended_by}
use Rattle.model.specs.Rule.{claim as asks, decided}
use Rattle.model.specs.Publication.{refuse_if, place, after_closed, tail_room, claim_verdict, fits, trip_error, trip_next, append_next, next_by, log_by, claimed_by, claim_of, claim_bytes}
use Rattle.model.proofs.Append.{claiming_reply, claiming_bytes, course-says}
use Rattle.model.proofs.OfferLaws.{Turns, closed-pass, closed-refuse, trip-turns}
use Rattle.model.proofs.RuleLaws.{refused_rule, trip_rule, claim-rule-refused, claim-rule-passed}
use Rattle.publication.specs.Trips.{next_marked}
use Rattle.publication.proofs.OfferBy.{ready_of, marks-kept}

-- ---- the ladder

module _ (v : Reading) (n m : ℕ) where
  pub claim-1 : 2147483647 < m → Err IllegalArgument ≡ claim_verdict v n m
  unfolding claim_verdict
  claim-1 h = simp (lt-ltb _ _ h)

  module _ (h1 : m ≤ 2147483647) where
    pub claim-2 : sound v n ≡ false → Err IllegalRecord ≡ claim_verdict v n m
    unfolding claim_verdict
    claim-2 h = simp (le-ltb _ _ h1, h)

    module _ (h2 : sound v n ≡ true) where
      pub claim-5 : v.closed ≡ true → Err PublicationClosed ≡ claim_verdict v n m
      unfolding claim_verdict
      claim-5 h = simp (le-ltb _ _ h1, h2, h)

      module _ (h3 : v.closed ≡ false) where
        pub claim-4 : payload_limit v < m → Err ExceedsMaxPayloadLength ≡ claim_verdict v n m
        unfolding claim_verdict
        claim-4 h = simp (le-ltb _ _ h1, h2, h3, lt-ltb _ _ h)

        module _ (h4 : m ≤ payload_limit v) where
          claim-on : after_closed v m (tail_room v (space m)) ≡ claim_verdict v n m
          unfolding claim_verdict
          claim-on = simp (le-ltb _ _ h1, h2, h3, le-ltb _ _ h4)

          pub claim-7 : (x : Result ⊤ Error) (e : Error) → x ≡ after_closed v m (Ok tt) → x ≡ Err e → x ≡ claim_verdict v n m
          claim-7 x e h k = k ∙ sym (closed-refuse v m (tail_room v (space m)) e (sym h ∙ k)) ∙ claim-on

          pub claim-11 : (b : Bool) → after_closed v m (Ok tt) ≡ Ok tt → ltb 2147483647 (v.offset + space m) ≡ b → refuse_if b TailOverflow (Ok tt) ≡ claim_verdict v n m
          claim-11 b h k = ap (λ (t : Bool). refuse_if t TailOverflow (Ok tt)) (sym k) ∙ sym (closed-pass v m (tail_room v (space m)) h) ∙ claim-on

  -- what a ladder that passes says
  pub record Passed : Type 0 where
    pub short : m ≤ 2147483647
    pub is-sound : sound v n ≡ true
    pub room : v.offset + space m ≤ 2147483647

  closed-says : (x : Result ⊤ Error) → after_closed v m x ≡ Ok tt → x ≡ Ok tt
  closed-says x h = go (after_closed v m (Ok tt)) refl
    where
      go : (y : Result ⊤ Error) → after_closed v m (Ok tt) ≡ y → x ≡ Ok tt
      go (Ok _) e = sym (closed-pass v m x e) ∙ h
      go (Err err) e = let k : Err err ≡ (Ok tt) = sym (closed-refuse v m x err e) ∙ h in absurd (let z : ◌≡◌ {A = ℕ} 0 1 = cc in omega arith)

  room_says : (b : Bool) → ltb 2147483647 (v.offset + space m) ≡ b → refuse_if b TailOverflow (Ok tt) ≡ Ok tt → v.offset + space m ≤ 2147483647
  room_says true e h = absurd (let z : ◌≡◌ {A = ℕ} 0 1 = cc in omega arith)
  room_says false e h = ltb-false _ _ e

  pub passed : claim_verdict v n m ≡ Ok tt → Passed
  unfolding claim_verdict
  passed h = go (ltb 2147483647 m) (sound v n) v.closed (ltb (payload_limit v) m) refl refl h
    where
      go : (a b c d : Bool) → ltb 2147483647 m ≡ a → sound v n ≡ b
          → refuse_if a IllegalArgument (refuse_if (not b) IllegalRecord (refuse_if c PublicationClosed (refuse_if d ExceedsMaxPayloadLength (after_closed v m (tail_room v (space m)))))) ≡ Ok tt → Passed
      go true b c d ea eb h = absurd (let z : ◌≡◌ {A = ℕ} 0 1 = cc in omega arith)
      go false false c d ea eb h = absurd (let z : ◌≡◌ {A = ℕ} 0 1 = cc in omega arith)
      go false true true d ea eb h = absurd (let z : ◌≡◌ {A = ℕ} 0 1 = cc in omega arith)
      go false true false true ea eb h = absurd (let z : ◌≡◌ {A = ℕ} 0 1 = cc in omega arith)
      go false true false false ea eb h = record { short = ltb-false _ _ ea; is-sound = eb; room = room_says _ refl (closed-says _ h) }

-- ---- the append, and what its answer leads to

abbrev pub after_by : Reading → Bool → LogRecord → AppendedClaim → ClaimReply
after_by v ready next (Taken end claim) = record { next = next; answer = Ok (record { position = pos (v.count * v.term + end); claim = claim }); rule = ByClaim }
after_by v ready next Tripped = record { next = trip_next next v ready; answer = Err (trip_error v ready); rule = trip_rule v ready }
after_by v ready next (Refused e) = record { next = next; answer = Err e; rule = refused_rule e }

abbrev pub after : Reading → Bool → AppendClaimReply → ClaimReply
after v ready a = after_by v ready a.next a.answer

module _ (r : LogRecord) (log : List ℕ) (len : ℤ) where
  abbrev v· : Reading
  v· = reading r

  abbrev m· : ℕ
  m· = word len

  abbrev x· : Course
  x· = course v· (length log) (space m·) v·.id

  abbrev new· : List ℕ
  new· = claimed v· log (active r * v·.term) m·

  abbrev ready· : Bool
  ready· = is_ready r

  abbrev rule· : Rule
  rule· = decided v· ready· (length log) (asks m·)

  abbrev reply· : Result ⊤ Error → ClaimReply
  reply· x = record { next = next_by r v· (space m·) x; answer = claimed_by r v· m· x; rule = rule· }

  abbrev moved· : LogRecord
  moved· = with_tail r (active r) v·.id (v·.offset + space m·)

  -- what a claim that passes leaves and answers, by whether it fits
  abbrev passed· : Bool → ClaimReply
  passed· b =
      record {
        next = cond b moved· (trip_next moved· v· ready·);
        answer = cond b (Ok (record { position = pos (place v· + space m·); claim = claim_record v· (active r) m· })) (Err (trip_error v· ready·));
        rule = rule·;
      }

  pass-is : (b : Bool) → fits v· (space m·) ≡ b → reply· (Ok tt) ≡ passed· b
  unfolding append_next
  pass-is b e = ap passed· e

  pub claim-refused : (e : Error) (x : Rule) → x ≡ refused_rule e → claim_verdict v· (length log) m· ≡ Err e
      → (record { next = r; answer = Err e; rule = x } ≡ claim_of r log len) × (log ≡ claim_bytes r log len)
  unfolding claim_of claim_bytes
  claim-refused e x q h = (
    ap (λ (y : Rule). record { next = r; answer = Err e; rule = y }) (q ∙ claim-rule-refused v· ready· (length log) m· e h) ∙ sym (ap reply· h),
    sym (ap (log_by r v· log new· (space m·)) h),
  )

  both : (b : Bool) → leb (v·.offset + space m·) v·.term ≡ b → x· ≡ cond b Fit Trip → claim_verdict v· (length log) m· ≡ Ok tt
      → (after v· ready· (claim_appended_by r v· (active r) m· x·) ≡ claim_of r log len) × (bytes_by v· (active r) log new· x· ≡ claim_bytes r log len)
  unfolding claim_of claim_bytes
  both false eb ex w = (
    ap (λ (x : Course). after v· ready· (claim_appended_by r v· (active r) m· x)) ex
        ∙ ap (λ (x : Rule). record { next = trip_next moved· v· ready·; answer = Err (trip_error v· ready·); rule = x }) (claim-rule-passed v· ready· (length log) m· false eb w) ∙ sym (ap reply· w ∙ pass-is false eb),
    ap (bytes_by v· (active r) log new·) ex ∙ sym (ap (log_by r v· log new· (space m·)) w ∙ ap (λ (t : Bool). cond t new· (padded v· log (active r * v·.term))) eb),
  )
  both true eb ex w =
      let s : v·.count * v·.term + (v·.offset + space m·) ≡ place v· + space m· = omega arith in (
        ap (λ (x : Course). after v· ready· (claim_appended_by r v· (active r) m· x)) ex
            ∙ ap₂ (λ (p : ℕ) (x : Rule). record { next = moved·; answer = Ok (record { position = pos p; claim = claim_record v· (active r) m· }); rule = x }) s (claim-rule-passed v· ready· (length log) m· true eb w) ∙ sym (ap reply· w ∙ pass-is true eb),
        ap (bytes_by v· (active r) log new·) ex ∙ sym (ap (log_by r v· log new· (space m·)) w ∙ ap (λ (t : Bool). cond t new· (padded v· log (active r * v·.term))) eb),
      )

  way : Passed v· (length log) m· → x· ≡ cond (leb (v·.offset + space m·) v·.term) Fit Trip
  unfolding course
  way p = simp (p.is-sound, le-leb _ _ p.room, eq-eqb v·.id v·.id refl)

  -- a claim that nothing refuses is the claiming append, and what its answer leads to
  pub claim-is : claim_verdict v· (length log) m· ≡ Ok tt
      → (after v· ready· (claiming_reply r log (active r) m· v·.id) ≡ claim_of r log len) × (claiming_bytes r log (active r) m· v·.id ≡ claim_bytes r log len)
  claim-is h = both (leb (v·.offset + space m·) v·.term) refl (way (passed v· (length log) m· h)) h

-- ---- by the numbers that the code has

module _ (r : LogRecord) (log : List ℕ) (v : Reading) (k n g : ℕ) (a : AppendClaimReply) (ek : k ≡ active r) (ev : v ≡ reading r) (eg : g ≡ v.id)
    (ea : a ≡ claiming_reply r log k n g) where
  here : v ≡ reading_of r k
  here = ev ∙ ap (reading_of r) (sym ek)

  answers : (x : AppendedClaim) → a.answer ≡ x → (claiming_reply r log k n g).answer ≡ x
  answers x h = sym (ap (λ (y : AppendClaimReply). y.answer) ea) ∙ h

  pub claim-by : (log' : List ℕ) (len : ℤ) → n ≡ word len → claim_verdict v (length log) (word len) ≡ Ok tt → log' ≡ claiming_bytes r log k n g → (after v (is_ready r) a ≡ claim_of r log len) × (log' ≡ claim_bytes r log len)
  claim-by log' len en h el =
      let law = claim-is r log len (subst (λ (x : Reading). claim_verdict x (length log) (word len) ≡ Ok tt) ev h) in
      let one : (u : Reading) (j : ℕ) → v ≡ u → k ≡ j → a ≡ claiming_reply r log j (word len) u.id = λ u j eu ej. cc in
      let two : (u : Reading) (j : ℕ) → v ≡ u → k ≡ j → log' ≡ claiming_bytes r log j (word len) u.id = λ u j eu ej. cc in
      (ap₂ (λ (x : Reading) (y : AppendClaimReply). after x (is_ready r) y) ev (one (reading r) (active r) ev ek) ∙ law.0, two (reading r) (active r) ev ek ∙ law.1)

  -- the marks that it leaves
  pub claim-ready : next_marked a.next v ≡ is_ready r
  claim-ready = ready_of r a.next v (ap (λ (x : AppendClaimReply). x.next.is_cleared) ea ∙ go (course (reading_of r k) (length log) (space n) g)) ev
    where
      go : (x : Course) → (claim_appended_by r (reading_of r k) k n x).next.is_cleared ≡ r.is_cleared
      go (Deny e) = refl
      go Stray = marks-kept r (reading_of r k) k (space n) Stray
      go Trip = marks-kept r (reading_of r k) k (space n) Trip
      go Fit = marks-kept r (reading_of r k) k (space n) Fit

  -- one that is taken ends in its term
  pub claim-end : (end : ℕ) (claim : Claim) → a.answer ≡ Taken end claim → end ≤ v.term
  claim-end end claim h = subst (λ (x : Reading). end ≤ x.term) (sym here) (go (course (reading_of r k) (length log) (space n) g) refl (answers _ h))
    where
      go : (x : Course) → course (reading_of r k) (length log) (space n) g ≡ x → (claim_appended_by r (reading_of r k) k n x).answer ≡ Taken end claim → end ≤ (reading_of r k).term
      go (Deny e) c h = absurd (let z : ◌≡◌ {A = ℕ} 0 1 = cc in omega arith)
      go Stray c h = absurd (let z : ◌≡◌ {A = ℕ} 0 1 = cc in omega arith)
      go Trip c h = absurd (let z : ◌≡◌ {A = ℕ} 0 1 = cc in omega arith)
      go Fit c h = let e : (reading_of r k).offset + space n ≡ end = cc in omega (arith, (course-says (reading_of r k) (length log) (space n) g Fit c).1)

  -- one that tripped leaves a record that turns
  pub claim-turns : (count id : ℤ) → count ≡ r.active_term_count → word id ≡ g → length r.tails ≡ 3 → a.answer ≡ Tripped → Turns a.next v count id
  claim-turns count id ec ei three h =
      subst (λ (q : LogRecord). Turns q v count id) (sym (ap (λ (x : AppendClaimReply). x.next) ea))
      (subst (λ (x : Reading). Turns (claiming_reply r log k n g).next x count id) (sym here)
      (subst (λ (i : ℤ). Turns (claiming_reply r log k n g).next (reading_of r k) i id) (sym ec) (go (course (reading_of r k) (length log) (space n) g) refl (answers _ h))))
    where
      go : (x : Course) → course (reading_of r k) (length log) (space n) g ≡ x → (claim_appended_by r (reading_of r k) k n x).answer ≡ Tripped
          → Turns (claim_appended_by r (reading_of r k) k n x).next (reading_of r k) r.active_term_count id
      go (Deny e) c h = absurd (let z : ◌≡◌ {A = ℕ} 0 1 = cc in omega arith)
      go Stray c h = absurd (let z : ◌≡◌ {A = ℕ} 0 1 = cc in omega arith)
      go Fit c h = absurd (let z : ◌≡◌ {A = ℕ} 0 1 = cc in omega arith)
      go Trip c h = trip-turns r (reading_of r k) k (length log) (space n) g id Trip (ap (reading_of r) ek) ek c refl three (omega arith) (ei ∙ eg ∙ ap (λ (x : Reading). x.id) here)
