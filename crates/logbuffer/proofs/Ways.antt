-- The reply made of a way is the appenders' reply; what good arguments say; and the entry points by the numbers that the code has.
use Rattle.std.proofs.Common.{◌≡◌, ℕ, ◌+◌, ◌*◌, ◌%◌, ◌<◌, ◌≤◌, Bool, true, false, cond, ◌&&◌, eqb, leb, List, [], ◌∷◌, length, set, ℤ, pos, sym, refl, ap, ◌∙◌, ap₂, ⊎_elim, arith, w32, to_z, ltb-true, lt-ltb, eq-eqb, eqb-true, le-leb, leb-true}
use lib.Seq.{set_out}
use mir.Facts.{to_z_pos}
use types.Run.{OneOf}
use denote.Enum.Declared.{tag_of}
use Rattle.model.specs.declared.LogRecord.{LogRecord}
use Rattle.model.specs.declared.Reading.{Reading}
use Rattle.model.specs.declared.Claim.{Claim}
use Rattle.model.specs.declared.Error.TheVariants.{IllegalArgument}
use Rattle.model.specs.declared.Course.{Course}
use Rattle.model.specs.declared.Course.TheVariants.{Refuse, Stray, Trip, Fit}
use Rattle.model.specs.declared.AppendReply.{AppendReply}
use Rattle.model.specs.declared.AppendedClaim.TheVariants.{Claimed}
use Rattle.model.specs.declared.AppendClaimReply.{AppendClaimReply}
use Rattle.model.specs.FrameDescriptor.{space}
use Rattle.model.specs.LogBufferDescriptor.{reading_of, with_tail, changed}
use Rattle.model.specs.TermAppender.{fragment, cut, need, written, claimed, course, bytes_by, reply_by, good_message, good_fragments, unfragmented_course, fragmented_course, claim_record, claim_appended_by}
use Rattle.model.proofs.Both.{and-true, and_yes, and-false, test}
use Rattle.model.proofs.Choice.{cond-true, cond-false, cond-case}
use Rattle.model.specs.contracts.Course.{the_type}
use Rattle.model.proofs.Cut.{need-one, cut-one}
use Rattle.model.proofs.Sound.{id-small}
use Rattle.model.proofs.Append.{Room, course-room, message-true, base-in, append_reply, append_bytes}
use Rattle.logbuffer.specs.declared.way.Way.{Way}
use Rattle.logbuffer.specs.Ways.{no_way, way_to, way_by, good_append, course_of, good_claiming, claim_course, tail_at, moved_with, reply_with, claim_reply_with, message_reply, message_bytes, fragment_limit, append_way, append_way_bytes, one_way_bytes, claim_way, claim_bits, has_room, frame_fits, frames_fit}

-- ---- what a caller makes of a way

pub reply-way : (r : LogRecord) (v : Reading) (k m : ℕ) (x : Course) → reply_with r k (way_by v m x) ≡ reply_by r v k m x
unfolding with_tail
reply-way r v k m (Refuse e) = refl
reply-way r v k m Stray = refl
reply-way r v k m Trip = refl
reply-way r v k m Fit = refl

pub claim-way : (r : LogRecord) (v : Reading) (k n : ℕ) (c : Claim) (x : Course) → Room v (space n) x → (x ≡ Fit → v.offset + space n ≤ 2147483647 → c ≡ claim_record v k n)
    → claim_reply_with r k (way_by v (space n) x) c ≡ claim_appended_by r v k n x
unfolding with_tail
claim-way r v k n c (Refuse e) room h = refl
claim-way r v k n c Stray room h = refl
claim-way r v k n c Trip room h = refl
claim-way r v k n c Fit room h = ap (λ (d : Claim). record { next = with_tail r k v.id (v.offset + space n); answer = Claimed (v.offset + space n) d }) (h refl room)

-- of the four ways, all but a refusal move the tail, to whatever index the code names
pub tail-moves : (r : LogRecord) (k j : ℕ) (w : Way) (x : Course) (z : ℤ) → OneOf (1 ∷ 2 ∷ 3 ∷ []) (tag_of the_type x) → k ≡ j → z ≡ w.tail
    → changed r (set r.tails j z) r.active_term_count r.publication_limit r.is_closed ≡ moved_with r k w x
tail-moves r k j w x z h ek ez = ap₂ (λ (i : ℕ) (t : ℤ). changed r (set r.tails i t) r.active_term_count r.publication_limit r.is_closed) (sym ek) ez ∙ go x h
  where
    go : (x : Course) → OneOf (1 ∷ 2 ∷ 3 ∷ []) (tag_of the_type x) → tail_at r k w ≡ moved_with r k w x
    go (Refuse e) h = absurd (⊎_elim (λ e. omega arith) (⊎_elim (λ e. omega arith) (λ e. omega arith)) h)
    go Stray h = refl
    go Trip h = refl
    go Fit h = refl

-- past the last partition there is no tail to move
same : (r : LogRecord) (k : ℕ) (w : Way) → length r.tails ≤ k → r ≡ tail_at r k w
unfolding changed
same r k w h = ap (λ (t : List ℤ). changed r t r.active_term_count r.publication_limit r.is_closed) (sym (set_out r.tails k w.tail h))

pub refused-moves : (r : LogRecord) (k : ℕ) (w : Way) (x : Course) (e : _) → x ≡ Refuse e → r ≡ moved_with r k w x
refused-moves r k w x e h = sym (ap (moved_with r k w) h)

pub none_moves : (r : LogRecord) (k : ℕ) (w : Way) (x : Course) → length r.tails ≤ k → r ≡ moved_with r k w x
none_moves r k w (Refuse e) h = refl
none_moves r k w Stray h = same r k w h
none_moves r k w Trip h = same r k w h
none_moves r k w Fit h = same r k w h

-- of the four ways, all but a refusal have an end and a tail
pub way-moves : (v : Reading) (m : ℕ) (x : Course) → OneOf (1 ∷ 2 ∷ 3 ∷ []) (tag_of the_type x) → Room v m x
    → (way_to v m x ≡ way_by v m x) × (v.offset + m ≤ 2147483647)
way-moves v m (Refuse e) h w = absurd (⊎_elim (λ e. omega arith) (⊎_elim (λ e. omega arith) (λ e. omega arith)) h)
way-moves v m Stray h w = (refl, w)
way-moves v m Trip h w = (refl, w)
way-moves v m Fit h w = (refl, w)

-- ---- the arguments

pub record Goods (v : Reading) (k p m : ℕ) : Type 0 where
  pub part : k ≤ 2
  pub whole : m ≤ 2147483647
  pub low : 32 ≤ p
  pub high : p ≤ 2147483648
  pub multiple : p % 32 ≡ 0
  pub id-in : v.id < 4294967296

pub append-true : (v : Reading) (k p m : ℕ) → good_append v k p m ≡ true → Goods v k p m
append-true v k p m h =
    let a = and-true (good_message k m) _ h in
    let b = message-true k m a.0 in
    let d = and-true (leb 32 p) _ a.1 in
    let e = and-true (leb p 2147483648) _ d.1 in
    let f = and-true (eqb (p % 32) 0) _ e.1 in
    record { part = b.0; whole = b.1; low = leb-true _ _ d.0; high = leb-true _ _ e.0; multiple = eqb-true _ _ f.0; id-in = ltb-true _ _ f.1 }

pub claiming-true : (v : Reading) (k m : ℕ) → good_claiming v k m ≡ true → (k ≤ 2) × ((v.id < 4294967296) × (m ≤ 2147483647))
claiming-true v k m h =
    let a = and-true (good_message k m) _ h in
    let b = message-true k m a.0 in
    (b.0, (ltb-true _ _ a.1, b.1))

-- ---- one frame, or all of a message's, where they fit

pub record HasRoom (v : Reading) (n needed : ℕ) : Type 0 where
  pub term-high : v.term ≤ 1073741824
  pub room : v.offset + needed ≤ v.term
  pub three : n ≡ 3 * v.term

pub room-true : (v : Reading) (n needed : ℕ) → has_room v n needed ≡ true → HasRoom v n needed
unfolding has_room
room-true v n needed h =
    let b = and-true (leb v.offset 2147483647) _ h in
    let d = and-true (leb v.term 1073741824) _ b.1 in
    let e = and-true (eqb n (3 * v.term)) _ d.1 in
    record { term-high = leb-true _ _ d.0; room = leb-true _ _ e.1; three = eqb-true n (3 * v.term) e.0 }

pub record Fits (v : Reading) (n k m : ℕ) : Type 0 where
  pub part : k ≤ 2
  pub id-in : v.id < 4294967296
  pub whole : m ≤ 2147483647
  pub term-high : v.term ≤ 1073741824
  pub room : v.offset + space m ≤ v.term
  pub inside : k * v.term + v.term ≤ n

pub fits-true : (v : Reading) (n k m : ℕ) → frame_fits v n k m ≡ true → Fits v n k m
unfolding frame_fits
fits-true v n k m h =
    let a = and-true (good_claiming v k m) _ h in
    let r = room-true v n (space m) a.1 in
    let g = claiming-true v k m a.0 in
    record { part = g.0; id-in = g.1.0; whole = g.1.1; term-high = r.term-high; room = r.room; inside = omega (arith, base-in k v.term g.0, r.three) }

-- all of a message's frames
pub frames-true : (v : Reading) (n k p m : ℕ) → frames_fit v n k p m ≡ true → Goods v k p m × HasRoom v n (need p m)
unfolding frames_fit
frames-true v n k p m h =
    let a = and-true (good_append v k p m) _ h in
    (append-true v k p m a.0, room-true v n (need p m) a.1)

-- ---- the course by whether they are good

module _ (v : Reading) (n k p m g : ℕ) where
  pub course-good : good_append v k p m ≡ true → course_of v n k p m g ≡ course v n (need p m) g
  unfolding course_of
  course-good h = ap (λ (t : Bool). cond t (course v n (need p m) g) (Refuse IllegalArgument)) h

  pub course-no : good_append v k p m ≡ false → course_of v n k p m g ≡ Refuse IllegalArgument
  unfolding course_of
  course-no h = ap (λ (t : Bool). cond t (course v n (need p m) g) (Refuse IllegalArgument)) h

  pub way_no : good_append v k p m ≡ false → (nd : ℕ) (log new : List ℕ)
      → (no_way IllegalArgument ≡ way_by v nd (course_of v n k p m g)) × (log ≡ bytes_by v k log new (course_of v n k p m g))
  way_no h nd log new = (sym (ap (way_by v nd) (course-no h)), sym (ap (bytes_by v k log new) (course-no h)))

module _ (v : Reading) (n k m g : ℕ) where
  pub claim-good : good_claiming v k m ≡ true → claim_course v n k m g ≡ course v n (space m) g
  unfolding claim_course
  claim-good h = ap (λ (t : Bool). cond t (course v n (space m) g) (Refuse IllegalArgument)) h

  pub claim-no : good_claiming v k m ≡ false → (log new : List ℕ)
      → (no_way IllegalArgument ≡ way_by v (space m) (claim_course v n k m g)) × (log ≡ bytes_by v k log new (claim_course v n k m g))
  unfolding claim_course
  claim-no h log new =
      let e = ap (λ (t : Bool). cond t (course v n (space m) g) (Refuse IllegalArgument)) h in
      (sym (ap (way_by v (space m)) e), sym (ap (bytes_by v k log new) e))

-- ---- by the numbers that the code has

pub way-is : (v : Reading) (k p g z z' nd : ℕ) (log out m : List ℕ) (x : Course) (w : Way) → course_of v (length log) k p (length m) g ≡ course v (length log) (need p (length m)) g
    → nd ≡ need p (length m) → z ≡ z' → x ≡ course v (length log) nd g → w ≡ way_by v nd x
    → out ≡ bytes_by v k log (written v log (k * v.term) v.offset (cut p z m)) (course v (length log) nd g)
    → (w ≡ way_by v (need p (length m)) (course_of v (length log) k p (length m) g))
    × (out ≡ bytes_by v k log (written v log (k * v.term) v.offset (cut p z' m)) (course_of v (length log) k p (length m) g))
way-is v k p g z z' nd log out m x w ec en ez ex ew eo = (cc, cc)

pub claim-way-is : (v : Reading) (k n g : ℕ) (log out : List ℕ) (x : Course) (w : Way) → claim_course v (length log) k n g ≡ course v (length log) (space n) g
    → x ≡ course v (length log) (space n) g → w ≡ way_by v (space n) x → out ≡ bytes_by v k log (claimed v log (k * v.term) n) (course v (length log) (space n) g)
    → (w ≡ way_by v (space n) (claim_course v (length log) k n g)) × (out ≡ bytes_by v k log (claimed v log (k * v.term) n) (claim_course v (length log) k n g))
claim-way-is v k n g log out x w ec ex ew eo = (cc, cc)

-- a message as one frame
pub one-way-is : (v : Reading) (k g z z' : ℕ) (log out m : List ℕ) (x : Course) (w : Way) → claim_course v (length log) k (length m) g ≡ course v (length log) (space (length m)) g
    → z ≡ z' → x ≡ course v (length log) (space (length m)) g → w ≡ way_by v (space (length m)) x
    → out ≡ bytes_by v k log (written v log (k * v.term) v.offset (fragment 192 z m ∷ [])) (course v (length log) (space (length m)) g)
    → (w ≡ claim_way v log k (length m) g) × (out ≡ one_way_bytes v log k m z' g)
one-way-is v k g z z' log out m x w ec ez ex ew eo = (cc, cc)

-- a message by the record, whose numbers were read
pub message-by : (r : LogRecord) (log out m : List ℕ) (v : Reading) (k p g g' z z' : ℕ) (w : Way) (reply : AppendReply) → v ≡ reading_of r k → g ≡ g' → z ≡ z'
    → w ≡ way_by v (need p (length m)) (course_of v (length log) k p (length m) g)
    → out ≡ bytes_by v k log (written v log (k * v.term) v.offset (cut p z m)) (course_of v (length log) k p (length m) g) → reply ≡ reply_with r k w
    → (reply ≡ message_reply r log k p m g') × (out ≡ message_bytes r log k p m z' g')
message-by r log out m v k p g g' z z' w reply ev eg ez ew eo er = (
  er ∙ ap (reply_with r k) ew ∙ reply-way r v k (need p (length m)) (course_of v (length log) k p (length m) g)
      ∙ ap₂ (λ (u : Reading) (i : ℕ). reply_by r u k (need p (length m)) (course_of u (length log) k p (length m) i)) ev eg,
  cc,
)

-- which is the appenders' where the arguments are good
pub message-good : (r : LogRecord) (log m : List ℕ) (k p z g : ℕ) → k ≤ 2 → 32 ≤ p → p ≤ 2147483648 → p % 32 ≡ 0 → length m ≤ 2147483647
    → (message_reply r log k p m g ≡ append_reply r log k p m g) × (message_bytes r log k p m z g ≡ append_bytes r log k p m z g)
message-good r log m k p z g hk low high multiple short =
    let v = reading_of r k in
    let e = course-good v (length log) k p (length m) g (simp (le-leb _ _ hk, le-leb _ _ short, le-leb _ _ low, le-leb _ _ high, eq-eqb _ _ multiple, lt-ltb _ _ (id-small r k))) in
    (ap (reply_by r v k (need p (length m))) e, ap (bytes_by v k log (written v log (k * v.term) v.offset (cut p z m))) e)

-- a message that one frame holds goes the same way by either call
pub one-is : (v : Reading) (k p g z : ℕ) (log m : List ℕ) → k ≤ 2 → v.id < 4294967296 → 32 ≤ p → p ≤ 2147483648 → p % 32 ≡ 0 → length m ≤ p → length m ≤ 2147483647
    → (claim_way v log k (length m) g ≡ append_way v log k p m g) × (one_way_bytes v log k m z g ≡ append_way_bytes v log k p m z g)
one-is v k p g z log m hk hid low high multiple one short =
    let n = length log in
    let few : good_claiming v k (length m) ≡ true = simp (le-leb _ _ hk, le-leb _ _ short, lt-ltb _ _ hid) in
    let many : good_append v k p (length m) ≡ true = simp (le-leb _ _ hk, le-leb _ _ short, le-leb _ _ low, le-leb _ _ high, eq-eqb _ _ multiple, lt-ltb _ _ hid) in
    let e = claim-good v n k (length m) g few in
    let f = course-good v n k p (length m) g many in
    let o = need-one p (length m) one in
    let q = cut-one p z m one in
    (cc, cc)

-- a claim by the record, whose numbers were read
claim-room : (v : Reading) (n k m g : ℕ) → Room v (space m) (claim_course v n k m g)
unfolding claim_course
claim-room v n k m g = cond-case (Room v (space m)) (good_claiming v k m) (course v n (space m) g) (Refuse IllegalArgument) (λ _. course-room v n (space m) g) (λ _. tt)

-- and it fits only into a partition
fit-in : (v : Reading) (n k m g : ℕ) → claim_course v n k m g ≡ Fit → k ≤ 2
unfolding claim_course
fit-in v n k m g e =
    test (good_claiming v k m) (λ h. (claiming-true v k m h).0)
    (λ h. let z : Refuse IllegalArgument ≡ Fit = sym (cond-false (good_claiming v k m) (course v n (space m) g) (Refuse IllegalArgument) h) ∙ e in
    absurd (let y : ◌≡◌ {A = ℕ} 0 1 = cc in omega arith))

pub claim-by : (r : LogRecord) (log out : List ℕ) (v : Reading) (k n g g' : ℕ) (w : Way) (c : Claim) (reply : AppendClaimReply) → v ≡ reading_of r k → g ≡ g'
    → w ≡ way_by v (space n) (claim_course v (length log) k n g) → out ≡ bytes_by v k log (claimed v log (k * v.term) n) (claim_course v (length log) k n g)
    → reply ≡ claim_reply_with r k w c → (k ≤ 2 → v.offset + space n ≤ 2147483647 → c ≡ claim_record v k n)
    → (reply ≡ claim_appended_by r (reading_of r k) k n (claim_course (reading_of r k) (length log) k n g'))
    × (out ≡ bytes_by (reading_of r k) k log (claimed (reading_of r k) log (k * (reading_of r k).term) n) (claim_course (reading_of r k) (length log) k n g'))
claim-by r log out v k n g g' w c reply ev eg ew eo er ec = (
  er ∙ ap (λ (y : Way). claim_reply_with r k y c) ew ∙ claim-way r v k n c (claim_course v (length log) k n g) (claim-room v (length log) k n g) (λ e. ec (fit-in v (length log) k n g e))
      ∙ ap₂ (λ (u : Reading) (i : ℕ). claim_appended_by r u k n (claim_course u (length log) k n i)) ev eg,
  cc,
)

-- where the claim fits its bits are its numbers
pub claim-bits : (v : Reading) (k n : ℕ) → k ≤ 2 → v.offset + space n ≤ 2147483647 → claim_bits v k n ≡ claim_record v k n
unfolding claim_record
claim-bits v k n hk h =
    let a : to_z w32 k ≡ pos k = to_z_pos w32 (omega arith) in
    let b : to_z w32 v.offset ≡ pos v.offset = to_z_pos w32 (omega arith) in
    let m : (n + 32) % 4294967296 ≡ n + 32 = omega arith in
    let d : to_z w32 (n + 32) ≡ pos (n + 32) = to_z_pos w32 (omega arith) in
    cc

-- ---- the entry points' courses, whose ids are always of 32 bits

pub claim-course : (r : LogRecord) (n k m g : ℕ) → claim_course (reading_of r k) n k m g ≡ unfragmented_course r n k m g
unfolding claim_course unfragmented_course
claim-course r n k m g = simp (lt-ltb _ _ (id-small r k), and_yes)

module _ (r : LogRecord) (log m : List ℕ) (k z g : ℕ) where
  abbrev read : Reading
  read = reading_of r k

  abbrev whole : ℕ
  whole = 2147483648

  as-message : course_of read (length log) k whole (length m) g ≡ cond (good_message k (length m)) (course read (length log) (need whole (length m)) g) (Refuse IllegalArgument)
  unfolding course_of
  as-message = simp (lt-ltb _ _ (id-small r k), and_yes)

  -- a payload limit above every message cuts none
  pub unfragmented-is : (message_reply r log k whole m g ≡ reply_by r read k (space (length m)) (unfragmented_course r (length log) k (length m) g))
      × (message_bytes r log k whole m z g
      ≡ bytes_by read k log (written read log (k * read.term) read.offset (fragment 192 z m ∷ [])) (unfragmented_course r (length log) k (length m) g))
  unfolding unfragmented_course
  unfragmented-is =
      test (good_message k (length m))
      (λ h.
      let l : length m ≤ 2147483648 = omega (arith, (message-true k (length m) h).1) in
      let e : course_of read (length log) k whole (length m) g ≡ course read (length log) (need whole (length m)) g = as-message ∙ cond-true _ _ _ h in
      let f : cond (good_message k (length m)) (course read (length log) (space (length m)) g) (Refuse IllegalArgument) ≡ course read (length log) (space (length m)) g = cond-true _ _ _ h in
      let o = need-one whole (length m) l in
      let q = cut-one whole z m l in
      (cc (e, f, o), cc (e, f, o, q)))
      (λ h.
      let e : course_of read (length log) k whole (length m) g ≡ Refuse IllegalArgument = as-message ∙ cond-false _ _ _ h in
      let f : cond (good_message k (length m)) (course read (length log) (space (length m)) g) (Refuse IllegalArgument) ≡ Refuse IllegalArgument = cond-false _ _ _ h in
      let new = written read log (k * read.term) read.offset (cut whole z m) in
      let one = written read log (k * read.term) read.offset (fragment 192 z m ∷ []) in (
        ap (reply_by r read k (need whole (length m))) e ∙ sym (ap (reply_by r read k (space (length m))) f),
        ap (bytes_by read k log new) e ∙ sym (ap (bytes_by read k log one) f),
      ))

-- a limit that is none is refused, as all else that `good_fragments` asks is by the append
one-fails : (a b c d e : Bool) → (b && d) ≡ false → (a && (b && (c && (d && e)))) ≡ false
one-fails false b c d e h = refl
one-fails true false c d e h = refl
one-fails true true false d e h = refl
one-fails true true true d e h = ap (λ (t : Bool). t && e) h

module _ (r : LogRecord) (log m : List ℕ) (k p z g : ℕ) where
  abbrev read· : Reading
  read· = reading_of r k

  abbrev limit : ℕ
  limit = fragment_limit (length m) p

  -- the course is all that the two could differ in
  by-course : (q : ℕ) → limit ≡ q → course_of read· (length log) k q (length m) g ≡ fragmented_course r (length log) k (length m) p g
      → (reply_by r read· k (need q (length m)) (fragmented_course r (length log) k (length m) p g) ≡ reply_by r read· k (need p (length m)) (fragmented_course r (length log) k (length m) p g))
      × (bytes_by read· k log (written read· log (k * read·.term) read·.offset (cut q z m)) (fragmented_course r (length log) k (length m) p g)
      ≡ bytes_by read· k log (written read· log (k * read·.term) read·.offset (cut p z m)) (fragmented_course r (length log) k (length m) p g))
      → (message_reply r log k limit m g ≡ reply_by r read· k (need p (length m)) (fragmented_course r (length log) k (length m) p g))
      × (message_bytes r log k limit m z g ≡ bytes_by read· k log (written read· log (k * read·.term) read·.offset (cut p z m)) (fragmented_course r (length log) k (length m) p g))
  by-course q eq ec same = (
    ap (λ (y : ℕ). message_reply r log k y m g) eq ∙ ap (reply_by r read· k (need q (length m))) ec ∙ same.0,
    ap (λ (y : ℕ). message_bytes r log k y m z g) eq ∙ ap (bytes_by read· k log (written read· log (k * read·.term) read·.offset (cut q z m))) ec ∙ same.1,
  )

  pub fragmented-is : (message_reply r log k limit m g ≡ reply_by r read· k (need p (length m)) (fragmented_course r (length log) k (length m) p g))
      × (message_bytes r log k limit m z g ≡ bytes_by read· k log (written read· log (k * read·.term) read·.offset (cut p z m)) (fragmented_course r (length log) k (length m) p g))
  unfolding course_of fragmented_course
  fragmented-is =
      test (leb 1 (length m) && leb p 2147483647)
      (λ h.
      let q = and-true (leb 1 (length m)) _ h in
      let l : p ≤ 2147483648 = omega (arith, leb-true p 2147483647 q.1) in
      let e : good_append read· k p (length m) ≡ good_fragments k (length m) p = simp (q.0, q.1, le-leb _ _ l, lt-ltb _ _ (id-small r k), and_yes) in
      by-course p (cond-true _ _ _ h) (ap (λ (t : Bool). cond t (course read· (length log) (need p (length m)) g) (Refuse IllegalArgument)) e) (refl, refl))
      (λ h.
      let e : good_append read· k 0 (length m) ≡ false = and-false (good_message k (length m)) in
      let f : good_fragments k (length m) p ≡ false = one-fails (good_message k (length m)) (leb 1 (length m)) (leb 32 p) (leb p 2147483647) _ h in
      let no : fragmented_course r (length log) k (length m) p g ≡ Refuse IllegalArgument = cond-false _ _ _ f in
      let new : ℕ → List ℕ = λ (y : ℕ). written read· log (k * read·.term) read·.offset (cut y z m) in
      by-course 0 (cond-false _ _ _ h) (cond-false _ _ _ e ∙ sym no)
      (ap (reply_by r read· k (need 0 (length m))) no ∙ sym (ap (reply_by r read· k (need p (length m))) no), ap (bytes_by read· k log (new 0)) no ∙ sym (ap (bytes_by read· k log (new p)) no)))
