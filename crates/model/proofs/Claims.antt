-- A claim of a term not cleared lent and written, committed or aborted: its frame is changed in place, in the stream's log and in the
-- partition that shows it, and the history with it.
use Rattle.std.specs.Prelude.{Result, Ok, Err, ⊤}
use mathlib.Core.Path.{◌≡◌, refl, sym, ap, ap₂, ◌∙◌, subst}
use mathlib.Core.Bool.{Bool, true, false, cond}
use Prim.Native.Nat.{ℕ, ◌+◌, ◌-◌, ◌*◌, ◌%◌, ◌≤◌, ◌<◌}
use native.Mathlib.Nat.{zero-add, lt_of_mul-lt-mul_right, mul-le-mul_right}
use mathlib.Core.List.{List, [], ◌∷◌, ◌++◌, append_assoc}
use native.Mathlib.Omega.{arith}
use borrow.Author.Tests.{eqb-true, leb-true}
use lib.Dec.{eqb, leb}
use lib.ListN.{length, take, drop, length-take}
use lib.Seq.{drop_at}
use Rattle.model.specs.declared.LogRecord.{LogRecord}
use Rattle.model.specs.declared.Claim.{Claim}
use Rattle.model.specs.declared.Reading.{Reading}
use Rattle.model.specs.declared.Error.{Error}
use Rattle.model.specs.declared.Error.TheVariants.{IllegalArgument, IllegalRecord, ClaimMismatch}
use Rattle.model.specs.Bytes.{word, u32, splice, zeros, le2, le4}
use Rattle.model.specs.FrameDescriptor.{align, space, negated}
use Rattle.model.specs.LogBufferDescriptor.{reading, sound, good_partition}
use Rattle.model.specs.Parts.{located_by}
use Rattle.model.specs.declared.Span.{Span}
use Rattle.model.specs.BufferClaim.{claim_start, good_claim, matches, claim_check, body_start, body_end, locate_of, write_span, write_outcome, write_over, outcome_of, commit_of, changed_by, commit_bytes, abort_bytes}
use Rattle.model.specs.History.{Call, fill, commit, abort, outcome, World, Step, step, Shape, shape_of, State, open·, committed, aborted, Extent, claimed·, term_of, start_of, edit, overlay, written·, turned, after_done, tell, Terms, tell_terms}
use Rattle.model.proofs.Choice.{cond-case}
use Rattle.model.proofs.Both.{and-true}
use Rattle.model.proofs.Cells.{Cell, cell, stored, flen, fsize, enc, bytes, sizes, length-bytes, bytes-append, sizes-append, flen-ge, fsize-ge}
use Rattle.model.proofs.Walking.{Small, Fits, norm, u32-enc}
use Rattle.model.proofs.OneSession.{frames, flat}
use Rattle.model.proofs.Tails.{Tails}
use Rattle.model.proofs.Writing.{fits-swap, commits, aborts, refills, length-overlay}
use Rattle.model.proofs.Around.{Pads, size-all, flat_append, At, Around, around, at-swap, pads-swap, pads-front}
use Rattle.model.proofs.Keeping.{Known, known_on, Holds, long-log}
use Rattle.model.proofs.Kept.{Marks, Inv, inside}
use Rattle.model.proofs.Window.{Window, shown, laid, word_same}
use Rattle.model.proofs.Splice.{length-splice}
use Rattle.model.proofs.Calls.{Keeps}

still_open : (d : State) (n m : ℕ) → stored d n ≡ 4294967296 - m → n ≡ m → n < 2147483648 → d ≡ open·
unfolding stored
still_open open· n m e q h = refl
still_open committed n m e q h = absurd (omega arith)
still_open aborted n m e q h = absurd (omega arith)

sizes-swap : (f g : Cell) (fs : List Cell) → fsize f ≡ fsize g → sizes (g ∷ fs) ≡ sizes (f ∷ fs)
unfolding sizes
sizes-swap f g fs e = ap (λ (n : ℕ). n + sizes fs) (sym e)

fits-small : (T r : ℕ) (fs : List Cell) (f : Cell) (gs : List Cell) → Fits T r (fs ++ (f ∷ gs)) → Small f
unfolding Fits
fits-small T r [] f gs h = h.0
fits-small T r (x ∷ fs) f gs h = fits-small T (norm T (r - fsize x)) fs f gs h.2

split-bytes : (c : Shape) (p : ℕ) (fs : List Cell) (f : Cell) (gs : List Cell) (z : List ℕ) → sizes fs ≡ p → bytes c 0 (fs ++ (f ∷ gs)) ++ z ≡ bytes c 0 fs ++ (enc c p f ++ (bytes c (p + fsize f) gs ++ z))
unfolding bytes
split-bytes c p fs f gs z e =
    ap (λ (x : List ℕ). x ++ z) (bytes-append c 0 fs (f ∷ gs))
    ∙ append_assoc (bytes c 0 fs) (enc c (0 + sizes fs) f ++ bytes c (0 + sizes fs + fsize f) gs) z
    ∙ ap (λ (x : List ℕ). bytes c 0 fs ++ x) (append_assoc (enc c (0 + sizes fs) f) (bytes c (0 + sizes fs + fsize f) gs) z)
    ∙ ap (λ (q : ℕ). bytes c 0 fs ++ (enc c q f ++ (bytes c (q + fsize f) gs ++ z))) (zero-add (sizes fs) ∙ e)

flat-around : (c : Shape) (h : List Extent) (k : State) (b : List ℕ) (g : List Extent) → flat c (h ++ (claimed· k b ∷ g)) ≡ flat c h ++ (cell k 192 0 b ∷ flat c g)
unfolding flat frames
flat-around c h k b g = flat_append c h (claimed· k b ∷ g)

fsize-by : (k l : State) (b d : List ℕ) → length b ≡ length d → fsize (cell k 192 0 b) ≡ fsize (cell l 192 0 d)
unfolding fsize flen
fsize-by k l b d e = ap space e

flen-by : (k l : State) (b d : List ℕ) → length b ≡ length d → flen (cell k 192 0 b) ≡ flen (cell l 192 0 d)
unfolding flen
flen-by k l b d e = ap (λ (n : ℕ). n + 32) e

below_all : (k T : ℕ) → k < 2147483648 → k * T + T ≤ 2147483648 * T
below_all k T h = omega (arith, mul-le-mul_right T h)

mul-le : (a b T : ℕ) → a ≤ b → a * T ≤ b * T
mul-le a b T h = mul-le-mul_right T h

sizes-cons : (f : Cell) (fs : List Cell) → sizes (f ∷ fs) ≡ fsize f + sizes fs
unfolding sizes
sizes-cons f fs = refl

plus-zero : (n : ℕ) → n + 0 ≡ n
plus-zero n = omega arith

module _ (r : LogRecord) (log : List ℕ) (h : List Extent) (ks : List Claim) (s : Terms) (t : Tails r) (long· : length log ≡ 3 * (reading r).term) (all : List ℕ)
    (i : Holds (shape_of (reading r)) (reading r) all h ks) (win : Window (reading r).term log all s.cleared) (marks : Marks r s)
    (k : Claim) (o : Known (shape_of (reading r)) h k) (kept : s.cleared ≤ term_of (shape_of (reading r)) k) where
  abbrev v : Reading
  v = reading r

  abbrev c : Shape
  c = shape_of (reading r)

  abbrev T : ℕ
  T = (reading r).term

  abbrev w : World
  w = record { record· = r; log = log }

  a : Around c (start_of c k) (word k.length - 32) h
  a = around c (start_of c k) (word k.length - 32) h o.at

  abbrev p : ℕ
  p = start_of c k

  abbrev x : List ℕ
  x = bytes c 0 (flat c a.front)

  abbrev f : Cell
  f = cell a.state 192 0 a.body

  abbrev rest : List ℕ
  rest = bytes c (p + fsize f) (flat c a.back) ++ zeros (2147483648 * T - sizes (flat c h))

  flat-is : flat c h ≡ flat c a.front ++ (f ∷ flat c a.back)
  flat-is = ap (flat c) a.is ∙ flat-around c a.front a.state a.body a.back

  front-size : sizes (flat c a.front) ≡ p
  front-size =
      sym (size-all c (omega (arith, i.fixed.mtu-low)) (omega (arith, i.fixed.mtu-low, i.fixed.mtu-32)) a.front (pads-front a.front (claimed· a.state a.body ∷ a.back) (subst Pads a.is i.pads)))
      ∙ a.at

  x-long : length x ≡ p
  x-long = length-bytes c 0 (flat c a.front) ∙ front-size

  log_is : all ≡ x ++ (enc c p f ++ rest)
  log_is =
      i.bytes-are ∙ ap (λ (l : List Cell). bytes c 0 l ++ zeros (2147483648 * T - sizes (flat c h))) flat-is
      ∙ split-bytes c p (flat c a.front) f (flat c a.back) (zeros (2147483648 * T - sizes (flat c h))) front-size

  f-long : length a.body + 32 ≡ word k.length
  f-long = omega (arith, a.long, o.long)

  f-small : Small f
  f-small = fits-small T T (flat c a.front) f (flat c a.back) (subst (Fits T T) flat-is i.fits)

  -- ---- where it lies

  abbrev n· : ℕ
  n· = term_of c k

  abbrev o· : ℕ
  o· = word k.offset

  p-is : p ≡ n· * T + o·
  unfolding start_of
  p-is = refl

  start_is : claim_start v k ≡ n· % 3 * T + o·
  start_is = ap (λ (m : ℕ). m * T + o·) o.place

  -- its term is begun, so it is in the window
  begun : n· ≤ v.count
  begun =
      let all-size : sizes (flat c h) ≡ sizes (flat c a.front) + (fsize f + sizes (flat c a.back)) = ap sizes flat-is ∙ sizes-append (flat c a.front) (f ∷ flat c a.back) ∙ ap (λ (m : ℕ). sizes (flat c a.front) + m) (sizes-cons f (flat c a.back)) in
      let low : n· * T < (v.count + 1) * T = omega (arith, front-size, p-is, i.size, fsize-ge f, flen-ge f) in
      let less : n· < v.count + 1 = lt_of_mul-lt-mul_right T low in
      omega arith

  in_window : n· ≤ s.cleared + 2
  in_window = omega (arith, begun, marks.high, marks.turns)

  in-log : n· % 3 * T + T ≤ length log
  in-log = inside T (n· % 3) (length log) long· (omega arith)

  in_all : n· * T + T ≤ length all
  in_all = omega (arith, long-log v all h ks i, below_all v.count T i.low, mul-le n· v.count T begun)

  -- a header that shows minus the length is one still being written
  open-still : o· + 4 ≤ T → u32 (drop (claim_start v k) log) ≡ 4294967296 - word k.length → a.state ≡ open·
  unfolding Small flen
  open-still l e =
      let same = word_same T log all (n· % 3) n· (shown T log all s.cleared n· win kept in_window) o· l in
      still_open a.state (length a.body + 32) (word k.length)
      (sym (u32-enc c p f rest f-small) ∙ ap u32 (sym (ap₂ drop (sym p-is) log_is ∙ drop_at x (enc c p f ++ rest) p x-long)) ∙ sym same ∙ ap (λ (m : ℕ). u32 (drop m log)) (sym start_is) ∙ e) f-long f-small

  -- the claim's frame changed for another of its length
  swapped : (d : State) (b : List ℕ) (e : Extent → Extent) (all' : List ℕ) → length a.body ≡ length b → e (claimed· a.state a.body) ≡ claimed· d b
      → all' ≡ x ++ (enc c p (cell d 192 0 b) ++ rest) → Holds c v all' (edit c e p h) ks
  swapped d b e all' l q s =
      let g = cell d 192 0 b in
      let h' = a.front ++ (claimed· d b ∷ a.back) in
      let same : fsize f ≡ fsize g = fsize-by a.state d a.body b l in
      let flat' = flat-around c a.front d b a.back in
      let size : sizes (flat c h') ≡ sizes (flat c h) =
      ap sizes flat' ∙ sizes-append (flat c a.front) (g ∷ flat c a.back) ∙ ap (λ (n : ℕ). sizes (flat c a.front) + n) (sizes-swap f g (flat c a.back) same) ∙ sym (sizes-append (flat c a.front) (f ∷ flat c a.back)) ∙ sym (ap sizes flat-is) in
      subst (λ (t : List Extent). Holds c v all' t ks) (sym (a.edited e ∙ ap (λ (s : Extent). a.front ++ (s ∷ a.back)) q))
      (record {
        is = i.is;
        fixed = i.fixed;
        here = i.here;
        low = i.low;
        size = size ∙ i.size;
        bytes-are = s
            ∙ ap₂ (λ (n m : ℕ). x ++ (enc c p g ++ (bytes c (p + n) (flat c a.back) ++ zeros (2147483648 * T - m)))) same (sym size)
            ∙ sym (split-bytes c p (flat c a.front) g (flat c a.back) (zeros (2147483648 * T - sizes (flat c h'))) front-size)
            ∙ ap (λ (t : List Cell). bytes c 0 t ++ zeros (2147483648 * T - sizes (flat c h'))) (sym flat');
        fits = subst (Fits T T) (sym flat')
            (fits-swap T T (flat c a.front) f g (flat c a.back) (flen-by a.state d a.body b l) (subst (Fits T T) flat-is i.fits));
        whole = i.whole;
        most = i.most;
        bound = i.bound;
        slow-high = i.slow-high;
        slow-32 = i.slow-32;
        pads = pads-swap a.front a.state d a.body b a.back (subst Pads a.is i.pads);
        known = known_on c h h' ks (λ q n t. at-swap c q n a.front a.state d a.body b a.back l (subst (At c q n) a.is t)) i.known;
      })

  -- ---- the check

  record Found : Type 0 where
    fit : o· + align (word k.length) ≤ T
    shows : u32 (drop (claim_start v k) log) ≡ 4294967296 - word k.length

  Says : Result ⊤ Error → Type 0
  Says (Ok _) = Found
  Says (Err e) = Unit {0}

  says-no : (e : Error) → Says (Err e)
  unfolding Says
  says-no e = tt

  says-pass : Found → Says (Ok tt)
  unfolding Says
  says-pass q = q

  shown-word : matches log (claim_start v k) k ≡ true → u32 (drop (claim_start v k) log) ≡ 4294967296 - word k.length
  unfolding matches
  shown-word e = eqb-true _ _ (and-true (eqb (u32 (drop (claim_start v k) log)) (negated (word k.length))) _ e).0

  good-fit : good_claim v k ≡ true → o· + align (word k.length) ≤ T
  unfolding good_claim
  good-fit e =
      let p0 = and-true (good_partition (word k.partition)) _ e in
      let p1 = and-true (eqb (o· % 32) 0) _ p0.1 in
      let p2 = and-true (leb 32 (word k.length)) _ p1.1 in
      leb-true (o· + align (word k.length)) T (and-true (leb (o· + align (word k.length)) T) _ p2.1).0

  check-says : Says (claim_check r log k)
  unfolding claim_check
  check-says =
      cond-case Says (good_claim v k) _ (Err IllegalArgument)
      (λ g. cond-case Says (sound v (length log)) _ (Err IllegalRecord)
      (λ e. cond-case Says (matches log (claim_start v k) k) (Ok tt) (Err ClaimMismatch) (λ q. says-pass (record { fit = good-fit g; shows = shown-word q })) (λ q. says-no ClaimMismatch))
      (λ e. says-no IllegalRecord))
      (λ e. says-no IllegalArgument)

  -- a call of this kind: done, or refused with nothing changed
  abbrev steps : List ℕ → Result ⊤ Error → Step
  steps log' y = record { answer = outcome (outcome_of y); next = record { record· = r; log = changed_by log log' y } }

  -- the same laid over both logs
  record Both (log' all' : List ℕ) : Type 0 where
    window : Window T log' all' s.cleared
    long-log' : length log' ≡ 3 * T
    long-all' : length all' ≡ length all

  matched : (y : Call) (d : State) (b : List ℕ) (e : Extent → Extent) (log' all' : List ℕ) → length a.body ≡ length b
      → ((q : Result ⊤ Error) → tell c h y (outcome q) ≡ after_done h (edit c e p h) q) → ((q : Result ⊤ Error) → tell_terms s y (outcome q) ≡ s)
      → (a.state ≡ open· → e (claimed· a.state a.body) ≡ claimed· d b) → (a.state ≡ open· → all' ≡ x ++ (enc c p (cell d 192 0 b) ++ rest))
      → (Found → Both log' all') → (z : Result ⊤ Error) → Says z → Keeps c h ks s y (steps log' z)
  unfolding Says
  matched y d b e log' all' l tells turns q g both (Ok _) u =
      let still = open-still (omega (arith, u.fit, o.long)) u.shows in
      let two = both u in (
        subst (λ (m : List Extent). Inv c (record { record· = r; log = log' }) m ks (tell_terms s y (outcome (Ok tt)))) (sym (tells (Ok tt)))
            (subst (Inv c (record { record· = r; log = log' }) (edit c e p h) ks) (sym (turns (Ok tt)))
            (record { tails = t; long = two.long-log'; all = all'; holds = swapped d b e all' l (q still) (g still); window = two.window; marks = marks })),
        tt,
      )
  matched y d b e log' all' l tells turns q g both (Err z) u = (
    subst (λ (m : List Extent). Inv c w m ks (tell_terms s y (outcome (Err z)))) (sym (tells (Err z)))
        (subst (Inv c w h ks) (sym (turns (Err z))) (record { tails = t; long = long·; all = all; holds = i; window = win; marks = marks })),
    tt,
  )

  log-open : a.state ≡ open· → all ≡ x ++ (enc c p (cell open· 192 0 a.body) ++ rest)
  log-open s = log_is ∙ ap (λ (d : State). x ++ (enc c p (cell d 192 0 a.body) ++ rest)) s

  -- bytes laid at an offset of the claim's frame, over both
  lay : (l₁ l₂ : List ℕ) (j : ℕ) (new : List ℕ) → o· + j + length new ≤ T → length l₁ ≡ 3 * T → length l₂ ≡ length all → Window T l₁ l₂ s.cleared
      → Both (splice l₁ (claim_start v k + j) new) (splice l₂ (p + j) new)
  lay l₁ l₂ j new f e₁ e₂ u =
      let i₁ : claim_start v k + j ≡ n· % 3 * T + (o· + j) = omega (arith, start_is) in
      let i₂ : p + j ≡ n· * T + (o· + j) = omega (arith, p-is) in
      subst (λ (m : ℕ). Both (splice l₁ m new) (splice l₂ (p + j) new)) (sym i₁)
      (subst (λ (m : ℕ). Both (splice l₁ (n· % 3 * T + (o· + j)) new) (splice l₂ m new)) (sym i₂)
      (record {
        window = laid T l₁ l₂ (o· + j) new f s.cleared n· kept in_window (omega (arith, in-log)) (omega (arith, in_all)) u;
        long-log' = length-splice l₁ (n· % 3 * T + (o· + j)) new (omega (arith, in-log)) ∙ e₁;
        long-all' = length-splice l₂ (n· * T + (o· + j)) new (omega (arith, in_all)) ∙ e₂;
      }))

  length-4 : (n : ℕ) → length (le4 n) ≡ 4
  unfolding le4
  length-4 n = refl

  length-2 : (n : ℕ) → length (le2 n) ≡ 2
  unfolding le2
  length-2 n = refl

  pub commit-keeps : Keeps c h ks s (commit k) (step w (commit k))
  unfolding step commit_of commit_bytes tell tell_terms
  commit-keeps =
      matched (commit k) committed a.body (turned committed) _ (splice all p (le4 (word k.length))) refl (λ q. refl) (λ q. refl) (λ s. refl)
      (λ s.
      ap (λ (t : List ℕ). splice t p (le4 (word k.length))) (log-open s)
      ∙ ap (λ (n : ℕ). splice (x ++ (enc c p (cell open· 192 0 a.body) ++ rest)) p (le4 n)) (sym f-long)
      ∙ commits c p 192 0 x a.body rest x-long)
      (λ u.
      subst (λ (m : ℕ). Both (splice log m (le4 (word k.length))) (splice all p (le4 (word k.length)))) (plus-zero (claim_start v k))
      (subst (λ (m : ℕ). Both (splice log (claim_start v k + 0) (le4 (word k.length))) (splice all m (le4 (word k.length)))) (plus-zero p)
      (lay log all 0 (le4 (word k.length)) (omega (arith, length-4 (word k.length), u.fit, o.long)) long· refl win)))
      (claim_check r log k) check-says

  pub abort-keeps : Keeps c h ks s (abort k) (step w (abort k))
  unfolding step commit_of abort_bytes tell tell_terms
  abort-keeps =
      matched (abort k) aborted a.body (turned aborted) _ (splice (splice all (p + 6) (le2 0)) p (le4 (word k.length))) refl (λ q. refl) (λ q. refl) (λ s. refl)
      (λ s.
      ap (λ (t : List ℕ). splice (splice t (p + 6) (le2 0)) p (le4 (word k.length))) (log-open s)
      ∙ ap (λ (n : ℕ). splice (splice (x ++ (enc c p (cell open· 192 0 a.body) ++ rest)) (p + 6) (le2 0)) p (le4 n)) (sym f-long)
      ∙ aborts c p 192 0 x a.body rest x-long)
      (λ u.
      let one = lay log all 6 (le2 0) (omega (arith, length-2 0, u.fit, o.long)) long· refl win in
      subst (λ (m : ℕ). Both (splice (splice log (claim_start v k + 6) (le2 0)) m (le4 (word k.length))) (splice (splice all (p + 6) (le2 0)) p (le4 (word k.length)))) (plus-zero (claim_start v k))
      (subst (λ (m : ℕ). Both (splice (splice log (claim_start v k + 6) (le2 0)) (claim_start v k + 0) (le4 (word k.length))) (splice (splice all (p + 6) (le2 0)) m (le4 (word k.length)))) (plus-zero p)
      (lay (splice log (claim_start v k + 6) (le2 0)) (splice all (p + 6) (le2 0)) 0 (le4 (word k.length)) (omega (arith, length-4 (word k.length), u.fit, o.long)) one.long-log' one.long-all' one.window)))
      (claim_check r log k) check-says

  -- the lent part is the body
  span : (b : List ℕ) → take (body_end r k - body_start r k) b ≡ take (length a.body) b
  span b = let n : body_end r k - body_start r k ≡ length a.body = omega (arith, f-long) in ap (λ (m : ℕ). take m b) n

  -- a writing is checked as a commit is, once its bytes are not too many
  abbrev fill-check : ℕ → Result ⊤ Error
  fill-check n = cond (leb n 2147483647) (claim_check r log k) (Err IllegalArgument)

  fill-span : (n : ℕ) → write_span r log k n ≡ located_by (body_start r k) (body_end r k) (fill-check n)
  unfolding write_span locate_of
  fill-span n = go (leb n 2147483647)
    where
      go : (t : Bool) → cond t (located_by (body_start r k) (body_end r k) (claim_check r log k)) (Err IllegalArgument)
          ≡ located_by (body_start r k) (body_end r k) (cond t (claim_check r log k) (Err IllegalArgument))
      go true = refl
      go false = refl

  fill-says : (n : ℕ) → Says (fill-check n)
  fill-says n = cond-case Says (leb n 2147483647) (claim_check r log k) (Err IllegalArgument) (λ e. check-says) (λ e. says-no IllegalArgument)

  abbrev writes : List ℕ → Result Span Error → Step
  writes b x = record { answer = outcome (write_outcome x); next = record { record· = r; log = write_over log b x } }

  fill-steps : (b : List ℕ) (z : Result ⊤ Error) → writes b (located_by (body_start r k) (body_end r k) z) ≡ steps (splice log (body_start r k) (take (body_end r k - body_start r k) b)) z
  fill-steps b (Ok _) = refl
  fill-steps b (Err e) = refl

  pub fill-keeps : (b : List ℕ) → Keeps c h ks s (fill k b) (step w (fill k b))
  unfolding step tell tell_terms
  fill-keeps b =
      let y = take (body_end r k - body_start r k) b in
      subst (Keeps c h ks s (fill k b)) (sym (ap (writes b) (fill-span (length b)) ∙ fill-steps b (fill-check (length b))))
      (matched (fill k b) a.state (overlay a.body b) (written· b) _ (splice all (p + 32) y) (sym (length-overlay a.body b)) (λ q. refl) (λ q. refl) (λ s. refl)
      (λ s. ap (λ (t : List ℕ). splice t (p + 32) y) log_is
      ∙ ap (splice (x ++ (enc c p f ++ rest)) (p + 32)) (span b)
      ∙ refills c p 192 0 x a.body rest x-long a.state b)
      (λ u. lay log all 32 y (omega (arith, length-take (body_end r k - body_start r k) b, u.fit, o.long)) long· refl win)
      (fill-check (length b)) (fill-says (length b)))
