-- Clearings, rises of the slowest reader, limit changes and closes keep the invariant.
use Rattle.std.specs.Prelude.{Result, Ok, Err, ⊤}
use Rattle.model.specs.declared.Error.{Error}
use mathlib.Core.Path.{◌≡◌, refl, sym, ap, ◌∙◌, subst}
use mathlib.Core.Bool.{Bool, true, false, cond, not, ◌||◌}
use Prim.Native.Nat.{ℕ, zero, suc, ◌+◌, ◌-◌, ◌*◌, ◌%◌, ◌≤◌, ◌<◌}
use mathlib.Core.List.{List, ◌++◌}
use native.Mathlib.Omega.{arith}
use borrow.Author.Tests.{eqb-true, eq-eqb, leb-true, not-false}
use lib.Dec.{leb, ltb, eqb}
use lib.ListN.{length, get_or}
use lib.Seq.{get_or-append-add}
use lib.IntN.{ℤ}
use Rattle.model.specs.declared.LogRecord.{LogRecord}
use Rattle.model.specs.declared.RecordReply.{RecordReply}
use Rattle.model.specs.declared.Claim.{Claim}
use Rattle.model.specs.declared.Reading.{Reading}
use Rattle.model.specs.declared.Error.TheVariants.{IllegalArgument, IllegalRecord, PositionOutOfRange, NewPositionOutOfRange, NotDue}
use Rattle.model.specs.Bytes.{word, long, splice, zeros}
use Rattle.model.specs.LogBufferDescriptor.{reading_of, reading, greatest, good_position, good_partition, sound_record, sound, due, changed, with_limit, with_closed, noted, with_slowest, with_mark}
use Rattle.model.specs.Publication.{reply_by, raise_verdict, raise_of, not_due, clear_verdict, clear_of, cleared_by, clear_bytes, change_of}
use Rattle.model.specs.History.{set_limit, close, clear, raise, outcome, World, Step, step, Shape, shape_of, Extent, tell, Terms, tell_terms}
use Rattle.model.proofs.Choice.{cond-case, split, same?}
use Rattle.model.proofs.Both.{both_true, and-true}
use Rattle.model.proofs.Sound.{sound-true}
use Rattle.model.proofs.Splice.{length-splice, length-zeros}
use Rattle.model.proofs.Cells.{bytes, sizes, length-bytes}
use Rattle.model.proofs.OneSession.{flat}
use Rattle.model.proofs.Tails.{with_rest, with-slow, Tails, limit-reading, closed-reading, limit-tails, closed-tails, marked-reading, marked-tails, raised-reading, raised-tails}
use Rattle.model.proofs.Window.{Shows, Window, in-splice, other-kept}
use Rattle.model.proofs.Keeping.{Holds}
use Rattle.model.proofs.Kept.{Marks, Inv, inside, clear_kept}
use Rattle.model.proofs.Calls.{Keeps}

pub get_d-zeros : (z i : ℕ) → get_or (zeros z) i 0 ≡ 0
unfolding zeros
get_d-zeros zero i = refl
get_d-zeros (suc z) zero = refl
get_d-zeros (suc z) (suc i) = get_d-zeros z i

behind : (x : List ℕ) (z i : ℕ) → length x ≤ i → get_or (x ++ zeros z) i 0 ≡ 0
behind x z i h =
    let e : i ≡ length x + (i - length x) = omega arith in
    ap (λ (n : ℕ). get_or (x ++ zeros z) n 0) e ∙ get_or-append-add x (zeros z) (i - length x) 0 ∙ get_d-zeros z (i - length x)

-- a term not begun is zeros in the stream's log
unbegun : (v : Reading) (all : List ℕ) (h : List Extent) (ks : List Claim) (i : Holds (shape_of v) v all h ks) (p : ℕ) → v.count * v.term + v.term ≤ p → get_or all p 0 ≡ 0
unbegun v all h ks i p l =
    let c = shape_of v in
    ap (λ (a : List ℕ). get_or a p 0) i.bytes-are
    ∙ behind (bytes c 0 (flat c h)) (2147483648 * v.term - sizes (flat c h)) p (omega (arith, length-bytes c 0 (flat c h), i.size))

module _ (T : ℕ) (log all : List ℕ) (low n : ℕ) (e : length log ≡ 3 * T) (a : low ≤ n - 1) (b : n ≤ low + 2) (none : (i : ℕ) → i < T → get_or all ((n + 1) * T + i) 0 ≡ 0) where
  abbrev k : ℕ
  k = due n

  clear-shows : (u : ℕ) → n - 1 ≤ u → u ≤ n - 1 + 2 → Window T log all low → Shows T (splice log (k * T + 0) (zeros T)) (u % 3) all u
  unfolding Shows Window
  clear-shows u p q w i l =
      let room : k * T + 0 ≤ length log = omega (arith, inside T k (length log) e (omega arith)) in
      same? (u % 3) k
      (λ (f : u % 3 ≡ k).
      let t : u ≡ n + 1 = first u n p q f in
      let at : u % 3 * T + i ≡ k * T + 0 + i = ap (λ (x : ℕ). x * T + i) f ∙ omega arith in
      ap (λ (x : ℕ). get_or (splice log (k * T + 0) (zeros T)) x 0) at ∙ in-splice log (k * T + 0) (zeros T) i room (omega (arith, length-zeros T)) ∙ get_d-zeros T i
      ∙ sym (ap (λ (x : ℕ). get_or all (x * T + i) 0) t ∙ none i l))
      (λ (f : ¬ (u % 3 ≡ k)).
      other-kept T log k (u % 3) 0 (zeros T) i f (omega (arith, length-zeros T)) room l ∙ w u (omega arith) (top u n low p q a b f) i l)
    where
      first : (u n : ℕ) → n - 1 ≤ u → u ≤ n - 1 + 2 → u % 3 ≡ (n + 1) % 3 → u ≡ n + 1
      first u n a b e = omega arith

      top : (u n l : ℕ) → n - 1 ≤ u → u ≤ n - 1 + 2 → l ≤ n - 1 → n ≤ l + 2 → ¬ (u % 3 ≡ (n + 1) % 3) → u ≤ l + 2
      top u n l a b c d e = split u (l + 2) (λ q. q) (λ (q : l + 2 < u). absurd (e (omega arith)))

  pub clear-window : Window T log all low → Window T (splice log (k * T) (zeros T)) all (n - 1)
  unfolding Window
  clear-window w u p q = subst (λ (x : ℕ). Shows T (splice log x (zeros T)) (u % 3) all u) (omega arith) (clear-shows u p q w)

  pub clear-long : length (splice log (k * T) (zeros T)) ≡ 3 * T
  clear-long = length-splice log (k * T) (zeros T) (omega (arith, length-zeros T, inside T k (length log) e (omega arith))) ∙ e

slow-holds : (v : Reading) (all : List ℕ) (h : List Extent) (ks : List Claim) (p : ℕ) → Holds (shape_of v) v all h ks → good_position v p ≡ true → Holds (shape_of v) (with-slow v p) all h ks
slow-holds v all h ks p i g =
    let f = i.fixed in
    record {
      is = refl;
      fixed = record { term-low = f.term-low; term-high = f.term-high; one_bit = f.one_bit; mtu-low = f.mtu-low; mtu-high = f.mtu-high; mtu-32 = f.mtu-32; initial-small = f.initial-small; live = f.live };
      here = i.here;
      low = i.low;
      size = i.size;
      bytes-are = i.bytes-are;
      fits = i.fits;
      whole = i.whole;
      most = i.most;
      bound = i.bound;
      slow-high = leb-true p (greatest v) (and-true (leb p (greatest v)) _ g).0;
      slow-32 = eqb-true (p % 32) 0 (and-true (leb p (greatest v)) _ g).1;
      pads = i.pads;
      known = i.known;
    }

rest-holds : (v : Reading) (all : List ℕ) (h : List Extent) (ks : List Claim) (limit : ℕ) (closed : Bool) → Holds (shape_of v) v all h ks → limit ≤ 4611686018427387904
    → Holds (shape_of v) (with_rest v limit closed) all h ks
rest-holds v all h ks limit closed i l =
    let f = i.fixed in
    record {
      is = refl;
      fixed = record { term-low = f.term-low; term-high = f.term-high; one_bit = f.one_bit; mtu-low = f.mtu-low; mtu-high = f.mtu-high; mtu-32 = f.mtu-32; initial-small = f.initial-small; live = f.live };
      here = i.here;
      low = i.low;
      size = i.size;
      bytes-are = i.bytes-are;
      fits = i.fits;
      whole = i.whole;
      most = i.most;
      bound = l;
      slow-high = i.slow-high;
      slow-32 = i.slow-32;
      pads = i.pads;
      known = i.known;
    }

limit-low : (v : Reading) → sound_record v ≡ true → v.limit ≤ 4611686018427387904
unfolding sound
limit-low v s = (sound-true v (3 * v.term) (both_true s (eq-eqb (3 * v.term) (3 * v.term) refl))).limit-high

or-false : (a b : Bool) → (a || b) ≡ false → a ≡ false
or-false false b e = refl
or-false true b e = absurd (let z : ◌≡◌ {A = ℕ} 0 1 = cc in omega arith)

due-by : (v : Reading) (k : ℕ) → not_due v k ≡ false → k ≡ due v.count
unfolding not_due
due-by v k e = eqb-true k (due v.count) (not-false (eqb k (due v.count)) (or-false (not (eqb k (due v.count))) _ e))

-- what a verdict that passes says
abbrev Says : Type 0 → Result ⊤ Error → Type 0
Says Q (Ok _) = Q
Says Q (Err e) = Unit {0}

clear-says : (v : Reading) (n k : ℕ) → Says (k ≡ due v.count) (clear_verdict v n k)
unfolding clear_verdict
clear-says v n k =
    let Q = k ≡ due v.count in
    cond-case (Says Q) (good_partition k) _ (Err IllegalArgument)
    (λ e. cond-case (Says Q) (sound v n) _ (Err IllegalRecord)
    (λ e. cond-case (Says Q) (not_due v k) (Err NotDue) (Ok tt) (λ e. tt) (λ e. due-by v k e)) (λ e. tt)) (λ e. tt)

raise-says : (v : Reading) (p : ℕ) → Says (good_position v p ≡ true) (raise_verdict v p)
unfolding raise_verdict
raise-says v p =
    let Q = good_position v p ≡ true in
    cond-case (Says Q) (not (sound_record v)) (Err IllegalRecord) _ (λ e. tt)
    (λ e. cond-case (Says Q) (not (good_position v p)) (Err PositionOutOfRange) _ (λ e. tt)
    (λ g. cond-case (Says Q) (ltb p v.slowest) (Err NewPositionOutOfRange) (Ok tt) (λ e. tt) (λ e. not-false (good_position v p) g)))

module _ (r : LogRecord) (log : List ℕ) (h : List Extent) (ks : List Claim) (s : Terms) (t : Tails r) (long· : length log ≡ 3 * (reading r).term) (all : List ℕ)
    (i : Holds (shape_of (reading r)) (reading r) all h ks) (win : Window (reading r).term log all s.cleared) (marks : Marks r s) where
  abbrev v : Reading
  v = reading r

  abbrev c : Shape
  c = shape_of (reading r)

  abbrev T : ℕ
  T = (reading r).term

  abbrev w : World
  w = record { record· = r; log = log }

  stays : Inv c w h ks s
  stays = record { tails = t; long = long·; all = all; holds = i; window = win; marks = marks }

  -- ---- clearing

  clear-by : (k : ℕ) (y : ℤ) (x : Result ⊤ Error) → Says (k ≡ due v.count) x
      → Keeps c h ks s (clear y) (record { answer = outcome (reply_by r (with_mark r k true) x).answer; next = record { record· = (reply_by r (with_mark r k true) x).next; log = cleared_by v log k x } })
  unfolding tell tell_terms
  clear-by k y (Err e) q = (stays, tt)
  clear-by k y (Ok _) q =
      let d : k ≡ due s.turns = q ∙ ap due marks.turns in
      let none : (i : ℕ) → i < T → get_or all ((s.turns + 1) * T + i) 0 ≡ 0 =
      λ j l. ap (λ (n : ℕ). get_or all ((n + 1) * T + j) 0) (sym marks.turns) ∙ unbegun v all h ks i ((v.count + 1) * T + j) (omega arith) in (
        subst (λ (n : ℕ). Inv c (record { record· = with_mark r n true; log = splice log (n * T) (zeros T) }) h ks (record { turns = s.turns; cleared = s.turns - 1 })) (sym d)
            (record {
              tails = marked-tails r t (due s.turns) true;
              long = clear-long T log all s.cleared s.turns long· marks.low marks.high none;
              all = all;
              holds = subst (λ (x : Reading). Holds c x all h ks) (sym (marked-reading r t (due s.turns) true)) i;
              window = clear-window T log all s.cleared s.turns long· marks.low marks.high none win;
              marks = clear_kept r s marks t;
            }),
        tt,
      )

  pub clear-keeps : (k : ℤ) → Keeps c h ks s (clear k) (step w (clear k))
  unfolding step clear_of clear_bytes
  clear-keeps k = clear-by (word k) k (clear_verdict v (length log) (word k)) (clear-says v (length log) (word k))

  -- ---- the slowest reader

  raise-marks : (p : ℤ) → Marks (with_slowest r p) s
  unfolding reading_of with_slowest noted
  raise-marks p = record { three = marks.three; turns = marks.turns; low = marks.low; high = marks.high; are = marks.are }

  raise-by : (p : ℤ) (x : Result ⊤ Error) → Says (good_position v (long p) ≡ true) x
      → Keeps c h ks s (raise p) (record { answer = outcome (reply_by r (with_slowest r p) x).answer; next = record { record· = (reply_by r (with_slowest r p) x).next; log = log } })
  unfolding tell tell_terms
  raise-by p (Err e) q = (stays, tt)
  raise-by p (Ok _) q = (
    record {
      tails = raised-tails r t p;
      long = long·;
      all = all;
      holds = subst (λ (x : Reading). Holds c x all h ks) (sym (raised-reading r t p)) (slow-holds v all h ks (long p) i q);
      window = win;
      marks = raise-marks p;
    },
    tt,
  )

  pub raise-keeps : (p : ℤ) → Keeps c h ks s (raise p) (step w (raise p))
  unfolding step raise_of
  raise-keeps p = raise-by p (raise_verdict v (long p)) (raise-says v (long p))

  -- ---- limit change and close

  abbrev changes : LogRecord → Bool → Step
  changes next b =
      record {
        answer = outcome (cond {A = RecordReply} b (record { next = next; answer = Ok tt }) (record { next = r; answer = Err IllegalRecord })).answer;
        next = record { record· = (cond {A = RecordReply} b (record { next = next; answer = Ok tt }) (record { next = r; answer = Err IllegalRecord })).next; log = log };
      }

  limit-marks : (n : ℤ) → Marks (with_limit r n) s
  unfolding reading_of with_limit changed
  limit-marks n = record { three = marks.three; turns = marks.turns; low = marks.low; high = marks.high; are = marks.are }

  close-marks : Marks (with_closed r) s
  unfolding reading_of with_closed changed
  close-marks = record { three = marks.three; turns = marks.turns; low = marks.low; high = marks.high; are = marks.are }

  limit-by : (n : ℤ) (b : Bool) → sound_record (reading (with_limit r n)) ≡ b → Keeps c h ks s (set_limit n) (changes (with_limit r n) b)
  unfolding tell tell_terms
  limit-by n true e =
      let l : long n ≤ 4611686018427387904 = subst (λ (x : Reading). x.limit ≤ 4611686018427387904) (limit-reading r t n) (limit-low (reading (with_limit r n)) e) in (
        record {
          tails = limit-tails r t n;
          long = long·;
          all = all;
          holds = subst (λ (x : Reading). Holds c x all h ks) (sym (limit-reading r t n)) (rest-holds v all h ks (long n) v.closed i l);
          window = win;
          marks = limit-marks n;
        },
        tt,
      )
  limit-by n false e = (stays, tt)

  close-by : (b : Bool) → Keeps c h ks s close (changes (with_closed r) b)
  unfolding tell tell_terms
  close-by true = (
    record {
      tails = closed-tails r t;
      long = long·;
      all = all;
      holds = subst (λ (x : Reading). Holds c x all h ks) (sym (closed-reading r t)) (rest-holds v all h ks v.limit true i i.bound);
      window = win;
      marks = close-marks;
    },
    tt,
  )
  close-by false = (stays, tt)

  pub limit-keeps : (n : ℤ) → Keeps c h ks s (set_limit n) (step w (set_limit n))
  unfolding step change_of
  limit-keeps n = limit-by n (sound_record (reading (with_limit r n))) refl

  pub close-keeps : Keeps c h ks s close (step w close)
  unfolding step change_of
  close-keeps = close-by (sound_record (reading (with_closed r)))
