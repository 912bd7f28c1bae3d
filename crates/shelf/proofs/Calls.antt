-- A term laid down whole, a shelf judged header by header, and taken down frame by frame.
use Rattle.std.specs.Prelude.{Result, Ok, Err, Some, ⊤}
use Rattle.shelf.specs.declared.ShelfError.{ShelfError}
use mathlib.Core.Path.{◌≡◌, refl, sym, ap, ap₂, ◌∙◌}
use Prim.Native.Nat.{ℕ, zero, suc, ◌+◌, ◌-◌, ◌*◌, ◌%◌, ◌≤◌, ◌<◌}
use mathlib.Core.Bool.{Bool, true, false, cond, ◌&&◌}
use mathlib.Core.List.{List, [], ◌++◌, append_assoc, append-nil}
use native.Mathlib.Omega.{arith}
use borrow.Author.Tests.{eq-eqb, ne_eqb, eqb-true, leb-true}
use lib.Dec.{eqb, leb}
use lib.IntN.{ℤ}
use lib.ListN.{length, take, drop, length-drop}
use lib.Seq.{length-take-le, drop-drop}
use Rattle.model.specs.Bytes.{le4, u32, splice, word}
use Rattle.model.specs.declared.LogRecord.{LogRecord}
use Rattle.model.specs.declared.Reading.{Reading}
use Rattle.model.specs.LogBufferDescriptor.{reading, sound, sound_record}
use Rattle.model.proofs.PlaceLaws.{part_in}
use Rattle.model.proofs.Sound.{sound-true}
use Rattle.model.proofs.SoundRecord.{sound-record-true}
use Rattle.model.proofs.Both.{and-true, test}
use Rattle.model.proofs.Splice.{drop-splice, length-splice}
use Rattle.shelf.specs.Shelf.{size_at, size_found, frames_of, joined, filled, bodies, shelf_of, header_on, size_on, fits, accepted, frames_on, term_of}
use Rattle.shelf.specs.declared.ShelfError.TheVariants.{IllegalArgument, IllegalRecord, NotFilled}
use Rattle.shelf.specs.Calls.{rows, output_by, good_shelve, good_unshelve, term_in, shelve_of, shelve_bytes, unshelve_of, unshelve_bytes}
use Rattle.shelf.proofs.Sizes.{Sized, size-front, found-some}
use Rattle.shelf.proofs.Terms.{frames-whole, filled-joined}
use Rattle.shelf.proofs.RoundTrips.{length-joined, fits-turn, fits-went, fits-room, size-on, no_room, length-header}
use Rattle.shelf.proofs.Walks.{Laid, nothing-laid, lay-more, lay-all}

-- ---- rows 1 and 2

-- the partition lies in the log, and the output has its size
pub record Lent (v : Reading) (p log out : ℕ) : Type 0 where
  pub inside : p * v.term + v.term ≤ log
  pub low : 65536 ≤ v.term
  pub high : v.term ≤ 1073741824
  pub size : out ≡ v.term + 4

pub lent_by : (v : Reading) (p log out : ℕ) → good_shelve v p out ≡ true → sound v log ≡ true → Lent v p log out
lent_by v p log out g w =
    let a = and-true _ _ g in
    let b = and-true _ _ a.1 in
    let s = sound-true v log w in
    record {
      inside = part_in v log p s (leb-true p 2 a.0);
      low = s.term-low;
      high = s.term-high;
      size = omega (arith, leb-true out 2147483647 b.0, eqb-true v.term ((out + 4294967292) % 4294967296) b.1, s.term-low, s.term-high);
    }

-- the output of the way back has the term's size
pub output-size : (v : Reading) (shelf out : ℕ) → good_unshelve v shelf out ≡ true → out ≡ v.term
output-size v shelf out g =
    let a = and-true (leb shelf 2147483647) (leb out 2147483647 && eqb out v.term) g in
    eqb-true out v.term (and-true (leb out 2147483647) (eqb out v.term) a.1).1

pub term-size : (v : Reading) (shelf out : ℕ) → good_unshelve v shelf out ≡ true → sound_record v ≡ true → out ≤ 1073741824
term-size v shelf out g w = omega (arith, (sound-record-true v w).term-high, output-size v shelf out g)

-- the answer by the rows, and the output by the answer
pub row-1 : (good sound fit : Bool) → good ≡ false → rows good sound fit ≡ Err IllegalArgument
row-1 good sound fit g = rw g

pub row-2 : (good sound fit : Bool) → good ≡ true → sound ≡ false → rows good sound fit ≡ Err IllegalRecord
row-2 good sound fit g s = rw (g, s)

pub row-26 : (good sound fit : Bool) → good ≡ true → sound ≡ true → fit ≡ false → rows good sound fit ≡ Err NotFilled
row-26 good sound fit g s f = rw (g, s, f)

pub no_row : (good sound fit : Bool) → good ≡ true → sound ≡ true → fit ≡ true → rows good sound fit ≡ Ok tt
no_row good sound fit g s f = rw (g, s, f)

-- both calls: what is answered, by the reading that the call took
pub shelve-by : (rec : LogRecord) (log : List ℕ) (partition : ℤ) (out : List ℕ) (v : Reading) (p : ℕ) {a : Result ⊤ ShelfError} → v ≡ reading rec → p ≡ word partition
    → rows (good_shelve v p (length out)) (sound v (length log)) (filled (term_in log p v.term)) ≡ a
    → (a ≡ shelve_of rec log partition (length out)) × (output_by a (shelf_of (term_in log p v.term)) out ≡ shelve_bytes rec log partition out)
unfolding shelve_of shelve_bytes
shelve-by rec log partition out v p {a} e q h =
    let s = ap₂ (λ (v : Reading) (p : ℕ). rows (good_shelve v p (length out)) (sound v (length log)) (filled (term_in log p v.term))) e q in
    let t = ap₂ (λ (v : Reading) (p : ℕ). shelf_of (term_in log p v.term)) e q in
    (sym h ∙ s, ap₂ (λ (x : Result ⊤ ShelfError) (y : List ℕ). output_by x y out) (sym h ∙ s) t)

pub unshelve-by : (rec : LogRecord) (shelf out : List ℕ) (v : Reading) {a : Result ⊤ ShelfError} → v ≡ reading rec
    → rows (good_unshelve v (length shelf) (length out)) (sound_record v) (accepted (length out) shelf) ≡ a
    → (a ≡ unshelve_of rec shelf (length out)) × (output_by a (term_of (length out) shelf) out ≡ unshelve_bytes rec shelf out)
unfolding unshelve_of unshelve_bytes
unshelve-by rec shelf out v {a} e h =
    let s = ap (λ (v : Reading). rows (good_unshelve v (length shelf) (length out)) (sound_record v) (accepted (length out) shelf)) e in
    (sym h ∙ s, ap (λ (x : Result ⊤ ShelfError). output_by x (term_of (length out) shelf) out) (sym h ∙ s))

-- the part of the log that is lent
pub part-is : (log : List ℕ) (p t : ℕ) → take (p * t + t - p * t) (drop (p * t) log) ≡ term_in log p t
part-is log p t = let e : p * t + t - p * t ≡ t = omega arith in ap (λ (n : ℕ). take n (drop (p * t) log)) e

pub part_length : (log : List ℕ) (p t : ℕ) → p * t + t ≤ length log → length (take (p * t + t - p * t) (drop (p * t) log)) ≡ t
part_length log p t h = ap length (part-is log p t) ∙ length-take-le t (drop (p * t) log) (omega (arith, length-drop (p * t) log))

-- ---- laid down

pub lay-room : (t : List ℕ) → filled t ≡ true → length t ≡ 32 * length (frames_of t) + length (bodies (frames_of t))
unfolding frames_of
lay-room t h = ap length (sym (filled-joined t h)) ∙ length-joined (frames_of t) (frames-whole (length t) t).0

-- the output keeps its length
pub count_kept : (out : List ℕ) (n : ℕ) → 4 ≤ length out → length (splice out 0 (le4 n)) ≡ length out
unfolding le4
count_kept out n h = length-splice out 0 (le4 n) (omega arith)

pub lay-full : (t out now : List ℕ) (n : ℕ) → filled t ≡ true → n ≡ length (frames_of t) → length out ≡ length t + 4 → now ≡ splice out 0 (le4 n)
    → length now ≡ 4 + 32 * n + length (bodies (frames_of t))
lay-full t out now n h c l e = omega (arith, ap length e, count_kept out n (omega arith), lay-room t h)

-- ---- judged

-- a header that was gathered has its size
pub header_read : (shelf : List ℕ) (n k : ℕ) (out : List ℕ) (at room : ℕ) → at ≤ length out → size_at (drop at (splice out at (header_on shelf n k))) room ≡ size_on shelf n k room
unfolding size_on
header_read shelf n k out at room h =
    let hd = header_on shelf n k in
    ap (λ (x : List ℕ). size_at x room) (drop-splice out at hd h) ∙ size-front hd (drop (at + length hd) out) room (omega (arith, length-header shelf n k))

pub header-alone : (shelf : List ℕ) (n k : ℕ) (out : List ℕ) (room : ℕ) → size_at (drop 0 (splice out 0 (header_on shelf n k))) room ≡ size_on shelf n k room
header-alone shelf n k out room = header_read shelf n k out 0 room (omega arith)

pub size-within : (shelf : List ℕ) (n k room z : ℕ) → size_on shelf n k room ≡ z → 0 < z → z ≤ room
size-within shelf n k room z e p = omega (arith, (size-on shelf n k room (omega arith)).inside)

pub record Fitting (shelf : List ℕ) (n term k room : ℕ) : Type 0 where
  pub left : ℕ
  pub all : left + k ≡ n
  pub is : fits shelf n n 0 term ≡ fits shelf n left k room

pub fit-start : (shelf : List ℕ) (n term : ℕ) → Fitting shelf n term 0 term
fit-start shelf n term = record { left = n; all = omega arith; is = refl }

module _ (shelf : List ℕ) (n term k room : ℕ) (g : Fitting shelf n term k room) where
  pub fit_on : (z : ℕ) → size_on shelf n k room ≡ z → 0 < z → k < n → Fitting shelf n term (k + 1) (room - z)
  fit_on z e p h = go g.left g.all g.is
    where
      go : (left : ℕ) → left + k ≡ n → fits shelf n n 0 term ≡ fits shelf n left k room → Fitting shelf n term (k + 1) (room - z)
      go zero a i = absurd (omega arith)
      go (suc m) a i = record { left = m; all = omega arith; is = i ∙ fits-turn shelf n m k room z e p }

  pub fit-stop : size_on shelf n k room ≡ 0 → k < n → false ≡ fits shelf n n 0 term
  unfolding fits
  fit-stop e h = go g.left g.all g.is
    where
      go : (left : ℕ) → left + k ≡ n → fits shelf n n 0 term ≡ fits shelf n left k room → false ≡ fits shelf n n 0 term
      go zero a i = absurd (omega arith)
      go (suc m) a i =
          sym (i ∙ ap (λ (b : Bool). cond b false (fits shelf n m (k + 1) (room - size_on shelf n k room))) (eq-eqb (size_on shelf n k room) 0 e))

  pub fit-end : n ≤ k → eqb room 0 ≡ fits shelf n n 0 term
  unfolding fits
  fit-end h = go g.left g.all g.is
    where
      go : (left : ℕ) → left + k ≡ n → fits shelf n n 0 term ≡ fits shelf n left k room → eqb room 0 ≡ fits shelf n n 0 term
      go zero a i = sym i
      go (suc m) a i = absurd (omega arith)

-- more headers than a term has room for
pub too_many : (shelf : List ℕ) (n term : ℕ) → term < 32 * n → fits shelf n n 0 term ≡ false
too_many shelf n term h = test (fits shelf n n 0 term) (λ q. absurd (omega (arith, fits-room shelf n n 0 term q))) (λ q. q)

-- by the size, and then by the headers
pub not-size : (term : ℕ) (shelf : List ℕ) → (length shelf ≡ term + 4 → ⊥) → false ≡ accepted term shelf
unfolding accepted
not-size term shelf h = sym (rw (ne_eqb (length shelf) (term + 4) h))

pub by_fits : (term : ℕ) (shelf : List ℕ) (n : ℕ) → length shelf ≡ term + 4 → n ≡ u32 shelf → fits shelf n n 0 term ≡ accepted term shelf
unfolding accepted
by_fits term shelf n l e =
    ap (λ (x : ℕ). fits shelf x x 0 term) e
    ∙ sym (ap (λ (b : Bool). b && fits shelf (u32 shelf) (u32 shelf) 0 term) (eq-eqb (length shelf) (term + 4) l))

-- what is accepted has room for its headers
pub accepted-long : (term : ℕ) (shelf : List ℕ) → accepted term shelf ≡ true → (length shelf ≡ term + 4) × (32 * u32 shelf ≤ term)
unfolding accepted
accepted-long term shelf h =
    let p = and-true _ _ h in
    (eqb-true (length shelf) (term + 4) p.0, fits-room shelf (u32 shelf) (u32 shelf) 0 term p.1)

-- ---- taken down

pub record Taking (shelf : List ℕ) (n : ℕ) (out₀ out : List ℕ) (k at from : ℕ) : Type 0 where
  pub left : ℕ
  pub all : left + k ≡ n
  pub done : List ℕ
  pub laid : Laid out₀ 0 done out at
  pub inside : at ≤ length out₀
  pub is : done ++ joined (frames_on shelf n left k (length out₀ - at) (drop from shelf)) ≡ term_of (length out₀) shelf
  pub fit : fits shelf n left k (length out₀ - at) ≡ true
  pub rest : from + (length out₀ - at) ≡ length shelf + 32 * left

pub take-start : (shelf : List ℕ) (n : ℕ) (out : List ℕ) → n ≡ u32 shelf → accepted (length out) shelf ≡ true → Taking shelf n out out 0 0 (4 + 32 * n)
unfolding accepted term_of
take-start shelf n out e h =
    let p = and-true _ _ h in
    let z : length out - 0 ≡ length out = omega arith in
    let l : length shelf ≡ length out + 4 = eqb-true (length shelf) (length out + 4) p.0 in
    record {
      left = n;
      all = omega arith;
      done = [];
      laid = nothing-laid out 0;
      inside = omega arith;
      is = ap₂ (λ (m r : ℕ). joined (frames_on shelf m m 0 r (drop (4 + 32 * m) shelf))) e z;
      fit = ap₂ (λ (m r : ℕ). fits shelf m m 0 r) e z ∙ p.1;
      rest = omega arith;
    }

regroup : (a b c d : List ℕ) → ((a ++ b) ++ c) ++ d ≡ a ++ ((b ++ c) ++ d)
regroup a b c d = simp append_assoc

pub record Next (shelf : List ℕ) (n : ℕ) (out₀ : List ℕ) (k at from z : ℕ) : Type 0 where
  pub sized : Sized (u32 (header_on shelf n k)) (length out₀ - at) z
  pub low : 32 ≤ z
  pub high : at + z ≤ length out₀
  pub body : from + (z - 32) ≤ length shelf

module _ (shelf : List ℕ) (n : ℕ) (out₀ out : List ℕ) (k at from : ℕ) (g : Taking shelf n out₀ out k at from) where
  pub next : k < n → Next shelf n out₀ k at from (size_on shelf n k (length out₀ - at))
  next h = go g.left g.all g.fit g.rest
    where
      go : (left : ℕ) → left + k ≡ n → fits shelf n left k (length out₀ - at) ≡ true → from + (length out₀ - at) ≡ length shelf + 32 * left
          → Next shelf n out₀ k at from (size_on shelf n k (length out₀ - at))
      go zero a f r = absurd (omega arith)
      go (suc m) a f r =
          let t = fits-went shelf n m k (length out₀ - at) f in
          let s = size-on shelf n k (length out₀ - at) t.0 in
          let q = fits-room shelf n m (k + 1) (length out₀ - at - size_on shelf n k (length out₀ - at)) t.1 in
          record {
            sized = s;
            low = omega (arith, s.header, s.whole);
            high = omega (arith, s.inside, g.inside, s.header, s.whole);
            body = omega (arith, s.inside, q, s.header, s.whole, g.inside);
          }

  -- with the header in its place, and its size read there
  pub take-kept : k < n → (got : List ℕ) → got ≡ splice out at (header_on shelf n k) → length got ≡ length out₀
  take-kept h got e =
      let x = next h in
      ap length e ∙ length-splice out at (header_on shelf n k) (omega (arith, length-header shelf n k, x.low, x.high, g.laid.same)) ∙ g.laid.same

  pub take-size : k < n → (got : List ℕ) (z : ℕ) → got ≡ splice out at (header_on shelf n k) → z ≡ size_at (drop at got) (length got - at) → size_on shelf n k (length out₀ - at) ≡ z
  take-size h got z e q =
      sym (q ∙ ap₂ (λ (x : List ℕ) (y : ℕ). size_at (drop at x) (y - at)) e (take-kept h got e)
      ∙ header_read shelf n k out at (length out₀ - at) (omega (arith, g.inside, g.laid.same)))

  -- as the code finds it
  pub next-found : k < n → (got : List ℕ) (z : ℕ) → got ≡ splice out at (header_on shelf n k) → Some z ≡ size_found (size_at (drop at got) (length got - at))
      → (size_on shelf n k (length out₀ - at) ≡ z) × Next shelf n out₀ k at from z
  next-found h got z e s =
      let f = found-some _ z s in
      let q : size_on shelf n k (length out₀ - at) ≡ z = take-size h got _ e refl ∙ f.0 in
      (q, rw q at (next h))

  pub take_on : (z : ℕ) → size_on shelf n k (length out₀ - at) ≡ z → k < n
      → Taking shelf n out₀ (splice (splice out at (header_on shelf n k)) (at + 32) (take (z - 32) (drop from shelf))) (k + 1) (at + z) (from + (z - 32))
  unfolding frames_on joined
  take_on z e h = go g.left g.all g.fit g.is g.rest
    where
      hd : List ℕ
      hd = header_on shelf n k

      body : List ℕ
      body = take (z - 32) (drop from shelf)

      x : Next shelf n out₀ k at from z
      x = rw e at (next h)

      body-length : length body ≡ z - 32
      body-length = length-take-le (z - 32) (drop from shelf) (omega (arith, length-drop from shelf, x.body))

      l : Laid out₀ 0 ((g.done ++ hd) ++ body) (splice (splice out at hd) (at + 32) body) (at + 32 + (z - 32))
      l = lay-more body (z - 32) body-length (lay-more hd 32 (length-header shelf n k) g.laid (omega (arith, x.low, x.high))) (omega (arith, x.low, x.high))

      go : (left : ℕ) → left + k ≡ n → fits shelf n left k (length out₀ - at) ≡ true
          → g.done ++ joined (frames_on shelf n left k (length out₀ - at) (drop from shelf)) ≡ term_of (length out₀) shelf
          → from + (length out₀ - at) ≡ length shelf + 32 * left
          → Taking shelf n out₀ (splice (splice out at hd) (at + 32) body) (k + 1) (at + z) (from + (z - 32))
      go zero a f i r = absurd (omega arith)
      go (suc m) a f i r =
          let t = fits-went shelf n m k (length out₀ - at) f in
          let rr : length out₀ - at - z ≡ length out₀ - (at + z) = omega arith in
          let q = fits-room shelf n m (k + 1) (length out₀ - at - z) (rw e at t.1) in
          record {
            left = m;
            all = omega arith;
            done = (g.done ++ hd) ++ body;
            laid = record { is = l.is; place = omega (arith, l.place, x.low); same = l.same };
            inside = x.high;
            is = ap₂ (λ (y : ℕ) (w : List ℕ). ((g.done ++ hd) ++ body) ++ joined (frames_on shelf n m (k + 1) y w)) (sym rr) (sym (drop-drop (z - 32) from shelf))
                ∙ regroup g.done hd body (joined (frames_on shelf n m (k + 1) (length out₀ - at - z) (drop (z - 32) (drop from shelf))))
                ∙ ap (λ (y : ℕ). g.done ++ ((hd ++ take (y - 32) (drop from shelf)) ++ joined (frames_on shelf n m (k + 1) (length out₀ - at - y) (drop (y - 32) (drop from shelf))))) (sym e)
                ∙ i;
            fit = ap (λ (y : ℕ). fits shelf n m (k + 1) y) (sym rr) ∙ (rw e at t.1);
            rest = omega (arith, x.low, x.high);
          }

  pub take-end : n ≤ k → out ≡ term_of (length out₀) shelf
  unfolding frames_on joined
  take-end h = go g.left g.all g.fit g.is
    where
      go : (left : ℕ) → left + k ≡ n → fits shelf n left k (length out₀ - at) ≡ true
          → g.done ++ joined (frames_on shelf n left k (length out₀ - at) (drop from shelf)) ≡ term_of (length out₀) shelf → out ≡ term_of (length out₀) shelf
      go zero a f i = lay-all g.laid (omega (arith, no_room shelf n k (length out₀ - at) f, g.laid.place, g.inside)) ∙ sym (append-nil g.done) ∙ i
      go (suc m) a f i = absurd (omega arith)
