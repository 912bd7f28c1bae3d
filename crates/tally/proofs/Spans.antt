-- The rows that two positions meet, one by one; what is known where all of them pass; and what follows them.
use Rattle.std.specs.Prelude.{Result, Ok, Err, ⊤}
use Rattle.model.specs.declared.Error.{Error}
use Rattle.std.proofs.Common.{◌≡◌, ℕ, zero, suc, ◌+◌, ◌-◌, ◌*◌, ◌%◌, ◌<◌, ◌≤◌, Bool, true, false, cond, ◌&&◌, leb, ℤ, pos, negsuc, ◌-ℤ◌, ◌*ℤ◌, neg_ℤ, sym, refl, ap, ◌∙◌, arith, w32, w64, SFits, le-ltb, leb-true}
use lib.Signed.{le_z}
use Rattle.model.specs.declared.LogRecord.{LogRecord}
use Rattle.model.specs.declared.Error.TheVariants.{PositionOutOfRange}
use Rattle.model.specs.Bytes.{word, long}
use Rattle.model.specs.LogBufferDescriptor.{reading, sound, greatest, first_rows, good_position}
use Rattle.model.proofs.Both.{and-true}
use Rattle.model.proofs.Sound.{sound-true}
use Rattle.tally.specs.Span.{good_span, span_rows}

-- ---- row 1: the difference of two numbers in order, by their bits

apart : (a b : ℤ) (d : ℕ) → SFits w64 a → SFits w64 b → le_z a b ≡ true → d < 18446744073709551616 → (d + long a) % 18446744073709551616 ≡ long b → b -ℤ a ≡ pos d
apart (pos zero) (pos n) d f g h l e = ap pos (omega arith)
apart (pos (suc m)) (pos n) d f g h l e =
    let o : suc m ≤ n = leb-true (suc m) n h in
    let q : n - suc m ≡ d = omega arith in
    rw (le-ltb n (suc m) o) (ap pos q)
apart (pos m) (negsuc n) d f g h l e = absurd (let z : ◌≡◌ {A = ℕ} 0 1 = cc in omega arith)
apart (negsuc m) (pos n) d f g h l e = ap pos (omega arith)
apart (negsuc m) (negsuc n) d f g h l e =
    let o : n ≤ m = leb-true n m h in
    let q : suc m - suc n ≡ d = omega arith in
    rw (le-ltb (suc m) (suc n) (omega arith)) (ap pos q)

-- nothing is at most a number below zero
below-zero : (d k : ℕ) → 0 < k → le_z (pos d) (neg_ℤ (pos k)) ≡ false
below-zero d zero h = absurd (omega arith)
below-zero d (suc k) h = refl

three : (t : ℤ) (d : ℕ) → SFits w32 t → word t ≤ 2147483647 → le_z (pos d) (pos 3 *ℤ t) ≡ leb d (3 * word t)
three (pos n) d f h = let e : n ≡ word (pos n) = omega arith in ap (λ (x : ℕ). leb d (3 * x)) e
three (negsuc n) d f h = absurd (omega arith)

three-below : (t : ℤ) (d : ℕ) → SFits w32 t → 2147483647 < word t → le_z (pos d) (pos 3 *ℤ t) ≡ false
three-below (pos n) d f h = absurd (omega arith)
three-below (negsuc n) d f h = below-zero d (3 * suc n) (omega arith)

module _ (t from to : ℤ) where
  pub span-back : le_z from to ≡ false → false ≡ good_span t from to
  unfolding good_span
  span-back h = rw h

  -- the bits of two numbers in order, and how far they are apart
  pub record Ordered (d : ℕ) : Type 0 where
    pub order : le_z from to ≡ true
    pub fits-from : SFits w64 from
    pub fits-to : SFits w64 to
    pub small : d < 18446744073709551616
    pub back : (d + long from) % 18446744073709551616 ≡ long to

  far : (d : ℕ) → Ordered d → to -ℤ from ≡ pos d
  far d o = apart from to d o.fits-from o.fits-to o.order o.small o.back

  pub span_below : (d : ℕ) → Ordered d → SFits w32 t → 2147483647 < word t → false ≡ good_span t from to
  unfolding good_span
  span_below d o f h = sym (rw (o.order, far d o) (three-below t d f h))

  pub span-long : (d : ℕ) → Ordered d → SFits w32 t → word t ≤ 2147483647 → leb d (3 * word t) ≡ good_span t from to
  unfolding good_span
  span-long d o f h = sym (rw (o.order, far d o) (three t d f h))

-- ---- the rows

-- a verdict, and where it passes, what follows
abbrev pub after : Result ⊤ Error → Result ⊤ Error → Result ⊤ Error
after (Ok _) rest = rest
after (Err e) rest = Err e

-- the four tests
abbrev tests : Bool → Bool → Bool → Bool → Result ⊤ Error → Result ⊤ Error
tests a b c d rest = first_rows a b (cond (c && d) rest (Err PositionOutOfRange))

tests-after : (a b c d : Bool) (rest : Result ⊤ Error) → after (tests a b c d (Ok tt)) rest ≡ tests a b c d rest
tests-after false b c d rest = refl
tests-after true false c d rest = refl
tests-after true true false d rest = refl
tests-after true true true false rest = refl
tests-after true true true true rest = refl

tests-pass : (a b c d : Bool) → tests a b c d (Ok tt) ≡ Ok tt → (a ≡ true) × ((b ≡ true) × ((c ≡ true) × (d ≡ true)))
tests-pass false b c d h = absurd (let z : ◌≡◌ {A = ℕ} 0 1 = cc in omega arith)
tests-pass true false c d h = absurd (let z : ◌≡◌ {A = ℕ} 0 1 = cc in omega arith)
tests-pass true true false d h = absurd (let z : ◌≡◌ {A = ℕ} 0 1 = cc in omega arith)
tests-pass true true true false h = absurd (let z : ◌≡◌ {A = ℕ} 0 1 = cc in omega arith)
tests-pass true true true true h = (refl, (refl, (refl, refl)))

-- what is known where they pass
pub record Spanned (r : LogRecord) (n : ℕ) (from to : ℤ) : Type 0 where
  pub sound : sound (reading r) n ≡ true
  pub order : long from ≤ long to
  pub high : long to ≤ greatest (reading r)
  pub small : long to ≤ 2305843009213693952

-- numbers that are not below zero, by their bits
in_order : (a b : ℤ) → SFits w64 a → SFits w64 b → long a ≤ 2305843009213693952 → long b ≤ 2305843009213693952 → le_z a b ≡ true → long a ≤ long b
in_order (pos m) (pos n) f g h k e = omega (arith, leb-true m n e)
in_order (pos m) (negsuc n) f g h k e = absurd (omega arith)
in_order (negsuc m) b f g h k e = absurd (omega arith)

module _ (r : LogRecord) (n : ℕ) (from to : ℤ) where
  -- with the value of each test
  pub span-by : (a b c d : Bool) → good_span r.term_length from to ≡ a → sound (reading r) n ≡ b → good_position (reading r) (long from) ≡ c → good_position (reading r) (long to) ≡ d
      → tests a b c d (Ok tt) ≡ span_rows r n from to (Ok tt)
  unfolding span_rows
  span-by a b c d ea eb ec ed = sym (rw (ea, eb, ec, ed))

  pub span-after : (x rest : Result ⊤ Error) → x ≡ span_rows r n from to (Ok tt) → after x rest ≡ span_rows r n from to rest
  unfolding span_rows
  span-after x rest h =
      ap (λ (y : Result ⊤ Error). after y rest) h
      ∙ tests-after (good_span r.term_length from to) (sound (reading r) n) (good_position (reading r) (long from)) (good_position (reading r) (long to)) rest

  pub span-pass : SFits w64 from → SFits w64 to → Ok tt ≡ span_rows r n from to (Ok tt) → Spanned r n from to
  unfolding span_rows good_span
  span-pass f g h =
      let v = reading r in
      let k = tests-pass (good_span r.term_length from to) (sound v n) (good_position v (long from)) (good_position v (long to)) (sym h) in
      let t = (sound-true v n k.1.0).term-high in
      let a = leb-true (long from) (greatest v) (and-true (leb (long from) (greatest v)) _ k.1.1.0).0 in
      let b = leb-true (long to) (greatest v) (and-true (leb (long to) (greatest v)) _ k.1.1.1).0 in
      let small : long to ≤ 2305843009213693952 = omega arith in
      record {
        sound = k.1.0;
        order = in_order from to f g (omega arith) small (and-true (le_z from to) _ k.0).0;
        high = b;
        small = small;
      }

  -- what follows them passes only where they do
  pub span-order : (rest : Result ⊤ Error) → SFits w64 from → SFits w64 to → span_rows r n from to rest ≡ Ok tt → long from ≤ long to
  span-order rest f g h = go (span_rows r n from to (Ok tt)) refl
    where
      go : (x : Result ⊤ Error) → span_rows r n from to (Ok tt) ≡ x → long from ≤ long to
      go (Ok _) e = (span-pass f g (sym e)).order
      go (Err w) e = absurd (let q = span-after (Err w) rest (sym e) ∙ h in let z : ◌≡◌ {A = ℕ} 0 1 = cc in omega arith)
