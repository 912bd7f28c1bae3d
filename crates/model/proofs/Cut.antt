-- A message cut into frames: what is written for it step by step, and that its frames take what it needs.
use mathlib.Core.Path.{◌≡◌, refl, sym, ap, ap₂, ◌∙◌, subst}
use mathlib.Core.Bool.{Bool, cond}
use Prim.Native.Nat.{ℕ, zero, suc, ◌+◌, ◌-◌, ◌*◌, ◌/◌, ◌%◌, ◌≤◌, ◌<◌}
use mathlib.Core.List.{List, [], ◌∷◌}
use native.Mathlib.Omega.{arith}
use native.Mathlib.Decide.{dec_le}
use native.Mathlib.Nat.{lt_of_not-le, le_of_lt, div_self, mod_self, div-eq_of_lt, mod-eq_of_lt, div-eq-sub-div, mod-eq-sub-mod, div-add-mod', mul-le-mul_left, mod-le, mod-lt, mul_assoc, mul-add, suc-mul}
use borrow.Author.Tests.{le-leb, lt-leb, eq-eqb, ne_eqb}
use lib.Arith.{digits_div}
use lib.Dec.{eqb}
use lib.ListN.{length, take, drop, length-drop}
use lib.Seq.{length-take-le}
use Rattle.model.specs.declared.Reading.{Reading}
use Rattle.model.specs.Bytes.{splice, zeros}
use Rattle.model.specs.FrameDescriptor.{align, space}
use Rattle.model.specs.TermAppender.{Fragment, fragment, fragment_bytes, written, cut_from, cut, sizes, need}
use Rattle.model.proofs.Splice.{length-zeros}

split {ℓ} : {X : Type ℓ} (a b : ℕ) → (a ≤ b → X) → (b < a → X) → X
split a b f g = elim (dec_le a b) [ yes h ↦ f h | no h ↦ g (lt_of_not-le h) ]

pub cut-last : (f pay fl re : ℕ) (m : List ℕ) → length m ≤ pay → cut_from (suc f) pay fl re m ≡ fragment (fl + 64) re m ∷ []
unfolding cut_from
cut-last f pay fl re m h = simp (le-leb _ _ h)

pub cut-more : (f pay fl re : ℕ) (m : List ℕ) → pay < length m → cut_from (suc f) pay fl re m ≡ fragment fl re (take pay m) ∷ cut_from f pay 0 re (drop pay m)
unfolding cut_from
cut-more f pay fl re m h = simp (lt-leb _ _ h)

-- ---- the writer: what is left to write from here on makes the whole

pub record Left (v : Reading) (log : List ℕ) (base offset pay fl re : ℕ) (m goal : List ℕ) : Type 0 where
  pub fuel : ℕ
  pub enough : length m < fuel
  pub room : offset + sizes (cut_from fuel pay fl re m) ≤ v.term
  pub same : written v log base offset (cut_from fuel pay fl re m) ≡ goal

module _ (v : Reading) (log : List ℕ) (base offset pay fl re : ℕ) (m goal : List ℕ) where
  more_by : (f : ℕ) → length m < f → offset + sizes (cut_from f pay fl re m) ≤ v.term → written v log base offset (cut_from f pay fl re m) ≡ goal → pay < length m → 0 < pay → pay % 32 ≡ 0
      → Left v (splice log (base + offset) (fragment_bytes v offset (fragment fl re (take pay m)))) base (offset + (pay + 32)) pay 0 re (drop pay m) goal × (offset + (pay + 32) ≤ v.term)
  unfolding sizes written
  more_by zero en r e h z d = absurd (omega arith)
  more_by (suc f) en r e h z d =
      let rest = cut_from f pay 0 re (drop pay m) in
      let t : length (take pay m) ≡ pay = length-take-le pay m (le_of_lt h) in
      let s : space (length (take pay m)) ≡ pay + 32 = ap space t ∙ omega arith in
      let r2 : offset + (space (length (take pay m)) + sizes rest) ≤ v.term = subst (λ (x : List Fragment). offset + sizes x ≤ v.term) (cut-more f pay fl re m h) r in
      let e2 : written v (splice log (base + offset) (fragment_bytes v offset (fragment fl re (take pay m)))) base (offset + space (length (take pay m))) rest ≡ goal =
      sym (ap (written v log base offset) (cut-more f pay fl re m h)) ∙ e in (
        record {
          fuel = f;
          enough = omega (arith, length-drop pay m);
          room = omega arith;
          same = ap (λ (x : ℕ). written v (splice log (base + offset) (fragment_bytes v offset (fragment fl re (take pay m)))) base (offset + x) rest) (sym s) ∙ e2;
        },
        omega arith,
      )

  pub left-more : Left v log base offset pay fl re m goal → pay < length m → 0 < pay → pay % 32 ≡ 0
      → Left v (splice log (base + offset) (fragment_bytes v offset (fragment fl re (take pay m)))) base (offset + (pay + 32)) pay 0 re (drop pay m) goal × (offset + (pay + 32) ≤ v.term)
  left-more l h z d = more_by l.fuel l.enough l.room l.same h z d

  last-by : (f : ℕ) → length m < f → offset + sizes (cut_from f pay fl re m) ≤ v.term → written v log base offset (cut_from f pay fl re m) ≡ goal → length m ≤ pay
      → (splice log (base + offset) (fragment_bytes v offset (fragment (fl + 64) re m)) ≡ goal) × (offset + space (length m) ≤ v.term)
  unfolding sizes written
  last-by zero en r e h = absurd (omega arith)
  last-by (suc f) en r e h =
      let r2 : offset + (space (length m) + 0) ≤ v.term = subst (λ (x : List Fragment). offset + sizes x ≤ v.term) (cut-last f pay fl re m h) r in
      (sym (ap (written v log base offset) (cut-last f pay fl re m h)) ∙ e, omega arith)

  pub left-last : Left v log base offset pay fl re m goal → length m ≤ pay
      → (splice log (base + offset) (fragment_bytes v offset (fragment (fl + 64) re m)) ≡ goal) × (offset + space (length m) ≤ v.term)
  left-last l h = last-by l.fuel l.enough l.room l.same h

pub left-all : (v : Reading) (log : List ℕ) (base pay re : ℕ) (m : List ℕ) → v.offset + sizes (cut pay re m) ≤ v.term
    → Left v log base v.offset pay 128 re m (written v log base v.offset (cut pay re m))
unfolding cut
left-all v log base pay re m h = record { fuel = suc (length m); enough = omega arith; room = h; same = refl }

-- ---- the frames take what the message needs

Sum : ℕ → ℕ → ℕ
Sum pay n = n / pay * (pay + 32) + cond (eqb (n % pay) 0) 0 (space (n % pay))

space-32 : (pay : ℕ) → pay % 32 ≡ 0 → space pay ≡ pay + 32
space-32 pay h = omega arith

sum-last : (pay n : ℕ) → pay % 32 ≡ 0 → zero < n → n ≤ pay → Sum pay n ≡ space n
unfolding Sum
sum-last pay n m z h =
    split pay n
    (λ k.
    let e : n ≡ pay = omega arith in
    ap₂ (λ (a b : ℕ). a * (pay + 32) + cond (eqb b 0) 0 (space b)) (ap (λ (x : ℕ). x / pay) e ∙ div_self (omega arith)) (ap (λ (x : ℕ). x % pay) e ∙ mod_self pay)
    ∙ omega (arith, space-32 n (ap (λ (x : ℕ). x % 32) e ∙ m)))
    (λ k. ap₂ (λ (a b : ℕ). a * (pay + 32) + cond (eqb b 0) 0 (space b)) (div-eq_of_lt k) (mod-eq_of_lt k)
    ∙ ap (λ (t : Bool). 0 * (pay + 32) + cond t 0 (space n)) (ne_eqb n 0 (λ e. omega arith)) ∙ omega arith)

sum_more : (pay n : ℕ) → zero < pay → pay < n → Sum pay n ≡ (pay + 32) + Sum pay (n - pay)
unfolding Sum
sum_more pay n z h =
    ap₂ (λ (a b : ℕ). a * (pay + 32) + cond (eqb b 0) 0 (space b)) (div-eq-sub-div z (le_of_lt h)) (mod-eq-sub-mod (le_of_lt h)) ∙ omega arith

sizes-cut : (f pay fl re : ℕ) (b : List ℕ) → zero < pay → pay % 32 ≡ 0 → zero < length b → length b < f → sizes (cut_from f pay fl re b) ≡ Sum pay (length b)
unfolding sizes
sizes-cut zero pay fl re b z m n h = absurd (omega arith)
sizes-cut (suc f) pay fl re b z m n h =
    split (length b) pay
    (λ k. ap sizes (cut-last f pay fl re b k) ∙ omega (arith, sum-last pay (length b) m n k))
    (λ k. ap sizes (cut-more f pay fl re b k) ∙
    omega (
      arith,
      sum_more pay (length b) z k,
      space-32 (length (take pay b)) (ap (λ (x : ℕ). x % 32) (length-take-le pay b (le_of_lt k)) ∙ m),
      length-take-le pay b (le_of_lt k),
      sizes-cut f pay 0 re (drop pay b) z m (omega (arith, length-drop pay b)) (omega (arith, length-drop pay b)),
      ap (Sum pay) (length-drop pay b),
    ))

-- what frames take depends on the message's length alone
sizes-alike : (f pay fl gl re se : ℕ) (a b : List ℕ) → length a ≡ length b → sizes (cut_from f pay fl re a) ≡ sizes (cut_from f pay gl se b)
unfolding sizes cut_from
sizes-alike zero pay fl gl re se a b e = refl
sizes-alike (suc f) pay fl gl re se a b e =
    split (length a) pay
    (λ k. ap sizes (cut-last f pay fl re a k) ∙ ap (λ (n : ℕ). space n + 0) e ∙ sym (ap sizes (cut-last f pay gl se b (omega arith))))
    (λ k.
    let l : length (take pay a) ≡ length (take pay b) = length-take-le pay a (omega arith) ∙ sym (length-take-le pay b (omega arith)) in
    ap sizes (cut-more f pay fl re a k)
    ∙ ap₂ (λ (x y : ℕ). space x + y) l (sizes-alike f pay 0 0 re se (drop pay a) (drop pay b) (length-drop pay a ∙ omega arith ∙ sym (length-drop pay b)))
    ∙ sym (ap sizes (cut-more f pay gl se b (omega arith))))

-- the frames of a message take what it needs
pub need-is : (pay re : ℕ) (m : List ℕ) → sizes (cut pay re m) ≡ need pay (length m)
unfolding cut need
need-is pay re m =
    ap (λ (f : ℕ). sizes (cut_from (suc f) pay 128 re m)) (sym (length-zeros (length m)))
    ∙ sizes-alike (suc (length (zeros (length m)))) pay 128 128 re 0 m (zeros (length m)) (sym (length-zeros (length m)))

-- the Rust's formula, for a payload limit that row 1 lets through
pub need-formula : (pay n : ℕ) → zero < pay → pay % 32 ≡ 0 → zero < n → need pay n ≡ n / pay * (pay + 32) + cond (eqb (n % pay) 0) 0 (space (n % pay))
unfolding cut need Sum
need-formula pay n z d h =
    let l = length-zeros n in
    sizes-cut (suc (length (zeros n))) pay 128 0 (zeros n) z d (omega arith) (omega arith) ∙ ap (Sum pay) l

-- a message within the payload limit is one frame
pub need-one : (pay n : ℕ) → n ≤ pay → need pay n ≡ space n
unfolding cut need sizes
need-one pay n h =
    let l = length-zeros n in
    ap sizes (cut-last (length (zeros n)) pay 128 0 (zeros n) (omega arith)) ∙ ap (λ (x : ℕ). space x + 0) l ∙ omega arith

pub cut-one : (pay re : ℕ) (m : List ℕ) → length m ≤ pay → cut pay re m ≡ fragment 192 re m ∷ []
unfolding cut
cut-one pay re m h = cut-last (length m) pay 128 re m h

-- it is a multiple of 32, and never 0
sizes-32 : (fs : List Fragment) → sizes fs % 32 ≡ 0
unfolding sizes
sizes-32 [] = refl
sizes-32 (f ∷ fs) = omega (arith, sizes-32 fs)

pub need-32 : (pay n : ℕ) → need pay n % 32 ≡ 0
unfolding need
need-32 pay n = sizes-32 (cut pay 0 (zeros n))

pub need-some : (pay n : ℕ) → 32 ≤ need pay n
unfolding cut need sizes
need-some pay n =
    split (length (zeros n)) pay
    (λ k. omega (arith, ap sizes (cut-last (length (zeros n)) pay 128 0 (zeros n) k)))
    (λ k. omega (arith, ap sizes (cut-more (length (zeros n)) pay 128 0 (zeros n) k)))

-- it covers the message's bytes and a header
sizes-cover : (f pay fl re : ℕ) (b : List ℕ) → zero < pay → length b < f → length b + 32 ≤ sizes (cut_from f pay fl re b)
unfolding sizes
sizes-cover zero pay fl re b z h = absurd (omega arith)
sizes-cover (suc f) pay fl re b z h =
    split (length b) pay
    (λ k. omega (arith, ap sizes (cut-last f pay fl re b k)))
    (λ k. omega (arith, ap sizes (cut-more f pay fl re b k), length-take-le pay b (le_of_lt k), length-drop pay b, sizes-cover f pay 0 re (drop pay b) z (omega (arith, length-drop pay b))))

pub need-covers : (pay n : ℕ) → zero < pay → n + 32 ≤ need pay n
unfolding need cut
need-covers pay n z = omega (arith, sizes-cover (suc (length (zeros n))) pay 128 0 (zeros n) z (omega arith), length-zeros n)

-- and one that is not within the payload limit
pub need-whole : (pay n : ℕ) → 32 ≤ pay → pay % 32 ≡ 0 → pay < n → n % pay ≡ 0 → need pay n ≡ n / pay * (pay + 32)
need-whole pay n l d h z = need-formula pay n (omega arith) d (omega arith) ∙ simp (eq-eqb _ _ z) (omega arith)

pub need-rest : (pay n : ℕ) → 32 ≤ pay → pay % 32 ≡ 0 → pay < n → (n % pay ≡ 0 → ⊥) → need pay n ≡ n / pay * (pay + 32) + space (n % pay)
need-rest pay n l d h z = need-formula pay n (omega arith) d (omega arith) ∙ simp (ne_eqb _ _ z)

-- it stays far below what a machine number holds
pub parts-small : (pay n : ℕ) → 32 ≤ pay → n / pay * (pay + 32) ≤ 2 * n
parts-small pay n h =
    let times : n / pay * 32 ≤ n / pay * pay = mul-le-mul_left (n / pay) h in
    omega (arith, div-add-mod' n pay)

pub need-small : (pay n : ℕ) → 32 ≤ pay → pay % 32 ≡ 0 → need pay n ≤ 3 * n + 96
need-small pay n h d =
    split n pay
    (λ k. omega (arith, need-one pay n k))
    (λ k. by-rest k (n % pay) refl)
  where
    by-rest : pay < n → (r : ℕ) → n % pay ≡ r → need pay n ≤ 3 * n + 96
    by-rest k zero e = omega (arith, need-whole pay n h d k e, parts-small pay n h)
    by-rest k (suc r) e = omega (arith, need-rest pay n h d k (λ z. omega arith), parts-small pay n h, mod-le n pay)

-- ---- by arithmetic alone

pub times_32 : (a b : ℕ) → b % 32 ≡ 0 → a * b % 32 ≡ 0
times_32 a b h =
    let e : b ≡ b / 32 * 32 = omega arith in
    let m : a * (b / 32 * 32) ≡ a * (b / 32) * 32 = sym (mul_assoc a (b / 32) 32) in
    ap (λ (x : ℕ). a * x % 32) e ∙ ap (λ (x : ℕ). x % 32) m ∙ omega arith

-- the length divided by the payload limit and rounded up, where nothing is left, and where something is
pub whole-up : (pay n : ℕ) → zero < pay → n % pay ≡ 0 → (n + (pay - 1)) / pay ≡ n / pay
whole-up pay n z e =
    let s : n + (pay - 1) ≡ n / pay * pay + (pay - 1) = omega (arith, div-add-mod' n pay) in
    ap (λ (x : ℕ). x / pay) s ∙ digits_div (n / pay) (omega arith)

pub rest_up : (pay n r : ℕ) → zero < pay → n % pay ≡ suc r → (n + (pay - 1)) / pay ≡ suc (n / pay)
rest_up pay n r z e =
    let l : suc r < pay = subst (λ (x : ℕ). x < pay) e (mod-lt n z) in
    let m : suc (n / pay) * pay ≡ n / pay * pay + pay = suc-mul (n / pay) pay in
    let s : n + (pay - 1) ≡ suc (n / pay) * pay + r = omega (arith, div-add-mod' n pay) in
    ap (λ (x : ℕ). x / pay) s ∙ digits_div (suc (n / pay)) (omega arith)

-- the length rounded up to 32, and 32 for every frame
pub need-sum : (pay n : ℕ) → zero < n → 32 ≤ pay → pay % 32 ≡ 0 → need pay n ≡ align n + 32 * ((n + (pay - 1)) / pay)
need-sum pay n z l d = by-rest (n % pay) refl
  where
    split-up : n / pay * (pay + 32) ≡ n / pay * pay + n / pay * 32
    split-up = mul-add (n / pay) pay 32

    by-rest : (r : ℕ) → n % pay ≡ r → need pay n ≡ align n + 32 * ((n + (pay - 1)) / pay)
    by-rest zero e =
        need-formula pay n (omega arith) d z ∙ simp (eq-eqb _ _ e)
        (omega (arith, split-up, whole-up pay n (omega arith) e, div-add-mod' n pay, times_32 (n / pay) pay d))
    by-rest (suc r) e =
        let f : n % pay ≡ 0 → ⊥ = λ q. omega arith in
        need-formula pay n (omega arith) d z ∙ simp (ne_eqb _ _ f)
        (omega (arith, split-up, rest_up pay n r (omega arith) e, div-add-mod' n pay, times_32 (n / pay) pay d))
