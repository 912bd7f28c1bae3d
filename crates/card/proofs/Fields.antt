-- A number and its bytes say the same; so do numbers one behind the other. The worked cases are named first, so that the checker takes
-- them before every law: a wrong definition is refused by a fact about it and not by a proof that no longer fits.
use Rattle.card.proofs.Cases as Cases
use mathlib.Core.Path.{◌≡◌, refl, sym, ap, ap₂, ◌∙◌, subst}
use mathlib.Core.List.{List, [], ◌∷◌, ◌++◌}
use Prim.Native.Nat.{ℕ, zero, suc, ◌+◌, ◌-◌, ◌*◌, ◌/◌, ◌%◌, ◌^◌, ◌≤◌, ◌<◌}
use native.Mathlib.Nat.{pow-succ', pow-le-pow_right, add-zero}
use native.Mathlib.Omega.{arith}
use lib.ListN.{length, take, drop, get_or, length-append, take-append-drop, length-drop}
use lib.Seq.{get_or-drop, drop-drop, take_at, drop_at, take-nil}
use Rattle.std.proofs.lemmas.List.{at_drop_more}
use Rattle.card.specs.Bytes.{le, number, joined, numbers, sum, Bytes}
use Rattle.card.specs.Sole.{Fit, none, one}

-- ---- one number

pub length-le : (w n : ℕ) → length (le w n) ≡ w
unfolding le
length-le zero n = refl
length-le (suc w) n = ap suc (length-le w (n / 256))

pub number-le : (w n : ℕ) → n < 256 ^ w → number (le w n) ≡ n
unfolding le number
number-le zero n h = omega arith
number-le (suc w) n h = omega (arith, number-le w (n / 256) (omega (arith, pow-succ' 256 w)))

pub le-number : (w : ℕ) (s : List ℕ) → Bytes s → w ≤ length s → le w (number (take w s)) ≡ take w s
unfolding le number
le-number zero s bytes h = refl
le-number (suc w) [] bytes h = absurd (omega arith)
le-number (suc w) (x ∷ s) bytes h =
    let m = number (take w s) in
    let low : (x + 256 * m) % 256 ≡ x = omega (arith, bytes 0) in
    let high : (x + 256 * m) / 256 ≡ m = omega (arith, bytes 0) in
    ap₂ (λ (y : ℕ) (k : ℕ). y ∷ le w k) low high ∙ ap (λ (t : List ℕ). x ∷ t) (le-number w s (λ i. bytes (suc i)) (omega arith))

pub number-below : (w : ℕ) (s : List ℕ) → Bytes s → number (take w s) < 256 ^ w
unfolding number
number-below zero s bytes = omega arith
number-below (suc w) [] bytes = omega (arith, number-below w [] bytes, pow-succ' 256 w)
number-below (suc w) (x ∷ s) bytes = omega (arith, bytes 0, number-below w s (λ i. bytes (suc i)), pow-succ' 256 w)

-- a byte more in front; absent bytes are 0 on both sides
pub number_more : (b : List ℕ) (at k : ℕ) → number (take (suc k) (drop at b)) ≡ get_or b at 0 + 256 * number (take k (drop (suc at) b))
unfolding number
number_more [] zero k = omega (arith, ap number (take-nil {A = ℕ} k))
number_more [] (suc at) k = omega (arith, ap number (take-nil {A = ℕ} k))
number_more (x ∷ s) zero k = refl
number_more (x ∷ s) (suc at) k = number_more s at k

pub number-one : (b : List ℕ) → number (take 1 (drop 0 b)) ≡ get_or b 0 0
unfolding number
number-one b = omega (arith, number_more b 0 0)

-- ---- a turn of a loop

pub le-turn : (w i n : ℕ) → i < w → le (w - i) n ≡ n % 256 ∷ le (w - (i + 1)) (n / 256)
unfolding le
le-turn w i n h = let e : w - i ≡ suc (w - (i + 1)) = omega arith in ap (λ (k : ℕ). le k n) e

pub number-turn : (b : List ℕ) (at w i : ℕ) → 0 < i → i ≤ w
    → get_or b (at + (i - 1)) 0 + 256 * number (take (w - i) (drop (at + i) b)) ≡ number (take (w - (i - 1)) (drop (at + (i - 1)) b))
number-turn b at w i h l =
    let e : suc (w - i) ≡ w - (i - 1) = omega arith in
    let a : at + i ≡ suc (at + (i - 1)) = omega arith in
    ap (λ (k : ℕ). get_or b (at + (i - 1)) 0 + 256 * number (take (w - i) (drop k b))) a
    ∙ sym (number_more b (at + (i - 1)) (w - i)) ∙ ap (λ (k : ℕ). number (take k (drop (at + (i - 1)) b))) e

pub pow-turn : (w i : ℕ) → 0 < i → i ≤ w → 256 ^ (w - (i - 1)) ≡ 256 * 256 ^ (w - i)
pow-turn w i h l = let e : w - (i - 1) ≡ suc (w - i) = omega arith in ap (λ (k : ℕ). 256 ^ k) e ∙ pow-succ' 256 (w - i)

-- a number of a small width fits a larger
pub fits : (k : ℕ) {w n : ℕ} → n < 256 ^ w → w ≤ k → n < 256 ^ k
fits k {w} {n} h l = omega (arith, pow-le-pow_right {n = 256} (omega arith) l)

-- ---- numbers one behind the other

pub length-numbers : (ws b : List ℕ) (at : ℕ) → length (numbers ws b at) ≡ length ws
unfolding numbers
length-numbers [] b at = refl
length-numbers (w ∷ ws) b at = ap suc (length-numbers ws b (at + w))

pub numbers-turn : (ws b : List ℕ) (at k : ℕ) → k < length ws
    → numbers (drop k ws) b at ≡ number (take (get_or ws k 0) (drop at b)) ∷ numbers (drop (k + 1) ws) b (at + get_or ws k 0)
unfolding numbers
numbers-turn ws b at k h = at_drop_more (λ (s : List ℕ). numbers s b at) ws k 0 h

pub bytes_drop : (at : ℕ) (b : List ℕ) → Bytes b → Bytes (drop at b)
bytes_drop at b h i = subst (λ (x : ℕ). x < 256) (sym (get_or-drop at b i 0)) (h (at + i))

pub bytes_take : (n : ℕ) (b : List ℕ) → Bytes b → Bytes (take n b)
bytes_take zero b h i = omega arith
bytes_take (suc n) [] h i = h i
bytes_take (suc n) (x ∷ s) h zero = h 0
bytes_take (suc n) (x ∷ s) h (suc i) = bytes_take n s (λ j. h (suc j)) i

pub length-joined : (ws ns r : List ℕ) → length ws ≡ length ns → length (joined ws ns r) ≡ sum ws + length r
unfolding joined sum
length-joined [] ns r e = omega arith
length-joined (w ∷ ws) [] r e = absurd (omega arith)
length-joined (w ∷ ws) (n ∷ ns) r e =
    omega (arith, length-append (le w n) (joined ws ns r), length-le w n, length-joined ws ns r (omega arith))

pub numbers-joined : {ws ns : List ℕ} → Fit ws ns → (b r : List ℕ) (at : ℕ) → drop at b ≡ joined ws ns r → (numbers ws b at ≡ ns) × (drop (at + sum ws) b ≡ r)
unfolding joined numbers sum
numbers-joined none b r at e = (refl, ap (λ (n : ℕ). drop n b) (add-zero at) ∙ e)
numbers-joined (one {w} {n} {ws} {ns} h f) b r at e =
    let first : number (take w (drop at b)) ≡ n =
    ap (λ (s : List ℕ). number (take w s)) e ∙ ap number (take_at (le w n) (joined ws ns r) w (length-le w n)) ∙ number-le w n h in
    let rest = numbers-joined f b r (at + w) (sym (drop-drop w at b) ∙ ap (drop w) e ∙ drop_at (le w n) (joined ws ns r) w (length-le w n)) in
    let same : at + (w + sum ws) ≡ at + w + sum ws = omega arith in
    (ap₂ (λ (x : ℕ) (s : List ℕ). x ∷ s) first rest.0, ap (λ (k : ℕ). drop k b) same ∙ rest.1)

pub joined_numbers : (ws b : List ℕ) (at : ℕ) → Bytes b → at + sum ws ≤ length b → joined ws (numbers ws b at) (drop (at + sum ws) b) ≡ drop at b
unfolding joined numbers sum
joined_numbers [] b at bytes h = ap (λ (n : ℕ). drop n b) (add-zero at)
joined_numbers (w ∷ ws) b at bytes h =
    let same : at + (w + sum ws) ≡ at + w + sum ws = omega arith in
    ap₂ (λ (s t : List ℕ). s ++ t) (le-number w (drop at b) (bytes_drop at b bytes) (omega (arith, length-drop at b)))
    (ap (λ (k : ℕ). joined ws (numbers ws b (at + w)) (drop k b)) same ∙ joined_numbers ws b (at + w) bytes (omega arith) ∙ sym (drop-drop w at b))
    ∙ take-append-drop w (drop at b)

pub fit-numbers : (ws b : List ℕ) (at : ℕ) → Bytes b → Fit ws (numbers ws b at)
unfolding numbers
fit-numbers [] b at bytes = none
fit-numbers (w ∷ ws) b at bytes = one (number-below w (drop at b) (bytes_drop at b bytes)) (fit-numbers ws b (at + w) bytes)
