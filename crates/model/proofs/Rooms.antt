-- Frames and the room left in their term.
use mathlib.Core.Path.{◌≡◌, refl, ap, ◌∙◌, subst}
use Prim.Native.Nat.{ℕ, zero, suc, ◌+◌, ◌-◌, ◌*◌, ◌/◌, ◌%◌, ◌≤◌, ◌<◌}
use native.Mathlib.Nat.{mod-lt, div-add-mod'}
use mathlib.Core.List.{List, [], ◌∷◌, ◌++◌}
use native.Mathlib.Omega.{arith}
use lib.Arith.{digits_mod}
use Rattle.model.proofs.Choice.{split}
use Rattle.model.proofs.Cells.{Cell, fsize, sizes}
use Rattle.model.proofs.Walking.{norm, Fits}

-- ---- rooms

pub norm-pos : (T r : ℕ) → zero < r → norm T r ≡ r
unfolding norm
norm-pos T zero h = absurd (omega arith)
norm-pos T (suc r) h = refl

pub room_next : (T p s : ℕ) → zero < T → s ≤ T - p % T → norm T (T - p % T - s) ≡ T - (p + s) % T
unfolding norm
room_next T p s t h =
    let r : p % T < T = mod-lt p t in
    let e : p / T * T + p % T ≡ p = div-add-mod' p T in
    split (T - p % T) s
    (λ k.
    let full : p + s ≡ (p / T + 1) * T + 0 = omega arith in
    let z : (p + s) % T ≡ 0 = ap (λ (n : ℕ). n % T) full ∙ digits_mod (p / T + 1) t in
    let none : T - p % T - s ≡ 0 = omega arith in
    ap (norm T) none ∙ omega arith)
    (λ k.
    let part : p + s ≡ p / T * T + (p % T + s) = omega arith in
    let z : (p + s) % T ≡ p % T + s = ap (λ (n : ℕ). n % T) part ∙ digits_mod (p / T) (omega arith) in
    norm-pos T (T - p % T - s) (omega arith) ∙ omega arith)

pub fits-back : (T p : ℕ) (fs gs : List Cell) → zero < T → Fits T (T - p % T) (fs ++ gs) → Fits T (T - (p + sizes fs) % T) gs
unfolding Fits sizes
fits-back T p [] gs t h = subst (λ (q : ℕ). Fits T (T - q % T) gs) (omega arith) h
fits-back T p (f ∷ fs) gs t h =
    subst (λ (q : ℕ). Fits T (T - q % T) gs) (omega arith)
    (fits-back T (p + fsize f) fs gs t (subst (λ (r : ℕ). Fits T r (fs ++ gs)) (room_next T p (fsize f) t h.1) h.2))
