-- Tests in definitions: what `cond` gives where a test is known, and proofs by cases on it. Anchors is named here so that the worked cases
-- are checked before the theorems that rest on this file: a wrong definition is then refused first by a case that shows it.
use mathlib.Core.Path.{◌≡◌, refl, sym, ap, subst}
use mathlib.Core.Bool.{Bool, true, false, cond}
use Prim.Native.Nat.{ℕ, ◌≤◌, ◌<◌}
use native.Mathlib.Decide.{dec_le, ℕ_discrete}
use native.Mathlib.Nat.{lt_of_not-le}
use borrow.Author.Tests.{le-leb, lt-leb, eq-eqb, ne_eqb}
use lib.Dec.{leb, eqb}
use Rattle.std.specs.Prelude.{Result, Ok}
use Rattle.model.proofs.Anchors as Anchors

-- what two answers that are the same hold
pub ok-same : {A E : Type 0} {x y : A} → ◌≡◌ {A = Result A E} (Ok x) (Ok y) → x ≡ y
ok-same h = cc

-- a known test
pub cond-true {ℓ} : {X : Type ℓ} (b : Bool) (x y : X) → b ≡ true → cond b x y ≡ x
cond-true b x y e = ap (λ (t : Bool). cond t x y) e

pub cond-false {ℓ} : {X : Type ℓ} (b : Bool) (x y : X) → b ≡ false → cond b x y ≡ y
cond-false b x y e = ap (λ (t : Bool). cond t x y) e

pub le_yes {ℓ} : {X : Type ℓ} (a b : ℕ) (x y : X) → a ≤ b → cond (leb a b) x y ≡ x
le_yes a b x y h = cond-true (leb a b) x y (le-leb a b h)

pub le-no {ℓ} : {X : Type ℓ} (a b : ℕ) (x y : X) → b < a → cond (leb a b) x y ≡ y
le-no a b x y h = cond-false (leb a b) x y (lt-leb a b h)

pub eq_yes {ℓ} : {X : Type ℓ} (a b : ℕ) (x y : X) → a ≡ b → cond (eqb a b) x y ≡ x
eq_yes a b x y h = cond-true (eqb a b) x y (eq-eqb a b h)

pub eq_no {ℓ} : {X : Type ℓ} (a b : ℕ) (x y : X) → ¬ (a ≡ b) → cond (eqb a b) x y ≡ y
eq_no a b x y h = cond-false (eqb a b) x y (ne_eqb a b h)

-- one order or the other, equal or not
pub split {ℓ} : {X : Type ℓ} (a b : ℕ) → (a ≤ b → X) → (b < a → X) → X
split a b f g = elim (dec_le a b) [ yes h ↦ f h | no h ↦ g (lt_of_not-le h) ]

pub same? {ℓ} : {X : Type ℓ} (a b : ℕ) → (a ≡ b → X) → (¬ (a ≡ b) → X) → X
same? a b f g = elim (ℕ_discrete a b) [ yes h ↦ f h | no h ↦ g h ]

-- by cases on a test
pub cond-case {ℓ κ} : {X : Type ℓ} (P : X → Type κ) (b : Bool) (x y : X) → (b ≡ true → P x) → (b ≡ false → P y) → P (cond b x y)
cond-case P true x y f g = f refl
cond-case P false x y f g = g refl

pub le-case {ℓ κ} : {X : Type ℓ} (P : X → Type κ) (a b : ℕ) (x y : X) → (a ≤ b → P x) → (b < a → P y) → P (cond (leb a b) x y)
le-case P a b x y f g = split a b (λ h. subst P (sym (le_yes a b x y h)) (f h)) (λ h. subst P (sym (le-no a b x y h)) (g h))

pub eq-case {ℓ κ} : {X : Type ℓ} (P : X → Type κ) (a b : ℕ) (x y : X) → (a ≡ b → P x) → (¬ (a ≡ b) → P y) → P (cond (eqb a b) x y)
eq-case P a b x y f g = same? a b (λ h. subst P (sym (eq_yes a b x y h)) (f h)) (λ h. subst P (sym (eq_no a b x y h)) (g h))

-- by cases on two tests that are one
pub cond_both {ℓ κ μ} : {X : Type ℓ} {Y : Type κ} (P : X → Y → Type μ) (a b : Bool) (x y : X) (x' y' : Y) → a ≡ b
    → (b ≡ true → P x x') → (b ≡ false → P y y') → P (cond a x y) (cond b x' y')
cond_both P a true x y x' y' e f g = subst (λ (z : _). P z x') (sym (cond-true a x y e)) (f refl)
cond_both P a false x y x' y' e f g = subst (λ (z : _). P z y') (sym (cond-false a x y e)) (g refl)
