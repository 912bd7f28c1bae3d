-- A number that a call gave crosses by its bits and back again; it is what the call promises of it.
use mathlib.Core.Path.{◌≡◌, ap, ap₂, ◌∙◌}
use lib.IntN.{ℤ}
use mir.Syntax.{w32, w64}
use mir.Val.{SFits, of_z, to_z}
use mir.Facts.{to_z-of_z}

pub promised : {z e : ℤ} → z ≡ e → SFits w32 z → to_z w32 (of_z w32 z) ≡ e
promised p h = to_z-of_z h ∙ p

pub promised64 : {z e : ℤ} → z ≡ e → SFits w64 z → to_z w64 (of_z w64 z) ≡ e
promised64 p h = to_z-of_z h ∙ p

-- What a call promises of arguments that were read or handed on, it promises of those given.
module _ {A X : Type 0} where
  pub of-1 : (f : A → X) {x : X} {a c : A} → x ≡ f a → a ≡ c → x ≡ f c
  of-1 f e p = e ∙ ap f p

module _ {A B X : Type 0} where
  pub of-2 : (f : A → B → X) {x : X} {a c : A} {b d : B} → x ≡ f a b → a ≡ c → b ≡ d → x ≡ f c d
  of-2 f e p q = e ∙ ap₂ f p q

module _ {A B C X : Type 0} where
  pub of-3 : (f : A → B → C → X) {x : X} {a d : A} {b k : B} {c l : C} → x ≡ f a b c → a ≡ d → b ≡ k → c ≡ l → x ≡ f d k l
  of-3 f e p q r = cc

module _ {A B C D X : Type 0} where
  pub of-4 : (f : A → B → C → D → X) {x : X} {a m : A} {b k : B} {c l : C} {d n : D} → x ≡ f a b c d → a ≡ m → b ≡ k → c ≡ l → d ≡ n → x ≡ f m k l n
  of-4 f e p q r s = cc

module _ {A B C D E X : Type 0} where
  pub of-5 : (f : A → B → C → D → E → X) {x : X} {a m : A} {b k : B} {c l : C} {d n : D} {e o : E} → x ≡ f a b c d e → a ≡ m → b ≡ k → c ≡ l → d ≡ n → e ≡ o
      → x ≡ f m k l n o
  of-5 f h p q r s t = cc
