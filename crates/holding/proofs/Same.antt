-- Records with equal fields are equal.
use mathlib.Core.Path.{◌≡◌}
use mathlib.Core.Bool.{true}
use mathlib.Core.List.{List}
use Prim.Native.Nat.{ℕ}
use Rattle.card.specs.declared.Card.{Card}
use Rattle.holding.specs.declared.laying.Held.{Held}
use Rattle.holding.specs.Within.{Laid}

pub same-card : {a b d e f g a' b' d' e' f' g' : ℕ} → a ≡ a' → b ≡ b' → d ≡ d' → e ≡ e' → f ≡ f' → g ≡ g'
    → ◌≡◌ {A = Card} (record { bits = a; find = b; trench = d; context = e; material = f; weight = g }) (record { bits = a'; find = b'; trench = d'; context = e'; material = f'; weight = g' })
same-card p q r s t u = cc

pub same-held : {x x' : Card} {a b d e f g h a' b' d' e' f' g' h' : ℕ} → x ≡ x' → a ≡ a' → b ≡ b' → d ≡ d' → e ≡ e' → f ≡ f' → g ≡ g' → h ≡ h'
    → ◌≡◌ {A = Held} (record { found = true; card = x; ends = record { find = a; trench = b; context = d; material = e; weight = f; note = g }; note_length = h })
    (record { found = true; card = x'; ends = record { find = a'; trench = b'; context = d'; material = e'; weight = f'; note = g' }; note_length = h' })
same-held p q r s t u v w = cc

pub same-laid : {h h' : Held} {n n' : List ℕ} → h ≡ h' → n ≡ n' → ◌≡◌ {A = Laid} (record { held = h; note = n }) (record { held = h'; note = n' })
same-laid p q = cc
