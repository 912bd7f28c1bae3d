-- A whole message moves the position of a replay and no other word.
use mathlib.Core.Path.{◌≡◌, refl, sym, ap, ◌∙◌}
use Prim.Native.Nat.{ℕ, zero, suc}
use mathlib.Core.List.{List, [], ◌∷◌}
use native.Mathlib.Omega.{arith}
use lib.IntN.{ℤ, pos}
use lib.ListN.{set}
use mir.Syntax.{w64}
use mir.Val.{Val, SFits}
use denote.Shadow.{shadow}
use denote.Laws.{Is}
use denote.Signed.{SInt}
use denote.Array.{Array, each}
use Rattle.logbuffer.specs.Assembler.{sessions_of}
use Rattle.logbuffer.specs.declared.fragment_assembler.FragmentAssembler.{FragmentAssembler}
use Rattle.capi.specs.Words.{at, assembler_from, assembler_to}
use Rattle.capi.proofs.Kept.{sessions-kept}

-- the words behind the first are read as they were
same-assembler : (w : List ℤ) (z : ℤ) → assembler_from (set w 0 z) 2 ≡ assembler_from w 2
same-assembler [] z = refl
same-assembler (x ∷ w) z = refl

still-fits : (w : List ℤ) (z : ℤ) → SFits w64 z → ((i : ℕ) → SFits w64 (at w i)) → (i : ℕ) → SFits w64 (at (set w 0 z) i)
still-fits [] z f h i = h i
still-fits (x ∷ w) z f h zero = f
still-fits (x ∷ w) z f h (suc i) = h (suc i)

pub moved-alone : (w : List ℤ) (z : ℤ) → SFits w64 z → ((i : ℕ) → SFits w64 (at w i)) → set w 0 z ≡ assembler_to (set w 0 z) 2 (sessions_of (assembler_from w 2))
moved-alone w z f h =
    sym (sessions-kept (set w 0 z) (still-fits w z f h) 2 refl) ∙ ap (λ (a : FragmentAssembler). assembler_to (set w 0 z) 2 (sessions_of a)) (same-assembler w z)

-- the words of an array taken by value fit
each_fits : (xs : List ℤ) (us : List Val) → shadow (each ℤ (SInt w64).own_val xs us) → (i : ℕ) → SFits w64 (at xs i)
each_fits [] us p i = record { sfits = omega arith }
each_fits (x ∷ xs) [] p i = absurd p
each_fits (x ∷ xs) (u ∷ us) p zero = record { sfits = p.0.1 }
each_fits (x ∷ xs) (u ∷ us) p (suc i) = each_fits xs us p.1 i

pub array-fits : (n : ℕ) (xs : List ℤ) (vs : List Val) → Is (Array (SInt w64) n) xs vs → (i : ℕ) → SFits w64 (at xs i)
array-fits n xs vs p = each_fits xs p.0 p.1.1
