-- The size of a frame, by its length word alone, and what the code finds of it.
use Rattle.std.specs.Prelude.{Option, Some, None}
use Rattle.std.specs.Option.{IsSome}
use mathlib.Core.Logic.{◌⊎◌, inl, inr}
use mathlib.Core.Path.{◌≡◌, refl, sym, ap, ◌∙◌}
use Prim.Native.Nat.{ℕ, zero, suc, ◌+◌, ◌-◌, ◌%◌, ◌≤◌, ◌<◌}
use mathlib.Core.Bool.{Bool, true, false, cond, ◌||◌}
use mathlib.Core.List.{List, ◌++◌}
use native.Mathlib.Omega.{arith}
use borrow.Author.Tests.{ltb-true, ltb-false, lt-ltb, le-ltb, ne_eqb}
use lib.Dec.{eqb, ltb}
use lib.ListN.{length, drop, get_or-append}
use Rattle.model.specs.declared.FrameLength.TheVariants.{Free, Writing, Finished}
use Rattle.model.specs.declared.Frame.{Frame}
use Rattle.model.specs.declared.Frame.TheVariants.{Absent, Unsound, Padding, Data}
use Rattle.model.specs.Bytes.{u16, u32}
use Rattle.model.specs.FrameDescriptor.{align, frame_length_of, frame_by, frame_at}
use Rattle.shelf.specs.Shelf.{size_by, size_at, size_found}

abbrev size_word : ℕ → ℕ → ℕ
size_word w room = cond (eqb w 0) 0 (cond (ltb w 2147483648) (cond (ltb w 32 || ltb room (align w)) 0 (align w)) 0)

by_word : (s : List ℕ) (room : ℕ) → size_at s room ≡ size_word (u32 s) room
unfolding size_at frame_at frame_length_of
by_word s room = go (eqb (u32 s) 0) (ltb (u32 s) 2147483648)
  where
    type : ℕ
    type = u16 (drop 6 s)

    w : ℕ
    w = u32 s

    judged : (unsound padding : Bool) → size_by (cond unsound (Unsound w) (cond padding (Padding w) (Data w))) ≡ cond unsound 0 (align w)
    judged true p = refl
    judged false true = refl
    judged false false = refl

    go : (b1 b2 : Bool)
        → size_by (frame_by type room (cond b1 Free (cond b2 (Finished w) (Writing (4294967296 - w))))) ≡ cond b1 0 (cond b2 (cond (ltb w 32 || ltb room (align w)) 0 (align w)) 0)
    go true b2 = refl
    go false true = judged (ltb w 32 || ltb room (align w)) (eqb type 0)
    go false false = refl

-- a frame: a header at least, and inside the room
pub record Sized (w room z : ℕ) : Type 0 where
  pub header : 32 ≤ w
  pub small : w < 2147483648
  pub whole : z ≡ align w
  pub inside : z ≤ room

pub sized : (s : List ℕ) (room : ℕ) → 0 < size_at s room → Sized (u32 s) room (size_at s room)
sized s room h = go (eqb w 0) (ltb w 2147483648) (ltb w 32) (ltb room (align w)) refl refl refl (by_word s room)
  where
    w : ℕ
    w = u32 s

    go : (b1 b2 b3 b4 : Bool) → ltb w 2147483648 ≡ b2 → ltb w 32 ≡ b3 → ltb room (align w) ≡ b4
        → size_at s room ≡ cond b1 0 (cond b2 (cond (b3 || b4) 0 (align w)) 0) → Sized w room (size_at s room)
    go true b2 b3 b4 e2 e3 e4 e = absurd (omega arith)
    go false false b3 b4 e2 e3 e4 e = absurd (omega arith)
    go false true true b4 e2 e3 e4 e = absurd (omega arith)
    go false true false true e2 e3 e4 e = absurd (omega arith)
    go false true false false e2 e3 e4 e =
        record { header = ltb-false w 32 e3; small = ltb-true w 2147483648 e2; whole = e; inside = omega (arith, ltb-false room (align w) e4) }

pub size_of : (s : List ℕ) (room : ℕ) → 32 ≤ u32 s → u32 s < 2147483648 → align (u32 s) ≤ room → size_at s room ≡ align (u32 s)
size_of s room h l i =
    let n : u32 s ≡ 0 → ⊥ = λ e. omega arith in
    by_word s room ∙ rw (ne_eqb (u32 s) 0 n, lt-ltb (u32 s) 2147483648 l, le-ltb (u32 s) 32 h, le-ltb room (align (u32 s)) i)

-- what lies behind the length word does not matter
pub u32-front : (h r : List ℕ) → 4 ≤ length h → u32 (h ++ r) ≡ u32 h
unfolding u32
u32-front h r l =
    rw (get_or-append h r 0 0 (omega arith), get_or-append h r 0 1 (omega arith), get_or-append h r 0 2 (omega arith), get_or-append h r 0 3 (omega arith))

pub size-front : (h r : List ℕ) (room : ℕ) → 4 ≤ length h → size_at (h ++ r) room ≡ size_at h room
size-front h r room l = by_word (h ++ r) room ∙ ap (λ (w : ℕ). size_word w room) (u32-front h r l) ∙ sym (by_word h room)

-- ---- what the code finds

pub no_frame : {f : Frame} → (f ≡ Absent) ⊎ ((n : ℕ) × (f ≡ Unsound n)) → size_by f ≡ 0
no_frame (inl e) = ap size_by e
no_frame (inr p) = ap size_by p.1

pub found_none : (x : ℕ) → size_found x ≡ None → x ≡ 0
found_none zero e = refl
found_none (suc n) e = absurd cc

pub found-some : (x z : ℕ) → Some z ≡ size_found x → (x ≡ z) × (0 < z)
found-some zero z e = absurd cc
found-some (suc n) z e = let p : suc n ≡ z = cc in (p, omega arith)

pub found : (x : ℕ) → 0 < x → Some x ≡ size_found x
found zero h = absurd (omega arith)
found (suc n) h = refl

pub is-found : {r : Option ℕ} (x : ℕ) → r ≡ size_found x → 0 < x → IsSome r
is-found x e h = rw (e ∙ sym (found x h)) refl

-- the library's next multiple of the alignment
pub next-multiple : (n : ℕ) → n + (32 - n % 32) % 32 ≡ align n
next-multiple n = omega arith
