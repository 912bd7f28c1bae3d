-- What a frame is by its length word and its type, as the code asks for them.
use Rattle.std.proofs.Common.{◌≡◌, ℕ, ◌<◌, ◌≤◌, true, false, cond, ◌||◌, eqb, ltb, List, drop, ℤ, pos, negsuc, sym, ap, ◌∙◌, ap₂, arith, to_z-of_z, w32, SFits, to_z, of_z, ltb-false, ltb-true, le-ltb, lt-ltb, eq-eqb, ne_eqb}
use lib.Signed.{lt_z}
use Rattle.model.specs.declared.Frame.{Frame}
use Rattle.model.specs.declared.Frame.TheVariants.{Absent, Unsound, Padding, Data}
use Rattle.model.specs.Bytes.{u16, u32}
use Rattle.model.specs.FrameDescriptor.{align, frame_length_of, frame_by, frame_at}
use Rattle.model.proofs.FrameLaws.{length-free, length-writing, length-finished}

-- zero and less are no frame's length
pub no_length : (k room : ℕ) (z : ℤ) → SFits w32 z → lt_z (to_z w32 (of_z w32 z)) (pos 1) ≡ true → Absent ≡ frame_by k room (frame_length_of (of_z w32 z))
no_length k room z f h = go z f (ap (λ (x : ℤ). lt_z x (pos 1)) (sym (to_z-of_z f)) ∙ h)
  where
    go : (y : ℤ) → SFits w32 y → lt_z y (pos 1) ≡ true → Absent ≡ frame_by k room (frame_length_of (of_z w32 y))
    go (pos n) f t = let l = ltb-true n 1 t in let e : of_z w32 (pos n) ≡ 0 = omega arith in ap (frame_by k room) (length-free (of_z w32 (pos n)) e)
    go (negsuc n) f t = let l : 2147483648 ≤ of_z w32 (negsuc n) = omega arith in ap (frame_by k room) (length-writing (of_z w32 (negsuc n)) l)

pub a-length : (z : ℤ) → SFits w32 z → lt_z (to_z w32 (of_z w32 z)) (pos 1) ≡ false → (0 < of_z w32 z) × (of_z w32 z < 2147483648)
a-length z f h = go z f (ap (λ (x : ℤ). lt_z x (pos 1)) (sym (to_z-of_z f)) ∙ h)
  where
    go : (y : ℤ) → SFits w32 y → lt_z y (pos 1) ≡ false → (0 < of_z w32 y) × (of_z w32 y < 2147483648)
    go (pos n) f t = let l = ltb-false n 1 t in (omega arith, omega arith)
    go (negsuc n) f t = absurd (let z : ◌≡◌ {A = ℕ} 0 1 = cc in omega arith)

-- a finished length, judged
module _ (k room n : ℕ) (l : (0 < n) × (n < 2147483648)) where
  judged : frame_by k room (frame_length_of n) ≡ cond (ltb n 32 || ltb room (align n)) (Unsound n) (cond (eqb k 0) (Padding n) (Data n))
  judged = let z : n ≡ 0 → ⊥ = λ e. omega (arith, l) in ap (frame_by k room) (sym (length-finished n z l.1))

  pub by-short : n < 32 → Unsound n ≡ frame_by k room (frame_length_of n)
  by-short h = sym (judged ∙ rw (lt-ltb n 32 h))

  pub by-long : 32 ≤ n → room < align n → Unsound n ≡ frame_by k room (frame_length_of n)
  by-long h m = sym (judged ∙ rw (le-ltb n 32 h, lt-ltb room (align n) m))

  pub by-padding : 32 ≤ n → align n ≤ room → k ≡ 0 → Padding n ≡ frame_by k room (frame_length_of n)
  by-padding h m t = sym (judged ∙ rw (le-ltb n 32 h, le-ltb room (align n) m, eq-eqb k 0 t))

  pub by-data : 32 ≤ n → align n ≤ room → (k ≡ 0 → ⊥) → Data n ≡ frame_by k room (frame_length_of n)
  by-data h m t = sym (judged ∙ rw (le-ltb n 32 h, le-ltb room (align n) m, ne_eqb k 0 t))

-- the frame at the beginning of s, by the length word and the type that were read there
pub frame_is : (s : List ℕ) (room k w : ℕ) (x : Frame) → x ≡ frame_by k room (frame_length_of w) → w ≡ u32 s → k ≡ u16 (drop 6 s) → x ≡ frame_at s room
unfolding frame_at
frame_is s room k w x e ew ek = e ∙ ap₂ (λ (t n : ℕ). frame_by t room (frame_length_of n)) ek ew
