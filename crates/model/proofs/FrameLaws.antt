-- What a sound finished frame is: a header at least, and inside the term.
use mathlib.Core.Path.{◌≡◌, refl, sym, ap, ◌∙◌}
use Prim.Native.Nat.{ℕ, ◌+◌, ◌-◌, ◌≤◌, ◌<◌}
use mathlib.Core.Bool.{Bool, true, false, cond, ◌||◌}
use mathlib.Core.List.{List}
use native.Mathlib.Omega.{arith}
use borrow.Author.Tests.{ltb-true, ltb-false, lt-ltb, le-ltb, eq-eqb, ne_eqb}
use lib.Dec.{eqb, ltb}
use lib.ListN.{drop}
use Rattle.model.specs.declared.Error.TheVariants.{FrameTooShort, FramePastTerm}
use Rattle.model.specs.declared.FrameLength.{FrameLength}
use Rattle.model.specs.declared.FrameLength.TheVariants.{Free, Writing, Finished}
use Rattle.model.specs.declared.Frame.{Frame}
use Rattle.model.specs.declared.Frame.TheVariants.{Absent, Unsound, Padding, Data}
use Rattle.model.specs.Bytes.{u16, u32}
use Rattle.model.specs.FrameDescriptor.{align, frame_length_of, is_finished, frame_by, frame_at, is_unsound, unsound_frame, unsound_frame_at}

pub record Lies (n room : ℕ) : Type 0 where
  pub header : 32 ≤ n
  pub inside : align n ≤ room
  pub small : n < 2147483648

-- a padding or a data frame, and its length
abbrev pub is_frame : Frame → Bool
is_frame Absent = false
is_frame (Unsound n) = false
is_frame (Padding n) = true
is_frame (Data n) = true

abbrev pub length_of : Frame → ℕ
length_of Absent = 0
length_of (Unsound n) = 0
length_of (Padding n) = n
length_of (Data n) = n

clash : {A : Type 0} (y x : Frame) → is_frame y ≡ false → y ≡ x → is_frame x ≡ true → A
clash y x n e h = let t : false ≡ true = sym n ∙ ap is_frame e ∙ h in absurd (let z : ◌≡◌ {A = ℕ} 0 1 = cc in omega arith)

finished : (b1 b2 b3 : Bool) (w room : ℕ) (x : Frame) → w < 2147483648 → ltb w 32 ≡ b1 → ltb room (align w) ≡ b2 → cond (b1 || b2) (Unsound w) (cond b3 (Padding w) (Data w)) ≡ x
    → is_frame x ≡ true → Lies (length_of x) room
finished true b2 b3 w room x l e1 e2 e h = clash (Unsound w) x refl e h
finished false true b3 w room x l e1 e2 e h = clash (Unsound w) x refl e h
finished false false true w room x l e1 e2 e h =
    let q : w ≡ length_of x = ap length_of e in
    record { header = omega (arith, ltb-false w 32 e1); inside = rw q at (ltb-false room (align w) e2); small = omega arith }
finished false false false w room x l e1 e2 e h =
    let q : w ≡ length_of x = ap length_of e in
    record { header = omega (arith, ltb-false w 32 e1); inside = rw q at (ltb-false room (align w) e2); small = omega arith }

by_sign : (b1 b2 : Bool) (t room w : ℕ) (x : Frame) → ltb w 2147483648 ≡ b2 → frame_by t room (cond b1 Free (cond b2 (Finished w) (Writing (4294967296 - w)))) ≡ x → is_frame x ≡ true
    → Lies (length_of x) room
by_sign true b2 t room w x e2 e h = clash Absent x refl e h
by_sign false false t room w x e2 e h = clash Absent x refl e h
by_sign false true t room w x e2 e h = finished (ltb w 32) (ltb room (align w)) (eqb t 0) w room x (ltb-true w 2147483648 e2) refl refl e h

pub lies : (s : List ℕ) (room : ℕ) (x : Frame) → frame_at s room ≡ x → is_frame x ≡ true → Lies (length_of x) room
unfolding frame_at frame_length_of
lies s room x e h = by_sign (eqb (u32 s) 0) (ltb (u32 s) 2147483648) (u16 (drop 6 s)) room (u32 s) x refl e h

-- ---- an unsound frame shows its length word, so that its refusal is that of its place

abbrev unsound_of : Frame → ℕ
unsound_of Absent = 0
unsound_of (Unsound n) = n
unsound_of (Padding n) = 0
unsound_of (Data n) = 0

unsound-word : (s : List ℕ) (room m : ℕ) → frame_at s room ≡ Unsound m → m ≡ u32 s
unfolding frame_at frame_length_of
unsound-word s room m e = go (eqb (u32 s) 0) (ltb (u32 s) 2147483648) e
  where
    never : (x : Frame) → is_unsound x ≡ false → x ≡ Unsound m → m ≡ u32 s
    never x f q = let t : false ≡ true = sym f ∙ ap is_unsound q in absurd (let z : ◌≡◌ {A = ℕ} 0 1 = cc in omega arith)

    told : (b c : Bool) → cond b (Unsound (u32 s)) (cond c (Padding (u32 s)) (Data (u32 s))) ≡ Unsound m → m ≡ u32 s
    told true c q = sym (ap unsound_of q)
    told false true q = never (Padding (u32 s)) refl q
    told false false q = never (Data (u32 s)) refl q

    go : (b1 b2 : Bool) → frame_by (u16 (drop 6 s)) room (cond b1 Free (cond b2 (Finished (u32 s)) (Writing (4294967296 - u32 s)))) ≡ Unsound m → m ≡ u32 s
    go true b2 q = never Absent refl q
    go false false q = never Absent refl q
    go false true q = told (ltb (u32 s) 32 || ltb room (align (u32 s))) (eqb (u16 (drop 6 s)) 0) q

pub unsound-refusal : (log : List ℕ) (base term at m : ℕ) → frame_at (drop (base + at) log) (term - at) ≡ Unsound m → unsound_frame m at ≡ unsound_frame_at log base at
unsound-refusal log base term at m e = ap (λ (n : ℕ). unsound_frame n at) (unsound-word (drop (base + at) log) (term - at) m e)

pub refusal-short : (n place : ℕ) → n < 32 → FrameTooShort place ≡ unsound_frame n place
unfolding unsound_frame
refusal-short n place h = rw (lt-ltb n 32 h)

pub refusal-long : (n place : ℕ) → 32 ≤ n → FramePastTerm place ≡ unsound_frame n place
unfolding unsound_frame
refusal-long n place h = rw (le-ltb n 32 h)

-- ---- the length word, by cases, and back

pub length-free : (w : ℕ) → w ≡ 0 → Free ≡ frame_length_of w
unfolding frame_length_of
length-free w h = rw (eq-eqb w 0 h)

pub length-writing : (w : ℕ) → 2147483648 ≤ w → Writing (4294967296 - w) ≡ frame_length_of w
unfolding frame_length_of
length-writing w h = let n : w ≡ 0 → ⊥ = λ e. omega arith in rw (ne_eqb w 0 n, le-ltb w 2147483648 h)

pub length-finished : (w : ℕ) → (w ≡ 0 → ⊥) → w < 2147483648 → Finished w ≡ frame_length_of w
unfolding frame_length_of
length-finished w n h = rw (ne_eqb w 0 n, lt-ltb w 2147483648 h)

abbrev pub is_free : FrameLength → Bool
is_free Free = true
is_free (Writing n) = false
is_free (Finished n) = false

-- a place is free where its word is 0
pub free-word : (w : ℕ) → is_free (frame_length_of w) ≡ eqb w 0
unfolding frame_length_of
free-word w = go (eqb w 0) (ltb w 2147483648)
  where
    go : (b1 b2 : Bool) → is_free (cond b1 Free (cond b2 (Finished w) (Writing (4294967296 - w)))) ≡ b1
    go true b2 = refl
    go false true = refl
    go false false = refl

-- a finished length is the word, and is positive
abbrev finished_length : FrameLength → ℕ
finished_length Free = 0
finished_length (Writing n) = 0
finished_length (Finished n) = n

pub finished-word : (w n : ℕ) → frame_length_of w ≡ Finished n → (n ≡ w) × (n < 2147483648)
unfolding frame_length_of
finished-word w n e = go (eqb w 0) (ltb w 2147483648) refl e
  where
    never : {A : Type 0} (x : FrameLength) → is_finished x ≡ false → x ≡ Finished n → A
    never x f q = let t : false ≡ true = sym f ∙ ap is_finished q in absurd (let z : ◌≡◌ {A = ℕ} 0 1 = cc in omega arith)

    go : (b1 b2 : Bool) → ltb w 2147483648 ≡ b2 → cond b1 Free (cond b2 (Finished w) (Writing (4294967296 - w))) ≡ Finished n → (n ≡ w) × (n < 2147483648)
    go true b2 e2 q = never Free refl q
    go false false e2 q = never (Writing (4294967296 - w)) refl q
    go false true e2 q = let k : w ≡ n = ap finished_length q in (sym k, omega (arith, ltb-true w 2147483648 e2))
