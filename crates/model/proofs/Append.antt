-- The ways of an append: where each is taken and what it says; and the appenders' entry points by the numbers that a caller has.
use mathlib.Core.Path.{◌≡◌, refl, subst}
use mathlib.Core.Bool.{Bool, true, false, cond}
use Prim.Native.Nat.{ℕ, ◌+◌, ◌*◌, ◌≤◌, ◌<◌}
use native.Mathlib.Omega.{arith}
use native.Mathlib.Nat.{mul-le-mul_right}
use borrow.Author.Tests.{le-leb, lt-leb, leb-true, leb-false, eq-eqb, ne_eqb}
use mathlib.Core.List.{List}
use lib.Dec.{eqb, leb}
use lib.ListN.{length}
use Rattle.model.specs.declared.LogRecord.{LogRecord}
use Rattle.model.specs.declared.Reading.{Reading}
use Rattle.model.specs.declared.Error.TheVariants.{IllegalRecord, TailOverflow}
use Rattle.model.specs.declared.Course.{Course}
use Rattle.model.specs.declared.Course.TheVariants.{Refuse, Stray, Trip, Fit}
use Rattle.model.specs.declared.AppendReply.{AppendReply}
use Rattle.model.specs.declared.AppendClaimReply.{AppendClaimReply}
use Rattle.model.specs.FrameDescriptor.{space}
use Rattle.model.specs.LogBufferDescriptor.{reading_of, sound, Sound}
use Rattle.model.specs.TermAppender.{written, cut, need, claimed, course, bytes_by, reply_by, good_message, unfragmented_course, claim_appended_by}
use Rattle.model.proofs.Sound.{sound-true}
use Rattle.model.proofs.Both.{and-true}

-- ---- the ladder

module _ (v : Reading) (n m g : ℕ) where
  pub course-unsound : sound v n ≡ false → Refuse IllegalRecord ≡ course v n m g
  unfolding course
  course-unsound h = simp h

  pub course-over : sound v n ≡ true → 2147483647 < v.offset + m → Refuse TailOverflow ≡ course v n m g
  unfolding course
  course-over h k = simp (h, lt-leb _ _ k)

  pub course-stray : sound v n ≡ true → v.offset + m ≤ 2147483647 → (v.id ≡ g → ⊥) → Stray ≡ course v n m g
  unfolding course
  course-stray h k i = simp (h, le-leb _ _ k, ne_eqb _ _ i)

  pub course-trip : sound v n ≡ true → v.offset + m ≤ 2147483647 → v.id ≡ g → v.term < v.offset + m → Trip ≡ course v n m g
  unfolding course
  course-trip h k i l = simp (h, le-leb _ _ k, eq-eqb _ _ i, lt-leb _ _ l)

  pub course-fit : sound v n ≡ true → v.offset + m ≤ 2147483647 → v.id ≡ g → v.offset + m ≤ v.term → Fit ≡ course v n m g
  unfolding course
  course-fit h k i l = simp (h, le-leb _ _ k, eq-eqb _ _ i, le-leb _ _ l)

-- ---- what the way taken says

pub record Went (v : Reading) (n m : ℕ) : Type 0 where
  pub sound-so : Sound v n
  pub room : v.offset + m ≤ 2147483647

abbrev pub Goes : Reading → ℕ → ℕ → ℕ → Course → Type 0
Goes v n m g (Refuse e) = Unit {0}
Goes v n m g Stray = Went v n m
Goes v n m g Trip = Went v n m × (v.term < v.offset + m)
Goes v n m g Fit = Went v n m × (v.offset + m ≤ v.term)

module _ (v : Reading) (n m g : ℕ) where
  inv : (b1 b2 b3 b4 : Bool) → sound v n ≡ b1 → leb (v.offset + m) 2147483647 ≡ b2 → leb (v.offset + m) v.term ≡ b4 → (x : Course)
      → cond b1 (cond b2 (cond b3 (cond b4 Fit Trip) Stray) (Refuse TailOverflow)) (Refuse IllegalRecord) ≡ x → Goes v n m g x
  inv false b2 b3 b4 h1 h2 h4 x e = subst (Goes v n m g) e tt
  inv true false b3 b4 h1 h2 h4 x e = subst (Goes v n m g) e tt
  inv true true false b4 h1 h2 h4 x e = subst (Goes v n m g) e (record { sound-so = sound-true v n h1; room = leb-true _ _ h2 })
  inv true true true false h1 h2 h4 x e = subst (Goes v n m g) e (record { sound-so = sound-true v n h1; room = leb-true _ _ h2 }, leb-false _ _ h4)
  inv true true true true h1 h2 h4 x e = subst (Goes v n m g) e (record { sound-so = sound-true v n h1; room = leb-true _ _ h2 }, leb-true _ _ h4)

  pub course-says : (x : Course) → course v n m g ≡ x → Goes v n m g x
  unfolding course
  course-says x e = inv (sound v n) (leb (v.offset + m) 2147483647) (eqb v.id g) (leb (v.offset + m) v.term) refl refl refl x e

-- the tail that moves has room for itself, on every way that moves it
abbrev pub Room : Reading → ℕ → Course → Type 0
Room v m (Refuse e) = Unit {0}
Room v m Stray = v.offset + m ≤ 2147483647
Room v m Trip = v.offset + m ≤ 2147483647
Room v m Fit = v.offset + m ≤ 2147483647

pub course-room : (v : Reading) (n m g : ℕ) → Room v m (course v n m g)
course-room v n m g = go (course v n m g) (course-says v n m g _ refl)
  where
    go : (x : Course) → Goes v n m g x → Room v m x
    go (Refuse e) w = tt
    go Stray w = w.room
    go Trip w = w.0.room
    go Fit w = w.0.room

-- partition k lies in the log
pub base-in : (k t : ℕ) → k ≤ 2 → k * t + t ≤ 3 * t
base-in k t h = let l : k * t ≤ 2 * t = mul-le-mul_right t h in omega arith

-- ---- the arguments

pub message-true : (k m : ℕ) → good_message k m ≡ true → (k ≤ 2) × (m ≤ 2147483647)
message-true k m h = let b = and-true (leb k 2) _ h in (leb-true _ _ b.0, leb-true _ _ b.1)

module _ (r : LogRecord) (n k m g : ℕ) where
  pub unfragmented-good : k ≤ 2 → m ≤ 2147483647 → unfragmented_course r n k m g ≡ course (reading_of r k) n (space m) g
  unfolding unfragmented_course
  unfragmented-good hk hm = simp (le-leb _ _ hk, le-leb _ _ hm)

-- ---- both appenders of messages: the message cut by a payload limit p into partition k, its reserved value z, for term id g

abbrev pub append_reply : LogRecord → List ℕ → ℕ → ℕ → List ℕ → ℕ → AppendReply
append_reply r log k p m g = reply_by r (reading_of r k) k (need p (length m)) (course (reading_of r k) (length log) (need p (length m)) g)

abbrev pub append_bytes : LogRecord → List ℕ → ℕ → ℕ → List ℕ → ℕ → ℕ → List ℕ
append_bytes r log k p m z g =
    bytes_by (reading_of r k) k log (written (reading_of r k) log (k * (reading_of r k).term) (reading_of r k).offset (cut p z m))
    (course (reading_of r k) (length log) (need p (length m)) g)

-- ---- claims: n bytes into partition k, for term id g

abbrev pub claiming_reply : LogRecord → List ℕ → ℕ → ℕ → ℕ → AppendClaimReply
claiming_reply r log k n g = claim_appended_by r (reading_of r k) k n (course (reading_of r k) (length log) (space n) g)

abbrev pub claiming_bytes : LogRecord → List ℕ → ℕ → ℕ → ℕ → List ℕ
claiming_bytes r log k n g =
    bytes_by (reading_of r k) k log (claimed (reading_of r k) log (k * (reading_of r k).term) n) (course (reading_of r k) (length log) (space n) g)
