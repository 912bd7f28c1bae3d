-- Where a position lies in a sound log: its partition, and its offset in the term.
use Rattle.std.specs.Prelude.{Ok, Err}
use mathlib.Core.Path.{◌≡◌, refl, sym, ◌∙◌}
use mathlib.Core.Bool.{Bool, true, false, cond}
use Prim.Native.Nat.{ℕ, ◌+◌, ◌*◌, ◌/◌, ◌%◌, ◌≤◌, ◌<◌}
use native.Mathlib.Omega.{arith}
use native.Mathlib.Nat.{mod-lt, mod-mod_of_dvd, dvd_of_mod-eq-zero}
use borrow.Author.Tests.{leb-true, le-leb, eq-eqb}
use lib.Dec.{leb}
use Rattle.model.specs.declared.Reading.{Reading}
use Rattle.model.specs.declared.Error.{Error}
use Rattle.model.specs.declared.Walk.{Walk}
use Rattle.model.specs.declared.FramesRead.TheVariants.{Walked as AllWalked, Refused as WalkRefused}
use Rattle.model.specs.LogBufferDescriptor.{sound, partition_of}
use Rattle.model.specs.TermReader.{Walked, walk_of, frames_by, good_walk, good_entries}
use Rattle.model.proofs.Sound.{sound-true, term-32}
use Rattle.model.proofs.PlaceLaws.{part_in}
use Rattle.model.proofs.ReaderLaws.{good-walk-by}
use Rattle.model.proofs.Both.{and-true, both_true}
use Rattle.model.proofs.Choice.{le_yes}
use Rattle.logbuffer.specs.Reads.{good_read_on}
use Rattle.logbuffer.proofs.Shifts.{partition-by}
use Rattle.image.specs.Images.{TermLength, shifted_in}

pub record At (v : Reading) (n p : ℕ) : Type 0 where
  pub some : 0 < v.term
  pub term-high : v.term ≤ 1073741824
  pub partition : p / v.term % 3 ≤ 2
  pub inside : p / v.term % 3 * v.term + v.term ≤ n
  pub at-32 : p % v.term % 32 ≡ 0
  pub below : p % v.term < v.term
  pub term-32 : v.term % 32 ≡ 0

pub at_place : (v : Reading) (n p : ℕ) → sound v n ≡ true → p % 32 ≡ 0 → At v n p
at_place v n p h a =
    let s = sound-true v n h in
    let z : 0 < v.term = omega (arith, s.term-low) in
    let k : p / v.term % 3 ≤ 2 = omega arith in
    let m : v.term % 32 ≡ 0 = term-32 v n s in
    record {
      some = z;
      term-high = s.term-high;
      partition = k;
      inside = part_in v n (p / v.term % 3) s k;
      at-32 = mod-mod_of_dvd 32 p (dvd_of_mod-eq-zero 32 m) ∙ a;
      below = mod-lt p z;
      term-32 = m;
    }

pub term-length : (v : Reading) (n : ℕ) → sound v n ≡ true → TermLength v.term
term-length v n h = let s = sound-true v n h in record { some = omega (arith, s.term-low); high = s.term-high; one_bit = s.one_bit }

-- the partition by the bits to shift, before the record is judged, is the one that a sound record has
pub shift_in : (v : Reading) (n p : ℕ) → sound v n ≡ true → shifted_in v.term p ≡ partition_of p v.term
shift_in v n p h =
    let s = sound-true v n h in le_yes v.term 4294967295 _ 0 (omega (arith, s.term-high)) ∙ partition-by v.term s.term-high s.one_bit p

-- the leaf library's own row 1 is met
pub walk-good : (v : Reading) (n p end limit slots : ℕ) → sound v n ≡ true → p % 32 ≡ 0 → end ≤ v.term → good_entries slots limit ≡ true
    → good_walk n (partition_of p v.term * v.term) v.term end (p % v.term) limit slots ≡ true
walk-good v n p end limit slots h a e g =
    let k = at_place v n p h a in
    let f = and-true (leb slots 2147483647) _ g in
    sym (good-walk-by n _ v.term end (p % v.term) limit slots k.inside k.term-high k.term-32 e k.at-32 (leb-true _ _ f.0)) ∙ f.1

pub read-good : (v : Reading) (n p limit slots : ℕ) → sound v n ≡ true → p % 32 ≡ 0 → good_entries slots limit ≡ true
    → good_read_on v n (partition_of p v.term) (p % v.term) limit slots ≡ true
read-good v n p limit slots h a g = let k = at_place v n p h a in both_true h (both_true (le-leb _ _ k.partition) (both_true (eq-eqb _ _ k.at-32) g))

-- what a walk's answer says of its first frame
pub walked-first : (b : Bool) (w : Walked) (u : Error) (x : Walk) → frames_by w (cond b (Err u) (Ok tt)) ≡ AllWalked x → (b ≡ false) × (walk_of w ≡ x)
walked-first true w u x h = absurd (let z : ◌≡◌ {A = ℕ} 0 1 = cc in omega arith)
walked-first false w u x h = (refl, cc)

pub refused-first : (b : Bool) (w : Walked) (u e : Error) → frames_by w (cond b (Err u) (Ok tt)) ≡ WalkRefused e → (b ≡ true) × (e ≡ u)
refused-first true w u e h = (refl, cc)
refused-first false w u e h = absurd (let z : ◌≡◌ {A = ℕ} 0 1 = cc in omega arith)
