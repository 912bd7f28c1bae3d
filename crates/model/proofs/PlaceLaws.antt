-- The place of a frame in a partition of a sound log: what rows 1 and 2 say of it together.
use Rattle.std.specs.Prelude.{Ok}
use mathlib.Core.Path.{◌≡◌, ap₂}
use mathlib.Core.Bool.{Bool, true, ◌&&◌}
use Prim.Native.Nat.{ℕ, ◌+◌, ◌*◌, ◌%◌, ◌≤◌, ◌<◌}
use native.Mathlib.Omega.{arith}
use borrow.Author.Tests.{leb-true, eqb-true}
use lib.Dec.{eqb, leb}
use Rattle.model.specs.declared.Reading.{Reading}
use Rattle.model.specs.declared.Place.{Place}
use Rattle.model.specs.LogBufferDescriptor.{first_rows, sound, Sound, good_partition, good_offset, within_term}
use Rattle.model.specs.TermReader.{good_start}
use Rattle.model.proofs.Sound.{sound-true, term-32}
use Rattle.model.proofs.Append.{base-in}
use Rattle.model.proofs.Both.{and-true}
use Rattle.model.proofs.Rows.{rows_pass}

pub record Placed (v : Reading) (n k at : ℕ) : Type 0 where
  pub partition : k ≤ 2
  pub inside : k * v.term + v.term ≤ n
  pub at-32 : at % 32 ≡ 0
  pub below : at < v.term
  pub header : at + 32 ≤ v.term
  pub term-high : v.term ≤ 1073741824
  pub term-32 : v.term % 32 ≡ 0

-- a partition of a sound log lies in it
pub part_in : (v : Reading) (n k : ℕ) → Sound v n → k ≤ 2 → k * v.term + v.term ≤ n
part_in v n k s h = omega (arith, s.three, base-in k v.term h)

pub and-and : (a b c : Bool) → (a && (b && c)) ≡ true → ((a && b) ≡ true) × (c ≡ true)
and-and a b c h = let p = and-true a (b && c) h in let q = and-true b c p.1 in (ap₂ (λ (x y : Bool). x && y) p.0 q.0, q.1)

pub placed : (v : Reading) (n k at : ℕ) → (good_partition k && good_offset at v) ≡ true → sound v n ≡ true → Placed v n k at
placed v n k at g h =
    let s = sound-true v n h in
    let p = and-true (leb k 2) _ g in
    let q = and-true (eqb (at % 32) 0) _ p.1 in
    let t = and-true (leb (at + 1) v.term) _ q.1 in
    let a : at % 32 ≡ 0 = eqb-true _ _ q.0 in
    let b : at + 1 ≤ v.term = leb-true _ _ t.0 in
    let m : v.term % 32 ≡ 0 = term-32 v n s in
    record {
      partition = leb-true _ _ p.0;
      inside = part_in v n k s (leb-true _ _ p.0);
      at-32 = a;
      below = omega arith;
      header = omega arith;
      term-high = s.term-high;
      term-32 = m;
    }

-- where a read may start: the place of a frame, or the term's end
pub record Started (v : Reading) (n k at : ℕ) : Type 0 where
  pub inside : k * v.term + v.term ≤ n
  pub at-32 : at % 32 ≡ 0
  pub within : at ≤ v.term
  pub term-high : v.term ≤ 1073741824
  pub term-32 : v.term % 32 ≡ 0

pub started : (v : Reading) (n k at : ℕ) → (good_partition k && good_start at v) ≡ true → sound v n ≡ true → Started v n k at
started v n k at g h =
    let s = sound-true v n h in
    let p = and-true (leb k 2) _ g in
    let q = and-true (eqb (at % 32) 0) _ p.1 in
    record {
      inside = part_in v n k s (leb-true _ _ p.0);
      at-32 = eqb-true _ _ q.0;
      within = leb-true _ _ (and-true (leb at v.term) _ q.1).0;
      term-high = s.term-high;
      term-32 = term-32 v n s;
    }

-- the place of a frame by the rows' verdict, and with what else row 1 asks
pub passed-place : (p : Place) (n : ℕ) → first_rows (good_partition p.partition && good_offset p.offset p.read) (sound p.read n) (Ok tt) ≡ Ok tt
    → Placed p.read n p.partition p.offset
passed-place p n h =
    let g = rows_pass (good_partition p.partition && good_offset p.offset p.read) (sound p.read n) h in placed p.read n p.partition p.offset g.0 g.1

pub rows-placed : (p : Place) (n : ℕ) (more : Bool)
    → first_rows (good_partition p.partition && (good_offset p.offset p.read && more)) (sound p.read n) (Ok tt) ≡ Ok tt
    → Placed p.read n p.partition p.offset × (more ≡ true)
rows-placed p n more h =
    let g = rows_pass (good_partition p.partition && (good_offset p.offset p.read && more)) (sound p.read n) h in
    let s = and-and (good_partition p.partition) (good_offset p.offset p.read) more g.0 in
    (placed p.read n p.partition p.offset s.0 g.1, s.1)

pub within : (n : ℕ) (v : Reading) → within_term n v ≡ true → n ≤ v.term
within n v h = leb-true n v.term (and-true (leb n v.term) _ h).0
