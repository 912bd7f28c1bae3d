-- Views: the rows of `view_of` at the place that the code reads, and that what is located lies in the log.
use Rattle.std.specs.Prelude.{Ok, Err}
use mathlib.Core.Path.{ap, ◌≡◌, refl, ap₂}
use mathlib.Core.Bool.{Bool, true, false, cond}
use mathlib.Core.List.{List}
use Prim.Native.Nat.{ℕ, ◌+◌, ◌*◌, ◌≤◌}
use native.Mathlib.Omega.{arith}
use borrow.Author.Tests.{leb-true}
use lib.Dec.{leb}
use lib.ListN.{length}
use lib.IntN.{ℤ}
use Rattle.model.specs.declared.LogRecord.{LogRecord}
use Rattle.model.specs.declared.Reading.{Reading}
use Rattle.model.specs.declared.Place.{Place}
use Rattle.model.specs.declared.Error.{Error}
use Rattle.model.specs.declared.Error.TheVariants.{IllegalArgument, IllegalRecord}
use Rattle.model.specs.Bytes.{word}
use Rattle.model.specs.declared.Span.{Span}
use Rattle.model.proofs.Choice.{ok-same}
use Rattle.model.specs.Parts.{span_at, located_by}
use Rattle.model.specs.LogBufferDescriptor.{reading, sound, place_of, first_rows}
use Rattle.model.specs.TermReader.{good_view, view_verdict, view_of}
use Rattle.model.proofs.Sound.{sound-true}
use Rattle.model.proofs.Both.{and-true}
use Rattle.model.proofs.PlaceLaws.{part_in}

-- a view of n bytes from an offset of a partition lies in the log
pub view_in : (v : Reading) (m k at n : ℕ) → good_view v k at n ≡ true → sound v m ≡ true → (k * v.term + at + n ≤ m) × (k ≤ 2)
unfolding good_view
view_in v m k at n g h =
    let s = sound-true v m h in
    let p = and-true (leb k 2) _ g in
    let q = and-true (leb (at + n) v.term) _ p.1 in
    let l : at + n ≤ v.term = leb-true _ _ q.0 in
    let j : k ≤ 2 = leb-true _ _ p.0 in
    let i : k * v.term + v.term ≤ m = part_in v m k s j in
    (omega arith, j)

-- rows 1 and 2 are all that a view has, at the place and with the length that its code reads
pub view-by : (r : LogRecord) (log : List ℕ) (partition offset size : ℤ) (p : Place) (n : ℕ) → p ≡ place_of r partition offset → n ≡ word size
    → located_by (p.partition * p.read.term + p.offset) (p.partition * p.read.term + p.offset + n)
    (first_rows (good_view p.read p.partition p.offset n) (sound p.read (length log)) (Ok tt)) ≡ view_of r log partition offset size
unfolding view_of view_verdict
view-by r log partition offset size p n e en =
    ap₂
    (λ (x : Place) (l : ℕ). located_by (x.partition * x.read.term + x.offset) (x.partition * x.read.term + x.offset + l) (first_rows (good_view x.read x.partition x.offset l) (sound x.read (length log)) (Ok tt)))
    e en

-- a span that a view answers lies in the log
pub span-in : (r : LogRecord) (log : List ℕ) (partition offset size : ℤ) (from to : ℕ) → view_of r log partition offset size ≡ span_at from to → (from ≤ to) × (to ≤ length log)
unfolding view_of view_verdict
span-in r log partition offset size from to e = go (good_view v k at n) (sound v (length log)) refl refl e
  where
    v : Reading
    v = reading r

    k : ℕ
    k = word partition

    at : ℕ
    at = word offset

    n : ℕ
    n = word size

    refused : {A : Type 0} (x : Error) → Err x ≡ span_at from to → A
    refused x q = absurd (let z : ◌≡◌ {A = ℕ} 0 1 = cc in omega arith)

    go : (g s : Bool) → good_view v k at n ≡ g → sound v (length log) ≡ s
        → located_by (k * v.term + at) (k * v.term + at + n) (cond g (cond s (Ok tt) (Err IllegalRecord)) (Err IllegalArgument)) ≡ span_at from to → (from ≤ to) × (to ≤ length log)
    go false s eg es q = refused IllegalArgument q
    go true false eg es q = refused IllegalRecord q
    go true true eg es q =
        let a : k * v.term + at ≡ from = ap (λ (x : Span). x.start) (ok-same q) in
        let b : k * v.term + at + n ≡ to = ap (λ (x : Span). x.end) (ok-same q) in
        omega (arith, (view_in v (length log) k at n eg es).0)
