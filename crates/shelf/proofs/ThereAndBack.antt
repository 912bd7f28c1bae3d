-- The round trip of the two calls, and that refusals leave the output as it was.
use Rattle.std.specs.Prelude.{Result, Ok, Err, ⊤}
use Rattle.shelf.specs.declared.ShelfError.{ShelfError}
use mathlib.Core.Path.{◌≡◌, refl, sym, ap, ◌∙◌}
use Prim.Native.Nat.{ℕ, ◌+◌, ◌*◌}
use mathlib.Core.Bool.{Bool, true, false}
use mathlib.Core.List.{List}
use native.Mathlib.Omega.{arith}
use borrow.Author.Tests.{le-leb, eq-eqb}
use lib.ListN.{length, drop, length-drop}
use lib.Seq.{length-take-le}
use Rattle.model.specs.declared.Reading.{Reading}
use Rattle.model.specs.Bytes.{word}
use Rattle.model.specs.LogBufferDescriptor.{reading, sound, sound_record}
use Rattle.model.proofs.Both.{and-true}
use Rattle.model.proofs.Sound.{sound-true}
use Rattle.shelf.specs.Shelf.{filled, shelf_of, accepted, term_of}
use Rattle.shelf.specs.Calls.{rows, output_by, good_shelve, good_unshelve, lent, shelve_of, shelve_bytes, unshelve_of, unshelve_bytes}
use Rattle.shelf.specs.Theorems.{ThereAndBack, OnlyShelves, Untouched}
use Rattle.shelf.proofs.RoundTrips.{term-back, shelf-back}
use Rattle.shelf.proofs.Calls.{lent_by, output-size, no_row, accepted-long}

-- ---- refusals

kept : (a : Result ⊤ ShelfError) (new out : List ℕ) → (a ≡ Ok tt → ⊥) → output_by a new out ≡ out
kept (Ok _) new out h = absurd (h refl)
kept (Err e) new out h = refl

pub untouched : Untouched
unfolding shelve_bytes unshelve_bytes
untouched rec log partition out shelf =
    (kept (shelve_of rec log partition (length out)) (shelf_of (lent rec log partition)) out, kept (unshelve_of rec shelf (length out)) (term_of (length out) shelf) out)

-- ---- there and back

-- done means that no row refuses
went : (good sound fit : Bool) → rows good sound fit ≡ Ok tt → (good ≡ true) × ((sound ≡ true) × (fit ≡ true))
went true true true h = (refl, (refl, refl))
went true true false h = absurd (let x : ◌≡◌ {A = ℕ} 0 1 = cc in omega arith)
went true false fit h = absurd (let x : ◌≡◌ {A = ℕ} 0 1 = cc in omega arith)
went false sound fit h = absurd (let x : ◌≡◌ {A = ℕ} 0 1 = cc in omega arith)

record-sound : (v : Reading) (n : ℕ) → sound v n ≡ true → sound_record v ≡ true
unfolding sound
record-sound v n h = (and-true _ _ h).0

-- row 1 of the way back passes too
back-good : (v : Reading) (n shelf out : ℕ) → sound v n ≡ true → shelf ≡ v.term + 4 → out ≡ v.term → good_unshelve v shelf out ≡ true
back-good v n shelf out h e q =
    let s = sound-true v n h in
    rw (le-leb shelf 2147483647 (omega (arith, s.term-high)), le-leb out 2147483647 (omega (arith, s.term-high)), eq-eqb out v.term q)

pub there_and_back : ThereAndBack
unfolding shelve_of shelve_bytes unshelve_of unshelve_bytes
there_and_back rec log partition out back h b =
    let v = reading rec in
    let p = word partition in
    let t = lent rec log partition in
    let w = went (good_shelve v p (length out)) (sound v (length log)) (filled t) h in
    let l = lent_by v p (length log) (length out) w.0 w.1.0 in
    let n : length t ≡ length back = length-take-le v.term (drop (p * v.term) log) (omega (arith, length-drop (p * v.term) log, l.inside)) ∙ sym b in
    let r = term-back t (omega (arith, l.high)) w.1.1 in
    let a : accepted (length back) (shelf_of t) ≡ true = ap (λ (x : ℕ). accepted x (shelf_of t)) (sym n) ∙ r.0 in
    let o : output_by (rows (good_shelve v p (length out)) (sound v (length log)) (filled t)) (shelf_of t) out ≡ shelf_of t =
    ap (λ (x : Result ⊤ ShelfError). output_by x (shelf_of t) out) h in
    let g = back-good v (length log) (length (shelf_of t)) (length back) w.1.0 (omega (arith, (accepted-long (length back) (shelf_of t) a).0)) b in
    let d = no_row (good_unshelve v (length (shelf_of t)) (length back)) (sound_record v) (accepted (length back) (shelf_of t)) g (record-sound v (length log) w.1.0) a in (
      ap (λ (s : List ℕ). rows (good_unshelve v (length s) (length back)) (sound_record v) (accepted (length back) s)) o ∙ d,
      ap (λ (s : List ℕ). output_by (rows (good_unshelve v (length s) (length back)) (sound_record v) (accepted (length back) s)) (term_of (length back) s) back) o
          ∙ ap (λ (x : Result ⊤ ShelfError). output_by x (term_of (length back) (shelf_of t)) back) d
          ∙ ap (λ (x : ℕ). term_of x (shelf_of t)) (sym n) ∙ r.1,
    )

pub only-shelves : OnlyShelves
unfolding unshelve_of unshelve_bytes
only-shelves rec shelf out bytes h =
    let v = reading rec in
    let w = went (good_unshelve v (length shelf) (length out)) (sound_record v) (accepted (length out) shelf) h in
    let e = ap (λ (x : Result ⊤ ShelfError). output_by x (term_of (length out) shelf) out) h in
    let r = shelf-back (length out) shelf bytes w.1.1 in
    (ap filled e ∙ r.0, (ap length e ∙ r.1.0 ∙ output-size v (length shelf) (length out) w.0, ap shelf_of e ∙ r.1.1))
