-- Rows 1 and 2 are judged at the place that is read; then the loop scans.
use Rattle.std.specs.Prelude.{Err}
use Rattle.std.proofs.Common.{◌≡◌, ℕ, ◌-◌, min, length, refl, ap, ◌∙◌, arith, rules}
use Rattle.model.specs.TermReader.{natural}
use Rattle.model.proofs.PlaceLaws.{passed-place}
use Rattle.model.proofs.ScanRows.{available-refused, available-goes}
use Rattle.logbuffer.proofs.Passing.{rows-of}
use Rattle.logbuffer.proofs.term_scan.scan_for_availability.Goals as goal

pub returns-in_err-first_rows : goal.returns-in_err-first_rows
returns-in_err-first_rows c =
    let a = c.args in
    let p = c.place-p.result in
    let e : c.from_residual.result ≡ Err c.in_err-first_rows.field-0.0 = search rules in
    e
    ∙ available-refused a.rec a.log.now a.partition a.offset p (c.place-p.ensures.0 ∙ search rules) a.maximum _ refl
    (rows-of p.read (length a.log.now) _ _ _ _ c.good_place.ensures c.first_rows.ensures c.in_err-first_rows.was)

pub overflow_mul-p : goal.overflow_mul-p
overflow_mul-p c =
    let p = c.place-p.result in
    let n = length c.args.log.now in
    let f = passed-place p n (rows-of p.read n _ _ _ _ c.good_place.ensures c.first_rows.ensures c.in_ok-first_rows.was) in
    record { fits = omega (arith, f.inside, c.well_formed) }

pub overflow_sub-term : goal.overflow_sub-term
overflow_sub-term c =
    let p = c.place-p.result in
    let n = length c.args.log.now in
    let f = passed-place p n (rows-of p.read n _ _ _ _ c.good_place.ensures c.first_rows.ensures c.in_ok-first_rows.was) in
    omega (arith, f.below)

pub available_frames-requires : goal.available_frames-requires
available_frames-requires c =
    let p = c.place-p.result in
    let n = length c.args.log.now in
    let f = passed-place p n (rows-of p.read n _ _ _ _ c.good_place.ensures c.first_rows.ensures c.in_ok-first_rows.was) in
    (f.inside, (f.term-high, (f.below, omega (arith, c.at_most.ensures))))

pub returns : goal.returns
returns c =
    let a = c.args in
    let p = c.place-p.result in
    let most : c.natural-most.result ≡ natural a.maximum = c.natural-most.ensures.0 ∙ search rules in
    c.available_frames.ensures
    ∙ available-goes a.rec a.log.now a.partition a.offset p (c.place-p.ensures.0 ∙ search rules) a.maximum c.at_most.result
    (c.at_most.ensures ∙ ap (λ (n : ℕ). min n (p.read.term - p.offset)) most)
    (rows-of p.read (length a.log.now) _ _ _ _ c.good_place.ensures c.first_rows.ensures c.in_ok-first_rows.was)
