-- Rows 1 and 2 are judged at the place that is read; then the loop scans.
use Rattle.std.specs.Prelude.{Ok, Err}
use Rattle.std.proofs.Common.{◌≡◌, ℕ, ◌≤◌, ◌&&◌, length, ◌∙◌, arith, rules}
use Rattle.model.specs.declared.Place.{Place}
use Rattle.model.specs.LogBufferDescriptor.{sound, good_partition, good_offset, within_term, first_rows}
use Rattle.model.proofs.PlaceLaws.{Placed, rows-placed, within}
use Rattle.model.proofs.ScanRows.{scan-refused, scan-goes}
use Rattle.logbuffer.proofs.Passing.{rows-of}
use Rattle.logbuffer.proofs.term_scan.scan.Goals as goal

place : (p : Place) (n most : ℕ) → first_rows (good_partition p.partition && (good_offset p.offset p.read && within_term most p.read)) (sound p.read n) (Ok tt) ≡ Ok tt
    → Placed p.read n p.partition p.offset × (most ≤ p.read.term)
place p n most h = let q = rows-placed p n (within_term most p.read) h in (q.0, within most p.read q.1)

pub returns-in_err-first_rows : goal.returns-in_err-first_rows
returns-in_err-first_rows c =
    let a = c.args in
    let p = c.place-p.result in
    let e : c.from_residual.result ≡ Err c.in_err-first_rows.field-0.0 = search rules in
    e
    ∙ scan-refused a.rec a.log.now a.partition a.offset p (c.place-p.ensures.0 ∙ search rules) a.limit c.natural-most.result (c.natural-most.ensures.0 ∙ search rules)
    (rows-of p.read (length a.log.now) _ _ _ _ c.good_scan.ensures c.first_rows.ensures c.in_err-first_rows.was)

pub overflow_mul-p : goal.overflow_mul-p
overflow_mul-p c =
    let p = c.place-p.result in
    let n = length c.args.log.now in
    let f = place p n c.natural-most.result (rows-of p.read n _ _ _ _ c.good_scan.ensures c.first_rows.ensures c.in_ok-first_rows.was) in
    record { fits = omega (arith, f.0.inside, c.well_formed) }

pub scan_frames-requires : goal.scan_frames-requires
scan_frames-requires c =
    let p = c.place-p.result in
    let n = length c.args.log.now in
    let f = place p n c.natural-most.result (rows-of p.read n _ _ _ _ c.good_scan.ensures c.first_rows.ensures c.in_ok-first_rows.was) in
    (f.0.inside, (f.0.term-high, (f.0.below, f.1)))

pub returns : goal.returns
returns c =
    let a = c.args in
    let p = c.place-p.result in
    c.scan_frames.ensures
    ∙ scan-goes a.rec a.log.now a.partition a.offset p (c.place-p.ensures.0 ∙ search rules) a.limit c.natural-most.result (c.natural-most.ensures.0 ∙ search rules)
    (rows-of p.read (length a.log.now) _ _ _ _ c.good_scan.ensures c.first_rows.ensures c.in_ok-first_rows.was)
