-- Rows 1 and 2 are judged at the place that is read; then the loop scans.
use Rattle.std.specs.Prelude.{Ok, Err}
use Rattle.std.proofs.Common.{◌≡◌, ℕ, ◌%◌, ◌≤◌, ◌&&◌, eqb, length, ◌∙◌, arith, w32, to_z, of_z, rules, eqb-true}
use Rattle.model.specs.declared.Place.{Place}
use Rattle.model.specs.LogBufferDescriptor.{sound, good_partition, good_offset, within_term, first_rows}
use Rattle.model.proofs.Both.{and-true}
use Rattle.model.proofs.PlaceLaws.{Placed, rows-placed, within}
use Rattle.model.proofs.ScanRows.{gap-refused, gap-goes}
use Rattle.logbuffer.proofs.Signed.{word-by}
use Rattle.logbuffer.proofs.Passing.{rows-of}
use Rattle.logbuffer.proofs.term_scan.scan_for_gap.Goals as goal

place : (p : Place) (n mark : ℕ)
    → first_rows (good_partition p.partition && (good_offset p.offset p.read && (eqb (mark % 32) 0 && within_term mark p.read))) (sound p.read n) (Ok tt) ≡ Ok tt
    → Placed p.read n p.partition p.offset × ((mark ≤ p.read.term) × (mark % 32 ≡ 0))
place p n mark h =
    let q = rows-placed p n (eqb (mark % 32) 0 && within_term mark p.read) h in
    let m = and-true (eqb (mark % 32) 0) (within_term mark p.read) q.1 in
    (q.0, (within mark p.read m.1, eqb-true _ _ m.0))

pub returns-in_err-first_rows : goal.returns-in_err-first_rows
returns-in_err-first_rows c =
    let a = c.args in
    let p = c.place-p.result in
    let e : c.from_residual.result ≡ Err c.in_err-first_rows.field-0.0 = search rules in
    e
    ∙ gap-refused a.rec a.log.now a.partition a.offset p (c.place-p.ensures.0 ∙ search rules) a.term_id a.high c.word-mark.result (word-by a.high c.word-mark.ensures.0 c.ranges.high)
    (rows-of p.read (length a.log.now) _ _ _ _ c.good_gap.ensures c.first_rows.ensures c.in_err-first_rows.was)

pub overflow_mul-p : goal.overflow_mul-p
overflow_mul-p c =
    let p = c.place-p.result in
    let n = length c.args.log.now in
    let f = place p n c.word-mark.result (rows-of p.read n _ _ _ _ c.good_gap.ensures c.first_rows.ensures c.in_ok-first_rows.was) in
    record { fits = omega (arith, f.0.inside, c.well_formed) }

pub gap_frames-requires : goal.gap_frames-requires
gap_frames-requires c =
    let p = c.place-p.result in
    let n = length c.args.log.now in
    let f = place p n c.word-mark.result (rows-of p.read n _ _ _ _ c.good_gap.ensures c.first_rows.ensures c.in_ok-first_rows.was) in
    (f.0.inside, (f.0.term-high, (f.1.0, (f.1.1, (f.0.at-32, f.0.below)))))

pub returns : goal.returns
returns c =
    let a = c.args in
    let p = c.place-p.result in
    c.gap_frames.ensures
    ∙ gap-goes a.rec a.log.now a.partition a.offset p (c.place-p.ensures.0 ∙ search rules) (to_z w32 (of_z w32 a.term_id)) a.high c.word-mark.result
    (word-by a.high c.word-mark.ensures.0 c.ranges.high) (rows-of p.read (length a.log.now) _ _ _ _ c.good_gap.ensures c.first_rows.ensures c.in_ok-first_rows.was)
    ∙ search rules
