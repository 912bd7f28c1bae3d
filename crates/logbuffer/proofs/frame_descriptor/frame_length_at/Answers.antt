-- Rows 1 and 2 are judged at the place that is read; then the length is told there.
use Rattle.std.specs.Prelude.{Result, Ok, Err, ⊤, ℕ, ℤ, List}
use Rattle.model.specs.declared.Error.{Error}
use Rattle.std.proofs.Common.{◌≡◌, ◌+◌, ◌*◌, ◌&&◌, length, drop, sym, ap, ◌∙◌, arith, rules}
use Rattle.model.specs.declared.Place.{Place}
use Rattle.model.specs.declared.LogRecord.{LogRecord}
use Rattle.model.specs.FrameDescriptor.{length_at}
use Rattle.model.specs.LogBufferDescriptor.{sound, good_partition, good_offset, place_of, first_rows}
use Rattle.model.specs.TermReader.{length_by, length_call}
use Rattle.model.proofs.PlaceLaws.{passed-place}
use Rattle.model.proofs.HeaderRows.{length-by}
use Rattle.logbuffer.proofs.Passing.{rows-of}
use Rattle.logbuffer.proofs.frame_descriptor.frame_length_at.Goals as goal

told : (r : LogRecord) (log : List ℕ) (partition offset : ℤ) (p : Place) (x : Result ⊤ Error) → p ≡ place_of r partition offset
    → first_rows (good_partition p.partition && good_offset p.offset p.read) (sound p.read (length log)) (Ok tt) ≡ x
    → length_by (length_at (drop (p.partition * p.read.term + p.offset) log)) x ≡ length_call r log partition offset
told r log partition offset p x e h = ap (length_by (length_at (drop (p.partition * p.read.term + p.offset) log))) (sym h) ∙ length-by r log partition offset p e

pub returns-in_err-first_rows : goal.returns-in_err-first_rows
returns-in_err-first_rows c =
    let p = c.place-p.result in
    let e : c.from_residual.result ≡ Err c.in_err-first_rows.field-0.0 = search rules in
    e
    ∙ told c.args.rec c.args.log.now c.args.partition c.args.offset p (Err c.in_err-first_rows.field-0.0) (c.place-p.ensures.0 ∙ search rules)
    (rows-of p.read (length c.args.log.now) _ _ _ _ c.good_place.ensures c.first_rows.ensures c.in_err-first_rows.was)

pub overflow_mul-p : goal.overflow_mul-p
overflow_mul-p c =
    let p = c.place-p.result in
    let n = length c.args.log.now in
    let f = passed-place p n (rows-of p.read n _ _ _ _ c.good_place.ensures c.first_rows.ensures c.in_ok-first_rows.was) in
    record { fits = omega (arith, f.inside, c.well_formed) }

pub overflow_add-p : goal.overflow_add-p
overflow_add-p c =
    let p = c.place-p.result in
    let n = length c.args.log.now in
    let f = passed-place p n (rows-of p.read n _ _ _ _ c.good_place.ensures c.first_rows.ensures c.in_ok-first_rows.was) in
    record { fits = omega (arith, f.inside, f.below, c.well_formed) }

pub returns : goal.returns
returns c =
    let p = c.place-p.result in
    ap Ok c.length_at.ensures
    ∙ told c.args.rec c.args.log.now c.args.partition c.args.offset p (Ok tt) (c.place-p.ensures.0 ∙ search rules)
    (rows-of p.read (length c.args.log.now) _ _ _ _ c.good_place.ensures c.first_rows.ensures c.in_ok-first_rows.was)
