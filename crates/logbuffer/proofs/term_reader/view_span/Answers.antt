-- Rows 1 and 2 are judged at the place that is read; then the span is told.
use Rattle.std.specs.Prelude.{Result, Ok, Err, ⊤, ℤ, List}
use Rattle.model.specs.declared.Error.{Error}
use Rattle.std.proofs.Common.{◌≡◌, ℕ, ◌+◌, ◌*◌, ◌≤◌, length, sym, ap, ◌∙◌, arith, rules}
use Rattle.model.specs.declared.Place.{Place}
use Rattle.model.specs.declared.LogRecord.{LogRecord}
use Rattle.model.specs.Bytes.{word}
use Rattle.model.specs.Parts.{located_by}
use Rattle.model.specs.LogBufferDescriptor.{sound, place_of, first_rows}
use Rattle.model.specs.TermReader.{good_view, view_of}
use Rattle.model.proofs.Rows.{rows_pass}
use Rattle.model.proofs.ViewLaws.{view_in, view-by}
use Rattle.logbuffer.proofs.Signed.{word-by}
use Rattle.logbuffer.proofs.Passing.{rows-of}
use Rattle.logbuffer.proofs.term_reader.view_span.Goals as goal

inside : (p : Place) (n size : ℕ) → first_rows (good_view p.read p.partition p.offset size) (sound p.read n) (Ok tt) ≡ Ok tt → p.partition * p.read.term + p.offset + size ≤ n
inside p n size h =
    let g = rows_pass (good_view p.read p.partition p.offset size) (sound p.read n) h in (view_in p.read n p.partition p.offset size g.0 g.1).0

told : (r : LogRecord) (log : List ℕ) (partition offset wide : ℤ) (p : Place) (size : ℕ) (x : Result ⊤ Error) → p ≡ place_of r partition offset → size ≡ word wide
    → first_rows (good_view p.read p.partition p.offset size) (sound p.read (length log)) (Ok tt) ≡ x
    → located_by (p.partition * p.read.term + p.offset) (p.partition * p.read.term + p.offset + size) x ≡ view_of r log partition offset wide
told r log partition offset wide p size x ep es h =
    ap (located_by (p.partition * p.read.term + p.offset) (p.partition * p.read.term + p.offset + size)) (sym h) ∙ view-by r log partition offset wide p size ep es

pub returns-in_err-first_rows : goal.returns-in_err-first_rows
returns-in_err-first_rows c =
    let a = c.args in
    let p = c.place-p.result in
    let e : c.from_residual.result ≡ Err c.in_err-first_rows.field-0.0 = search rules in
    e
    ∙ told a.rec a.log.now a.partition a.offset a.length p c.word-size.result (Err c.in_err-first_rows.field-0.0) (c.place-p.ensures.0 ∙ search rules)
    (word-by a.length c.word-size.ensures.0 c.ranges.length) (rows-of p.read (length a.log.now) _ _ _ _ c.good_view.ensures c.first_rows.ensures c.in_err-first_rows.was)

pub overflow_mul-from : goal.overflow_mul-from
overflow_mul-from c =
    let p = c.place-p.result in
    let n = length c.args.log.now in
    let f = inside p n c.word-size.result (rows-of p.read n _ _ _ _ c.good_view.ensures c.first_rows.ensures c.in_ok-first_rows.was) in
    record { fits = omega (arith, f, c.well_formed) }

pub overflow_add-from : goal.overflow_add-from
overflow_add-from c =
    let p = c.place-p.result in
    let n = length c.args.log.now in
    let f = inside p n c.word-size.result (rows-of p.read n _ _ _ _ c.good_view.ensures c.first_rows.ensures c.in_ok-first_rows.was) in
    record { fits = omega (arith, f, c.well_formed) }

pub overflow_add-result : goal.overflow_add-result
overflow_add-result c =
    let p = c.place-p.result in
    let n = length c.args.log.now in
    let f = inside p n c.word-size.result (rows-of p.read n _ _ _ _ c.good_view.ensures c.first_rows.ensures c.in_ok-first_rows.was) in
    record { fits = omega (arith, f, c.well_formed) }

pub returns : goal.returns
returns c =
    let a = c.args in
    let p = c.place-p.result in
    told a.rec a.log.now a.partition a.offset a.length p c.word-size.result (Ok tt) (c.place-p.ensures.0 ∙ search rules) (word-by a.length c.word-size.ensures.0 c.ranges.length)
    (rows-of p.read (length a.log.now) _ _ _ _ c.good_view.ensures c.first_rows.ensures c.in_ok-first_rows.was)
