-- Rows 1 and 2 are judged at the place that is read; then the fields are read there.
use Rattle.std.specs.Prelude.{Result, Ok, Err, ⊤, ℕ, ℤ, List}
use Rattle.model.specs.declared.Error.{Error}
use Rattle.std.proofs.Common.{◌≡◌, ◌+◌, ◌*◌, ◌<◌, ◌&&◌, length, drop, sym, ap, ◌∙◌, subst, arith, rules}
use Rattle.model.specs.declared.Place.{Place}
use Rattle.model.specs.declared.LogRecord.{LogRecord}
use Rattle.model.specs.DataFrameHeader.{header_at}
use Rattle.model.specs.LogBufferDescriptor.{sound, good_partition, good_offset, active, place_of, first_rows}
use Rattle.model.specs.TermReader.{fields_of, header_by, header_call}
use Rattle.model.proofs.PlaceLaws.{passed-place}
use Rattle.model.proofs.Rows.{rows_pass}
use Rattle.model.proofs.Sound.{initial-small, sound-true}
use Rattle.model.proofs.HeaderRows.{header-by}
use Rattle.logbuffer.proofs.Passing.{rows-of}
use Rattle.logbuffer.proofs.header.fields.Goals as goal

told : (r : LogRecord) (log : List ℕ) (partition offset : ℤ) (p : Place) (x : Result ⊤ Error) → p ≡ place_of r partition offset
    → first_rows (good_partition p.partition && good_offset p.offset p.read) (sound p.read (length log)) (Ok tt) ≡ x
    → header_by (fields_of p.read p.offset (header_at (drop (p.partition * p.read.term + p.offset) log))) x ≡ header_call r log partition offset
told r log partition offset p x e h =
    ap (header_by (fields_of p.read p.offset (header_at (drop (p.partition * p.read.term + p.offset) log)))) (sym h) ∙ header-by r log partition offset p e

-- an id has 32 bits
initial-in : (r : LogRecord) (partition offset : ℤ) (p : Place) → p ≡ place_of r partition offset → p.read.initial < 4294967296
initial-in r partition offset p e = subst (λ (x : Place). x.read.initial < 4294967296) (sym e) (initial-small r (active r))

pub returns-in_err-first_rows : goal.returns-in_err-first_rows
returns-in_err-first_rows c =
    let p = c.place-p.result in
    let e : c.from_residual.result ≡ Err c.in_err-first_rows.field-0.0 = search rules in
    e
    ∙ told c.args.rec c.args.log.now c.args.partition c.args.offset p (Err c.in_err-first_rows.field-0.0) (c.place-p.ensures.0 ∙ search rules)
    (rows-of p.read (length c.args.log.now) _ _ _ _ c.good_place.ensures c.first_rows.ensures c.in_err-first_rows.was)

pub overflow_mul-index : goal.overflow_mul-index
overflow_mul-index c =
    let p = c.place-p.result in
    let n = length c.args.log.now in
    let f = passed-place p n (rows-of p.read n _ _ _ _ c.good_place.ensures c.first_rows.ensures c.in_ok-first_rows.was) in
    record { fits = omega (arith, f.inside, c.well_formed) }

pub overflow_add-index : goal.overflow_add-index
overflow_add-index c =
    let p = c.place-p.result in
    let n = length c.args.log.now in
    let f = passed-place p n (rows-of p.read n _ _ _ _ c.good_place.ensures c.first_rows.ensures c.in_ok-first_rows.was) in
    record { fits = omega (arith, f.inside, f.below, c.well_formed) }

pub fields_at-requires : goal.fields_at-requires
fields_at-requires c =
    let p = c.place-p.result in
    let n = length c.args.log.now in
    let h = rows-of p.read n (good_partition p.partition && good_offset p.offset p.read) _ _ (Ok tt) c.good_place.ensures c.first_rows.ensures c.in_ok-first_rows.was in
    let f = passed-place p n h in
    let g = rows_pass (good_partition p.partition && good_offset p.offset p.read) (sound p.read n) h in
    (omega (arith, f.inside, f.header), (initial-in c.args.rec c.args.partition c.args.offset p (c.place-p.ensures.0 ∙ search rules), (f.term-high, (c.place-p.ensures.1.1, (sound-true _ _ g.1).one_bit))))

pub returns : goal.returns
returns c =
    let p = c.place-p.result in
    ap Ok c.fields_at.ensures
    ∙ told c.args.rec c.args.log.now c.args.partition c.args.offset p (Ok tt) (c.place-p.ensures.0 ∙ search rules)
    (rows-of p.read (length c.args.log.now) _ _ _ _ c.good_place.ensures c.first_rows.ensures c.in_ok-first_rows.was)
