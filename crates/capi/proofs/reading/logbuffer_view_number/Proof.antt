-- The call's promise, carried into the reply; signed arguments that were handed on are those given.
use lib.IntN.{ℤ}
use mir.Facts.{to_z-of_z}
use Rattle.model.specs.declared.LogRecord.{LogRecord}
use Rattle.model.specs.Parts.{located_number}
use Rattle.model.specs.TermReader.{view_of}
use Rattle.capi.proofs.Promised.{promised, of-4}
use borrow.Author.Rules.{rules}
use Rattle.capi.proofs.reading.logbuffer_view_number.Statement.{statement}
use Rattle.capi.proofs.reading.logbuffer_view_number.Tie as tie

returns : tie.Need-returns
returns c =
    let s = c in
    let a = s.args in
    let f = c.view_number.ensures in
    let q0 = of-4 (λ (r : LogRecord) (x : ℤ) (y : ℤ) (z : ℤ). located_number (view_of r a.log.now x y z)) (f) c.record_in.ensures (to_z-of_z s.ranges.partition) (to_z-of_z s.ranges.offset) (to_z-of_z s.ranges.length) in
    promised q0 (search rules)

pub logbuffer_view_number_spec : {M : Type 1} → statement M
logbuffer_view_number_spec =
    tie.close (tie.spec (search rules) (search rules) returns)
