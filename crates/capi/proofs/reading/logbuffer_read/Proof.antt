-- The call's promise, carried into the reply; signed arguments that were handed on are those given.
use mathlib.Core.Path.{ap, ◌∙◌}
use lib.IntN.{ℤ}
use mir.Facts.{to_z-of_z}
use Rattle.model.specs.declared.LogRecord.{LogRecord}
use Rattle.model.specs.TermReader.{read_of, read_entries}
use Rattle.capi.specs.Replies.{read_reply}
use Rattle.capi.proofs.Promised.{of-4}
use borrow.Author.Rules.{rules}
use Rattle.capi.proofs.reading.logbuffer_read.Statement.{statement}
use Rattle.capi.proofs.reading.logbuffer_read.Tie as tie

returns : tie.Need-returns
returns c =
    let s = c in
    let a = s.args in
    let f = c.read.ensures in
    let q0 = of-4 (λ (r : LogRecord) (x : ℤ) (y : ℤ) (z : ℤ). read_of r a.log.now x y z a.entries.now) f.0 c.record_in.ensures (to_z-of_z s.ranges.partition) (to_z-of_z s.ranges.offset) (to_z-of_z s.ranges.fragment_limit) in
    let q1 = of-4 (λ (r : LogRecord) (x : ℤ) (y : ℤ) (z : ℤ). read_entries r a.log.now x y z a.entries.now) f.1 c.record_in.ensures (to_z-of_z s.ranges.partition) (to_z-of_z s.ranges.offset) (to_z-of_z s.ranges.fragment_limit) in
    (c.term_read.ensures ∙ ap read_reply q0, q1)

pub logbuffer_read_spec : {M : Type 1} → statement M
logbuffer_read_spec =
    tie.close (tie.spec (search rules) (search rules) (search rules) (search rules) returns)
