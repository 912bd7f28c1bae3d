-- The call's promise, carried into the reply; signed arguments that were handed on are those given.
use borrow.Author.Rules.{rules}
use Rattle.capi.proofs.reading.logbuffer_header_fields.Statement.{statement}
use Rattle.capi.proofs.reading.logbuffer_header_fields.Tie as tie

returns : tie.Need-returns
returns c =
    let f = c.fields.ensures in rw (c.header_read.ensures, f, c.record_in.ensures) (search rules)

pub logbuffer_header_fields_spec : {M : Type 1} → statement M
logbuffer_header_fields_spec =
    tie.close (tie.spec (search rules) (search rules) (search rules) returns)
