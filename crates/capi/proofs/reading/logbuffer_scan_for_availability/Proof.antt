-- The call's promise, carried into the reply; signed arguments that were handed on are those given.
use borrow.Author.Rules.{rules}
use Rattle.capi.proofs.reading.logbuffer_scan_for_availability.Statement.{statement}
use Rattle.capi.proofs.reading.logbuffer_scan_for_availability.Tie as tie

returns : tie.Need-returns
returns c =
    let f = c.scan_for_availability.ensures in rw (c.availability_scanned.ensures, f, c.record_in.ensures) (search rules)

pub logbuffer_scan_for_availability_spec : {M : Type 1} → statement M
logbuffer_scan_for_availability_spec =
    tie.close (tie.spec (search rules) (search rules) (search rules) returns)
