-- The call's promise, carried into the reply; signed arguments that were handed on are those given.
use Rattle.capi.proofs.Promised.{promised}
use borrow.Author.Rules.{rules}
use Rattle.capi.proofs.shelves.logbuffer_shelve.Statement.{statement}
use Rattle.capi.proofs.shelves.logbuffer_shelve.Tie as tie

returns : tie.Need-returns
returns c =
    let f = c.shelve.ensures in rw (promised c.shelved_code.ensures (search rules), f.0, f.1, c.record_in.ensures) (search rules)

pub logbuffer_shelve_spec : {M : Type 1} → statement M
logbuffer_shelve_spec =
    tie.close (tie.spec (search rules) (search rules) (search rules) (search rules) returns)
