-- The call's promise, carried into the reply; signed arguments that were handed on are those given.
use borrow.Author.Rules.{rules}
use Rattle.capi.proofs.tallies.logbuffer_tally.Statement.{statement}
use Rattle.capi.proofs.tallies.logbuffer_tally.Tie as tie

returns : tie.Need-returns
returns c =
    let f = c.tally.ensures in rw (c.tallied.ensures, f, c.record_in.ensures) (search rules)

pub logbuffer_tally_spec : {M : Type 1} → statement M
logbuffer_tally_spec =
    tie.close (tie.spec (search rules) (search rules) (search rules) returns)
