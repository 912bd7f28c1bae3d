-- The call's promise, carried into the reply; signed arguments that were handed on are those given.
use Rattle.capi.proofs.Promised.{promised}
use borrow.Author.Rules.{rules}
use Rattle.capi.proofs.descriptor.logbuffer_term_id.Statement.{statement}
use Rattle.capi.proofs.descriptor.logbuffer_term_id.Tie as tie

returns : tie.Need-returns
returns c = search (promised c.term_id.ensures, rules)

pub logbuffer_term_id_spec : {M : Type 1} → statement M
logbuffer_term_id_spec = tie.close (tie.spec (search rules) returns)
