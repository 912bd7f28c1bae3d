-- The call's promise, carried into the reply; signed arguments that were handed on are those given.
use borrow.Author.Rules.{rules}
use Rattle.capi.proofs.descriptor.logbuffer_term_offset.Statement.{statement}
use Rattle.capi.proofs.descriptor.logbuffer_term_offset.Tie as tie

returns : tie.Need-returns
returns c = rw c.term_offset.ensures (search rules)

pub logbuffer_term_offset_spec : {M : Type 1} → statement M
logbuffer_term_offset_spec = tie.close (tie.spec (search rules) returns)
