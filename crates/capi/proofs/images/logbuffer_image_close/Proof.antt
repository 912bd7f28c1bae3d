-- The call's promise, carried into the reply and the words; signed arguments that were handed on are those given.
use Rattle.capi.proofs.Promised.{promised}
use borrow.Author.Rules.{rules}
use Rattle.capi.proofs.images.logbuffer_image_close.Statement.{statement}
use Rattle.capi.proofs.images.logbuffer_image_close.Tie as tie

returns : tie.Need-returns
returns c =
    let f = c.close-o.ensures in rw (promised c.outcome_code.ensures (search rules), c.shut_out.ensures, f, c.record_in.ensures, c.image_in-i.ensures) (search rules)

pub logbuffer_image_close_spec : {M : Type 1} → statement M
logbuffer_image_close_spec =
    tie.close (tie.spec (search rules) (search rules) (search rules) (search rules) (search rules) returns)
