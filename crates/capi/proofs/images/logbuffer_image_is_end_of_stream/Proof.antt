-- The call's promise, carried into the reply; signed arguments that were handed on are those given.
use borrow.Author.Rules.{rules}
use Rattle.capi.proofs.images.logbuffer_image_is_end_of_stream.Statement.{statement}
use Rattle.capi.proofs.images.logbuffer_image_is_end_of_stream.Tie as tie

returns : tie.Need-returns
returns c =
    let f = c.is_end_of_stream.ensures in rw (c.end_of_stream.ensures, f, c.record_in.ensures, c.image_in-i.ensures) (search rules)

pub logbuffer_image_is_end_of_stream_spec : {M : Type 1} → statement M
logbuffer_image_is_end_of_stream_spec =
    tie.close (tie.spec (search rules) (search rules) (search rules) (search rules) returns)
