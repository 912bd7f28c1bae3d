-- The call's promise, carried into the reply; signed arguments that were handed on are those given.
use borrow.Author.Rules.{rules}
use Rattle.capi.proofs.reading.logbuffer_frame_length.Statement.{statement}
use Rattle.capi.proofs.reading.logbuffer_frame_length.Tie as tie

returns : tie.Need-returns
returns c =
    let f = c.frame_length_at.ensures in rw (c.frame_length_read.ensures, f, c.record_in.ensures) (search rules)

pub logbuffer_frame_length_spec : {M : Type 1} → statement M
logbuffer_frame_length_spec =
    tie.close (tie.spec (search rules) (search rules) (search rules) returns)
