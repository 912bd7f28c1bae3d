-- The call's promise, carried into the reply; signed arguments that were handed on are those given.
use borrow.Author.Rules.{rules}
use Rattle.capi.proofs.writing.logbuffer_available_window.Statement.{statement}
use Rattle.capi.proofs.writing.logbuffer_available_window.Tie as tie

returns : tie.Need-returns
returns c =
    let f = c.available_window.ensures in rw (c.positioned.ensures, f, c.record_in.ensures) (search rules)

pub logbuffer_available_window_spec : {M : Type 1} → statement M
logbuffer_available_window_spec =
    tie.close (tie.spec (search rules) (search rules) (search rules) returns)
