-- The call's promise, carried into the reply.
use mathlib.Core.Path.{ap, ◌∙◌}
use lib.ListN.{length}
use Rattle.model.specs.declared.LogRecord.{LogRecord}
use Rattle.metadata.specs.Calls.{answer_number, write_of, write_bytes}
use Rattle.capi.proofs.Promised.{promised, of-1}
use borrow.Author.Rules.{rules}
use Rattle.capi.proofs.sections.logbuffer_write_metadata.Statement.{statement}
use Rattle.capi.proofs.sections.logbuffer_write_metadata.Tie as tie

returns : tie.Need-returns
returns c =
    let a = c.args in
    let f = c.write_metadata.ensures in
    let r = c.record_in.ensures in (
      promised (c.answer_code.ensures ∙ ap answer_number (of-1 (λ (x : LogRecord). write_of x (length a.out.now)) f.0 r)) (search rules),
      of-1 (λ (x : LogRecord). write_bytes x a.out.now) f.1 r,
    )

pub logbuffer_write_metadata_spec : {M : Type 1} → statement M
logbuffer_write_metadata_spec =
    tie.close (tie.spec (search rules) (search rules) (search rules) (search rules) returns)
