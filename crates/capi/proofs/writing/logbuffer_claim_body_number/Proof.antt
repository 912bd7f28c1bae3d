-- The call's promise, carried into the reply; signed arguments that were handed on are those given.
use Rattle.model.specs.declared.LogRecord.{LogRecord}
use Rattle.model.specs.Parts.{located_number}
use Rattle.model.specs.BufferClaim.{locate_of}
use Rattle.capi.proofs.Promised.{promised, of-1}
use borrow.Author.Rules.{rules}
use Rattle.capi.proofs.writing.logbuffer_claim_body_number.Statement.{statement}
use Rattle.capi.proofs.writing.logbuffer_claim_body_number.Tie as tie

returns : tie.Need-returns
returns c =
    let s = c in
    let a = s.args in
    let f = c.body_number.ensures in
    let q0 = of-1 (λ (r : LogRecord). located_number (locate_of r a.log.now a.claim)) (f) c.record_in.ensures in
    promised q0 (search rules)

pub logbuffer_claim_body_number_spec : {M : Type 1} → statement M
logbuffer_claim_body_number_spec =
    tie.close (tie.spec (search rules) (search rules) returns)
