-- The header alone, its length negated.
use Rattle.std.proofs.Common.{ℕ, ◌+◌, ap, ◌∙◌, rules}
use Rattle.model.specs.Bytes.{splice}
use Rattle.model.specs.TermAppender.{header, claimed}
use Rattle.logbuffer.proofs.header.write_claim.Statement.{statement}
use Rattle.logbuffer.proofs.header.write_claim.Tie as tie

returns : tie.Need-returns
unfolding claimed
returns c = let s = c.args in
    c.write_header.ensures ∙ ap (λ (x : ℕ). splice s.log.now (s.base + s.v.offset) (header s.v s.v.offset x 192 1)) c.negated.ensures

pub write_claim_spec : {M : Type 1} → statement M
write_claim_spec =
    tie.close
    (tie.spec
    (search rules)
    (search rules)
    (search rules)
    (search rules)
    (search rules)
    returns)
