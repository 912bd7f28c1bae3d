-- The record's numbers are read, and the way that the claim goes makes the reply.
use Rattle.std.proofs.Common.{◌≡◌, ◌<◌, length, sym, ap, ◌∙◌, subst, to_z-of_z, rules}
use Rattle.model.specs.declared.Reading.{Reading}
use Rattle.model.specs.Bytes.{word}
use Rattle.model.proofs.Sound.{id-small, offset-small}
use Rattle.logbuffer.proofs.Ways.{claim-by, claim-bits, claim-course}
use Rattle.logbuffer.proofs.term_appender.claim.Statement.{statement}
use Rattle.logbuffer.proofs.term_appender.claim.Tie as tie

claim-record-requires : tie.Need-claim_record-requires
claim-record-requires c κs =
    let e = sym c.read-v.ensures in (
      c.word-k.ensures.1,
      (subst (λ (v : Reading). v.id < 4294967296) e (id-small _ _), (subst (λ (v : Reading). v.offset < 4294967296) e (offset-small _ _), c.word-n.ensures.1)),
    )

returns : tie.Need-returns
returns c =
    let s = c in
    let a = s.args in
    let d = c.claim_way-way in
    let g = c.word in
    let v = c.read-v in
    let n = c.word-n in
    let k = c.word-k in
    let en : n.result ≡ word a.length = n.ensures.0 ∙ search rules in
    let ek : k.result ≡ word a.partition = k.ensures.0 ∙ search rules in
    let by = claim-by a.rec a.log.now d.new.log v.result k.result n.result g.result (word a.term_id) d.result c.claim_record.result c.claim_reply.result
    v.ensures (g.ensures.0 ∙ ap word (to_z-of_z s.ranges.term_id)) d.ensures.0 d.ensures.1 c.claim_reply.ensures
    (λ hk h. c.claim_record.ensures ∙ claim-bits v.result k.result n.result hk h) in
    let law = claim-course a.rec (length a.log.now) (word a.partition) (word a.length) (word a.term_id) in
    (cc (by.0, law), cc (by.1, law))

pub claim_spec : {M : Type 1} → statement M
claim_spec =
    tie.close
    (tie.spec
    (search rules)
    (search rules)
    (search rules)
    (search rules)
    (search rules)
    claim-record-requires
    (search rules)
    (search rules)
    returns)
