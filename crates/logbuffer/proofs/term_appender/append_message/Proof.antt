-- The record's numbers are read, and the way that the append goes makes the reply.
use Rattle.std.proofs.Common.{ap, ◌∙◌, to_z-of_z, rules}
use Rattle.model.specs.Bytes.{word, long}
use Rattle.logbuffer.proofs.Ways.{message-by}
use Rattle.logbuffer.proofs.term_appender.append_message.Statement.{statement}
use Rattle.logbuffer.proofs.term_appender.append_message.Tie as tie

returns : tie.Need-returns
returns c =
    let s = c in
    let a = s.args in
    let d = c.append_way-way in
    let g = c.word-given in
    let v = c.read-v in
    message-by a.rec a.log.now d.new.log a.message.now v.result a.k a.payload g.result _ _ _ d.result c.append_reply.result
    v.ensures (g.ensures.0 ∙ ap word (to_z-of_z s.ranges.term_id)) (ap long (to_z-of_z s.ranges.reserved)) d.ensures.0 d.ensures.1 c.append_reply.ensures

pub append_message_spec : {M : Type 1} → statement M
append_message_spec =
    tie.close (tie.spec (search rules) (search rules) (search rules) (search rules) (search rules) returns)
