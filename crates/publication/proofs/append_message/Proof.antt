-- The way that the appender answers, made into the reply, is the append of the definition, as one frame or as many.
use mathlib.Core.Path.{ap}
use native.Mathlib.Omega.{arith}
use borrow.Author.Rules.{rules}
use mir.Facts.{to_z-of_z}
use Rattle.model.specs.Bytes.{long}
use Rattle.publication.proofs.Ways.{append-by, one-by}
use Rattle.publication.proofs.append_message.Statement.{statement}
use Rattle.publication.proofs.append_message.Tie as tie

returns : tie.Need-returns-then-message-payload
returns c =
    let s = c in
    let a = s.args in
    let d = c.append_one-way in
    one-by a.rec a.log.now d.new.log a.message.now a.v a.k a.payload _ _ d.result c.append_reply.result
    s.requires.0 s.requires.1.0 s.requires.1.1.0 s.requires.1.1.1.0 s.requires.1.1.1.1.0 s.requires.1.1.1.1.1
    (ap long (to_z-of_z s.ranges.reserved)) (omega arith) d.ensures.0 d.ensures.1 c.append_reply.ensures

returns-2 : tie.Need-returns
returns-2 c =
    let s = c in
    let a = s.args in
    let d = c.append_way-way in
    append-by a.rec a.log.now d.new.log a.message.now a.v a.k a.payload _ _ d.result c.append_reply-2.result
    s.requires.0 s.requires.1.0 s.requires.1.1.0 s.requires.1.1.1.0 s.requires.1.1.1.1.0 s.requires.1.1.1.1.1
    (ap long (to_z-of_z s.ranges.reserved)) d.ensures.0 d.ensures.1 c.append_reply-2.ensures

pub append_message_spec : {M : Type 1} → statement M
append_message_spec =
    tie.close
    (tie.spec (search rules) (search rules) (search rules) returns (search rules) (search rules) (search rules) returns-2)
