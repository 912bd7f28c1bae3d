-- A limit that is none is refused by the append itself.
use Rattle.std.proofs.Common.{◌≡◌, length, ap, ◌∙◌, to_z-of_z, w32, w64, to_z, of_z, rules}
use Rattle.model.specs.Bytes.{word, long}
use Rattle.logbuffer.specs.Ways.{fragment_limit}
use Rattle.logbuffer.proofs.Ways.{fragmented-is}
use Rattle.logbuffer.proofs.term_appender.append_fragmented_message.Statement.{statement}
use Rattle.logbuffer.proofs.term_appender.append_fragmented_message.Tie as tie

returns : tie.Need-returns
returns c =
    let s = c in
    let a = s.args in
    let m = c.append_message.ensures in
    let k : c.word-k.result ≡ word a.partition = c.word-k.ensures.0 ∙ search rules in
    let n : c.word.result ≡ word a.payload_limit = c.word.ensures.0 ∙ search rules in
    let p : c.fragment_limit-limit.result ≡ fragment_limit (length a.message.now) (word a.payload_limit) =
    c.fragment_limit-limit.ensures ∙ ap (fragment_limit (length a.message.now)) n in
    let t : to_z w32 (of_z w32 a.term_id) ≡ a.term_id = to_z-of_z s.ranges.term_id in
    let z : to_z w64 (of_z w64 a.reserved_value) ≡ a.reserved_value = to_z-of_z s.ranges.reserved_value in
    let law = fragmented-is a.rec a.log.now a.message.now (word a.partition) (word a.payload_limit) (long a.reserved_value) (word a.term_id) in
    (m.0 ∙ (cc) ∙ law.0, m.1 ∙ (cc) ∙ law.1)

pub append_fragmented_message_spec : {M : Type 1} → statement M
append_fragmented_message_spec =
    tie.close (tie.spec (search rules) (search rules) (search rules) (search rules) (search rules) returns)
