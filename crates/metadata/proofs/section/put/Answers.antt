-- Four parts, one behind the other, are the whole.
use Rattle.std.proofs.Common.{◌≤◌, length, ap, ◌∙◌, arith}
use Rattle.model.specs.Bytes.{splice}
use Rattle.metadata.specs.Metadata.{counters, connection, ids, lengths, section}
use Rattle.metadata.proofs.Parts.{first, then, whole, right-4, length-counters, length-connection, length_ids, length-lengths, length-section}
use Rattle.metadata.proofs.section.put.Goals as goal

pub returns : goal.returns
unfolding section
returns c =
    let r = c.args.rec in
    let o = c.args.out.now in
    let h : 0 ≤ length o = omega arith in
    let p0 = first o 0 (counters r) 128 (length-counters r) c.put_counters.ensures in
    let p1 = then (connection r) 128 p0 h (length-connection r) c.put_connection.ensures in
    let p2 = then (ids r) 16 p1 h (length_ids r) c.put_ids.ensures in
    let p3 = then (lengths r) 48 p2 h (length-lengths r) c.put_lengths.ensures in
    p3.is ∙ ap (splice o 0) (right-4 (counters r) (connection r) (ids r) (lengths r)) ∙ whole o (section r) (length-section r ∙ omega arith)
