-- The call's promise, carried into the reply and the words; signed arguments that were handed on are those given.
use mathlib.Core.Path.{◌≡◌, ap, ap₂, ◌∙◌}
use lib.IntN.{ℤ, pos}
use mir.Syntax.{w32}
use mir.Val.{SFits}
use mir.Facts.{to_z-of_z}
use Rattle.model.specs.declared.LogRecord.{LogRecord}
use Rattle.model.specs.Bytes.{word, long}
use Rattle.model.specs.LogBufferDescriptor.{index_by_position, bits_to_shift}
use Rattle.model.specs.Image.{bounded_poll_of}
use Rattle.image.specs.declared.Image.{Image}
use Rattle.image.specs.declared.PollReply.{PollReply}
use Rattle.image.specs.Images.{state_of, poll_reply_of}
use Rattle.capi.specs.Words.{record_in, image_in, image_out}
use Rattle.capi.specs.Replies.{poll_reply}
use Rattle.capi.proofs.Promised.{promised, promised64, of-2, of-4}
use Rattle.capi.proofs.Partitions.{shifted, bounded-in}
use borrow.Author.Rules.{rules}
use Rattle.capi.proofs.images.logbuffer_image_bounded_poll.Statement.{statement}
use Rattle.capi.proofs.images.logbuffer_image_bounded_poll.Tie as tie

term_fits : (c : tie.After-record_in-r) → SFits w32 c.record_in-r.result.term_length
term_fits c = search rules

returns : tie.Need-returns
returns c =
    let kp = c in
    let kc = c in
    let kr = c in
    let ki = c in
    let s = c in
    let a = s.args in
    let r = kr.record_in-r.ensures in
    let i = ki.image_in-i.ensures in
    let f = kc.bounded_poll-o.ensures in
    let q0 = of-4 (λ (r : LogRecord) (i : Image) (x : ℤ) (y : ℤ). poll_reply_of (bounded_poll_of r a.log.now (state_of i) a.entries.now x y)) f.0 r i (to_z-of_z s.ranges.limit_position) (to_z-of_z s.ranges.fragment_limit) in
    let q1 = of-4 (λ (r : LogRecord) (i : Image) (x : ℤ) (y : ℤ). (bounded_poll_of r a.log.now (state_of i) a.entries.now x y).slots) f.1 r i (to_z-of_z s.ranges.limit_position) (to_z-of_z s.ranges.fragment_limit) in
    let k : kp.partition_at-partition.result ≡ shifted (record_in a.rec.now) a.log.now (image_in a.image.now).position =
    of-2 (λ (t p : ℤ). pos (index_by_position (long p) (bits_to_shift (word t)))) kp.partition_at-partition.ensures (promised (ap (λ (x : LogRecord). x.term_length) r) (term_fits c.before.before.before.before.before.before.before.before.before.before)) (promised64 (ap (λ (x : Image). x.position) i) (let h = ki.image_in-i.type_inv in search (rules, h))) in
    let e = c.polled.ensures ∙ ap₂ (λ (x : ℤ) (o : PollReply). poll_reply x o.answer) (promised k (let h = kp.partition_at-partition.type_inv in search (rules, h))) q0 ∙ bounded-in (record_in a.rec.now) a.log.now (state_of (image_in a.image.now)) a.entries.now a.limit_position a.fragment_limit in
    (e, (kp.image_out.ensures ∙ ap (λ (o : PollReply). image_out a.image.now (state_of o.next)) q0, q1))

pub logbuffer_image_bounded_poll_spec : {M : Type 1} → statement M
logbuffer_image_bounded_poll_spec =
    tie.close (tie.spec (search rules) (search rules) (search rules) (search rules) (search rules) (search rules) (search rules) returns)
