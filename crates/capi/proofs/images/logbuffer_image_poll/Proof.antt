-- The call's promise, carried into the reply and the words; signed arguments that were handed on are those given.
use mathlib.Core.Path.{◌≡◌, ap, ap₂, ◌∙◌}
use native.Mathlib.Omega.{arith}
use lib.IntN.{ℤ, pos}
use mir.Syntax.{w32}
use mir.Facts.{to_z-of_z, to_z_pos}
use Rattle.model.specs.declared.Reading.{Reading}
use Rattle.model.specs.Bytes.{long}
use Rattle.image.specs.declared.Image.{Image}
use Rattle.image.specs.declared.PollReply.{PollReply}
use Rattle.image.specs.Images.{state_of, shifted_in, poll_by, poll_reply_of}
use Rattle.image.proofs.Polls.{as-poll}
use Rattle.capi.specs.Words.{record_in, image_in, image_out}
use Rattle.capi.specs.Replies.{poll_reply}
use Rattle.capi.proofs.Promised.{of-2}
use Rattle.capi.proofs.Partitions.{shifted-on, poll-in}
use borrow.Author.Rules.{rules}
use Rattle.capi.proofs.images.logbuffer_image_poll.Statement.{statement}
use Rattle.capi.proofs.images.logbuffer_image_poll.Tie as tie

cast-polled : tie.Need-overflow_cast-o
cast-polled c = record { sfits = omega (arith, c.poll_on-o.ensures.1.0.1) }

returns : tie.Need-returns
returns c =
    let kc = c in
    let kv = c in
    let ki = c in
    let s = c in
    let a = s.args in
    let i = ki.image_in-i.ensures in
    let f = kc.poll_on-o.ensures in
    let v = kv.reading_in.result in
    let law = as-poll a.log.now (state_of (image_in a.image.now)) a.entries.now a.fragment_limit v (record_in a.rec.now) kv.reading_in.ensures in
    let q0 = of-2 (λ (i : Image) (y : ℤ). poll_reply_of (poll_by v a.log.now (state_of i) a.entries.now y)) f.0 i (to_z-of_z s.ranges.fragment_limit) ∙ ap poll_reply_of law in
    let q1 = of-2 (λ (i : Image) (y : ℤ). (poll_by v a.log.now (state_of i) a.entries.now y).slots) f.1.1 i (to_z-of_z s.ranges.fragment_limit) ∙ ap (λ x. x.slots) law in
    let k : pos kc.poll_on-o.result.partition ≡ shifted-on (record_in a.rec.now) a.log.now (image_in a.image.now).position =
    ap pos (of-2 (λ (i : Image) (v : Reading). shifted_in v.term (long i.position)) f.1.0.0 i kv.reading_in.ensures) in
    let e = c.polled.ensures ∙ ap₂ (λ (x : ℤ) (o : PollReply). poll_reply x o.answer) (to_z_pos w32 (omega (arith, f.1.0.1)) ∙ k) q0 ∙ poll-in (record_in a.rec.now) a.log.now (state_of (image_in a.image.now)) a.entries.now a.fragment_limit in
    (e, (c.image_out.ensures ∙ ap (λ (o : PollReply). image_out a.image.now (state_of o.next)) q0, q1))

pub logbuffer_image_poll_spec : {M : Type 1} → statement M
logbuffer_image_poll_spec =
    tie.close (tie.spec (search rules) (search rules) (search rules) (search rules) cast-polled (search rules) (search rules) returns)
