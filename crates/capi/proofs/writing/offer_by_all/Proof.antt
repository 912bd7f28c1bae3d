-- The call's promise, carried into the reply and the words; signed arguments that were handed on are those given.
use mathlib.Core.Path.{ap, ◌∙◌}
use lib.IntN.{ℤ}
use mir.Facts.{to_z-of_z}
use Rattle.model.specs.declared.LogRecord.{LogRecord}
use Rattle.model.specs.declared.OfferReply.{OfferReply}
use Rattle.model.specs.Publication.{offer_of, offer_bytes}
use Rattle.capi.specs.Words.{record_out}
use Rattle.capi.specs.Replies.{offer_reply}
use Rattle.capi.proofs.Promised.{of-1, of-2}
use borrow.Author.Rules.{rules}
use Rattle.capi.proofs.writing.offer_by_all.Statement.{statement}
use Rattle.capi.proofs.writing.offer_by_all.Tie as tie

returns : tie.Need-returns
returns c =
    let s = c in
    let a = s.args in
    let f = c.offer-o.ensures in
    let q0 = of-1 (λ (r : LogRecord). offer_of r a.log.now a.message.now) f.0 c.record_in.ensures in
    let q1 = of-2 (λ (r : LogRecord) (y : ℤ). offer_bytes r a.log.now a.message.now y) f.1 c.record_in.ensures (to_z-of_z s.ranges.reserved_value) in
    (c.offered.ensures ∙ ap (λ (o : OfferReply). offer_reply o.answer o.rule) q0, (c.record_out.ensures ∙ ap (λ (o : OfferReply). record_out a.rec.now o.next) q0, q1))

pub offer_by_all_spec : {M : Type 1} → statement M
offer_by_all_spec =
    tie.close (tie.spec (search rules) (search rules) (search rules) (search rules) (search rules) returns)
