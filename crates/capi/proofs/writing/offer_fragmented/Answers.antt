-- Where the shorter path tells its frames, the reply and the one word are the definition's. All else is the promise of `offer_by_all`, over a log that is as it was.
use Rattle.std.proofs.Common.{◌≡◌, ℕ, ◌%◌, ℤ, List, refl, ap, ◌∙◌, rules}
use mir.Syntax.{w64}
use mir.Val.{to_z, of_z}
use mir.Facts.{to_z-of_z}
use Rattle.model.specs.Bytes.{long}
use Rattle.model.specs.Publication.{offer_of, offer_bytes}
use Rattle.publication.specs.Fits.{fragmented_fit_bytes}
use Rattle.capi.specs.Words.{record_in, record_out}
use Rattle.capi.specs.Replies.{offer_reply}
use Rattle.capi.proofs.Promised.{of-1, of-2}
use Rattle.capi.proofs.Fitted.{fragmented-none, fragmented-some}
use Rattle.capi.proofs.writing.offer_fragmented.Goals as goal
use Rattle.capi.proofs.writing.offer_fragmented.Goals.{After-offer_fragmented_fit}

left : (c : After-offer_fragmented_fit) → c.offer_fragmented_fit.new.log ≡ fragmented_fit_bytes c.reading_in-v.result c.args.log.now c.args.message.now (long c.args.reserved_value)
left c = c.offer_fragmented_fit.ensures.log_after ∙ ap (λ (z : ℤ). fragmented_fit_bytes c.reading_in-v.result c.args.log.now c.args.message.now (long z)) (to_z-of_z c.ranges.reserved_value)

pub returns-in_default : goal.returns-in_default
returns-in_default c =
    let a = c.args in
    let r = record_in a.rec.now in
    let at = goal.at.returns-in_default c in
    let same = fragmented-none r a.log.now a.message.now a.reserved_value _ c.reading_in-v.ensures _ _ c.offer_fragmented_fit.ensures.value (left at.After-offer_fragmented_fit) c.in_default.is in
    let f = c.offer_by_all.ensures in
    record {
      value = of-1 (λ (l : List ℕ). offer_reply (offer_of r l a.message.now).answer (offer_of r l a.message.now).rule) f.value same;
      rec_after = of-1 (λ (l : List ℕ). record_out a.rec.now (offer_of r l a.message.now).next) f.rec_after same;
      log_after = of-2 (λ (l : List ℕ) (z : ℤ). offer_bytes r l a.message.now z) f.log_after same (to_z-of_z c.ranges.reserved_value);
    }

pub returns : goal.returns
returns c =
    let a = c.args in
    let r = record_in a.rec.now in
    let at = goal.at.returns c in
    let some = fragmented-some r a.log.now a.message.now a.reserved_value _ c.reading_in-v.ensures _ _ c.offer_fragmented_fit.ensures.value (left at.After-offer_fragmented_fit) c.in-Some.fitted c.in-Some.is
    (c.reading_in-v.result.count % 3) (to_z w64 (of_z w64 c.in-Some.fitted.tail)) (to_z w64 (of_z w64 c.in-Some.fitted.position)) refl (to_z-of_z {w = w64} (search rules)) (to_z-of_z {w = w64} (search rules)) in
    record { value = some.0; rec_after = c.tail_out.ensures ∙ ap (record_out a.rec.now) some.1.0; log_after = some.1.1 }
