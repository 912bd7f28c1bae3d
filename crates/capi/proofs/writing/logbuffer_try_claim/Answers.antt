-- Where the shorter path tells a frame, the reply and the one word are the definition's. All else is the promise of `claim_by_all`, over a log that is as it was.
use Rattle.std.proofs.Common.{◌≡◌, ℕ, ◌%◌, ℤ, List, refl, ap, ◌∙◌, rules}
use mir.Syntax.{w64}
use mir.Val.{to_z, of_z}
use mir.Facts.{to_z-of_z}
use Rattle.model.specs.Bytes.{word}
use Rattle.model.specs.Publication.{claim_of, claim_bytes}
use Rattle.logbuffer.proofs.Signed.{word-by}
use Rattle.capi.specs.Words.{record_in, record_out}
use Rattle.capi.specs.Replies.{claim_reply}
use Rattle.capi.proofs.Promised.{of-1, of-2}
use Rattle.capi.proofs.Fitted.{claim-none, claim-some}
use Rattle.capi.proofs.writing.logbuffer_try_claim.Goals as goal
use Rattle.capi.proofs.writing.logbuffer_try_claim.Goals.{After-word}

n-is : (c : After-word) → c.word.result ≡ word c.args.length
n-is c = word-by _ c.word.ensures.0 c.ranges.length

pub returns-then-v : goal.returns-then-v
returns-then-v c =
    let a = c.args in
    let r = record_in a.rec.now in
    let f = c.claim_by_all-all.ensures in
    let z = to_z-of_z c.ranges.length in
    record {
      value = of-1 (λ (y : ℤ). claim_reply (claim_of r a.log.now y).answer (claim_of r a.log.now y).rule) f.value z;
      rec_after = of-1 (λ (y : ℤ). record_out a.rec.now (claim_of r a.log.now y).next) f.rec_after z;
      log_after = of-1 (claim_bytes r a.log.now) f.log_after z;
    }

pub returns-in_default : goal.returns-in_default
returns-in_default c =
    let a = c.args in
    let r = record_in a.rec.now in
    let at = goal.at.returns-in_default c in
    let same = claim-none r a.log.now a.length _ c.reading_in-v.ensures _ (n-is at.After-word) _ _ c.claim_fit.ensures.value c.claim_fit.ensures.log_after c.in_default.is in
    let f = c.claim_by_all-all-in_default.ensures in
    let z = to_z-of_z c.ranges.length in
    record {
      value = of-2 (λ (l : List ℕ) (y : ℤ). claim_reply (claim_of r l y).answer (claim_of r l y).rule) f.value same z;
      rec_after = of-2 (λ (l : List ℕ) (y : ℤ). record_out a.rec.now (claim_of r l y).next) f.rec_after same z;
      log_after = of-2 (claim_bytes r) f.log_after same z;
    }

pub returns : goal.returns
returns c =
    let a = c.args in
    let r = record_in a.rec.now in
    let at = goal.at.returns c in
    let some = claim-some r a.log.now a.length _ c.reading_in-v.ensures _ (n-is at.After-word) _ _ c.claim_fit.ensures.value c.claim_fit.ensures.log_after c.in-Some.fitted c.in-Some.is
    (c.reading_in-v.result.count % 3) (to_z w64 (of_z w64 c.in-Some.fitted.after.tail)) (to_z w64 (of_z w64 c.in-Some.fitted.after.position)) _ refl (to_z-of_z {w = w64} (search rules)) (to_z-of_z {w = w64} (search rules)) c.claim_words.ensures in
    record { value = some.0; rec_after = c.tail_out.ensures ∙ ap (record_out a.rec.now) some.1.0; log_after = some.1.1 }
