-- The offset that the appender told lies in its term, and the claim's numbers are small enough.
use mathlib.Core.Path.{◌≡◌, sym, ap, ◌∙◌}
use mathlib.Core.Bool.{true}
use native.Mathlib.Omega.{arith}
use borrow.Author.Rules.{rules}
use lib.ListN.{length}
use mir.Syntax.{w32, w64}
use mir.Val.{SFits}
use mir.Facts.{to_z_pos, to_z-of_z}
use Rattle.std.specs.Prelude.{Some}
use Rattle.std.proofs.lemmas.Option.{cond_some}
use Rattle.model.specs.LogBufferDescriptor.{term_id_of}
use Rattle.model.proofs.Sound.{bounds}
use Rattle.logbuffer.proofs.Ways.{fits-true}
use Rattle.publication.specs.Fits.{is_open}
use Rattle.publication.proofs.Fits.{open-true, raw-is, raw-term, claim-answer}
use Rattle.publication.proofs.fit.claim_fit.Goals as goal

pub overflow_mul-numbers : goal.overflow_mul-numbers
overflow_mul-numbers c = omega (arith, (open-true c.args.numbers (length c.args.log.now) c.args.body_length (search rules)).0.id-in)

pub overflow_add-numbers : goal.overflow_add-numbers
overflow_add-numbers c = let o = open-true c.args.numbers (length c.args.log.now) c.args.body_length (search rules) in omega (arith, o.0.id-in, o.0.so.offset-high)

pub after-requires : goal.after-requires
after-requires c =
    let o = (open-true c.args.numbers (length c.args.log.now) c.args.body_length (search rules)).0 in
    let e = cond_some _ _ _ (sym c.claim_fit.ensures.value ∙ c.in_ok-end.was) in
    let f = fits-true _ _ _ _ e.0 in
    (bounds _ _ o.so, (o.so.one_bit, (o.id-in, omega (arith, f.room, e.1))))

pub overflow_cast-result-2 : goal.overflow_cast-result-2
overflow_cast-result-2 c = record { sfits = omega (arith, (open-true c.args.numbers (length c.args.log.now) c.args.body_length (search rules)).0.so) }

pub overflow_cast-result-3 : goal.overflow_cast-result-3
overflow_cast-result-3 c = let o = open-true c.args.numbers (length c.args.log.now) c.args.body_length (search rules) in record { sfits = omega (arith, o.0.so, o.1.1) }

pub returns-clause-value : goal.returns-clause-value
returns-clause-value c =
    let v = c.args.numbers in
    let opened : is_open v (length c.args.log.now) c.args.body_length ≡ true = search rules in
    let o = open-true _ _ _ opened in
    let e = cond_some _ _ _ (sym c.claim_fit.ensures.value ∙ c.in_ok-end.was) in
    let id-fits : SFits w32 c.term_id.result = search rules in
    let raw-fits : SFits w64 c.to_i64-raw_tail.result = search rules in
    let raw = raw-is v.id v.offset _ o.0.id-in (to_z-of_z raw-fits ∙ c.to_i64-raw_tail.ensures) in
    let id = to_z-of_z id-fits ∙ c.term_id.ensures ∙ ap term_id_of raw ∙ raw-term v.id v.offset o.0.id-in (omega (arith, o.0.so.offset-high)) in
    simp (opened, e.0) (ap Some (claim-answer v c.args.body_length _ _ _ _ _ _ e.1 c.after.ensures (to_z_pos w32 (omega arith)) (to_z_pos w32 (omega (arith, o.0.so))) (to_z_pos w32 (omega (arith, o.0.so, o.1.1))) id))
