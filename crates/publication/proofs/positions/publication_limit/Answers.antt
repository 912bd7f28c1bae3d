-- Refused, or the record's limit.
use Rattle.std.specs.Prelude.{Ok, Err}
use Rattle.publication.proofs.Numbers.{number_is}
use Rattle.publication.specs.Numbers.{number_verdict}
use Rattle.model.specs.Publication.{open_record}
use Rattle.model.specs.declared.Reading.{Reading}
use mir.Facts.{to_z-of_z}
use mir.Val.{SFits}
use mir.Syntax.{w64}
use mathlib.Core.Path.{◌≡◌, sym, ap, ◌∙◌}
use borrow.Author.Rules.{rules}
use Rattle.publication.proofs.positions.publication_limit.Goals as goal

pub returns-in_err-refusal : goal.returns-in_err-refusal
returns-in_err-refusal c =
    let e : c.from_residual.result ≡ Err c.in_err-refusal.field-0.0 = search rules in
    e ∙ number_is _ _ _ (ap number_verdict (sym c.read_active-v.ensures) ∙ sym c.refusal.ensures ∙ c.in_err-refusal.was)

pub returns : goal.returns
returns c = let v = c.read_active-v in
    let r = c.args.rec in
    let f : SFits w64 r.publication_limit = search rules in
    ap Ok (to_z-of_z f) ∙ number_is v.result r.publication_limit _ (sym c.refusal.ensures ∙ c.in_ok-refusal.was) ∙ ap (λ (x : Reading). open_record x r.publication_limit) v.ensures
