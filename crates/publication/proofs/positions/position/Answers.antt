-- Refused, or the publisher's position.
use Rattle.std.specs.Prelude.{Ok, Err}
use Rattle.publication.proofs.Numbers.{number-sound, number_is}
use Rattle.publication.specs.Numbers.{number_verdict}
use Rattle.model.specs.Publication.{open_record}
use Rattle.model.specs.LogBufferDescriptor.{publisher_position}
use Rattle.model.specs.declared.Reading.{Reading}
use mir.Facts.{to_z-of_z}
use mir.Syntax.{w64}
use mathlib.Core.Path.{◌≡◌, sym, ap, ◌∙◌}
use borrow.Author.Rules.{rules}
use Rattle.publication.proofs.positions.position.Goals as goal

pub returns-in_err-refusal : goal.returns-in_err-refusal
returns-in_err-refusal c =
    let e : c.from_residual.result ≡ Err c.in_err-refusal.field-0.0 = search rules in
    e ∙ number_is _ _ _ (ap number_verdict (sym c.read_active-v.ensures) ∙ sym c.refusal.ensures ∙ c.in_err-refusal.was)

pub publisher_position-requires : goal.publisher_position-requires
publisher_position-requires c = (c.read_active-v.ensures, number-sound _ (sym c.refusal.ensures ∙ c.in_ok-refusal.was))

pub returns : goal.returns
returns c = let v = c.read_active-v in
    ap Ok (to_z-of_z {w = w64} {z = c.publisher_position.result} (search rules) ∙ c.publisher_position.ensures) ∙ number_is v.result (publisher_position v.result) _ (sym c.refusal.ensures ∙ c.in_ok-refusal.was)
    ∙ ap (λ (x : Reading). open_record x (publisher_position x)) v.ensures
