-- Refused, or the limit less the position: both lie within 2^62, so the difference fits.
use Rattle.std.specs.Prelude.{Ok, Err}
use Rattle.model.specs.declared.LogRecord.{LogRecord}
use Rattle.publication.proofs.Numbers.{number_is, number-sound, window-fits}
use Rattle.publication.specs.Numbers.{number_verdict}
use Rattle.logbuffer.proofs.Signed.{lands, asks}
use Rattle.model.proofs.SoundRecord.{sound-record-true}
use Rattle.model.specs.Publication.{open_record}
use Rattle.model.specs.LogBufferDescriptor.{reading, publisher_position}
use Rattle.model.specs.declared.Reading.{Reading}
use mir.Facts.{to_z-of_z}
use mir.Val.{SFits, to_z, of_z}
use mir.Syntax.{w64}
use lib.IntN.{ℤ, ◌-ℤ◌}
use mathlib.Core.Path.{◌≡◌, sym, ap, ap₂, ◌∙◌}
use borrow.Author.Rules.{rules}
use Rattle.publication.proofs.positions.available_window.Goals as goal

pub returns-in_err-refusal : goal.returns-in_err-refusal
returns-in_err-refusal c =
    let e : c.from_residual.result ≡ Err c.in_err-refusal.field-0.0 = search rules in
    e ∙ number_is _ _ _ (ap number_verdict (sym c.read_active-v.ensures) ∙ sym c.refusal.ensures ∙ c.in_err-refusal.was)

pub publisher_position-position-requires : goal.publisher_position-position-requires
publisher_position-position-requires c = (c.read_active-v.ensures, number-sound _ (sym c.refusal.ensures ∙ c.in_ok-refusal.was))

-- what is known of the two numbers where they are subtracted
record Window (r : LogRecord) (v : Reading) (p : ℤ) : Type 0 where
  fit : SFits w64 (r.publication_limit -ℤ publisher_position v)
  exact : to_z w64 (of_z w64 r.publication_limit) -ℤ to_z w64 (of_z w64 p) ≡ r.publication_limit -ℤ publisher_position v

window : (r : LogRecord) (v : Reading) (p : ℤ) → v ≡ reading r → number_verdict v ≡ Ok tt → SFits w64 r.publication_limit → to_z w64 (of_z w64 p) ≡ publisher_position v → Window r v p
window r v p e q f k =
    record {
      fit = window-fits r v _ e (sound-record-true v (number-sound _ q)) f;
      exact = ap₂ (λ (x y : ℤ). x -ℤ y) (to_z-of_z f) k;
    }

pub overflow_sub-result : goal.overflow_sub-result
overflow_sub-result c =
    let k = to_z-of_z {w = w64} {z = c.publisher_position-position.result} (search rules) ∙ c.publisher_position-position.ensures in
    let w = window c.args.rec c.read_active-v.result c.publisher_position-position.result c.read_active-v.ensures (sym c.refusal.ensures ∙ c.in_ok-refusal.was) (search rules) k in
    asks w.exact w.fit

pub returns : goal.returns
returns c =
    let v = c.read_active-v in
    let r = c.args.rec in
    let k = to_z-of_z {w = w64} {z = c.publisher_position-position.result} (search rules) ∙ c.publisher_position-position.ensures in
    let w = window r v.result c.publisher_position-position.result v.ensures (sym c.refusal.ensures ∙ c.in_ok-refusal.was) (search rules) k in
    ap Ok (lands w.exact w.fit) ∙ number_is v.result (r.publication_limit -ℤ publisher_position v.result) _ (sym c.refusal.ensures ∙ c.in_ok-refusal.was)
    ∙ ap (λ (x : Reading). open_record x (r.publication_limit -ℤ publisher_position x)) v.ensures
