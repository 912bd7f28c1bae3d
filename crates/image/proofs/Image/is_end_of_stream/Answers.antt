-- The ladder's answer decides.
use Rattle.std.specs.Prelude.{Ok, Err}
use Rattle.std.proofs.Common.{◌≡◌, sym, ap, ap₂, ◌∙◌, rules}
use lib.Signed.{le_z}
use mir.Syntax.{w64}
use mir.Val.{SFits}
use mir.Facts.{to_z-of_z}
use Rattle.model.specs.declared.ReadVerdict.TheVariants.{Read, Closed}
use Rattle.image.specs.Images.{state_of}
use Rattle.image.proofs.Rungs.{answered}
use Rattle.image.proofs.Settings.{as-end}
use Rattle.image.proofs.Image.is_end_of_stream.Goals as goal

pub returns-in_err-readable : goal.returns-in_err-readable
returns-in_err-readable c =
    let a = c.args in
    let e : c.from_residual.result ≡ Err c.in_err-readable.field-0.0 = search rules in
    e ∙ as-end a.rec a.log.now (state_of a.self) _ c.read_active-v.ensures (Err c.in_err-readable.field-0.0) (sym c.in_err-readable.was ∙ c.readable.ensures)

pub returns-in-Closed : goal.returns-in-Closed
returns-in-Closed c =
    let a = c.args in
    as-end a.rec a.log.now (state_of a.self) _ c.read_active-v.ensures (Ok Closed) (answered c.in_ok-readable.was c.in-Closed.is c.readable.ensures)

pub returns-in-Read : goal.returns-in-Read
returns-in-Read c =
    let a = c.args in
    let f : SFits w64 a.rec.end_of_stream_position = search rules in
    let g : SFits w64 a.self.position = search rules in
    ap Ok (ap₂ le_z (to_z-of_z f) (to_z-of_z g))
    ∙ as-end a.rec a.log.now (state_of a.self) _ c.read_active-v.ensures (Ok Read) (answered c.in_ok-readable.was c.in-Read.is c.readable.ensures)
