-- Two tests: the record, and whether the image is closed already.
use Rattle.std.specs.Prelude.{Ok}
use mathlib.Core.Path.{refl, sym, ap, ap₂, ◌∙◌}
use mathlib.Core.Bool.{Bool, true, false}
use borrow.Author.Tests.{not-true, not-false}
use lib.Signed.{le_z}
use mir.Syntax.{w64}
use mir.Val.{SFits}
use mir.Facts.{to_z-of_z}
use Rattle.image.specs.declared.ImageReply.{ImageReply}
use Rattle.image.specs.Images.{state_of, image_reply_of}
use Rattle.image.proofs.Settings.{as-close}
use borrow.Author.Rules.{rules}
use Rattle.image.proofs.Image.close.Statement.{statement}
use Rattle.image.proofs.Image.close.Tie as tie

returns : tie.Need-returns-then-not-is_sound
returns c =
    let a = c.args in
    ap image_reply_of (as-close a.rec a.log.now (state_of a.self) _ c.read_active-v.ensures false _ (sym c.is_sound.ensures ∙ not-true _ c.if-not-is_sound.true-raw) refl)

returns-2 : tie.Need-returns-then-self
returns-2 c =
    let a = c.args in
    ap image_reply_of (as-close a.rec a.log.now (state_of a.self) _ c.read_active-v.ensures true true (sym c.is_sound.ensures ∙ not-false _ c.if-not-is_sound.false-raw) c.if-self.true)

returns-3 : tie.Need-returns
returns-3 c =
    let a = c.args in
    let f : SFits w64 a.rec.end_of_stream_position = search rules in
    let g : SFits w64 a.self.position = search rules in
    let made : Bool → ImageReply = λ (b : Bool). record { next = record { position = a.self.position; session_id = a.self.session_id; is_closed = true; is_eos = b }; answer = Ok tt } in
    ap made (ap₂ le_z (to_z-of_z f) (to_z-of_z g))
    ∙ ap image_reply_of (as-close a.rec a.log.now (state_of a.self) _ c.read_active-v.ensures true false (sym c.is_sound.ensures ∙ not-false _ c.if-not-is_sound.false-raw) c.if-self.false)

pub close_spec : {M : Type 1} → statement M
close_spec =
    tie.close (tie.spec (search rules) (search rules) returns returns-2 returns-3)
