-- The tail and the position, put together from numbers that are small enough.
use mathlib.Core.Path.{ap, ap₂, ◌∙◌}
use Prim.Native.Nat.{ℕ, ◌+◌}
use native.Mathlib.Omega.{arith}
use borrow.Author.Rules.{rules}
use lib.IntN.{ℤ, pos}
use mir.Syntax.{w64}
use mir.Val.{SFits}
use mir.Facts.{to_z_pos, to_z-of_z}
use Rattle.model.proofs.Sound.{begin-most}
use Rattle.publication.specs.declared.fit.Fitted.{Fitted}
use Rattle.publication.proofs.Fits.{raw-is}
use Rattle.publication.proofs.fit.after.Goals as goal

pub returns : goal.returns
returns c =
    let a = c.args in
    let fits : SFits w64 c.to_i64.result = search rules in
    let tail = raw-is a.v.id a.end _ c.requires.1.1.0 (to_z-of_z fits ∙ c.to_i64.ensures) in
    let at = to_z_pos w64 (omega (arith, c.begin_position.ensures, begin-most _ c.requires.0, c.requires.0.term-most, c.requires.1.1.1)) ∙ ap (λ (x : ℕ). pos (x + a.end)) c.begin_position.ensures in
    ap₂ {C = Fitted} (λ (t z : ℤ). record { tail = t; position = z }) tail at
