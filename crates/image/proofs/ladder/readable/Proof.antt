-- The first test that fails decides; the position is judged by its bits.
use Rattle.std.specs.Prelude.{Ok}
use mathlib.Core.Path.{◌≡◌, sym, ◌∙◌}
use native.Mathlib.Omega.{arith}
use borrow.Author.Tests.{not-true, not-false}
use mir.Syntax.{w64}
use mir.Val.{SFits}
use Rattle.model.specs.Bytes.{long}
use Rattle.model.specs.declared.ReadVerdict.TheVariants.{Read}
use Rattle.model.proofs.Sound.{sound-true}
use Rattle.logbuffer.proofs.Signed.{long-by}
use Rattle.image.specs.Images.{state_of}
use Rattle.image.proofs.Rungs.{not_good, not_sound, is-closed, position-by, too-high, not_aligned, in-range}
use borrow.Author.Rules.{rules}
use Rattle.image.proofs.ladder.readable.Statement.{statement}
use Rattle.image.proofs.ladder.readable.Tie as tie

-- the position's bits
p-is : (c : tie.After-long-p) → c.long-p.result ≡ long c.args.image.position
p-is c =
    let z = c.args.image.position in
    let f : SFits w64 z = search rules in
    long-by z c.long-p.ensures.0 f

returns : tie.Need-returns-then-not-good
returns c =
    let a = c.args in
    not_good a.good a.v a.n (state_of a.image) (not-true _ c.if-not-good.true-raw) (Ok Read)

returns-2 : tie.Need-returns-then-not-is_sound
returns-2 c =
    let a = c.args in
    not_sound a.good a.v a.n (state_of a.image) (not-false _ c.if-not-good.false-raw) (sym c.is_sound.ensures ∙ not-true _ c.if-not-is_sound.true-raw) (Ok Read)

returns-3 : tie.Need-returns-then-image
returns-3 c =
    let a = c.args in
    is-closed a.good a.v a.n (state_of a.image) (not-false _ c.if-not-good.false-raw) (sym c.is_sound.ensures ∙ not-false _ c.if-not-is_sound.false-raw) c.if-image.true (Ok Read)

mul-if4 : tie.Need-overflow_mul-v
mul-if4 c = omega (arith, sound-true _ _ (sym c.is_sound.ensures ∙ not-false _ c.if-not-is_sound.false-raw))

returns-4 : tie.Need-returns-then-p-v
returns-4 c =
    let a = c.args in
    position-by a.good a.v a.n (state_of a.image) _ (too-high a.v _ _ (p-is c.before.before) c.if-p-v.true) (not-false _ c.if-not-good.false-raw) (sym c.is_sound.ensures ∙ not-false _ c.if-not-is_sound.false-raw) c.if-image.false (Ok Read)

returns-5 : tie.Need-returns-then-p-ne0
returns-5 c =
    let a = c.args in
    position-by a.good a.v a.n (state_of a.image) _ (not_aligned a.v _ _ (p-is c.before.before.before) c.if-p-v.false c.if-p-ne0.true) (not-false _ c.if-not-good.false-raw) (sym c.is_sound.ensures ∙ not-false _ c.if-not-is_sound.false-raw) c.if-image.false (Ok Read)

returns-6 : tie.Need-returns
returns-6 c =
    let a = c.args in
    position-by a.good a.v a.n (state_of a.image) _ (in-range a.v _ _ (p-is c.before.before.before) c.if-p-v.false c.if-p-ne0.false) (not-false _ c.if-not-good.false-raw) (sym c.is_sound.ensures ∙ not-false _ c.if-not-is_sound.false-raw) c.if-image.false (Ok Read)

pub readable_spec : {M : Type 1} → statement M
readable_spec =
    tie.close
    (tie.spec
    returns
    (search rules)
    returns-2
    returns-3
    (search rules)
    mul-if4
    returns-4
    returns-5
    returns-6)
