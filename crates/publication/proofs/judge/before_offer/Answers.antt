-- The tests that were passed lead to the rung.
use native.Mathlib.Omega.{arith}
use mathlib.Core.Path.{◌≡◌, sym, ◌∙◌}
use mathlib.Core.Bool.{true, false}
use borrow.Author.Tests.{not-true, not-false}
use borrow.Author.Rules.{rules}
use Rattle.std.specs.Prelude.{Err}
use Rattle.model.specs.LogBufferDescriptor.{sound, Sound}
use Rattle.model.proofs.Sound.{sound-true, bounds}
use Rattle.model.proofs.OfferLaws.{rung-1, rung-2, rung-5, rung-7, rung-10}
use Rattle.publication.proofs.judge.before_offer.Goals as goal

pub returns-then-m-gt2147483647 : goal.returns-then-m-gt2147483647
returns-then-m-gt2147483647 c = rung-1 _ _ _ c.if-m-gt2147483647.true

pub returns-then-not-is_sound : goal.returns-then-not-is_sound
returns-then-not-is_sound c = rung-2 _ _ _ c.if-m-gt2147483647.false (sym c.is_sound.ensures ∙ not-true _ c.if-not-is_sound.true-raw)

pub returns-then-v : goal.returns-then-v
returns-then-v c = rung-5 _ _ _ c.if-m-gt2147483647.false (sym c.is_sound.ensures ∙ not-false _ c.if-not-is_sound.false-raw) c.if-v.true

pub after_closed-requires : goal.after_closed-requires
after_closed-requires c =
    let so = sound-true c.args.v c.args.n (sym c.is_sound.ensures ∙ not-false _ c.if-not-is_sound.false-raw) in
    (bounds _ _ so, (c.requires, (c.if-m-gt2147483647.false, so.one_bit)))

pub returns-in_err-after_closed : goal.returns-in_err-after_closed
returns-in_err-after_closed c =
    let e : c.from_residual.result ≡ Err c.in_err-after_closed.field-0.0 = search rules in
    e ∙ sym c.in_err-after_closed.was ∙ rung-7 _ _ _ c.if-m-gt2147483647.false (sym c.is_sound.ensures ∙ not-false _ c.if-not-is_sound.false-raw) c.if-v.false _ _ c.after_closed.ensures c.in_err-after_closed.was

pub too_long-requires : goal.too_long-requires
too_long-requires c =
    let so = sound-true c.args.v c.args.n (sym c.is_sound.ensures ∙ not-false _ c.if-not-is_sound.false-raw) in
    omega (arith, so)

pub returns-then-too_long : goal.returns-then-too_long
returns-then-too_long c =
    rung-10 _ _ _ c.if-m-gt2147483647.false (sym c.is_sound.ensures ∙ not-false _ c.if-not-is_sound.false-raw) c.if-v.false true (sym c.after_closed.ensures ∙ c.in_ok-after_closed.was)
    (sym c.too_long.ensures ∙ c.if-too_long.true)

pub returns : goal.returns
returns c =
    rung-10 _ _ _ c.if-m-gt2147483647.false (sym c.is_sound.ensures ∙ not-false _ c.if-not-is_sound.false-raw) c.if-v.false false (sym c.after_closed.ensures ∙ c.in_ok-after_closed.was)
    (sym c.too_long.ensures ∙ c.if-too_long.false)
