-- The tests that were passed lead to the rung.
use native.Mathlib.Omega.{arith}
use mathlib.Core.Path.{◌≡◌, sym, ◌∙◌}
use mathlib.Core.Bool.{true, false}
use borrow.Author.Tests.{not-true, not-false, lt-ltb, le-ltb}
use borrow.Author.Rules.{rules}
use Rattle.std.specs.Prelude.{Err}
use Rattle.model.specs.LogBufferDescriptor.{sound, Sound}
use Rattle.model.proofs.Sound.{sound-true, bounds}
use Rattle.publication.proofs.ClaimLaws.{claim-1, claim-2, claim-4, claim-5, claim-7, claim-11}
use Rattle.publication.proofs.judge_claim.before_claim.Goals as goal

pub returns-then-m-gt2147483647 : goal.returns-then-m-gt2147483647
returns-then-m-gt2147483647 c = claim-1 _ _ _ c.if-m-gt2147483647.true

pub returns-then-not-is_sound : goal.returns-then-not-is_sound
returns-then-not-is_sound c = claim-2 _ _ _ c.if-m-gt2147483647.false (sym c.is_sound.ensures ∙ not-true _ c.if-not-is_sound.true-raw)

pub overflow_sub-payload : goal.overflow_sub-payload
overflow_sub-payload c =
    let so = sound-true c.args.v c.args.n (sym c.is_sound.ensures ∙ not-false _ c.if-not-is_sound.false-raw) in
    omega (arith, so)

pub returns-then-closed : goal.returns-then-closed
returns-then-closed c = claim-5 _ _ _ c.if-m-gt2147483647.false (sym c.is_sound.ensures ∙ not-false _ c.if-not-is_sound.false-raw) c.if-closed.true

-- it is open, as the test before found: `search` is to find that
pub returns-then-m-payload : goal.returns-then-m-payload
returns-then-m-payload c =
    let a = c.args in
    claim-4 a.v a.n a.m c.if-m-gt2147483647.false (sym c.is_sound.ensures ∙ not-false _ c.if-not-is_sound.false-raw) (search rules) c.if-m-payload.true

pub after_closed-requires : goal.after_closed-requires
after_closed-requires c =
    let so = sound-true c.args.v c.args.n (sym c.is_sound.ensures ∙ not-false _ c.if-not-is_sound.false-raw) in
    (bounds _ _ so, (c.requires, (c.if-m-gt2147483647.false, so.one_bit)))

pub returns-in_err-after_closed : goal.returns-in_err-after_closed
returns-in_err-after_closed c =
    let e : c.from_residual.result ≡ Err c.in_err-after_closed.field-0.0 = search rules in
    e
    ∙ sym c.in_err-after_closed.was ∙ claim-7 _ _ _ c.if-m-gt2147483647.false (sym c.is_sound.ensures ∙ not-false _ c.if-not-is_sound.false-raw) c.if-closed.false c.if-m-payload.false _ _ c.after_closed.ensures
    c.in_err-after_closed.was

pub overflow_add-offset : goal.overflow_add-offset
overflow_add-offset c =
    let so = sound-true c.args.v c.args.n (sym c.is_sound.ensures ∙ not-false _ c.if-not-is_sound.false-raw) in
    omega (arith, so, c.if-m-gt2147483647.false)

pub returns-then-offset-m-gt2147483647 : goal.returns-then-offset-m-gt2147483647
returns-then-offset-m-gt2147483647 c =
    claim-11 _ _ _ c.if-m-gt2147483647.false (sym c.is_sound.ensures ∙ not-false _ c.if-not-is_sound.false-raw) c.if-closed.false c.if-m-payload.false true
    (sym c.after_closed.ensures ∙ c.in_ok-after_closed.was) (lt-ltb _ _ c.if-offset-m-gt2147483647.true)

pub returns : goal.returns
returns c =
    claim-11 _ _ _ c.if-m-gt2147483647.false (sym c.is_sound.ensures ∙ not-false _ c.if-not-is_sound.false-raw) c.if-closed.false c.if-m-payload.false false
    (sym c.after_closed.ensures ∙ c.in_ok-after_closed.was) (le-ltb _ _ c.if-offset-m-gt2147483647.false)
