-- Each frame is gone over; where there is none, the frames passed are all.
use Rattle.std.proofs.Common.{◌≡◌, ◌-◌, ◌/◌, length, take, drop, [], ◌∷◌, Some, refl, sym, ap, ◌∙◌, arith, length-append}
use Rattle.shelf.proofs.Sizes.{found_none, found-some}
use Rattle.shelf.proofs.Walks.{start, within-found, on, over, counted, not-counted}
use Rattle.shelf.proofs.frames.count.Goals as goal

pub loop-z-init : goal.loop-z-init
loop-z-init c = record { done = _; walk = start c.args.term.now; is = refl }

pub overflow_add-at : goal.overflow_add-at
overflow_add-at c =
    omega (arith, within-found c.args.term.now c.loop-z.at c.in-Some.z c.in-Some.ensures c.loop-z.invariant.walk.inside)

pub overflow_sub-bodies : goal.overflow_sub-bodies
overflow_sub-bodies c =
    (within-found c.args.term.now c.loop-z.at c.in-Some.z c.in-Some.ensures c.loop-z.invariant.walk.inside).0

pub overflow_add-bodies : goal.overflow_add-bodies
overflow_add-bodies c =
    omega (arith, c.loop-z.invariant.is, within-found c.args.term.now c.loop-z.at c.in-Some.z c.in-Some.ensures c.loop-z.invariant.walk.inside)

pub loop-z-smaller : goal.loop-z-smaller
loop-z-smaller c =
    omega (arith, within-found c.args.term.now c.loop-z.at c.in-Some.z c.in-Some.ensures c.loop-z.invariant.walk.inside)

pub loop-z-preserved : goal.loop-z-preserved
loop-z-preserved c =
    let t = c.args.term.now in
    let z = c.in-Some.z in
    let i = c.loop-z.invariant in
    let f = found-some _ _ c.in-Some.ensures in
    record {
      done = _;
      walk = on t c.loop-z.at z f.0 f.1 i.done i.walk;
      is = omega (arith, i.is, within-found t c.loop-z.at z c.in-Some.ensures i.walk.inside, length-append i.done (take z (drop c.loop-z.at t) ∷ []));
    }

pub returns-then-at-term : goal.returns-then-at-term
returns-then-at-term c =
    let t = c.args.term.now in
    let i = c.loop-z.invariant in
    not-counted t c.loop-z.at i.done i.walk (over t c.loop-z.at i.done i.walk (found_none _ (sym c.size.ensures ∙ c.in_default.is))) c.if-at-term.true

pub returns : goal.returns
returns c =
    let t = c.args.term.now in
    let i = c.loop-z.invariant in
    let e : (c.loop-z.at - c.loop-z.bodies) / 32 ≡ length i.done = omega (arith, i.is) in
    ap Some e ∙ counted t c.loop-z.at i.done i.walk (over t c.loop-z.at i.done i.walk (found_none _ (sym c.size.ensures ∙ c.in_default.is))) c.if-at-term.false
