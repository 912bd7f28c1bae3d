-- Each header that was accepted has a size where it was put, and the body behind it.
use Rattle.std.proofs.Common.{refl, sym, ◌∙◌, arith}
use Rattle.shelf.proofs.Sizes.{is-found}
use Rattle.shelf.proofs.Calls.{accepted-long, take-start, next, take-kept, take-size, next-found, take_on, take-end}
use Rattle.shelf.proofs.taking.take_down.Goals as goal

pub count_on-n-requires : goal.count_on-n-requires
count_on-n-requires c = omega (arith, accepted-long _ c.args.shelf.now c.requires)

pub loop-k-init : goal.loop-k-init
loop-k-init c = take-start c.args.shelf.now c.count_on-n.result c.args.out.now c.count_on-n.ensures.0 c.requires

pub gather-requires : goal.gather-requires
gather-requires c =
    let a = c.args in
    let n = c.count_on-n.result in
    let l = c.loop-k in
    let p = accepted-long _ a.shelf.now c.requires in
    let x = next a.shelf.now n a.out.now l.out l.k l.at l.from l.invariant (omega arith) in
    (omega arith, (omega (arith, c.count_on-n.ensures.0), omega (arith, x.low, x.high)))

pub unwrap-z-requires : goal.unwrap-z-requires
unwrap-z-requires c =
    let a = c.args in
    let n = c.count_on-n.result in
    let l = c.loop-k in
    let q = take-size a.shelf.now n a.out.now l.out l.k l.at l.from l.invariant (omega arith) _ _ c.gather.ensures refl in
    let x = next a.shelf.now n a.out.now l.out l.k l.at l.from l.invariant (omega arith) in
    is-found _ c.size.ensures (omega (arith, q, x.low))

pub overflow_sub-body : goal.overflow_sub-body
overflow_sub-body c =
    let a = c.args in
    let n = c.count_on-n.result in
    let l = c.loop-k in
    let x = (next-found a.shelf.now n a.out.now l.out l.k l.at l.from l.invariant (omega arith) _ c.unwrap-z.result c.gather.ensures (sym c.unwrap-z.ensures ∙ c.size.ensures)).1 in
    x.low

pub copy-requires : goal.copy-requires
copy-requires c =
    let a = c.args in
    let n = c.count_on-n.result in
    let l = c.loop-k in
    let x = (next-found a.shelf.now n a.out.now l.out l.k l.at l.from l.invariant (omega arith) _ c.unwrap-z.result c.gather.ensures (sym c.unwrap-z.ensures ∙ c.size.ensures)).1 in
    let k = take-kept a.shelf.now n a.out.now l.out l.k l.at l.from l.invariant (omega arith) _ c.gather.ensures in
    (omega (arith, x.low, x.high, k), x.body)

pub overflow_add-from-in-loop-k : goal.overflow_add-from-in-loop-k
overflow_add-from-in-loop-k c =
    let a = c.args in
    let n = c.count_on-n.result in
    let l = c.loop-k in
    let x = (next-found a.shelf.now n a.out.now l.out l.k l.at l.from l.invariant (omega arith) _ c.unwrap-z.result c.gather.ensures (sym c.unwrap-z.ensures ∙ c.size.ensures)).1 in
    omega (arith, x.body)

pub overflow_add-at-in-loop-k : goal.overflow_add-at-in-loop-k
overflow_add-at-in-loop-k c =
    let a = c.args in
    let n = c.count_on-n.result in
    let l = c.loop-k in
    let x = (next-found a.shelf.now n a.out.now l.out l.k l.at l.from l.invariant (omega arith) _ c.unwrap-z.result c.gather.ensures (sym c.unwrap-z.ensures ∙ c.size.ensures)).1 in
    omega (arith, x.high)

pub loop-k-preserved : goal.loop-k-preserved
loop-k-preserved c =
    let a = c.args in
    let n = c.count_on-n.result in
    let l = c.loop-k in
    let x = next-found a.shelf.now n a.out.now l.out l.k l.at l.from l.invariant (omega arith) _ c.unwrap-z.result c.gather.ensures (sym c.unwrap-z.ensures ∙ c.size.ensures) in
    let t = take_on a.shelf.now n a.out.now l.out l.k l.at l.from l.invariant c.unwrap-z.result x.0 (omega arith) in
    rw (sym c.gather.ensures, sym c.copy.ensures) at t

pub returns : goal.returns
returns c =
    let a = c.args in
    let n = c.count_on-n.result in
    let l = c.loop-k in
    take-end a.shelf.now n a.out.now l.out l.k l.at l.from l.invariant (omega arith)
