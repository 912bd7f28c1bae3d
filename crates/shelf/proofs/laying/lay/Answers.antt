-- Each frame is scattered and copied; as many as are counted are all.
use Rattle.std.proofs.Common.{sym, ◌∙◌, arith}
use Rattle.shelf.proofs.Sizes.{found-some, is-found}
use Rattle.shelf.proofs.Scatters.{frames-start, frame_left, coming, frames-on, frames-end}
use Rattle.shelf.proofs.Calls.{lay-room, lay-full}
use Rattle.shelf.proofs.laying.lay.Goals as goal

pub put_count-requires : goal.put_count-requires
put_count-requires c = let r = lay-room c.args.term.now c.requires.filled in (omega arith, omega arith)

pub overflow_mul-to : goal.overflow_mul-to
overflow_mul-to c = omega (arith, lay-room c.args.term.now c.requires.filled)

pub overflow_add-to : goal.overflow_add-to
overflow_add-to c = omega (arith, lay-room c.args.term.now c.requires.filled)

pub loop-k-init : goal.loop-k-init
loop-k-init c = frames-start c.args.term.now c.args.n c.put_count.new.out

pub unwrap-z-requires : goal.unwrap-z-requires
unwrap-z-requires c =
    let t = c.args.term.now in
    let o = c.put_count.new.out in
    let l = c.loop-k in
    is-found _ c.size.ensures (frame_left t c.args.n o l.out l.at l.k l.to c.requires.count l.invariant (omega arith))

pub scatter-requires : goal.scatter-requires
scatter-requires c =
    let t = c.args.term.now in
    let o = c.put_count.new.out in
    let l = c.loop-k in
    let f = found-some _ _ (sym c.unwrap-z.ensures ∙ c.size.ensures) in
    let r = lay-full t c.args.out.now o c.args.n c.requires.filled c.requires.count c.requires.out_length c.put_count.ensures in
    let x = coming t c.args.n o l.out l.at l.k l.to c.unwrap-z.result f.0 f.1 c.requires.count (omega (arith, r)) l.invariant in
    (omega arith, (omega arith, omega arith))

pub overflow_sub-body : goal.overflow_sub-body
overflow_sub-body c =
    let t = c.args.term.now in
    let o = c.put_count.new.out in
    let l = c.loop-k in
    let f = found-some _ _ (sym c.unwrap-z.ensures ∙ c.size.ensures) in
    let r = lay-full t c.args.out.now o c.args.n c.requires.filled c.requires.count c.requires.out_length c.put_count.ensures in
    let x = coming t c.args.n o l.out l.at l.k l.to c.unwrap-z.result f.0 f.1 c.requires.count (omega (arith, r)) l.invariant in
    x.low

pub copy-requires : goal.copy-requires
copy-requires c =
    let t = c.args.term.now in
    let o = c.put_count.new.out in
    let l = c.loop-k in
    let f = found-some _ _ (sym c.unwrap-z.ensures ∙ c.size.ensures) in
    let r = lay-full t c.args.out.now o c.args.n c.requires.filled c.requires.count c.requires.out_length c.put_count.ensures in
    let x = coming t c.args.n o l.out l.at l.k l.to c.unwrap-z.result f.0 f.1 c.requires.count (omega (arith, r)) l.invariant in
    (omega arith, omega arith)

pub overflow_add-to-in-loop-k : goal.overflow_add-to-in-loop-k
overflow_add-to-in-loop-k c =
    let t = c.args.term.now in
    let o = c.put_count.new.out in
    let l = c.loop-k in
    let f = found-some _ _ (sym c.unwrap-z.ensures ∙ c.size.ensures) in
    let r = lay-full t c.args.out.now o c.args.n c.requires.filled c.requires.count c.requires.out_length c.put_count.ensures in
    let x = coming t c.args.n o l.out l.at l.k l.to c.unwrap-z.result f.0 f.1 c.requires.count (omega (arith, r)) l.invariant in
    omega arith

pub overflow_add-at-in-loop-k : goal.overflow_add-at-in-loop-k
overflow_add-at-in-loop-k c =
    let t = c.args.term.now in
    let o = c.put_count.new.out in
    let l = c.loop-k in
    let f = found-some _ _ (sym c.unwrap-z.ensures ∙ c.size.ensures) in
    let r = lay-full t c.args.out.now o c.args.n c.requires.filled c.requires.count c.requires.out_length c.put_count.ensures in
    let x = coming t c.args.n o l.out l.at l.k l.to c.unwrap-z.result f.0 f.1 c.requires.count (omega (arith, r)) l.invariant in
    omega arith

pub loop-k-preserved : goal.loop-k-preserved
loop-k-preserved c =
    let t = c.args.term.now in
    let o = c.put_count.new.out in
    let l = c.loop-k in
    let f = found-some _ _ (sym c.unwrap-z.ensures ∙ c.size.ensures) in
    let r = lay-full t c.args.out.now o c.args.n c.requires.filled c.requires.count c.requires.out_length c.put_count.ensures in
    let n = frames-on t c.args.n o l.out l.at l.k l.to c.unwrap-z.result f.0 f.1 c.requires.count (omega (arith, r)) l.invariant _ c.scatter.ensures in
    rw (sym c.copy.ensures) at n

pub returns : goal.returns
returns c =
    let t = c.args.term.now in
    let o = c.put_count.new.out in
    let l = c.loop-k in
    let r = lay-full t c.args.out.now o c.args.n c.requires.filled c.requires.count c.requires.out_length c.put_count.ensures in
    let g = rw c.put_count.ensures at l.invariant in
    frames-end t c.args.out.now l.out c.args.n l.at l.k l.to (omega arith) c.requires.count (l.invariant.same ∙ r) g
