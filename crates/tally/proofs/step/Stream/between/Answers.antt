-- The law for a turn and the law for the end do the rest.
use Rattle.std.proofs.Common.{◌≡◌, sym, ap, ◌∙◌, arith, rules}
use Rattle.model.specs.Bytes.{word}
use Rattle.tally.specs.declared.step.Met.{Met}
use Rattle.tally.specs.declared.Sums.{Sums}
use Rattle.tally.specs.Walk.{stream_by, size, met}
use Rattle.tally.specs.Tally.{plus, share, total}
use Rattle.tally.proofs.Adding.{shares}
use Rattle.tally.proofs.Steps.{Stepped, stepped}
use Rattle.tally.proofs.Turning.{ended, turned}
use Rattle.tally.proofs.step.Stream.between.Goals as goal
use Rattle.tally.proofs.step.Stream.between.Goals.{After-meet_at-met, Else-n-eq0, After-share}

-- what is met, by its size
sized : (c : After-meet_at-met) → let s = c.args.self in c.meet_at-met.result.size ≡ size (met (stream_by s.bits (word s.initial) s.log.now) c.args.to c.loop-at.p)
sized c = ap (λ (m : Met). m.size) c.meet_at-met.ensures

passes : (c : Else-n-eq0) → let s = c.args.self in Stepped (stream_by s.bits (word s.initial) s.log.now) c.loop-at.p c.args.to
passes c =
    let s = c.args.self in
    stepped (stream_by s.bits (word s.initial) s.log.now) c.loop-at.p c.args.to (λ z. c.if-n-eq0.false (ap (λ (m : Met). m.size) c.meet_at-met.ensures ∙ z))

-- what it adds is its size
adds : (c : After-share) → let s = c.args.self in c.share.result ≡ share (met (stream_by s.bits (word s.initial) s.log.now) c.args.to c.loop-at.p)
adds c = c.share.ensures ∙ ap (λ (m : Met). share m.frame) c.meet_at-met.ensures

pub share-requires : goal.share-requires
share-requires c = let k = passes (goal.at.share-requires c).Else-n-eq0 in rw c.meet_at-met.ensures (k.long, (k.fits, search rules))

pub plus-sums-requires : goal.plus-sums-requires
plus-sums-requires c =
    let at = goal.at.plus-sums-requires c in
    let s = c.args.self in
    let k = passes at.Else-n-eq0 in
    let e = ap (λ (a : Sums). total a) (adds at.After-share) in
    omega (arith, e, shares (met (stream_by s.bits (word s.initial) s.log.now) c.args.to c.loop-at.p) k.long, c.loop-at.invariant.0.so_far, k.before)

pub onward-at-requires : goal.onward-at-requires
onward-at-requires c =
    let at = goal.at.onward-at-requires c in
    (c.loop-at.invariant.1, omega (arith, sized at.After-meet_at-met, (passes at.Else-n-eq0).before))

pub overflow_add-p : goal.overflow_add-p
overflow_add-p c = let at = goal.at.overflow_add-p c in omega (arith, sized at.After-meet_at-met, (passes at.Else-n-eq0).before)

pub loop-at-smaller : goal.loop-at-smaller
loop-at-smaller c =
    let at = goal.at.loop-at-smaller c in
    let k = passes at.Else-n-eq0 in
    omega (arith, sized at.After-meet_at-met, k.before, k.some)

pub loop-at-preserved : goal.loop-at-preserved
loop-at-preserved c =
    let at = goal.at.loop-at-preserved c in
    let a = c.args in
    let s = stream_by a.self.bits (word a.self.initial) a.self.log.now in
    let l = c.loop-at in
    let z = sized at.After-meet_at-met in
    let e : c.plus-sums.result ≡ plus l.sums (share (met s a.to l.p)) = c.plus-sums.ensures ∙ ap (λ (x : Sums). plus l.sums x) (adds at.After-share) in
    (rw (e, z) (turned s a.from a.to l.sums l.p l.invariant.0 (λ n. c.if-n-eq0.false (z ∙ n))), c.onward-at.ensures)

pub returns : goal.returns
returns c =
    let a = c.args in
    let l = c.loop-at in
    let k = ended (stream_by a.self.bits (word a.self.initial) a.self.log.now) a.from a.to l.sums l.p l.invariant.0 (sym (sized (goal.at.returns c).After-meet_at-met) ∙ c.if-n-eq0.true) in
    cc (k.0, k.1)
