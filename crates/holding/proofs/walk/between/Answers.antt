-- The law for a turn and the law for the end do the rest.
use Rattle.std.proofs.Common.{◌≡◌, ℕ, ◌+◌, ◌^◌, ◌≤◌, min, true, false, length, drop, sym, refl, ap, ◌∙◌, ap₂, arith}
use Rattle.model.specs.Bytes.{word}
use Rattle.model.proofs.FrameLaws.{length_of}
use Rattle.tally.specs.declared.step.Met.{Met}
use Rattle.tally.specs.declared.step.Spot.{Spot}
use Rattle.tally.specs.Walk.{stream_by, place_at, bytes_at, size, met}
use Rattle.tally.proofs.Steps.{Stepped, stepped}
use Rattle.holding.specs.declared.walk.Walked.{Walked}
use Rattle.holding.specs.Within.{Laid}
use Rattle.holding.proofs.Same.{same-laid}
use Rattle.holding.proofs.Latest.{none-noted}
use Rattle.holding.proofs.Turning.{begins, ended, turned_by, place_inside}
use Rattle.holding.proofs.walk.between.Goals as goal
use Rattle.holding.proofs.walk.between.Goals.{After-meet-met, Else-n-eq0, After-locate-index}

-- what is met
sized : (c : After-meet-met) → let s = c.args.stream in c.meet-met.result.size ≡ size (met (stream_by s.bits (word s.initial) s.log.now) c.args.to c.loop-run.p)
sized c = ap (λ (m : Met). m.size) c.meet-met.ensures

framed : (c : After-meet-met) → let s = c.args.stream in c.meet-met.result.frame ≡ met (stream_by s.bits (word s.initial) s.log.now) c.args.to c.loop-run.p
framed c = ap (λ (m : Met). m.frame) c.meet-met.ensures

some : (c : Else-n-eq0) → let s = c.args.stream in size (met (stream_by s.bits (word s.initial) s.log.now) c.args.to c.loop-run.p) ≡ 0 → ⊥
some c z = c.if-n-eq0.false (ap (λ (m : Met). m.size) c.meet-met.ensures ∙ z)

-- where its bytes lie
bytes : (c : After-locate-index) → let s = c.args.stream in drop c.locate-index.result.index s.log.now ≡ bytes_at (stream_by s.bits (word s.initial) s.log.now) c.loop-run.p
unfolding stream_by
bytes c = ap (λ (x : Spot). drop x.index c.args.stream.log.now) c.locate-index.ensures

inside : (c : After-locate-index) → let s = c.args.stream in Stepped (stream_by s.bits (word s.initial) s.log.now) c.loop-run.p c.args.to
    → c.locate-index.result.index + length_of c.meet-met.result.frame ≤ length s.log.now
unfolding stream_by
inside c k =
    let s = c.args.stream in
    let p = c.loop-run.p in
    let x = met (stream_by s.bits (word s.initial) s.log.now) c.args.to p in
    let t = 2 ^ min s.bits 30 in
    let i : c.locate-index.result.index ≡ place_at t p = ap (λ (y : Spot). y.index) c.locate-index.ensures in
    let f : length_of c.meet-met.result.frame ≡ length_of x = ap (λ (m : Met). length_of m.frame) c.meet-met.ensures in
    omega (arith, i, f, place_inside t p (size x) (length_of x) (length s.log.now) k.inside k.fits c.requires)

pub loop-run-init : goal.loop-run-init
loop-run-init c =
    let a = c.args in
    let s = stream_by a.stream.bits (word a.stream.initial) a.stream.log.now in
    (begins s a.find a.from a.to _ (same-laid c.nothing-held.ensures none-noted), omega arith)

pub grow-run-requires : goal.grow-run-requires
grow-run-requires c =
    let at = goal.at.grow-run-requires c in
    let a = c.args in
    let s = stream_by a.stream.bits (word a.stream.initial) a.stream.log.now in
    let k = stepped s c.loop-run.p a.to (some at.Else-n-eq0) in
    (c.loop-run.invariant.1, (rw (framed at.After-meet-met) k.long, inside at.After-locate-index k))

pub overflow_add-p : goal.overflow_add-p
overflow_add-p c =
    let at = goal.at.overflow_add-p c in
    let a = c.args in
    let k = stepped (stream_by a.stream.bits (word a.stream.initial) a.stream.log.now) c.loop-run.p a.to (some at.Else-n-eq0) in
    omega (arith, sized at.After-meet-met, k.before)

pub loop-run-smaller-then-closes : goal.loop-run-smaller-then-closes
loop-run-smaller-then-closes c =
    let at = goal.at.loop-run-smaller-then-closes c in
    let a = c.args in
    let k = stepped (stream_by a.stream.bits (word a.stream.initial) a.stream.log.now) c.loop-run.p a.to (some at.Else-n-eq0) in
    omega (arith, sized at.After-meet-met, k.before, k.some)

pub loop-run-smaller : goal.loop-run-smaller
loop-run-smaller c =
    let at = goal.at.loop-run-smaller c in
    let a = c.args in
    let k = stepped (stream_by a.stream.bits (word a.stream.initial) a.stream.log.now) c.loop-run.p a.to (some at.Else-n-eq0) in
    omega (arith, sized at.After-meet-met, k.before, k.some)

pub loop-run-preserved-then-closes : goal.loop-run-preserved-then-closes
loop-run-preserved-then-closes c =
    let at = goal.at.loop-run-preserved-then-closes c in
    let a = c.args in
    let l = c.loop-run in
    let s = stream_by a.stream.bits (word a.stream.initial) a.stream.log.now in (
      turned_by s a.find a.from a.to _ _ l.p l.invariant.0 (some at.Else-n-eq0) true _ _ _ _ _ _ (bytes at.After-locate-index) (framed at.After-meet-met) (sized at.After-meet-met)
          (sym c.if-closes.true ∙ c.closes.ensures) c.grow-run.ensures.0 c.lay_run-held.ensures refl,
      omega arith,
    )

pub loop-run-preserved : goal.loop-run-preserved
loop-run-preserved c =
    let at = goal.at.loop-run-preserved c in
    let a = c.args in
    let l = c.loop-run in
    let s = stream_by a.stream.bits (word a.stream.initial) a.stream.log.now in (
      turned_by s a.find a.from a.to _ _ l.p l.invariant.0 (some at.Else-n-eq0) false _ _ _ _ _ _ (bytes at.After-locate-index) (framed at.After-meet-met) (sized at.After-meet-met)
          (sym c.if-closes.false ∙ c.closes.ensures) c.grow-run.ensures.0 refl refl,
      c.grow-run.ensures.1,
    )

pub returns : goal.returns
returns c =
    let a = c.args in
    let l = c.loop-run in
    let s = stream_by a.stream.bits (word a.stream.initial) a.stream.log.now in
    let k = ended s a.find a.from a.to _ _ l.p l.invariant.0 (sym (sized (goal.at.returns c).After-meet-met) ∙ c.if-n-eq0.true) in
    ap₂ (λ (x : Laid) (n : ℕ). made x n) k.0 k.1
  where
    made : Laid → ℕ → Walked
    made x n = record { held = x.held; note = x.note; end = n }
