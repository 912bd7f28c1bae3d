-- The loop keeps `Measuring` of model's GapLaws: the gap so far, and what is left of it from here.
use Rattle.std.proofs.Common.{◌+◌, ◌-◌, ◌≤◌, sym, ◌∙◌, arith, rules, eqb-true}
use borrow.Author.Tests.{eqb-false, not-true, not-false}
use Rattle.model.proofs.GapLaws.{Measuring}
use Rattle.model.proofs.GapLaws as laws
use Rattle.logbuffer.proofs.term_scan.gap_length.Statement.{statement}
use Rattle.logbuffer.proofs.term_scan.gap_length.Tie as tie

abbrev invariant-loop : tie.invariant-loop-gap
invariant-loop log base term high at gap₀ gap = (at + gap ≤ high) × Measuring log base term high at gap

abbrev decreases-loop : tie.decreases-loop-gap
decreases-loop log base term high at gap₀ gap = high - gap

loop-holds : tie.Need-loop-gap-init invariant-loop decreases-loop
loop-holds c = let a = c.args in (omega arith, laws.measure-start a.log.now a.base a.term a.high a.at (omega arith))

loop-again : tie.Need-loop-gap-preserved invariant-loop decreases-loop
loop-again c = (omega (arith, c.loop-gap.invariant.1.aligned), let l = c in let a = l.args in laws.measure-on a.log.now a.base a.term a.high a.at l.loop-gap.gap l.loop-gap.invariant.1 (omega arith) (eqb-true _ _ (sym c.is_free.ensures ∙ not-false _ c.if-not-is_free.false-raw)))

returns : tie.Need-returns-then-high-at invariant-loop decreases-loop
returns c =
    let l = c in
    let a = l.args in
    laws.measure-mark a.log.now a.base a.term a.high a.at l.loop-gap.gap l.loop-gap.invariant.1 c.if-high-at.true

returns-2 : tie.Need-returns-then-not-is_free invariant-loop decreases-loop
returns-2 c =
    let l = c in
    let a = l.args in
    laws.measure-word a.log.now a.base a.term a.high a.at l.loop-gap.gap l.loop-gap.invariant.1 (eqb-false _ _ (sym c.is_free.ensures ∙ not-true _ c.if-not-is_free.true-raw))

pub gap_length_spec : {M : Type 1} → statement M
gap_length_spec =
    tie.close
    (tie.spec
    invariant-loop
    decreases-loop
    loop-holds
    (λ c. omega arith)
    (λ c. omega arith)
    (λ c. omega arith)
    (search rules)
    (λ c. omega arith)
    (λ c. omega arith)
    loop-again
    returns
    returns-2)
