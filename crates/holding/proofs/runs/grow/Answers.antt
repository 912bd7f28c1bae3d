-- By the begin flag and the run before it.
use Rattle.std.proofs.Common.{◌≡◌, ℕ, ◌/◌, ◌%◌, Option, eqb, true, false, drop, sym, ap, ◌∙◌}
use borrow.Author.Tests.{eq-eqb, ne_eqb}
use Rattle.model.specs.FrameDescriptor.{flags_at, begins}
use Rattle.holding.specs.Within.{run_in}
use Rattle.holding.proofs.Capped.{begun, gone-on}
use Rattle.holding.proofs.runs.grow.Goals as goal

pub returns-then-flags_at-eq1 : goal.returns-then-flags_at-eq1
returns-then-flags_at-eq1 c =
    let a = c.args in
    let f : begins (flags_at (drop a.index a.log.now)) ≡ true = sym (ap (λ (x : ℕ). eqb (x / 128 % 2) 1) c.flags_at.ensures) ∙ eq-eqb _ _ c.if-flags_at-eq1.true in
    (c.join.ensures.0 ∙ begun a.log.now a.index c.in-Data.length a.frame _ c.in-Data.is f, c.join.ensures.1)

pub returns : goal.returns
returns c =
    let a = c.args in
    let f : begins (flags_at (drop a.index a.log.now)) ≡ false = sym (ap (λ (x : ℕ). eqb (x / 128 % 2) 1) c.flags_at.ensures) ∙ ne_eqb _ _ c.if-flags_at-eq1.false in
    (c.join-2.ensures.0 ∙ gone-on a.log.now a.index c.in-Data.length a.frame _ c.in-Data.is f _ (ap (λ (x : Option ℕ). run_in x a.buffer.now) c.in_ok-run.was), c.join-2.ensures.1)
