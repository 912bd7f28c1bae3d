-- Each test that fails lays nothing; behind them the body is laid.
use Rattle.std.proofs.Common.{ℕ, Option, Some, ◌+◌, ◌*◌, ◌/◌, ◌≤◌, length, take, drop, sym, refl, ap, ◌∙◌, arith, rules, ltb-false, ltb-true}
use borrow.Author.Tests.{not-true, not-false}
use Rattle.model.specs.Bytes.{splice}
use Rattle.model.specs.FrameDescriptor.{ends}
use Rattle.logbuffer.specs.declared.fragment_assembler.Laid.{Laid}
use Rattle.logbuffer.proofs.Fragments.{lays-nowhere, lays-other, lays-empty, lays-long, lays-past, lays}
use Rattle.logbuffer.proofs.fragment_assembler.lay_fragment.Statement.{statement}
use Rattle.logbuffer.proofs.fragment_assembler.lay_fragment.Tie as tie

returns : tie.Need-returns-then-place-ge16
returns c =
    let a = c.args in lays-nowhere a.count a.place a.held a.flags a.body_length a.log.now a.buffer.now a.index (omega arith)

returns-2 : tie.Need-returns-then-not-joins
returns-2 c =
    let a = c.args in
    lays-other a.count a.place a.held a.flags a.body_length a.log.now a.buffer.now a.index (sym c.joins.ensures ∙ not-true _ c.if-not-joins.true-raw)

returns-3 : tie.Need-returns-then-body_length-eq0
returns-3 c =
    let a = c.args in lays-empty a.count a.place a.held a.flags a.body_length a.log.now a.buffer.now a.index c.if-body_length-eq0.true

returns-4 : tie.Need-returns-then-too_long
returns-4 c =
    let a = c.args in
    lays-long a.count a.place a.held a.flags a.body_length a.log.now a.buffer.now a.index
    (omega (arith, ltb-true (length a.buffer.now / 16) (c.behind-from.result + a.body_length) (sym c.too_long.ensures ∙ c.if-too_long.true), c.behind-from.ensures))

returns-5 : tie.Need-returns-then-index-size
returns-5 c =
    let a = c.args in lays-past a.count a.place a.held a.flags a.body_length a.log.now a.buffer.now a.index (omega arith)

returns-6 : tie.Need-returns-then-body_length-size
returns-6 c =
    let a = c.args in lays-past a.count a.place a.held a.flags a.body_length a.log.now a.buffer.now a.index (omega arith)

fits : (c : tie.Else-too_long) → c.behind-from.result + c.args.body_length ≤ length c.args.buffer.now / 16
fits c =
    ltb-false (length c.args.buffer.now / 16) (c.behind-from.result + c.args.body_length) (sym c.too_long.ensures ∙ c.if-too_long.false)

append-requires : tie.Need-append-requires
append-requires c κs = (refl, (omega arith, (fits c.before.before.before, omega arith)))

add-t14 : tie.Need-overflow_add-result
add-t14 c = record { fits = omega (arith, fits c.before.before.before.before.before.before, c.well_formed) }

returns-7 : tie.Need-returns
returns-7 c =
    let a = c.args in
    let e = c.behind-from.ensures in
    lays a.count a.place a.held a.flags a.body_length a.log.now a.buffer.now a.index (omega arith)
    (sym c.joins.ensures ∙ not-false _ c.if-not-joins.false-raw) (omega (arith, c.if-body_length-eq0.false)) (omega (arith, e, fits c.before.before.before.before.before.before)) (omega arith) _ c.append.new.buffer
    (ap {B = Option Laid} (λ (x : ℕ). Some (record { held = x + a.body_length; ends = ends a.flags })) e)
    (c.append.ensures ∙ ap (λ (x : ℕ). splice a.buffer.now (a.place * (length a.buffer.now / 16) + x) (take a.body_length (drop a.index a.log.now))) e)

pub lay_fragment_spec : {M : Type 1} → statement M
lay_fragment_spec =
    tie.close
    (tie.spec
    returns
    (search rules)
    returns-2
    returns-3
    (search rules)
    (search rules)
    returns-4
    returns-5
    returns-6
    append-requires
    add-t14
    (search rules)
    returns-7)
