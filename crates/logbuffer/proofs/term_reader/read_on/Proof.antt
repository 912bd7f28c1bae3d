-- Its numbers are judged, and the walk answers the rest.
use Rattle.std.specs.Prelude.{Result, ⊤}
use Rattle.model.specs.declared.Error.{Error}
use Rattle.std.proofs.Common.{◌≡◌, true, length, sym, ap, ◌∙◌, arith, rules}
use borrow.Author.Tests.{not-true, not-false}
use Rattle.model.specs.TermReader.{read_walk, read_from, frames_by, entries_by}
use Rattle.logbuffer.specs.Reads.{good_read_on}
use Rattle.logbuffer.proofs.ReadOn.{GoodReadOn, good-read-on, on-refused, on-walked}
use Rattle.logbuffer.proofs.term_reader.read_on.Statement.{statement}
use Rattle.logbuffer.proofs.term_reader.read_on.Tie as tie

passed : (c : tie.Else-not-good_read_on) → let a = c.args in good_read_on a.numbers (length a.log.now) a.partition a.offset a.fragment_limit (length a.entries.now) ≡ true
passed c = sym c.good_read_on.ensures ∙ not-false _ c.if-not-good_read_on.false-raw

good : (c : tie.Else-not-good_read_on) → let a = c.args in GoodReadOn a.numbers (length a.log.now) a.partition a.offset a.fragment_limit (length a.entries.now)
good c = good-read-on _ _ _ _ _ _ (passed c)

returns : tie.Need-returns-then-not-good_read_on
returns c =
    let a = c.args in
    on-refused a.numbers a.log.now a.partition a.offset a.fragment_limit a.entries.now (sym c.good_read_on.ensures ∙ not-true _ c.if-not-good_read_on.true-raw)

mul-walk-term : tie.Need-overflow_mul-partition
mul-walk-term c = record { fits = omega (arith, (good c).inside, c.well_formed) }

walk-term-requires : tie.Need-walk_term-requires
walk-term-requires c κs = let g = good c.before in (g.inside, (g.so.term-high, (g.term-32, (g.at-32, omega (arith, g.room)))))

returns-2 : tie.Need-returns
returns-2 c =
    let q = c in
    let a = q.args in
    let w = read_walk a.numbers a.log.now a.partition a.offset a.fragment_limit in
    let e = on-walked a.numbers a.log.now a.partition a.offset a.fragment_limit a.entries.now (passed c.before.before.before) in
    (c.walk_term.ensures.0 ∙ ap (λ (x : Result ⊤ Error). read_from a.offset (frames_by w x)) e, c.walk_term.ensures.1 ∙ ap (entries_by a.entries.now w) e)

pub read_on_spec : {M : Type 1} → statement M
read_on_spec =
    tie.close
    (tie.spec (search rules) returns mul-walk-term walk-term-requires (search rules) returns-2)
