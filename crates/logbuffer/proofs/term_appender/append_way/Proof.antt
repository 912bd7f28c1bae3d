-- Row 1, and then the parts' promises, joined by one law over the numbers that the code has.
use Rattle.std.proofs.Common.{◌≡◌, true, length, sym, ap, ◌∙◌, subst, arith, to_z-of_z, w64, of_z, rules}
use borrow.Author.Tests.{not-true, not-false}
use Rattle.model.proofs.Cut.{need-small}
use Rattle.model.proofs.Append.{Room, course-room}
use Rattle.logbuffer.specs.Ways.{good_append}
use Rattle.logbuffer.proofs.Ways.{Goods, append-true, course-good, way_no, way-is}
use Rattle.logbuffer.proofs.term_appender.append_way.Statement.{statement}
use Rattle.logbuffer.proofs.term_appender.append_way.Tie as tie

yes-good : (c : tie.Else-not-good_append) → (let a = c.args in good_append a.numbers a.partition a.payload_limit (length a.message.now) ≡ true)
yes-good c = sym c.good_append.ensures ∙ not-false _ c.if-not-good_append.false-raw

good : (c : tie.Else-not-good_append) → (let a = c.args in Goods a.numbers a.partition a.payload_limit (length a.message.now))
good c = append-true _ _ _ _ (yes-good c)

returns : tie.Need-returns-then-not-good_append
returns c =
    let q = c in
    let a = q.args in
    let no = way_no a.numbers (length a.log.now) a.partition a.payload_limit (length a.message.now) a.term_id (sym q.good_append.ensures ∙ not-true _ q.if-not-good_append.true-raw) _ _ _ in
    (c.refused.ensures ∙ no.0, no.1)

need-of-requires : tie.Need-need_of-needed-requires
need-of-requires c κs = let g = good c in (g.low, (g.multiple, (g.high, g.whole)))

append-requires : tie.Need-append-course-requires
append-requires c κs = let g = good c.before.before.before in
    let a = c.args in
    let e = c.need_of-needed.ensures in
    (g.part, (g.id-in, (g.low, (g.multiple, (omega (arith, need-small a.payload_limit (length a.message.now) g.low g.multiple, e, g.whole), e)))))

way-by-requires : tie.Need-way_by-requires
way-by-requires c κs = let a = c.args in
    ((good c.before.before.before.before.before.before).id-in, subst (Room a.numbers c.need_of-needed.result) (sym c.append-course.ensures.0) (course-room _ _ _ _))

returns-2 : tie.Need-returns
returns-2 c = let s = c in
    let a = s.args in
    let d = c in
    way-is a.numbers a.partition a.payload_limit a.term_id d.long-bits.result _ d.need_of-needed.result a.log.now d.append-course.new.log a.message.now d.append-course.result c.way_by.result
    (course-good _ _ _ _ _ _ (yes-good c.before.before.before.before.before.before.before)) d.need_of-needed.ensures (d.long-bits.ensures.0 ∙ ap (of_z w64) (to_z-of_z s.ranges.reserved_value)) d.append-course.ensures.0 c.way_by.ensures d.append-course.ensures.1

pub append_way_spec : {M : Type 1} → statement M
append_way_spec =
    tie.close
    (tie.spec
    (search rules)
    (search rules)
    returns
    need-of-requires
    (search rules)
    append-requires
    way-by-requires
    (search rules)
    returns-2)
