-- Row 1, and then the parts' promises, joined by one law over the numbers that the code has.
use Rattle.std.proofs.Common.{◌≡◌, ◌<◌, ◌≤◌, true, length, sym, ◌∙◌, subst, arith, rules}
use borrow.Author.Tests.{not-true, not-false}
use Rattle.model.specs.FrameDescriptor.{space}
use Rattle.model.proofs.Append.{Room, course-room}
use Rattle.logbuffer.specs.Ways.{good_claiming}
use Rattle.logbuffer.proofs.Signed.{long-by}
use Rattle.logbuffer.proofs.Ways.{claiming-true, claim-good, claim-no, one-way-is}
use Rattle.logbuffer.proofs.term_appender.append_one.Statement.{statement}
use Rattle.logbuffer.proofs.term_appender.append_one.Tie as tie

yes-good : (c : tie.Else-not-good_claiming) → (let a = c.args in good_claiming a.numbers a.partition (length a.message.now) ≡ true)
yes-good c = sym c.good_claiming.ensures ∙ not-false _ c.if-not-good_claiming.false-raw

good : (c : tie.Else-not-good_claiming) → (let a = c.args in (a.partition ≤ 2) × ((a.numbers.id < 4294967296) × (length a.message.now ≤ 2147483647)))
good c = let a = c.args in claiming-true a.numbers a.partition (length a.message.now) (yes-good c)

returns : tie.Need-returns-then-not-good_claiming
returns c =
    let q = c in
    let a = q.args in
    let no = claim-no a.numbers (length a.log.now) a.partition (length a.message.now) a.term_id (sym q.good_claiming.ensures ∙ not-true _ q.if-not-good_claiming.true-raw) _ _ in
    (c.refused.ensures ∙ no.0, no.1)

one-frame-requires : tie.Need-one_frame-course-requires
one-frame-requires c κs = good c.before.before

way-by-requires : tie.Need-way_by-requires
way-by-requires c κs = let a = c.args in
    ((good c.before.before.before.before.before).1.0, subst (Room a.numbers (space (length a.message.now))) (sym c.one_frame-course.ensures.0) (course-room _ _ _ _))

returns-2 : tie.Need-returns
returns-2 c = let s = c in
    let a = s.args in
    let d = c in
    one-way-is a.numbers a.partition a.term_id _ _ a.log.now d.one_frame-course.new.log a.message.now d.one_frame-course.result c.way_by.result
    (claim-good _ _ _ _ _ (yes-good c.before.before.before.before.before.before)) (long-by a.reserved_value c.long-bits.ensures.0 s.ranges.reserved_value) d.one_frame-course.ensures.0 c.way_by.ensures d.one_frame-course.ensures.1

pub append_one_spec : {M : Type 1} → statement M
append_one_spec =
    tie.close
    (tie.spec
    (search rules)
    (search rules)
    returns
    (search rules)
    one-frame-requires
    (λ c. omega (arith, good c.before.before.before.before.before))
    (λ c. omega (arith, good c.before.before.before.before.before))
    (λ c. omega (arith, good c.before.before.before.before.before))
    way-by-requires
    (search rules)
    returns-2)
