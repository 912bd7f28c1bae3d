-- Row 1, and then the parts' promises, joined by one law over the numbers that the code has.
use Rattle.std.proofs.Common.{◌≡◌, ◌<◌, ◌≤◌, true, length, sym, ◌∙◌, subst, arith, rules}
use borrow.Author.Tests.{not-true, not-false}
use Rattle.model.specs.FrameDescriptor.{space}
use Rattle.model.proofs.Append.{Room, course-room}
use Rattle.logbuffer.specs.Ways.{good_claiming}
use Rattle.logbuffer.proofs.Ways.{claiming-true, claim-good, claim-no, claim-way-is}
use Rattle.logbuffer.proofs.term_appender.claim_way.Statement.{statement}
use Rattle.logbuffer.proofs.term_appender.claim_way.Tie as tie

yes-good : (c : tie.Else-not-good_claiming) → (let a = c.args in good_claiming a.numbers a.partition a.body_length ≡ true)
yes-good c = sym c.good_claiming.ensures ∙ not-false _ c.if-not-good_claiming.false-raw

good : (c : tie.Else-not-good_claiming) → (let a = c.args in (a.partition ≤ 2) × ((a.numbers.id < 4294967296) × (a.body_length ≤ 2147483647)))
good c = let a = c.args in claiming-true a.numbers a.partition a.body_length (yes-good c)

returns : tie.Need-returns-then-not-good_claiming
returns c =
    let q = c in
    let a = q.args in
    let no = claim-no a.numbers (length a.log.now) a.partition a.body_length a.term_id (sym q.good_claiming.ensures ∙ not-true _ q.if-not-good_claiming.true-raw) _ _ in
    (c.refused.ensures ∙ no.0, no.1)

claim-frame-requires : tie.Need-claim_frame-course-requires
claim-frame-requires c κs = good c.before

way-by-requires : tie.Need-way_by-requires
way-by-requires c κs = let a = c.args in
    ((good c.before.before.before.before).1.0, subst (Room a.numbers (space a.body_length)) (sym c.claim_frame-course.ensures.0) (course-room _ _ _ _))

returns-2 : tie.Need-returns
returns-2 c = let a = c.args in
    let d = c in
    claim-way-is a.numbers a.partition a.body_length a.term_id a.log.now d.claim_frame-course.new.log d.claim_frame-course.result c.way_by.result
    (claim-good _ _ _ _ _ (yes-good c.before.before.before.before.before)) d.claim_frame-course.ensures.0 c.way_by.ensures d.claim_frame-course.ensures.1

pub claim_way_spec : {M : Type 1} → statement M
claim_way_spec =
    tie.close
    (tie.spec
    (search rules)
    (search rules)
    returns
    claim-frame-requires
    (λ c. omega (arith, good c.before.before.before.before))
    (λ c. omega (arith, good c.before.before.before.before))
    (λ c. omega (arith, good c.before.before.before.before))
    way-by-requires
    (search rules)
    returns-2)
