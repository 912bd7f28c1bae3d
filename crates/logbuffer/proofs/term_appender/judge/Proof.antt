-- The tests that were passed pick the way.
use Rattle.std.proofs.Common.{◌≡◌, true, sym, ◌∙◌, arith, rules}
use borrow.Author.Tests.{not-true, not-false}
use Rattle.model.specs.LogBufferDescriptor.{sound}
use Rattle.model.proofs.Append.{course-unsound, course-over, course-stray, course-trip, course-fit}
use Rattle.model.proofs.Sound.{sound-true}
use Rattle.logbuffer.proofs.term_appender.judge.Statement.{statement}
use Rattle.logbuffer.proofs.term_appender.judge.Tie as tie

is-so : (c : tie.Else-not-is_sound) → sound c.args.v c.args.n ≡ true
is-so c = sym c.is_sound.ensures ∙ not-false _ c.if-not-is_sound.false-raw

returns : tie.Need-returns-then-not-is_sound
returns c = course-unsound _ _ _ _ (sym c.is_sound.ensures ∙ not-true _ c.if-not-is_sound.true-raw)

add-end : tie.Need-overflow_add-end
add-end c = omega (arith, sound-true _ _ (is-so c.before))

returns-2 : tie.Need-returns-then-end-gt2147483647
returns-2 c = course-over _ _ _ _ (is-so c.before.before) c.if-end-gt2147483647.true

returns-3 : tie.Need-returns-then-v-given
returns-3 c = course-stray _ _ _ _ (is-so c.before.before.before.before) c.if-end-gt2147483647.false c.if-v-given.true

returns-4 : tie.Need-returns-then-end-v
returns-4 c = course-trip _ _ _ _ (is-so c.before.before.before.before.before.before) c.if-end-gt2147483647.false c.if-v-given.false c.if-end-v.true

returns-5 : tie.Need-returns
returns-5 c = course-fit _ _ _ _ (is-so c.before.before.before.before.before.before) c.if-end-gt2147483647.false c.if-v-given.false c.if-end-v.false

pub judge_spec : {M : Type 1} → statement M
judge_spec =
    tie.close (tie.spec (search rules) returns add-end returns-2 returns-3 returns-4 returns-5)
