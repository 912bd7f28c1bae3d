-- A test that fails settles the conjunction; an offset of 31 bits makes no sum too large.
use Rattle.std.proofs.Common.{rules, eq-eqb, ne_eqb, le-leb}
use borrow.Author.Tests.{lt-leb}
use Rattle.logbuffer.specs.Ways.{has_room}
use Rattle.logbuffer.proofs.term_appender.has_room.Statement.{statement}
use Rattle.logbuffer.proofs.term_appender.has_room.Tie as tie

returns : tie.Need-returns-then-v-gt2147483647
unfolding has_room
returns c = simp (lt-leb _ _ c.if-v-gt2147483647.true)

returns-2 : tie.Need-returns-then-v-gt-TERM_MAX_LENGTH
unfolding has_room
returns-2 c = simp (le-leb _ _ c.if-v-gt2147483647.false, lt-leb _ _ c.if-v-gt-TERM_MAX_LENGTH.true)

returns-3 : tie.Need-returns-then-n-v
unfolding has_room
returns-3 c = simp (le-leb _ _ c.if-v-gt2147483647.false, le-leb _ _ c.if-v-gt-TERM_MAX_LENGTH.false, ne_eqb _ _ c.if-n-v.true)

returns-4 : tie.Need-returns
unfolding has_room
returns-4 c = simp (le-leb _ _ c.if-v-gt2147483647.false, le-leb _ _ c.if-v-gt-TERM_MAX_LENGTH.false, eq-eqb _ _ c.if-n-v.false)

pub has_room_spec : {M : Type 1} → statement M
has_room_spec =
    tie.close
    (tie.spec
    returns
    returns-2
    (search rules)
    returns-3
    (search rules)
    returns-4)
