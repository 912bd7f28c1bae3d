-- The first test that fails decides.
use borrow.Author.Tests.{le-leb, lt-leb}
use Rattle.image.proofs.ladder.good_entries.Statement.{statement}
use Rattle.image.proofs.ladder.good_entries.Tie as tie

returns : tie.Need-returns-then-slots-gt2147483647
returns c = let a = c.args in rw (lt-leb a.slots 2147483647 c.if-slots-gt2147483647.true)

returns-2 : tie.Need-returns
returns-2 c = let a = c.args in rw (le-leb a.slots 2147483647 c.if-slots-gt2147483647.false)

pub good_entries_spec : {M : Type 1} → statement M
good_entries_spec = tie.close (tie.spec returns returns-2)
