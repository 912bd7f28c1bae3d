-- The first test that fails decides.
use mathlib.Core.Path.{sym, ◌∙◌}
use borrow.Author.Tests.{not-true, not-false}
use borrow.Author.Rules.{rules}
use Rattle.image.proofs.ladder.good_control.Statement.{statement}
use Rattle.image.proofs.ladder.good_control.Tie as tie

returns : tie.Need-returns-then-not-good_entries
returns c = rw (sym c.good_entries.ensures ∙ not-true _ c.if-not-good_entries.true-raw)

returns-2 : tie.Need-returns
returns-2 c = rw (sym c.good_entries.ensures ∙ not-false _ c.if-not-good_entries.false-raw) c.good_control.ensures

pub good_control_spec : {M : Type 1} → statement M
good_control_spec = tie.close (tie.spec (search rules) returns (search rules) returns-2)
