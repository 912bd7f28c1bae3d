-- The record that would be made is judged.
use Rattle.publication.proofs.Numbers.{change-no, change-done}
use Rattle.model.specs.LogBufferDescriptor.{sound_record}
use borrow.Author.Tests.{not-true, not-false}
use mathlib.Core.Path.{sym, ap, ◌∙◌}
use borrow.Author.Rules.{rules}
use Rattle.publication.proofs.positions.change.Statement.{statement}
use Rattle.publication.proofs.positions.change.Tie as tie

returns : tie.Need-returns-then-not-is_sound_record
returns c = change-no _ _ (ap sound_record (sym c.read_active-v.ensures) ∙ sym c.is_sound_record.ensures ∙ not-true _ c.if-not-is_sound_record.true-raw)

returns-2 : tie.Need-returns
returns-2 c = change-done _ _ (ap sound_record (sym c.read_active-v.ensures) ∙ sym c.is_sound_record.ensures ∙ not-false _ c.if-not-is_sound_record.false-raw)

pub change_spec : {M : Type 1} → statement M
change_spec = tie.close (tie.spec (search rules) (search rules) returns returns-2)
