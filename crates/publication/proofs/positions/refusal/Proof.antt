-- The tests pick the case.
use Rattle.publication.proofs.Numbers.{number-2, number-5, number-last}
use borrow.Author.Tests.{not-true, not-false}
use mathlib.Core.Path.{sym, ◌∙◌}
use borrow.Author.Rules.{rules}
use Rattle.publication.proofs.positions.refusal.Statement.{statement}
use Rattle.publication.proofs.positions.refusal.Tie as tie

returns : tie.Need-returns-then-not-is_sound_record
returns c = number-2 _ (sym c.is_sound_record.ensures ∙ not-true _ c.if-not-is_sound_record.true-raw)

returns-2 : tie.Need-returns-then-v
returns-2 c = number-5 _ (sym c.is_sound_record.ensures ∙ not-false _ c.if-not-is_sound_record.false-raw) c.if-v.true

returns-3 : tie.Need-returns
returns-3 c = number-last _ (sym c.is_sound_record.ensures ∙ not-false _ c.if-not-is_sound_record.false-raw) c.if-v.false

pub refusal_spec : {M : Type 1} → statement M
refusal_spec = tie.close (tie.spec (search rules) returns returns-2 returns-3)
