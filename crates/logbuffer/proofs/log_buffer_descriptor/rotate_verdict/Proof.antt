-- The tests that were passed pick the verdict.
use Rattle.std.proofs.Common.{sym, ◌∙◌, rules}
use borrow.Author.Tests.{not-true, not-false}
use Rattle.model.proofs.Rotate.{rotate-argument, rotate-record, rotate-last, rotate-pass}
use Rattle.logbuffer.proofs.log_buffer_descriptor.rotate_verdict.Statement.{statement}
use Rattle.logbuffer.proofs.log_buffer_descriptor.rotate_verdict.Tie as tie

returns : tie.Need-returns-then-count-gt2147483647
returns c = rotate-argument _ _ c.if-count-gt2147483647.true

returns-2 : tie.Need-returns-then-not-is_sound_record
returns-2 c = rotate-record _ _ c.if-count-gt2147483647.false (sym c.is_sound_record.ensures ∙ not-true _ c.if-not-is_sound_record.true-raw)

returns-3 : tie.Need-returns-then-count-eq2147483647
returns-3 c = rotate-last _ _ c.if-count-gt2147483647.false (sym c.is_sound_record.ensures ∙ not-false _ c.if-not-is_sound_record.false-raw) c.if-count-eq2147483647.true

returns-4 : tie.Need-returns
returns-4 c = rotate-pass _ _ c.if-count-gt2147483647.false (sym c.is_sound_record.ensures ∙ not-false _ c.if-not-is_sound_record.false-raw) c.if-count-eq2147483647.false

pub rotate_verdict_spec : {M : Type 1} → statement M
rotate_verdict_spec =
    tie.close (tie.spec returns (search rules) returns-2 returns-3 returns-4)
