-- For a sound record the length of the log decides.
use Rattle.std.proofs.Common.{sym, ◌∙◌, arith, rules}
use borrow.Author.Tests.{not-true, not-false}
use Rattle.model.proofs.SoundRecord.{sound-length, unsound-length, sound-record-true}
use Rattle.logbuffer.proofs.log_buffer_descriptor.is_sound.Statement.{statement}
use Rattle.logbuffer.proofs.log_buffer_descriptor.is_sound.Tie as tie

returns : tie.Need-returns-then-not-is_sound_record
returns c = unsound-length _ _ (sym c.is_sound_record.ensures ∙ not-true _ c.if-not-is_sound_record.true-raw)

mul-result : tie.Need-overflow_mul-result
mul-result c = omega (arith, sound-record-true _ (sym c.is_sound_record.ensures ∙ not-false _ c.if-not-is_sound_record.false-raw))

returns-2 : tie.Need-returns
returns-2 c = sound-length _ _ (sym c.is_sound_record.ensures ∙ not-false _ c.if-not-is_sound_record.false-raw)

pub is_sound_spec : {M : Type 1} → statement M
is_sound_spec = tie.close (tie.spec (search rules) returns mul-result returns-2)
