-- The sign of the length, told by its bits.
use Rattle.std.proofs.Common.{ℕ, ◌-◌, ap, ◌∙◌, rules}
use Rattle.model.specs.declared.FrameLength.TheVariants.{Writing, Finished}
use Rattle.model.proofs.FrameLaws.{length-free, length-writing, length-finished}
use Rattle.logbuffer.proofs.Signs.{negative, not_negative}
use Rattle.logbuffer.proofs.Signed.{word-by}
use Rattle.logbuffer.proofs.frame_descriptor.frame_length.Statement.{statement}
use Rattle.logbuffer.proofs.frame_descriptor.frame_length.Tie as tie

returns : tie.Need-returns-then-length-eq0
returns c = length-free _ c.if-length-eq0.true

returns-2 : tie.Need-returns-then-length-lt0
returns-2 c = ap (λ (b : ℕ). Writing (4294967296 - b)) (word-by _ c.word-bits.ensures.0 c.ranges.length) ∙ length-writing _ (negative _ c.ranges.length c.if-length-lt0.true)

returns-3 : tie.Need-returns
returns-3 c = ap Finished (word-by _ c.word-bits.ensures.0 c.ranges.length) ∙ length-finished _ c.if-length-eq0.false (not_negative _ c.ranges.length c.if-length-lt0.false)

pub frame_length_spec : {M : Type 1} → statement M
frame_length_spec = tie.close (tie.spec (search rules) returns (search rules) returns-2 returns-3)
