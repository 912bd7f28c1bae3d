-- The frame is finished, so no other answer comes.
use Rattle.std.proofs.Common.{sym, ◌∙◌}
use Rattle.model.proofs.FrameLaws.{finished-word}
use Rattle.logbuffer.proofs.frame_descriptor.finished_length.Goals as goal

pub returns : goal.returns
returns c = finished-word _ _ (sym c.length_at.ensures ∙ c.in-Finished.is)
