-- Each answer of the frame length reader.
use Rattle.std.proofs.Common.{◌≡◌, false, drop, sym, ap, ◌∙◌, rules}
use Rattle.model.specs.FrameDescriptor.{length_at}
use Rattle.model.proofs.FrameLaws.{is_free, free-word}
use Rattle.logbuffer.proofs.frame_descriptor.is_free.Goals as goal

pub returns-in-Free : goal.returns-in-Free
returns-in-Free c = sym (ap is_free c.in-Free.is) ∙ ap is_free c.length_at.ensures ∙ free-word _

pub returns-in_default : goal.returns-in_default
returns-in_default c = let h : false ≡ is_free (length_at (drop c.args.at c.args.log.now)) = search rules in h ∙ free-word _
