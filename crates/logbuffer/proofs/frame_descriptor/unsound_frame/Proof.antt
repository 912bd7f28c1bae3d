-- By the test of the length.
use Rattle.model.proofs.FrameLaws.{refusal-short, refusal-long}
use Rattle.logbuffer.proofs.frame_descriptor.unsound_frame.Statement.{statement}
use Rattle.logbuffer.proofs.frame_descriptor.unsound_frame.Tie as tie

pub unsound_frame_spec : {M : Type 1} → statement M
unsound_frame_spec = tie.close (tie.spec (λ c. refusal-short _ _ c.if-length-lt-HEADER_LENGTH.true) (λ c. refusal-long _ _ c.if-length-lt-HEADER_LENGTH.false))
