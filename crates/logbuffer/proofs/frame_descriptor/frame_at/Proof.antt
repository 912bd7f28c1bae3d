-- The length word's bits, made signed and taken as bits again, and the type.
use Rattle.std.proofs.Common.{rules}
use Rattle.logbuffer.proofs.Signs.{back32}
use Rattle.logbuffer.proofs.Inside.{frame_is}
use Rattle.logbuffer.proofs.frame_descriptor.frame_at.Statement.{statement}
use Rattle.logbuffer.proofs.frame_descriptor.frame_at.Tie as tie

returns : tie.Need-returns
returns c =
    frame_is _ _ _ _ _ c.frame_by.ensures (back32 _ _ _ c.to_i32.ensures c.length_word.ensures.0 c.length_word.ensures.1) c.frame_type.ensures

pub frame_at_spec : {M : Type 1} → statement M
frame_at_spec = tie.close (tie.spec (search rules) (search rules) (search rules) (search rules) returns)
