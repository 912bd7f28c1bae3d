-- The length word's bits, made signed and taken as bits again, and the type.
use Rattle.std.proofs.Common.{sym, ap, ◌∙◌, drop-drop, rules}
use Rattle.model.specs.Bytes.{u16}
use Rattle.logbuffer.proofs.Signs.{back32}
use Rattle.logbuffer.proofs.Inside.{frame_is}
use Rattle.logbuffer.proofs.frame_descriptor.frame_inside.Statement.{statement}
use Rattle.logbuffer.proofs.frame_descriptor.frame_inside.Tie as tie

returns : tie.Need-returns
returns c =
    let a = c.args in
    frame_is _ _ _ _ _ c.frame_by.ensures (back32 _ _ _ c.to_i32.ensures c.word4-word.ensures.0 c.word4-word.ensures.1)
    (c.half.ensures.0 ∙ ap u16 (sym (drop-drop 6 a.at a.log.now)))

pub frame_inside_spec : {M : Type 1} → statement M
frame_inside_spec = tie.close (tie.spec (search rules) (search rules) (search rules) (search rules) (search rules) returns)
