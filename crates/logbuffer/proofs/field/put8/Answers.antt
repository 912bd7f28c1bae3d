-- The bytes that the library writes are the field's.
use Rattle.std.proofs.Common.{◌≡◌, ◌+◌, ◌-◌, length, ap, ◌∙◌, arith}
use Rattle.model.specs.Bytes.{le8, splice}
use Rattle.logbuffer.proofs.Copies.{laid-over}
use Rattle.logbuffer.proofs.LittleEndian.{bytes8, length8}
use Rattle.logbuffer.proofs.field.put8.Goals as goal

pub returns : goal.returns
returns c =
    let s = c.args in
    let y : c.copy_from_slice.new.self ≡ le8 s.n = c.copy_from_slice.ensures.after ∙ c.to_le_bytes.ensures ∙ bytes8 s.n in
    let l : length c.copy_from_slice.new.self ≡ (s.at + 8) - s.at = ap length y ∙ length8 s.n ∙ omega arith in
    laid-over s.log.now s.at _ c.copy_from_slice.new.self l ∙ ap (splice s.log.now s.at) y
