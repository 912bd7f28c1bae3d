-- The bytes that the library writes are the field's.
use Rattle.std.proofs.Common.{◌≡◌, ◌+◌, ◌-◌, length, ap, ◌∙◌, arith}
use Rattle.model.specs.Bytes.{le2, splice}
use Rattle.logbuffer.proofs.Copies.{laid-over}
use Rattle.logbuffer.proofs.LittleEndian.{bytes2, length2}
use Rattle.logbuffer.proofs.field.put2.Goals as goal

pub returns : goal.returns
returns c =
    let s = c.args in
    let y : c.copy_from_slice.new.self ≡ le2 s.n = c.copy_from_slice.ensures.after ∙ c.to_le_bytes.ensures ∙ bytes2 s.n in
    let l : length c.copy_from_slice.new.self ≡ (s.at + 2) - s.at = ap length y ∙ length2 s.n ∙ omega arith in
    laid-over s.log.now s.at _ c.copy_from_slice.new.self l ∙ ap (splice s.log.now s.at) y
