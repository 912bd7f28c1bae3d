-- The bytes that the library writes are the field's.
use Rattle.std.proofs.Common.{◌≡◌, ℤ, ◌+◌, ◌-◌, length, ap, ◌∙◌, arith, to_z-of_z}
use Rattle.model.specs.Bytes.{le8, long, splice}
use Rattle.logbuffer.proofs.Copies.{laid-over}
use Rattle.metadata.proofs.Fields.{bytes8}
use Rattle.metadata.proofs.Parts.{length8}
use Rattle.metadata.proofs.bytes.put_i64.Goals as goal

pub returns : goal.returns
returns c =
    let s = c.args in
    let y : c.copy_from_slice.new.self ≡ le8 (long s.value) =
    c.copy_from_slice.ensures.after ∙ c.to_le_bytes.ensures ∙ bytes8 _ ∙ ap (λ (z : ℤ). le8 (long z)) (to_z-of_z c.ranges.value) in
    let l : length c.copy_from_slice.new.self ≡ (s.at + 8) - s.at = ap length y ∙ length8 (long s.value) ∙ omega arith in
    laid-over s.out.now s.at _ c.copy_from_slice.new.self l ∙ ap (splice s.out.now s.at) y
