-- The bytes that the library writes are the field's.
use Rattle.std.proofs.Common.{◌≡◌, ℤ, ◌+◌, ◌-◌, length, ap, ◌∙◌, arith, to_z-of_z}
use Rattle.model.specs.Bytes.{le4, word, splice}
use Rattle.logbuffer.proofs.Copies.{laid-over}
use Rattle.metadata.proofs.Fields.{bytes4}
use Rattle.metadata.proofs.Parts.{length4}
use Rattle.metadata.proofs.bytes.put_i32.Goals as goal

pub returns : goal.returns
returns c =
    let s = c.args in
    let y : c.copy_from_slice.new.self ≡ le4 (word s.value) =
    c.copy_from_slice.ensures.after ∙ c.to_le_bytes.ensures ∙ bytes4 _ ∙ ap (λ (z : ℤ). le4 (word z)) (to_z-of_z c.ranges.value) in
    let l : length c.copy_from_slice.new.self ≡ (s.at + 4) - s.at = ap length y ∙ length4 (word s.value) ∙ omega arith in
    laid-over s.out.now s.at _ c.copy_from_slice.new.self l ∙ ap (splice s.out.now s.at) y
