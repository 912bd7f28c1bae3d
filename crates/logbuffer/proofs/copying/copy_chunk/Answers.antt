-- What was copied to the front of the array is what is copied from there.
use Rattle.std.proofs.Common.{◌≡◌, ℕ, ◌+◌, ◌-◌, length, take, drop, ap, ◌∙◌, arith, length-drop, length-take-le, take_at}
use Rattle.model.specs.Bytes.{splice}
use Rattle.logbuffer.proofs.Copies.{laid-over}
use Rattle.logbuffer.proofs.copying.copy_chunk.Goals as goal

pub returns : goal.returns
returns c =
    let s = c.args in
    let e : (s.a + s.n) - s.a ≡ s.n = omega arith in
    let y : c.copy_from_slice.new.self ≡ take s.n (drop s.a s.src.now) = c.copy_from_slice.ensures.after ∙ ap (λ (k : ℕ). take k (drop s.a s.src.now)) e in
    let m : length c.copy_from_slice.new.self ≡ s.n = ap length y ∙ length-take-le s.n (drop s.a s.src.now) (omega (arith, length-drop s.a s.src.now)) in
    let z : c.copy_from_slice-2.new.self ≡ c.copy_from_slice.new.self = c.copy_from_slice-2.ensures.after ∙ take_at c.copy_from_slice.new.self _ s.n m in
    let l : length c.copy_from_slice-2.new.self ≡ (s.b + s.n) - s.b = ap length z ∙ m ∙ omega arith in
    laid-over s.dst.now s.b _ c.copy_from_slice-2.new.self l ∙ ap (splice s.dst.now s.b) (z ∙ y)
