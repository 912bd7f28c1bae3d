-- The part is as long as the zeros.
use Rattle.std.proofs.Common.{◌≡◌, ℕ, ◌+◌, ◌-◌, length, take, drop, ap, ◌∙◌, arith, length-drop, length-take-le}
use Rattle.model.specs.Bytes.{zeros, splice}
use Rattle.model.proofs.Splice.{length-zeros}
use Rattle.logbuffer.proofs.Copies.{laid-over}
use Rattle.metadata.proofs.bytes.put_zeros.Goals as goal

pub returns : goal.returns
unfolding zeros
returns c =
    let s = c.args in
    let e : (s.at + s.n) - s.at ≡ s.n = omega arith in
    let k : length (take ((s.at + s.n) - s.at) (drop s.at s.out.now)) ≡ s.n =
    length-take-le ((s.at + s.n) - s.at) (drop s.at s.out.now) (omega (arith, length-drop s.at s.out.now)) ∙ e in
    let y : c.fill.new.self ≡ zeros s.n = c.fill.ensures.after (λ y h. h) ∙ ap (λ (i : ℕ). zeros i) k in
    let l : length c.fill.new.self ≡ (s.at + s.n) - s.at = ap length y ∙ length-zeros s.n ∙ omega arith in
    laid-over s.out.now s.at _ c.fill.new.self l ∙ ap (splice s.out.now s.at) y
