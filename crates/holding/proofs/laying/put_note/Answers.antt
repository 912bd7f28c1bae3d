-- The part, and what is left of 255 bytes of 0.
use Rattle.std.proofs.Common.{◌≡◌, ℕ, ◌+◌, ◌-◌, List, ◌++◌, length, take, drop, ap, ◌∙◌, ap₂, arith, length-drop, length-take-le, rules}
use Rattle.std.proofs.Math.ListN.{replicate}
use Rattle.holding.proofs.Padding.{padded-by}
use Rattle.holding.proofs.laying.put_note.Goals as goal

pub returns : goal.returns
returns c =
    let a = c.args in
    let e : (a.from + a.n) - a.from ≡ a.n = omega arith in
    let f : c.fill.new.self ≡ replicate 255 0 = search rules in
    let y : c.copy_from_slice.new.self ≡ take a.n (drop a.from a.bytes.now) = c.copy_from_slice.ensures.after ∙ ap (λ (k : ℕ). take k (drop a.from a.bytes.now)) e in
    let l : length (take a.n (drop a.from a.bytes.now)) ≡ a.n = length-take-le a.n (drop a.from a.bytes.now) (omega (arith, length-drop a.from a.bytes.now)) in
    ap₂ (λ (s t : List ℕ). s ++ drop a.n t) y f ∙ padded-by (take a.n (drop a.from a.bytes.now)) a.n l c.requires.0
