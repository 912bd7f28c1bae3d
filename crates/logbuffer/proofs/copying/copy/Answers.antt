-- A chunk behind what has been copied is one piece with it.
use Rattle.std.proofs.Common.{rules, ℕ, ◌+◌, ◌≤◌, List, take, drop, refl, ap, ◌∙◌, arith}
use Rattle.model.specs.Bytes.{splice}
use Rattle.logbuffer.proofs.Copies.{more, none_yet}
use Rattle.logbuffer.proofs.copying.copy.Goals as goal

pub loop-i-init : goal.loop-i-init
loop-i-init c =
    let s = c.args in
    (omega arith, (none_yet s.dst.now s.src.now s.b s.a, refl))

pub loop-i-preserved : goal.loop-i-preserved
loop-i-preserved c =
    let s = c.args in
    let k = c.loop-i in
    let m = c.min-m.result in
    let h : k.i + m ≤ s.n = search rules in (
      h,
      (
        c.copy_chunk.ensures ∙ ap (λ (x : List ℕ). splice x (s.b + k.i) (take m (drop (s.a + k.i) s.src.now))) k.invariant.1.0
            ∙ more s.dst.now s.src.now s.b s.a k.i m (omega arith) (omega arith),
        c.copy_chunk.auto.dst ∙ k.invariant.1.1,
      ),
    )
