-- All of the part are 0, each at its index of the section.
use Rattle.std.proofs.Common.{◌≡◌, ◌+◌, ◌-◌, take, drop, arith, rules}
use Rattle.std.specs.Prelude.{◌↔◌, IsTrue, EachIndex, slice_index}
use Rattle.metadata.proofs.Gaps.{zero-part}
use Rattle.metadata.proofs.bytes.is_zero.Goals as goal

pub returns : goal.returns
returns c =
    let s = c.args in
    let p = take ((s.at + s.n) - s.at) (drop s.at s.s.now) in
    let h : IsTrue c.all.result ↔ EachIndex p (λ k. slice_index p k ≡ 0) = search rules in
    zero-part s.n s.s.now s.at ((s.at + s.n) - s.at) c.all.result (omega arith) (omega arith) h
