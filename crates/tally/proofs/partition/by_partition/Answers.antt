-- Where every part reached its end, their sums; else those of the parts up to where the stream order ended.
use Rattle.std.proofs.Common.{◌≡◌, ℕ, ◌+◌, ◌-◌, ◌*◌, ◌/◌, ◌^◌, ◌≤◌, min, true, List, sym, ap, ◌∙◌, ap₂, arith, leb-true}
use Rattle.model.specs.Bytes.{word}
use Rattle.tally.specs.declared.Partitions.{Partitions}
use Rattle.tally.specs.declared.walk.Walked.{Walked}
use Rattle.tally.specs.declared.partition.Parts.{Parts}
use Rattle.tally.specs.declared.partition.Parted.{Parted}
use Rattle.tally.specs.Walk.{stream_by}
use Rattle.tally.specs.Partitions.{by_parts, in_three}
use Rattle.tally.proofs.Adding.{end-within}
use Rattle.tally.proofs.Splitting.{end_after}
use Rattle.tally.proofs.Parting.{whole-answer, short-answer}
use Rattle.tally.proofs.partition.by_partition.Goals as goal

three : (bits i from to : ℕ) (log : List ℕ) → in_three (2 ^ min bits 30) from to ≡ true → to ≤ (from / (stream_by bits i log).term + 3) * (stream_by bits i log).term
unfolding stream_by
three bits i from to log h = leb-true _ _ h

-- an answer by its two numbers
abbrev told : Partitions → ℕ → Parted
told x n = record { sums = x; end = n }

pub returns-then-parts : goal.returns-then-parts
returns-then-parts c =
    let a = c.args in
    let s = a.stream in
    let k = whole-answer (stream_by s.bits (word s.initial) s.log.now) a.from a.to c.requires.0.0 (three s.bits _ a.from a.to _ c.requires.1) (sym (ap (λ (x : Parts). x.whole) c.walk_parts-parts.ensures) ∙ c.if-parts.true) in
    ap₂ told (ap (λ (x : Parts). x.sums) c.walk_parts-parts.ensures ∙ k.0) k.1

pub walk_parts-requires : goal.walk_parts-requires
walk_parts-requires c =
    let a = c.args in
    let s = stream_by a.stream.bits (word a.stream.initial) a.stream.log.now in
    let e = ap (λ (x : Walked). x.end) c.between-end.ensures in (
      omega (arith, e, end_after s (a.to - a.from) a.to a.from),
      omega (arith, e, end-within (a.to - a.from) s a.to a.from c.requires.0.0, c.requires.0.1),
    )

pub returns : goal.returns
returns c =
    let a = c.args in
    let s = stream_by a.stream.bits (word a.stream.initial) a.stream.log.now in
    let e = ap (λ (x : Walked). x.end) c.between-end.ensures in
    let k = short-answer s a.from a.to c.requires.0.0 (three a.stream.bits _ a.from a.to _ c.requires.1) (sym (ap (λ (x : Parts). x.whole) c.walk_parts-parts.ensures) ∙ c.if-parts.false) in
    ap₂ told (ap (λ (x : Parts). x.sums) c.walk_parts.ensures ∙ ap (by_parts s a.from) e ∙ k.0) (e ∙ k.1)
