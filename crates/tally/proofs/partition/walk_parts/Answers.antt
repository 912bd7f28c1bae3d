-- Part by part.
use Rattle.std.proofs.Common.{◌≡◌, ℕ, Bool, true, false, ◌&&◌, sym, refl, ap, ◌∙◌}
use Rattle.model.specs.Bytes.{word}
use Rattle.tally.specs.declared.partition.Part.{Part}
use Rattle.tally.specs.declared.partition.Parts.{Parts}
use Rattle.tally.specs.Walk.{Stream, stream_by}
use Rattle.tally.specs.Partitions.{by_parts, all_reach}
use Rattle.tally.specs.Within.{part_of, parts_of}
use Rattle.tally.proofs.partition.walk_parts.Goals as goal
use Rattle.tally.proofs.partition.walk_parts.Goals.{then-a, else-a}

abbrev told : Part → Part → Part → Bool → Parts
told a b c whole = record { sums = record { p0 = a.sums; p1 = b.sums; p2 = c.sums }; whole = whole }

abbrev joined : Part → Part → Part → Parts
joined a b c = told a b c (a.whole && (b.whole && c.whole))

parted : (s : Stream) (from to : ℕ) (a b c : Part) → a ≡ part_of s from to 0 → b ≡ part_of s from to 1 → c ≡ part_of s from to 2 → joined a b c ≡ parts_of s from to
unfolding by_parts all_reach
parted s from to a b c p q r =
    ap (λ (x : Part). joined x b c) p ∙ ap (λ (x : Part). joined (part_of s from to 0) x c) q ∙ ap (λ (x : Part). joined (part_of s from to 0) (part_of s from to 1) x) r

-- the tests one by one
all : (p q r : Bool) → (p && q) ≡ true → r ≡ (p && (q && r))
all true true r e = refl
all true false r e = cc
all false q r e = cc

none : (p q r : Bool) → (p && q) ≡ false → false ≡ (p && (q && r))
none true true r e = cc
none true false r e = refl
none false q r e = refl

pub returns-then-b : goal.returns-then-b
returns-then-b c =
    let s = c.args.stream in
    let x = c.walk_part-a.result in
    let y = c.walk_part-b.result in
    let z = c.walk_part-c.result in
    let v : c.if-a.value ≡ (x.whole && y.whole) = elim c.if-a.branch [ then-a w ↦ rw w.if-a.true w.value-is | else-a w ↦ rw w.if-a.false (w.value-is ∙ w.if-a.false) ] in
    ap (told x y z) (all x.whole y.whole z.whole (sym v ∙ c.if-b.true))
    ∙ parted (stream_by s.bits (word s.initial) s.log.now) c.args.from c.args.to x y z c.walk_part-a.ensures c.walk_part-b.ensures c.walk_part-c.ensures

pub returns-else-b : goal.returns-else-b
returns-else-b c =
    let s = c.args.stream in
    let x = c.walk_part-a.result in
    let y = c.walk_part-b.result in
    let z = c.walk_part-c.result in
    let v : c.if-a.value ≡ (x.whole && y.whole) = elim c.if-a.branch [ then-a w ↦ rw w.if-a.true w.value-is | else-a w ↦ rw w.if-a.false (w.value-is ∙ w.if-a.false) ] in
    ap (told x y z) (c.if-b.false ∙ none x.whole y.whole z.whole (sym v ∙ c.if-b.false))
    ∙ parted (stream_by s.bits (word s.initial) s.log.now) c.args.from c.args.to x y z c.walk_part-a.ensures c.walk_part-b.ensures c.walk_part-c.ensures
