-- The edges of the term in partition k, and the walk between them.
use Rattle.std.proofs.Common.{◌≡◌, ℕ, ◌+◌, ◌*◌, ◌/◌, ◌%◌, ◌^◌, ◌≤◌, min, eqb, ap, ◌∙◌, ap₂, arith}
use Rattle.model.specs.Bytes.{word}
use Rattle.tally.specs.declared.partition.Part.{Part}
use Rattle.tally.specs.declared.walk.Walked.{Walked}
use Rattle.tally.specs.Walk.{stream_by}
use Rattle.tally.specs.Partitions.{edge, term_in, part, reaches}
use Rattle.tally.specs.Within.{Ordered, walk_of}
use Rattle.tally.proofs.Spots.{Lying, lying}
use Rattle.tally.proofs.Parting.{terms-low}
use Rattle.tally.proofs.partition.walk_part.Goals as goal
use Rattle.tally.proofs.partition.walk_part.Goals.{After-locate-at, After-edge-start, After-edge-end}

lies : (c : After-locate-at) → Lying (2 ^ min c.args.stream.bits 30) c.args.from c.locate-at.result
lies c = lying c.args.stream.bits c.args.from c.locate-at.result c.locate-at.ensures

-- the term of partition k, as the code has it
abbrev found : ℕ → ℕ → ℕ
found count k = count + (k + 2 * count) % 3

-- the places where the three terms and the next begin are far from the end of their range
begins : (term from to length m n : ℕ) → Ordered from to → term ≤ 1073741824 → m ≡ n → length ≡ term → n ≤ from / term + 3 → m * length ≤ 4611686018427387904
begins term from to length m n o s e l h =
    let q : m * length ≡ n * term = ap₂ (λ (a b : ℕ). a * b) e l in
    omega (arith, q, terms-low term from n h, s, o.0, o.1)

start_is : (c : After-edge-start) → Lying (2 ^ min c.args.stream.bits 30) c.args.from c.locate-at.result
    → let a = c.args in let t = 2 ^ min a.stream.bits 30 in c.edge-start.result ≡ edge t a.from a.to (term_in t a.from a.k)
start_is c l = let a = c.args in c.edge-start.ensures ∙ ap₂ (λ (x y : ℕ). edge x a.from a.to (found y a.k)) l.term l.count

end_is : (c : After-edge-end) → Lying (2 ^ min c.args.stream.bits 30) c.args.from c.locate-at.result
    → let a = c.args in let t = 2 ^ min a.stream.bits 30 in c.edge-end.result ≡ edge t a.from a.to (term_in t a.from a.k + 1)
end_is c l = let a = c.args in c.edge-end.ensures ∙ ap₂ (λ (x y : ℕ). edge x a.from a.to (found y a.k + 1)) l.term l.count

-- a part by its walk and its end
abbrev tell : Walked → ℕ → Part
tell w end = record { sums = w.sums; whole = eqb w.end end }

pub edge-start-requires : goal.edge-start-requires
edge-start-requires c =
    let a = c.args in
    let l = lies (goal.at.edge-start-requires c).After-locate-at in
    (c.requires.0.0, omega (arith, begins _ a.from a.to _ _ _ c.requires.0 l.short (ap (λ (n : ℕ). found n a.k) l.count) l.term (omega arith)))

pub edge-end-requires : goal.edge-end-requires
edge-end-requires c =
    let a = c.args in
    let l = lies (goal.at.edge-end-requires c).After-locate-at in
    (c.requires.0.0, omega (arith, begins _ a.from a.to _ _ _ c.requires.0 l.short (ap (λ (n : ℕ). found n a.k + 1) l.count) l.term (omega arith)))

pub returns : goal.returns
unfolding part reaches stream_by
returns c =
    let a = c.args in
    let at = goal.at.returns c in
    let l = lies at.After-locate-at in
    let walked = walk_of (stream_by a.stream.bits (word a.stream.initial) a.stream.log.now) in
    let e = end_is at.After-edge-end l in
    ap₂ tell (c.between-w.ensures ∙ ap₂ (λ (x y : ℕ). walked x y) (start_is at.After-edge-start l) e) e
