-- The loop keeps `Going` of model's WalkLoop, with what is settled left open: nobody asks for it here. Each turn and each way out cites its
-- law there.
use Rattle.std.specs.Prelude.{Err}
use Rattle.std.proofs.Common.{◌≡◌, ℕ, ◌+◌, ◌-◌, ◌*◌, ◌/◌, ◌%◌, cond, [], length, drop, pos, sym, refl, ap, ◌∙◌, arith, length-set, w32, to_z, rules}
use mir.Facts.{to_z_pos}
use Rattle.model.specs.declared.Frame.TheVariants.{Padding, Data}
use Rattle.model.specs.FrameDescriptor.{frame_at, flags_at, ends}
use Rattle.model.proofs.FrameLaws.{Lies, lies, unsound-refusal}
use Rattle.model.proofs.WalkLoop.{Going}
use Rattle.model.proofs.ReaderLaws.{frames-first}
use Rattle.model.specs.TermReader.{read_from}
use Rattle.model.proofs.WalkLoop as walks
use Rattle.logbuffer.proofs.TermWalk.{term-came, no-action}
use Rattle.logbuffer.proofs.term_reader.walk_term.Statement.{statement}
use Rattle.logbuffer.proofs.term_reader.walk_term.Tie as tie

abbrev invariant-loop : tie.invariant-loop-count
invariant-loop log base term at limit entries₀ offset₀ count₀ entries offset count =
    (lib.ListN.length entries ≡ lib.ListN.length entries₀) × ((offset % 32 ≡ 0) × ((settled : ℕ) × Going log base term term at limit [] entries₀ entries offset settled count))

abbrev decreases-loop : tie.decreases-loop-count
decreases-loop log base term at limit entries₀ offset₀ count₀ entries offset count = term - offset

-- the entry, and what is seen of a frame, from the loop's head
abbrev st : tie.At-loop-count invariant-loop decreases-loop → tie.Start invariant-loop decreases-loop
st c = c.before.before

abbrev head : tie.After-frame_inside invariant-loop decreases-loop → tie.At-loop-count invariant-loop decreases-loop
head c = c.before.before.before

is-padding : (c : tie.In-Padding invariant-loop decreases-loop) → let l = head c.before in
    frame_at (drop ((st l).args.base + l.loop-count.offset) (st l).args.log.now) ((st l).args.term - l.loop-count.offset) ≡ Padding c.in-Padding.n
is-padding c = sym c.frame_inside.ensures ∙ c.in-Padding.is

padding-in : (c : tie.In-Padding invariant-loop decreases-loop) → let l = head c.before in Lies c.in-Padding.n ((st l).args.term - l.loop-count.offset)
padding-in c = lies _ _ (Padding c.in-Padding.n) (is-padding c) refl

is-data : (c : tie.In-Data invariant-loop decreases-loop) → let l = head c.before in
    frame_at (drop ((st l).args.base + l.loop-count.offset) (st l).args.log.now) ((st l).args.term - l.loop-count.offset) ≡ Data c.in-Data.n
is-data c = sym c.frame_inside.ensures ∙ c.in-Data.is

data-in : (c : tie.In-Data invariant-loop decreases-loop) → let l = head c.before in Lies c.in-Data.n ((st l).args.term - l.loop-count.offset)
data-in c = lies _ _ (Data c.in-Data.n) (is-data c) refl

loop-holds : tie.Need-loop-count-init invariant-loop decreases-loop
loop-holds c =
    let a = c.args in
    (refl, (c.requires.1.1.1.0, (0, walks.start a.log.now a.base a.term a.term a.at a.limit [] a.entries.now (omega arith))))

-- before the end of a term of whole frames' lengths there is a header's room
frame-inside-requires : tie.Need-frame_inside-requires invariant-loop decreases-loop
frame-inside-requires c κs = let l = c in let p = (st c.before.before).requires in omega (arith, p.0, p.1.1.0, l.loop-count.invariant.1.0)

returns : tie.Need-returns-then-offset-at invariant-loop decreases-loop
returns c =
    let l = c in
    let a = (st c.before.before.before.before.before.before).args in
    let w = l.loop-count in
    let e = sym c.frame_inside.ensures ∙ c.in-Unsound.is in
    let z = ap (λ (o : ℕ). frame_at (drop (a.base + o) a.log.now) (a.term - o)) (sym c.if-offset-at.true) ∙ e in
    let f = frames-first a.log.now a.base a.term a.term a.at a.limit [] a.entries.now w.entries (walks.unsound-first a.log.now a.base a.term a.term a.at a.limit [] a.entries.now w.entries w.offset w.invariant.1.1.0 w.count _ w.invariant.1.1.1 c.if-offset-at.true (omega arith) (omega arith) e) in
    (ap Err (c.unsound_frame.ensures ∙ unsound-refusal a.log.now a.base a.term a.at _ z) ∙ ap (read_from a.at) f.0, f.1)

loop-again : tie.Need-loop-count-preserved-in-Padding invariant-loop decreases-loop
loop-again c =
    let l = c in
    let a = (st c.before.before.before.before).args in
    let w = l.loop-count in
    (w.invariant.0, (omega (arith, padding-in c, w.invariant.1.0), (_, walks.padding a.log.now a.base a.term a.term a.at a.limit [] a.entries.now w.entries w.offset w.invariant.1.1.0 w.count c.in-Padding.n w.invariant.1.1.1 (omega arith) (omega arith) (is-padding c))))

cast-entries : tie.Need-overflow_cast-entries invariant-loop decreases-loop
cast-entries c = record { sfits = omega (arith, data-in c) }

cast-entries-2 : tie.Need-overflow_cast-entries-in-Data invariant-loop decreases-loop
cast-entries-2 c = record { sfits = omega (arith, data-in c) }

slice-set-from-entries-2 : tie.Need-bounds-entries-p-in-Data invariant-loop decreases-loop
slice-set-from-entries-2 c = simp length-set (omega arith)

loop-again-2 : tie.Need-loop-count-preserved invariant-loop decreases-loop
loop-again-2 c =
    let l = c in
    let a = (st c.before.before.before.before).args in
    let w = l.loop-count in
    let n = c.in-Data.n in
    let x : to_z w32 (w.offset + 32) ≡ pos (w.offset + 32) = to_z_pos w32 (omega (arith, data-in c)) in
    let y : to_z w32 (n - 32) ≡ pos (n - 32) = to_z_pos w32 (omega (arith, data-in c)) in
    let whole = ends (flags_at (drop (a.base + w.offset) a.log.now)) in
    let settled = cond whole (w.offset + (n + 31) / 32 * 32 - a.at) w.invariant.1.1.0 in
    (simp length-set w.invariant.0, (omega (arith, data-in c, w.invariant.1.0), (settled, walks.turn_on a.log.now a.base a.term a.term a.at a.limit [] a.entries.now w.entries w.offset w.invariant.1.1.0 w.count n w.invariant.1.1.1 (omega arith) (omega arith) (is-data c) (omega arith) whole settled _ _ refl refl x y 4 (no-action w.count) (λ q. omega arith) (λ q. omega arith))))

returns-2 : tie.Need-returns-then-limit-count invariant-loop decreases-loop
returns-2 c =
    let l = c in
    let a = (st c.before).args in
    let w = l.loop-count in
    term-came a.log.now a.base a.term a.at a.limit a.entries.now w.entries w.offset w.count w.invariant.1.1.0 w.invariant.1.1.1.later (walks.full a.log.now a.base a.term a.term a.at a.limit [] a.entries.now w.entries w.offset w.invariant.1.1.0 w.count w.invariant.1.1.1 c.if-limit-count.true)

returns-3 : tie.Need-returns-then-term-offset invariant-loop decreases-loop
returns-3 c =
    let l = c in
    let a = (st c.before.before).args in
    let w = l.loop-count in
    term-came a.log.now a.base a.term a.at a.limit a.entries.now w.entries w.offset w.count w.invariant.1.1.0 w.invariant.1.1.1.later (walks.past a.log.now a.base a.term a.term a.at a.limit [] a.entries.now w.entries w.offset w.invariant.1.1.0 w.count w.invariant.1.1.1 c.if-term-offset.true)

returns-4 : tie.Need-returns-in-Absent invariant-loop decreases-loop
returns-4 c =
    let l = c in
    let a = (st c.before.before.before.before).args in
    let w = l.loop-count in
    term-came a.log.now a.base a.term a.at a.limit a.entries.now w.entries w.offset w.count w.invariant.1.1.0 w.invariant.1.1.1.later (walks.absent a.log.now a.base a.term a.term a.at a.limit [] a.entries.now w.entries w.offset w.invariant.1.1.0 w.count w.invariant.1.1.1 (sym c.frame_inside.ensures ∙ c.in-Absent.is))

returns-5 : tie.Need-returns-else-offset-at invariant-loop decreases-loop
returns-5 c =
    let l = c in
    let a = (st c.before.before.before.before.before).args in
    let w = l.loop-count in
    term-came a.log.now a.base a.term a.at a.limit a.entries.now w.entries w.offset w.count w.invariant.1.1.0 w.invariant.1.1.1.later (walks.unsound a.log.now a.base a.term a.term a.at a.limit [] a.entries.now w.entries w.offset w.invariant.1.1.0 w.count _ w.invariant.1.1.1 (sym c.frame_inside.ensures ∙ c.in-Unsound.is) c.if-offset-at.false)

pub walk_term_spec : {M : Type 1} → statement M
walk_term_spec =
    tie.close
    (tie.spec
    invariant-loop
    decreases-loop
    loop-holds
    (search rules)
    (search rules)
    frame-inside-requires
    (search rules)
    (search rules)
    (search rules)
    (search rules)
    (search rules)
    returns
    (search rules)
    (λ c. omega (arith, padding-in c))
    (λ c. omega (arith, padding-in c))
    (λ c. omega (arith, padding-in c))
    (λ c. omega (arith, padding-in c))
    loop-again
    (search rules)
    (λ c. omega (arith, data-in c))
    (λ c. omega (arith, data-in c))
    cast-entries
    (λ c. omega (arith, data-in c))
    (λ c. omega (arith, data-in c))
    (λ c. omega (arith, data-in c))
    cast-entries-2
    (λ c. omega (arith, data-in c))
    (λ c. omega (arith, data-in c))
    slice-set-from-entries-2
    (λ c. omega (arith, data-in c))
    (λ c. omega (arith, data-in c))
    (λ c. omega (arith, data-in c))
    (λ c. omega (arith, data-in c))
    (λ c. omega (arith, data-in c))
    loop-again-2
    (search rules)
    returns-2
    (search rules)
    returns-3
    (search rules)
    returns-4
    (search rules)
    returns-5)
