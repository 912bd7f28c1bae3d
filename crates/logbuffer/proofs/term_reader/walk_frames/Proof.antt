-- The loop keeps `Going` of model's WalkLoop: what is done joined with the walk from here is the whole walk. Each turn and each way out
-- cites its law there.
use Rattle.std.proofs.Common.{◌≡◌, ℕ, ◌+◌, ◌-◌, ◌*◌, ◌/◌, length, drop, pos, sym, refl, ap, ◌∙◌, arith, length-set, w32, to_z, rules}
use mir.Facts.{to_z_pos}
use Rattle.model.specs.declared.Frame.TheVariants.{Padding, Data}
use Rattle.model.specs.FrameDescriptor.{frame_at}
use Rattle.model.specs.declared.FramesRead.TheVariants.{Refused as WalkRefused}
use Rattle.model.proofs.FrameLaws.{Lies, lies, unsound-refusal}
use Rattle.model.proofs.WalkLoop.{Going}
use Rattle.model.proofs.ReaderLaws.{frames-came, frames-first}
use Rattle.model.proofs.WalkLoop as walks
use Rattle.logbuffer.proofs.term_reader.walk_frames.Statement.{statement}
use Rattle.logbuffer.proofs.term_reader.walk_frames.Tie as tie

abbrev invariant-loop : tie.invariant-loop-count
invariant-loop log base term end at limit actions entries₀ offset₀ moved₀ settled₀ count₀ entries offset moved settled count =
    (lib.ListN.length entries ≡ lib.ListN.length entries₀) × ((moved ≡ offset - at) × Going log base term end at limit actions entries₀ entries offset settled count)

abbrev decreases-loop : tie.decreases-loop-count
decreases-loop log base term end at limit actions entries₀ offset₀ moved₀ settled₀ count₀ entries offset moved settled count =
    end - offset

-- the entry, and what is seen of a frame, from the loop's head
abbrev st : tie.At-loop-count invariant-loop decreases-loop → tie.Start invariant-loop decreases-loop
st c = c.before.before.before

abbrev head : tie.After-frame_at invariant-loop decreases-loop → tie.At-loop-count invariant-loop decreases-loop
head c = c.before.before.before

is-padding : (c : tie.In-Padding invariant-loop decreases-loop) → let l = head c.before in
    frame_at (drop ((st l).args.base + l.loop-count.offset) (st l).args.log.now) ((st l).args.term - l.loop-count.offset) ≡ Padding c.in-Padding.n
is-padding c = sym c.frame_at.ensures ∙ c.in-Padding.is

padding-in : (c : tie.In-Padding invariant-loop decreases-loop) → let l = head c.before in Lies c.in-Padding.n ((st l).args.term - l.loop-count.offset)
padding-in c = lies _ _ (Padding c.in-Padding.n) (is-padding c) refl

is-data : (c : tie.In-Data invariant-loop decreases-loop) → let l = head c.before in
    frame_at (drop ((st l).args.base + l.loop-count.offset) (st l).args.log.now) ((st l).args.term - l.loop-count.offset) ≡ Data c.in-Data.n
is-data c = sym c.frame_at.ensures ∙ c.in-Data.is

data-in : (c : tie.In-Data invariant-loop decreases-loop) → let l = head c.before in Lies c.in-Data.n ((st l).args.term - l.loop-count.offset)
data-in c = lies _ _ (Data c.in-Data.n) (is-data c) refl

loop-holds : tie.Need-loop-count-init invariant-loop decreases-loop
loop-holds c =
    let a = c.args in
    (refl, (omega arith, walks.start a.log.now a.base a.term a.end a.at a.limit a.actions.now a.entries.now (omega arith)))

returns : tie.Need-returns-then-offset-at invariant-loop decreases-loop
returns c =
    let l = c in
    let a = (st c.before.before.before.before.before.before).args in
    let w = l.loop-count in
    let e = sym c.frame_at.ensures ∙ c.in-Unsound.is in
    let z = ap (λ (o : ℕ). frame_at (drop (a.base + o) a.log.now) (a.term - o)) (sym c.if-offset-at.true) ∙ e in
    let f = frames-first a.log.now a.base a.term a.end a.at a.limit a.actions.now a.entries.now w.entries (walks.unsound-first a.log.now a.base a.term a.end a.at a.limit a.actions.now a.entries.now w.entries w.offset w.settled w.count _ w.invariant.1.1 c.if-offset-at.true (omega arith) (omega arith) e) in
    (ap WalkRefused (c.unsound_frame.ensures ∙ unsound-refusal a.log.now a.base a.term a.at _ z) ∙ f.0, f.1)

sub-moved : tie.Need-overflow_sub-moved invariant-loop decreases-loop
sub-moved c = omega (arith, padding-in c, c.loop-count.invariant.1.1.later)

loop-again : tie.Need-loop-count-preserved-in-Padding invariant-loop decreases-loop
loop-again c =
    let l = c in
    let a = (st c.before.before.before.before).args in
    let w = l.loop-count in
    (w.invariant.0, (refl, walks.padding a.log.now a.base a.term a.end a.at a.limit a.actions.now a.entries.now w.entries w.offset w.settled w.count c.in-Padding.n w.invariant.1.1 (omega arith) (omega arith) (is-padding c)))

add-ends-message : tie.Need-overflow_add-base-in-Data invariant-loop decreases-loop
add-ends-message c = omega (arith, data-in c.before)

ends-message-requires : tie.Need-ends_message-whole-requires invariant-loop decreases-loop
ends-message-requires c κs = omega (arith, data-in c.before)

cast-entries : tie.Need-overflow_cast-entries invariant-loop decreases-loop
cast-entries c = record { sfits = omega (arith, data-in c.before.before) }

cast-entries-2 : tie.Need-overflow_cast-entries-in-Data invariant-loop decreases-loop
cast-entries-2 c = record { sfits = omega (arith, data-in c.before.before) }

slice-set-from-entries-2 : tie.Need-bounds-entries-p-in-Data invariant-loop decreases-loop
slice-set-from-entries-2 c = simp length-set (omega arith)

same-length-2 : tie.Need-shape_of-entries-then-action-eq1 invariant-loop decreases-loop
same-length-2 c = simp length-set (search rules)

returns-2 : tie.Need-returns-then-action-eq1 invariant-loop decreases-loop
returns-2 c = let d = c in
    let l = c in
    let a = (st c.before.before.before.before.before.before.before).args in
    let w = l.loop-count in
    let n = d.in-Data.n in
    let x : to_z w32 (w.offset + 32) ≡ pos (w.offset + 32) = to_z_pos w32 (omega (arith, data-in c.before.before.before)) in
    let y : to_z w32 (n - 32) ≡ pos (n - 32) = to_z_pos w32 (omega (arith, data-in c.before.before.before)) in
    frames-came a.log.now a.base a.term a.end a.at a.limit a.actions.now a.entries.now _ (w.count + 1) w.count w.moved w.moved w.settled (walks.turn-aborted a.log.now a.base a.term a.end a.at a.limit a.actions.now a.entries.now w.entries w.offset w.settled w.count n w.invariant.1.1 (omega arith) (omega arith) (is-data c.before.before.before) (omega arith) _ _ x y c.action_of-action.result w.moved c.action_of-action.ensures c.if-action-eq1.true w.invariant.1.0) refl

sub-moved-2 : tie.Need-overflow_sub-moved-in-Data invariant-loop decreases-loop
sub-moved-2 c = omega (arith, data-in c.before.before.before, c.loop-count.invariant.1.1.later)

loop-less-2 : tie.Need-loop-count-smaller invariant-loop decreases-loop
loop-less-2 c = omega (arith, data-in c.before.before.before.before.before)

loop-again-2 : tie.Need-loop-count-preserved invariant-loop decreases-loop
loop-again-2 c = let d = c in
    let l = c in
    let a = (st c.before.before.before.before.before.before.before.before.before).args in
    let w = l.loop-count in
    let n = d.in-Data.n in
    let x : to_z w32 (w.offset + 32) ≡ pos (w.offset + 32) = to_z_pos w32 (omega (arith, data-in c.before.before.before.before.before)) in
    let y : to_z w32 (n - 32) ≡ pos (n - 32) = to_z_pos w32 (omega (arith, data-in c.before.before.before.before.before)) in
    (simp length-set w.invariant.0, (refl, walks.turn_on a.log.now a.base a.term a.end a.at a.limit a.actions.now a.entries.now w.entries w.offset w.settled w.count n w.invariant.1.1 (omega arith) (omega arith) (is-data c.before.before.before.before.before) (omega arith) c.ends_message-whole.result c.last_settled-settled.result _ _ c.ends_message-whole.ensures c.last_settled-settled.ensures x y c.action_of-action.result c.action_of-action.ensures c.if-action-eq1.false c.if-action-eq2.false))

returns-3 : tie.Need-returns-then-limit-count invariant-loop decreases-loop
returns-3 c =
    let l = c in
    let a = (st c.before).args in
    let w = l.loop-count in
    frames-came a.log.now a.base a.term a.end a.at a.limit a.actions.now a.entries.now w.entries w.count w.count (w.offset - a.at) w.moved w.settled (walks.full a.log.now a.base a.term a.end a.at a.limit a.actions.now a.entries.now w.entries w.offset w.settled w.count w.invariant.1.1 c.if-limit-count.true) w.invariant.1.0

returns-4 : tie.Need-returns-then-end-offset invariant-loop decreases-loop
returns-4 c =
    let l = c in
    let a = (st c.before.before).args in
    let w = l.loop-count in
    frames-came a.log.now a.base a.term a.end a.at a.limit a.actions.now a.entries.now w.entries w.count w.count (w.offset - a.at) w.moved w.settled (walks.past a.log.now a.base a.term a.end a.at a.limit a.actions.now a.entries.now w.entries w.offset w.settled w.count w.invariant.1.1 c.if-end-offset.true) w.invariant.1.0

returns-5 : tie.Need-returns-in-Absent invariant-loop decreases-loop
returns-5 c =
    let l = c in
    let a = (st c.before.before.before.before).args in
    let w = l.loop-count in
    frames-came a.log.now a.base a.term a.end a.at a.limit a.actions.now a.entries.now w.entries w.count w.count (w.offset - a.at) w.moved w.settled (walks.absent a.log.now a.base a.term a.end a.at a.limit a.actions.now a.entries.now w.entries w.offset w.settled w.count w.invariant.1.1 (sym c.frame_at.ensures ∙ c.in-Absent.is)) w.invariant.1.0

returns-6 : tie.Need-returns-else-offset-at invariant-loop decreases-loop
returns-6 c =
    let l = c in
    let a = (st c.before.before.before.before.before).args in
    let w = l.loop-count in
    frames-came a.log.now a.base a.term a.end a.at a.limit a.actions.now a.entries.now w.entries w.count w.count (w.offset - a.at) w.moved w.settled (walks.unsound a.log.now a.base a.term a.end a.at a.limit a.actions.now a.entries.now w.entries w.offset w.settled w.count _ w.invariant.1.1 (sym c.frame_at.ensures ∙ c.in-Unsound.is) c.if-offset-at.false) w.invariant.1.0

same-length-7 : tie.Need-shape_of-entries-then-action-eq2 invariant-loop decreases-loop
same-length-7 c = simp length-set (search rules)

returns-7 : tie.Need-returns-then-action-eq2 invariant-loop decreases-loop
returns-7 c = let d = c in
    let l = c in
    let a = (st c.before.before.before.before.before.before.before.before.before).args in
    let w = l.loop-count in
    let n = d.in-Data.n in
    let x : to_z w32 (w.offset + 32) ≡ pos (w.offset + 32) = to_z_pos w32 (omega (arith, data-in c.before.before.before.before.before)) in
    let y : to_z w32 (n - 32) ≡ pos (n - 32) = to_z_pos w32 (omega (arith, data-in c.before.before.before.before.before)) in
    frames-came a.log.now a.base a.term a.end a.at a.limit a.actions.now a.entries.now _ (w.count + 1) (w.count + 1) (w.offset + (n + 31) / 32 * 32 - a.at) _ c.last_settled-settled.result (walks.turn-broken a.log.now a.base a.term a.end a.at a.limit a.actions.now a.entries.now w.entries w.offset w.settled w.count n w.invariant.1.1 (omega arith) (omega arith) (is-data c.before.before.before.before.before) (omega arith) c.ends_message-whole.result c.last_settled-settled.result _ _ c.ends_message-whole.ensures c.last_settled-settled.ensures x y c.action_of-action.result c.action_of-action.ensures c.if-action-eq2.true) refl

pub walk_frames_spec : {M : Type 1} → statement M
walk_frames_spec =
    tie.close
    (tie.spec
    invariant-loop
    decreases-loop
    loop-holds
    (search rules)
    (search rules)
    (search rules)
    (search rules)
    (search rules)
    (search rules)
    (search rules)
    (search rules)
    returns
    (search rules)
    (λ c. omega (arith, padding-in c))
    (λ c. omega (arith, padding-in c))
    (λ c. omega (arith, padding-in c))
    sub-moved
    (λ c. omega (arith, padding-in c))
    loop-again
    (search rules)
    (search rules)
    add-ends-message
    ends-message-requires
    (λ c. omega (arith, data-in c.before.before))
    (λ c. omega (arith, data-in c.before.before))
    cast-entries
    (λ c. omega (arith, data-in c.before.before))
    (λ c. omega (arith, data-in c.before.before))
    (λ c. omega (arith, data-in c.before.before))
    cast-entries-2
    (λ c. omega (arith, data-in c.before.before))
    (λ c. omega (arith, data-in c.before.before))
    slice-set-from-entries-2
    (λ c. omega (arith, data-in c.before.before.before))
    same-length-2
    returns-2
    (λ c. omega (arith, data-in c.before.before.before))
    (λ c. omega (arith, data-in c.before.before.before))
    (λ c. omega (arith, data-in c.before.before.before))
    sub-moved-2
    (search rules)
    (search rules)
    loop-less-2
    loop-again-2
    (search rules)
    returns-3
    (search rules)
    returns-4
    (search rules)
    returns-5
    (search rules)
    returns-6
    same-length-7
    returns-7)
