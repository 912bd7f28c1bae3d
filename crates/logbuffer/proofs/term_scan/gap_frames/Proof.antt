-- The loop keeps `Rebuilding` of model's GapLaws; each way out cites its law there.
use Rattle.std.specs.Prelude.{Ok, Err}
use Rattle.std.proofs.Common.{◌≡◌, ℕ, ◌+◌, ◌-◌, Bool, drop, ℤ, sym, refl, ap, ◌∙◌, ap₂, arith, to_z-of_z, rules}
use Rattle.model.specs.declared.Frame.{Frame}
use Rattle.model.specs.declared.Frame.TheVariants.{Padding, Data}
use Rattle.model.specs.declared.GapScanned.TheVariants.{Gap}
use Rattle.model.specs.FrameDescriptor.{frame_at}
use Rattle.model.specs.TermScan.{gap_length}
use Rattle.model.proofs.FrameLaws.{Lies, lies}
use Rattle.model.proofs.GapLaws.{Rebuilding}
use Rattle.model.proofs.GapLaws as laws
use Rattle.logbuffer.proofs.term_scan.gap_frames.Statement.{statement}
use Rattle.logbuffer.proofs.term_scan.gap_frames.Tie as tie

abbrev invariant-loop : tie.invariant-loop-found
invariant-loop log base term term-id high at offset₀ offset = Rebuilding log base term high at offset

abbrev decreases-loop : tie.decreases-loop-found
decreases-loop log base term term-id high at offset₀ offset = term - offset

-- the entry, and what is seen of a frame, from the loop's head
abbrev st : tie.At-loop-found invariant-loop decreases-loop → tie.Start invariant-loop decreases-loop
st c = c.before.before

is : (c : tie.After-frame_at invariant-loop decreases-loop) (x : Frame) → c.frame_at.result ≡ x
    → frame_at (drop ((st c.before).args.base + c.loop-found.offset) (st c.before).args.log.now) ((st c.before).args.term - c.loop-found.offset) ≡ x
is c x e = sym c.frame_at.ensures ∙ e

padding-in : (c : tie.In-Padding invariant-loop decreases-loop) → let l = c in Lies c.in-Padding.n ((st c.before.before).args.term - l.loop-found.offset)
padding-in c = lies _ _ (Padding c.in-Padding.n) (is c.before _ c.in-Padding.is) refl

data-in : (c : tie.In-Data invariant-loop decreases-loop) → let l = c in Lies c.in-Data.n ((st c.before.before).args.term - l.loop-found.offset)
data-in c = lies _ _ (Data c.in-Data.n) (is c.before _ c.in-Data.is) refl

loop-holds : tie.Need-loop-found-init invariant-loop decreases-loop
loop-holds c = let a = c.args in laws.gap-start a.log.now a.base a.term a.high a.at (omega arith) (omega arith)

add-frame-at : tie.Need-overflow_add-base invariant-loop decreases-loop
add-frame-at c = omega (arith, c.loop-found.invariant.inside)

sub-frame-at : tie.Need-overflow_sub-term invariant-loop decreases-loop
sub-frame-at c = omega (arith, c.loop-found.invariant.inside)

returns : tie.Need-returns-then-offset-at invariant-loop decreases-loop
returns c =
    let l = c in
    let a = (st c.before.before.before.before).args in
    ap Err c.unsound_frame.ensures
    ∙ laws.gap-first a.log.now a.base a.term a.high a.at a.term_id l.loop-found.offset _ c.if-offset-at.true (is c.before.before.before _ c.in-Unsound.is)

returns-2 : tie.Need-returns-in-Unsound invariant-loop decreases-loop
returns-2 c =
    let l = c in
    let a = (st c.before.before.before).args in
    laws.gap-unsound a.log.now a.base a.term a.high a.at a.term_id l.loop-found.offset _ l.loop-found.invariant (is c.before.before _ c.in-Unsound.is) c.if-offset-at.false

returns-3 : tie.Need-returns-then-high-offset invariant-loop decreases-loop
returns-3 c =
    let l = c in
    let a = (st c.before.before.before).args in
    laws.gap-past a.log.now a.base a.term a.high a.at a.term_id l.loop-found.offset _ (Padding c.in-Padding.n) l.loop-found.invariant (is c.before.before _ c.in-Padding.is) refl refl c.if-high-offset.true

loop-less : tie.Need-loop-found-smaller-else-high-offset invariant-loop decreases-loop
loop-less c = omega (arith, padding-in c.before, c.loop-found.invariant.inside)

loop-again : tie.Need-loop-found-preserved-else-high-offset invariant-loop decreases-loop
loop-again c =
    let l = c in
    let a = (st c.before.before.before).args in
    laws.gap-on a.log.now a.base a.term a.high a.at l.loop-found.offset _ (Padding c.in-Padding.n) l.loop-found.invariant (is c.before.before _ c.in-Padding.is) refl refl (omega arith) c.if-high-offset.false

returns-4 : tie.Need-returns-then-high-offset-2 invariant-loop decreases-loop
returns-4 c =
    let l = c in
    let a = (st c.before.before.before).args in
    laws.gap-past a.log.now a.base a.term a.high a.at a.term_id l.loop-found.offset _ (Data c.in-Data.n) l.loop-found.invariant (is c.before.before _ c.in-Data.is) refl refl c.if-high-offset-2.true

loop-less-2 : tie.Need-loop-found-smaller invariant-loop decreases-loop
loop-less-2 c = omega (arith, data-in c.before, c.loop-found.invariant.inside)

loop-again-2 : tie.Need-loop-found-preserved invariant-loop decreases-loop
loop-again-2 c =
    let l = c in
    let a = (st c.before.before.before).args in
    laws.gap-on a.log.now a.base a.term a.high a.at l.loop-found.offset _ (Data c.in-Data.n) l.loop-found.invariant (is c.before.before _ c.in-Data.is) refl refl (omega arith) c.if-high-offset-2.false

returns-5 : tie.Need-returns-then-high-offset-3 invariant-loop decreases-loop
returns-5 c =
    let l = c in
    let a = (st c.before.before.before).args in
    laws.gap-none a.log.now a.base a.term a.high a.at a.term_id l.loop-found.offset l.loop-found.invariant (is c.before.before _ c.in-Absent.is) c.if-high-offset-3.true

gap-length-requires : tie.Need-gap_length-length-requires invariant-loop decreases-loop
gap-length-requires c κs = let i = c.loop-found.invariant in omega (arith, i.aligned)

returns-6 : tie.Need-returns invariant-loop decreases-loop
returns-6 c =
    let g = c in
    let l = c in
    let a = (st c.before.before.before.before.before).args in
    ap₂ (λ (i : ℤ) (n : ℕ). Ok (Gap i l.loop-found.offset n c.is_writing-written.result)) (to_z-of_z (st c.before.before.before.before.before).ranges.term_id) g.gap_length-length.ensures
    ∙ ap (λ (b : Bool). Ok (Gap a.term_id l.loop-found.offset (gap_length a.term a.log.now a.base a.high l.loop-found.offset) b)) c.is_writing-written.ensures
    ∙ laws.gap_here a.log.now a.base a.term a.high a.at a.term_id l.loop-found.offset l.loop-found.invariant (is c.before.before.before.before _ g.in-Absent.is) g.if-high-offset-3.false

add-is-writing : tie.Need-overflow_add-base-2 invariant-loop decreases-loop
add-is-writing c = omega (arith, c.loop-found.invariant.inside)

pub gap_frames_spec : {M : Type 1} → statement M
gap_frames_spec =
    tie.close
    (tie.spec
    invariant-loop
    decreases-loop
    loop-holds
    add-frame-at
    sub-frame-at
    (search rules)
    (search rules)
    (search rules)
    (search rules)
    (search rules)
    returns
    returns-2
    (search rules)
    (λ c. omega (arith, padding-in c))
    (λ c. omega (arith, padding-in c))
    (λ c. omega (arith, padding-in c))
    returns-3
    loop-less
    loop-again
    (search rules)
    (λ c. omega (arith, data-in c))
    (λ c. omega (arith, data-in c))
    (λ c. omega (arith, data-in c))
    returns-4
    loop-less-2
    loop-again-2
    returns-5
    gap-length-requires
    add-is-writing
    (search rules)
    returns-6)
