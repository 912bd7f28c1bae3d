-- The loop keeps `Availing` of model's AvailableLaws; each way out cites its law there.
use Rattle.std.specs.Prelude.{Err}
use Rattle.std.proofs.Common.{◌≡◌, ◌+◌, ◌-◌, ◌*◌, ◌/◌, drop, sym, refl, ap, ◌∙◌, arith, rules}
use Rattle.model.specs.declared.Frame.{Frame}
use Rattle.model.specs.declared.Frame.TheVariants.{Padding, Data}
use Rattle.model.specs.FrameDescriptor.{frame_at}
use Rattle.model.proofs.FrameLaws.{Lies, lies}
use Rattle.model.proofs.AvailableLaws.{Availing}
use Rattle.model.proofs.AvailableLaws as laws
use Rattle.logbuffer.proofs.term_scan.available_frames.Statement.{statement}
use Rattle.logbuffer.proofs.term_scan.available_frames.Tie as tie

abbrev invariant-loop : tie.invariant-loop-found
invariant-loop log base term at most available₀ padding₀ available padding = Availing log base term at most available padding

abbrev decreases-loop : tie.decreases-loop-found
decreases-loop log base term at most available₀ padding₀ available padding = term - available

-- the entry, and what is seen of a frame, from the loop's head
abbrev st : tie.At-loop-found invariant-loop decreases-loop → tie.Start invariant-loop decreases-loop
st c = c.before.before

is : (c : tie.After-frame_at invariant-loop decreases-loop) (x : Frame) → c.frame_at.result ≡ x
    → frame_at (drop ((st c.before).args.base + ((st c.before).args.at + c.loop-found.available)) (st c.before).args.log.now) ((st c.before).args.term - ((st c.before).args.at + c.loop-found.available)) ≡ x
is c x e = sym c.frame_at.ensures ∙ e

padding-in : (c : tie.In-Padding invariant-loop decreases-loop) → let l = c in Lies c.in-Padding.n ((st c.before.before).args.term - ((st c.before.before).args.at + l.loop-found.available))
padding-in c = lies _ _ (Padding c.in-Padding.n) (is c.before _ c.in-Padding.is) refl

data-in : (c : tie.In-Data invariant-loop decreases-loop) → let l = c in Lies c.in-Data.n ((st c.before.before).args.term - ((st c.before.before).args.at + l.loop-found.available))
data-in c = lies _ _ (Data c.in-Data.n) (is c.before _ c.in-Data.is) refl

loop-holds : tie.Need-loop-found-init invariant-loop decreases-loop
loop-holds c = let a = c.args in laws.available-start a.log.now a.base a.term a.at a.most (omega arith)

returns : tie.Need-returns-then-available-eq0 invariant-loop decreases-loop
returns c =
    let l = c in
    let a = (st c.before.before.before.before).args in
    ap Err c.unsound_frame.ensures
    ∙ laws.available-first a.log.now a.base a.term a.at a.most l.loop-found.available _ c.if-available-eq0.true (is c.before.before.before _ c.in-Unsound.is)

outcome-requires : tie.Need-outcome-requires invariant-loop decreases-loop
outcome-requires c κs = let i = c.loop-found.invariant in omega (arith, i.inside, i.bounded)

returns-2 : tie.Need-returns-in-Unsound invariant-loop decreases-loop
returns-2 c = c.outcome.ensures ∙ (let l = c in let a = (st c.before.before.before.before).args in laws.available-unsound a.log.now a.base a.term a.at a.most l.loop-found.available l.loop-found.padding _ l.loop-found.invariant (is c.before.before.before _ c.in-Unsound.is) c.if-available-eq0.false)

add-if2 : tie.Need-overflow_add-available invariant-loop decreases-loop
add-if2 c = omega (arith, c.loop-found.invariant.inside)

outcome-requires-2 : tie.Need-outcome-requires-then-most-available invariant-loop decreases-loop
outcome-requires-2 c κs = let i = c.loop-found.invariant in omega (arith, i.inside)

returns-3 : tie.Need-returns-then-most-available invariant-loop decreases-loop
returns-3 c = c.outcome-then-most-available.ensures ∙ (let d = c in let l = c in let a = (st c.before.before.before.before).args in laws.over-most a.log.now a.base a.term a.at a.most l.loop-found.available l.loop-found.padding 32 ((d.in-Padding.n + 31) / 32 * 32 - 32) l.loop-found.invariant (Padding d.in-Padding.n) (is c.before.before.before _ d.in-Padding.is) refl (λ go. refl) c.if-most-available.true)

add-available : tie.Need-overflow_add-available-in-Padding invariant-loop decreases-loop
add-available c = omega (arith, padding-in c.before, c.loop-found.invariant.inside)

add-padding : tie.Need-overflow_add-padding invariant-loop decreases-loop
add-padding c = omega (arith, padding-in c.before, c.loop-found.invariant.inside)

mul-padding : tie.Need-overflow_mul-padding invariant-loop decreases-loop
mul-padding c = omega (arith, padding-in c.before, c.loop-found.invariant.inside)

sub-padding : tie.Need-overflow_sub-padding invariant-loop decreases-loop
sub-padding c = omega (arith, padding-in c.before, c.loop-found.invariant.inside)

add-if3 : tie.Need-overflow_add-available-in-Padding-2 invariant-loop decreases-loop
add-if3 c = omega (arith, padding-in c.before, c.loop-found.invariant.inside)

outcome-requires-3 : tie.Need-outcome-requires-then-most-available-2 invariant-loop decreases-loop
outcome-requires-3 c κs = omega (arith, padding-in c.before.before, c.loop-found.invariant.inside)

returns-4 : tie.Need-returns-then-most-available-2 invariant-loop decreases-loop
returns-4 c = c.outcome-then-most-available-2.ensures ∙ (let d = c in let l = c in let a = (st c.before.before.before.before.before).args in laws.fills a.log.now a.base a.term a.at a.most l.loop-found.available l.loop-found.padding 32 ((d.in-Padding.n + 31) / 32 * 32 - 32) l.loop-found.invariant (Padding d.in-Padding.n) (is c.before.before.before.before _ d.in-Padding.is) refl (λ go. refl) c.if-most-available.false c.if-most-available-2.true)

loop-less : tie.Need-loop-found-smaller-else-most-available-2 invariant-loop decreases-loop
loop-less c = omega (arith, padding-in c.before.before, c.loop-found.invariant.inside)

loop-again : tie.Need-loop-found-preserved-else-most-available-2 invariant-loop decreases-loop
loop-again c =
    let d = c in
    let l = c in
    let a = (st c.before.before.before.before).args in
    laws.goes_on a.log.now a.base a.term a.at a.most l.loop-found.available l.loop-found.padding 32 ((d.in-Padding.n + 31) / 32 * 32 - 32) l.loop-found.invariant (Padding d.in-Padding.n) (is c.before.before.before _ d.in-Padding.is) refl (λ go. refl) (omega arith) (omega arith) (omega (arith, padding-in c.before.before)) c.if-most-available-2.false

add-size : tie.Need-overflow_add-size invariant-loop decreases-loop
add-size c = omega (arith, data-in c, c.loop-found.invariant.inside)

mul-size : tie.Need-overflow_mul-size invariant-loop decreases-loop
mul-size c = omega (arith, data-in c, c.loop-found.invariant.inside)

add-if4 : tie.Need-overflow_add-available-in-Data invariant-loop decreases-loop
add-if4 c = omega (arith, data-in c, c.loop-found.invariant.inside)

outcome-requires-4 : tie.Need-outcome-requires-then-most-available-3 invariant-loop decreases-loop
outcome-requires-4 c κs = omega (arith, c.loop-found.invariant.inside)

returns-5 : tie.Need-returns-then-most-available-3 invariant-loop decreases-loop
returns-5 c = c.outcome-then-most-available-3.ensures ∙ (let d = c in let l = c in let a = (st c.before.before.before.before).args in laws.over-most a.log.now a.base a.term a.at a.most l.loop-found.available l.loop-found.padding ((d.in-Data.n + 31) / 32 * 32) l.loop-found.padding l.loop-found.invariant (Data d.in-Data.n) (is c.before.before.before _ d.in-Data.is) refl (λ go. refl) c.if-most-available-3.true)

add-available-2 : tie.Need-overflow_add-available-in-Data-2 invariant-loop decreases-loop
add-available-2 c = omega (arith, data-in c.before, c.loop-found.invariant.inside, c.loop-found.invariant.bounded)

add-if5 : tie.Need-overflow_add-available-in-Data-3 invariant-loop decreases-loop
add-if5 c = omega (arith, data-in c.before, c.loop-found.invariant.inside, c.loop-found.invariant.bounded)

outcome-requires-5 : tie.Need-outcome-requires-then-most-available-4 invariant-loop decreases-loop
outcome-requires-5 c κs = omega (arith, data-in c.before.before, c.loop-found.invariant.inside, c.loop-found.invariant.bounded)

returns-6 : tie.Need-returns-then-most-available-4 invariant-loop decreases-loop
returns-6 c = c.outcome-then-most-available-4.ensures ∙ (let d = c in let l = c in let a = (st c.before.before.before.before.before).args in laws.fills a.log.now a.base a.term a.at a.most l.loop-found.available l.loop-found.padding ((d.in-Data.n + 31) / 32 * 32) l.loop-found.padding l.loop-found.invariant (Data d.in-Data.n) (is c.before.before.before.before _ d.in-Data.is) refl (λ go. refl) c.if-most-available-3.false c.if-most-available-4.true)

loop-less-2 : tie.Need-loop-found-smaller invariant-loop decreases-loop
loop-less-2 c = omega (arith, data-in c.before.before, c.loop-found.invariant.inside)

loop-again-2 : tie.Need-loop-found-preserved invariant-loop decreases-loop
loop-again-2 c =
    let d = c in
    let l = c in
    let a = (st c.before.before.before.before).args in
    laws.goes_on a.log.now a.base a.term a.at a.most l.loop-found.available l.loop-found.padding ((d.in-Data.n + 31) / 32 * 32) l.loop-found.padding l.loop-found.invariant (Data d.in-Data.n) (is c.before.before.before _ d.in-Data.is) refl (λ go. refl) (omega arith) (omega (arith, data-in c.before.before)) l.loop-found.invariant.bounded c.if-most-available-4.false

outcome-requires-6 : tie.Need-outcome-requires-2 invariant-loop decreases-loop
outcome-requires-6 c κs = let i = c.loop-found.invariant in omega (arith, i.inside, i.bounded)

returns-7 : tie.Need-returns invariant-loop decreases-loop
returns-7 c = c.outcome-2.ensures ∙ (let l = c in let a = (st c.before.before.before).args in laws.available-absent a.log.now a.base a.term a.at a.most l.loop-found.available l.loop-found.padding l.loop-found.invariant (is c.before.before _ c.in-Absent.is))

pub available_frames_spec : {M : Type 1} → statement M
available_frames_spec =
    tie.close
    (tie.spec
    invariant-loop
    decreases-loop
    loop-holds
    (λ c. omega (arith, c.loop-found.invariant.inside))
    (λ c. omega (arith, c.loop-found.invariant.inside))
    (λ c. omega (arith, c.loop-found.invariant.inside))
    (λ c. omega (arith, c.loop-found.invariant.inside))
    (search rules)
    (search rules)
    (search rules)
    (search rules)
    (search rules)
    returns
    outcome-requires
    returns-2
    (search rules)
    add-if2
    outcome-requires-2
    returns-3
    add-available
    add-padding
    mul-padding
    sub-padding
    add-if3
    outcome-requires-3
    returns-4
    loop-less
    loop-again
    (search rules)
    add-size
    mul-size
    add-if4
    outcome-requires-4
    returns-5
    add-available-2
    add-if5
    outcome-requires-5
    returns-6
    loop-less-2
    loop-again-2
    outcome-requires-6
    returns-7)
