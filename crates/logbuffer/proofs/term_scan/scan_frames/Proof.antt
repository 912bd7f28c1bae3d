-- The loop keeps `Scanning` of model's ScanLaws; each way out cites its law there.
use Rattle.std.specs.Prelude.{Err}
use Rattle.std.proofs.Common.{◌≡◌, ◌+◌, ◌-◌, drop, sym, refl, ap, ◌∙◌, arith, rules}
use Rattle.model.specs.declared.Frame.TheVariants.{Padding, Data}
use Rattle.model.specs.FrameDescriptor.{frame_at}
use Rattle.model.proofs.FrameLaws.{Lies, lies}
use Rattle.model.proofs.ScanLaws.{Scanning}
use Rattle.model.proofs.ScanLaws as laws
use Rattle.logbuffer.proofs.term_scan.scan_frames.Statement.{statement}
use Rattle.logbuffer.proofs.term_scan.scan_frames.Tie as tie

abbrev invariant-loop : tie.invariant-loop-offset
invariant-loop log base term limit at offset₀ offset = Scanning log base term limit at offset

abbrev decreases-loop : tie.decreases-loop-offset
decreases-loop log base term limit at offset₀ offset = limit - offset

-- the entry, and what is seen of a frame, from the loop's head
abbrev st : tie.At-loop-offset invariant-loop decreases-loop → tie.Start invariant-loop decreases-loop
st c = c.before.before

abbrev head : tie.After-frame_at invariant-loop decreases-loop → tie.At-loop-offset invariant-loop decreases-loop
head c = c.before.before

is-padding : (c : tie.In-Padding invariant-loop decreases-loop) → let l = head c.before in
    frame_at (drop ((st l).args.base + l.loop-offset.offset) (st l).args.log.now) ((st l).args.term - l.loop-offset.offset) ≡ Padding c.in-Padding.n
is-padding c = sym c.frame_at.ensures ∙ c.in-Padding.is

padding-in : (c : tie.In-Padding invariant-loop decreases-loop) → let l = head c.before in Lies c.in-Padding.n ((st l).args.term - l.loop-offset.offset)
padding-in c = lies _ _ (Padding c.in-Padding.n) (is-padding c) refl

is-data : (c : tie.In-Data invariant-loop decreases-loop) → let l = head c.before in
    frame_at (drop ((st l).args.base + l.loop-offset.offset) (st l).args.log.now) ((st l).args.term - l.loop-offset.offset) ≡ Data c.in-Data.n
is-data c = sym c.frame_at.ensures ∙ c.in-Data.is

data-in : (c : tie.In-Data invariant-loop decreases-loop) → let l = head c.before in Lies c.in-Data.n ((st l).args.term - l.loop-offset.offset)
data-in c = lies _ _ (Data c.in-Data.n) (is-data c) refl

loop-holds : tie.Need-loop-offset-init invariant-loop decreases-loop
loop-holds c = let a = c.args in laws.scan-start a.log.now a.base a.term a.limit a.at (omega arith)

returns : tie.Need-returns-then-offset-at invariant-loop decreases-loop
returns c =
    let l = c in
    let a = (st c.before.before.before.before.before).args in
    ap Err c.unsound_frame.ensures
    ∙ laws.scan-first a.log.now a.base a.term a.limit a.at l.loop-offset.offset _ c.if-offset-at.true (omega arith) (sym c.frame_at.ensures ∙ c.in-Unsound.is)

returns-2 : tie.Need-returns-then-offset-at-2 invariant-loop decreases-loop
returns-2 c =
    let l = c in
    let a = (st c.before.before.before.before).args in
    laws.scan-past a.log.now a.base a.term a.limit a.at l.loop-offset.offset c.in-Padding.n l.loop-offset.invariant (omega arith) (is-padding c.before) c.if-offset-at-2.true

loop-less : tie.Need-loop-offset-smaller invariant-loop decreases-loop
loop-less c = omega (arith, data-in c.before)

loop-again : tie.Need-loop-offset-preserved invariant-loop decreases-loop
loop-again c =
    let l = c in
    let a = (st c.before.before.before.before).args in
    laws.scan-on a.log.now a.base a.term a.limit a.at l.loop-offset.offset c.in-Data.n l.loop-offset.invariant (omega arith) c.if-next-limit.false (is-data c.before)

returns-3 : tie.Need-returns-then-limit-offset invariant-loop decreases-loop
returns-3 c =
    let l = c in
    let a = (st c.before).args in
    laws.scan-full a.log.now a.base a.term a.limit a.at l.loop-offset.offset l.loop-offset.invariant c.if-limit-offset.true

returns-4 : tie.Need-returns-in-Absent invariant-loop decreases-loop
returns-4 c =
    let l = c in
    let a = (st c.before.before.before).args in
    laws.scan-absent a.log.now a.base a.term a.limit a.at l.loop-offset.offset l.loop-offset.invariant (sym c.frame_at.ensures ∙ c.in-Absent.is)

returns-5 : tie.Need-returns-else-offset-at invariant-loop decreases-loop
returns-5 c =
    let l = c in
    let a = (st c.before.before.before.before).args in
    laws.scan-unsound a.log.now a.base a.term a.limit a.at l.loop-offset.offset _ l.loop-offset.invariant (sym c.frame_at.ensures ∙ c.in-Unsound.is) c.if-offset-at.false

returns-6 : tie.Need-returns-else-offset-at-2 invariant-loop decreases-loop
returns-6 c =
    let l = c in
    let a = (st c.before.before.before.before).args in
    laws.scan-padding a.log.now a.base a.term a.limit a.at l.loop-offset.offset c.in-Padding.n l.loop-offset.invariant (is-padding c.before) c.if-offset-at-2.false

returns-7 : tie.Need-returns-then-next-limit invariant-loop decreases-loop
returns-7 c =
    let l = c in
    let a = (st c.before.before.before.before).args in
    laws.scan-long a.log.now a.base a.term a.limit a.at l.loop-offset.offset c.in-Data.n l.loop-offset.invariant (is-data c.before) c.if-next-limit.true

pub scan_frames_spec : {M : Type 1} → statement M
scan_frames_spec =
    tie.close
    (tie.spec
    invariant-loop
    decreases-loop
    loop-holds
    (search rules)
    (search rules)
    (search rules)
    (search rules)
    (search rules)
    (search rules)
    (search rules)
    returns
    (search rules)
    (λ c. omega (arith, padding-in c.before))
    (λ c. omega (arith, padding-in c.before))
    (λ c. omega (arith, padding-in c.before))
    returns-2
    (search rules)
    (λ c. omega (arith, data-in c))
    (λ c. omega (arith, data-in c))
    (λ c. omega (arith, data-in c))
    loop-less
    loop-again
    returns-3
    returns-4
    returns-5
    returns-6
    returns-7)
