-- The four sums add up to the distance walked, for what a frame adds to them is its aligned length; and where a walk ends.
use Rattle.std.proofs.Common.{◌≡◌, ℕ, zero, suc, ◌+◌, ◌-◌, ◌≤◌, eqb, List, [], ◌∷◌, refl, arith, eqb-true}
use borrow.Author.Tests.{eqb-false}
use Rattle.model.specs.declared.Frame.{Frame}
use Rattle.model.specs.declared.Frame.TheVariants.{Absent, Unsound, Padding, Data}
use Rattle.model.proofs.FrameLaws.{length_of}
use Rattle.model.proofs.Both.{test}
use Rattle.tally.specs.Walk.{Stream, Passed, size, met, walked, end_of}
use Rattle.tally.specs.Tally.{share, sum, sums_of, plus, total}
use Rattle.tally.specs.Theorems.{AddsUp, EndsThere}
use Rattle.tally.proofs.Steps.{stepped, stops, goes, at-end}

pub shares : (x : Frame) → 32 ≤ length_of x → total (share x) ≡ size x
shares Absent h = refl
shares (Unsound n) h = refl
shares (Padding n) h = omega arith
shares (Data n) h = omega arith

pub sums_none : sums_of [] ≡ record { body = 0; headers = 0; slack = 0; padding = 0 }
unfolding sum
sums_none = refl

pub sums-more : (f : Passed) (fs : List Passed) → sums_of (f ∷ fs) ≡ plus (share f.frame) (sums_of fs)
unfolding sum
sums-more f fs = refl

pub end_none : (p : ℕ) → end_of p [] ≡ p
unfolding end_of
end_none p = refl

pub end_more : (p : ℕ) (f : Passed) (fs : List Passed) → end_of p (f ∷ fs) ≡ end_of (f.at + size f.frame) fs
unfolding end_of
end_more p f fs = refl

pub adding : (fuel : ℕ) (s : Stream) (to p : ℕ) → p + total (sums_of (walked fuel s to p)) ≡ end_of p (walked fuel s to p)
unfolding walked sum end_of
adding zero s to p = omega arith
adding (suc fuel) s to p =
    test (eqb (size (met s to p)) 0)
    (λ e. rw (stops s p (suc fuel) to (eqb-true (size (met s to p)) 0 e)) (omega arith))
    (λ e.
    let n = eqb-false (size (met s to p)) 0 e in
    let k = shares (met s to p) (stepped s p to n).long in
    let i = adding fuel s to (p + size (met s to p)) in
    rw (goes s p fuel to n) (omega (arith, k, i)))

pub adds-up : AddsUp
adds-up s from to = adding (to - from) s to from

-- a walk ends at `to`, or before it
pub end-within : (fuel : ℕ) (s : Stream) (to p : ℕ) → p ≤ to → end_of p (walked fuel s to p) ≤ to
unfolding walked end_of
end-within zero s to p h = h
end-within (suc fuel) s to p h =
    test (eqb (size (met s to p)) 0)
    (λ e. rw (stops s p (suc fuel) to (eqb-true (size (met s to p)) 0 e)) h)
    (λ e.
    let n = eqb-false (size (met s to p)) 0 e in
    rw (goes s p fuel to n) (end-within fuel s to (p + size (met s to p)) (stepped s p to n).before))

-- and with fuel enough, only where nothing is met
end-none-met : (fuel : ℕ) (s : Stream) (to p : ℕ) → to - p ≤ fuel → size (met s to (end_of p (walked fuel s to p))) ≡ 0
unfolding walked end_of
end-none-met zero s to p h = at-end s to p (omega arith)
end-none-met (suc fuel) s to p h =
    test (eqb (size (met s to p)) 0)
    (λ e. let z = eqb-true (size (met s to p)) 0 e in rw (stops s p (suc fuel) to z) z)
    (λ e.
    let n = eqb-false (size (met s to p)) 0 e in
    rw (goes s p fuel to n) (end-none-met fuel s to (p + size (met s to p)) (omega (arith, (stepped s p to n).some))))

pub ends_there : EndsThere
ends_there s from to h = (end-within (to - from) s to from h, end-none-met (to - from) s to from (omega arith))
