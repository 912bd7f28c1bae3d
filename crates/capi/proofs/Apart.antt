-- What a scan for availability counts is no more than its maximum, so its two numbers do not run into one another: `AvailabilityApart` of specs/Theorems.antt.
use Rattle.std.specs.Prelude.{Result, Ok, ⊤}
use Rattle.model.specs.declared.Error.{Error}
use mathlib.Core.Path.{◌≡◌, refl, ap, ◌∙◌}
use mathlib.Core.Bool.{Bool, true, false, cond, ◌&&◌}
use Prim.Native.Nat.{ℕ, zero, suc, ◌+◌, ◌-◌, ◌*◌, ◌/◌, ◌%◌, ◌≤◌, ◌<◌, min}
use mathlib.Core.List.{List}
use native.Mathlib.Omega.{arith}
use borrow.Author.Tests.{ltb-false}
use lib.Dec.{ltb, leb}
use lib.IntN.{ℤ, pos}
use lib.ListN.{length, drop}
use Rattle.model.specs.declared.Frame.{Frame}
use Rattle.model.specs.declared.Frame.TheVariants.{Absent, Unsound, Padding, Data}
use Rattle.model.specs.declared.LogRecord.{LogRecord}
use Rattle.model.specs.FrameDescriptor.{align, frame_at, is_unsound, unsound_frame_at}
use Rattle.model.specs.LogBufferDescriptor.{reading, sound, good_partition, good_offset, first_rows, frame_row}
use Rattle.model.specs.TermScan.{Available, counted, available_over, available_from, availability_by, availability_judge, availability_of, scan_verdict}
use Rattle.model.proofs.Sound.{sound-true}
use Rattle.capi.specs.declared.replies.AvailabilityReply.{AvailabilityReply}
use Rattle.capi.specs.Replies.{availability_reply}
use Rattle.capi.specs.Theorems.{AvailabilityApart, counted_from}

-- ---- no more than the maximum

counted-most : (available size padding most cap : ℕ) (go : ℕ → ℕ → Available) → available ≤ cap → most ≤ cap
    → ((a p : ℕ) → a ≤ cap → (go a p).available ≤ cap) → (counted available size padding most go).available ≤ cap
counted-most available size padding most cap go a m h = over (ltb most (available + size)) refl
  where
    fills : (b : Bool) → available + size ≤ cap
        → (cond {A = Available} b (record { available = available + size; padding = padding }) (go (available + size) padding)).available ≤ cap
    fills true k = k
    fills false k = h (available + size) padding k

    over : (b : Bool) → ltb most (available + size) ≡ b
        → (cond {A = Available} b (record { available = available; padding = 0 })
        (cond (leb most (available + size + padding)) (record { available = available + size; padding = padding }) (go (available + size) padding))).available ≤ cap
    over true e = a
    over false e = fills (leb most (available + size + padding)) (omega (arith, ltb-false most (available + size) e, m))

over-most : (x : Frame) (available padding most cap : ℕ) (go : ℕ → ℕ → Available) → available ≤ cap → most ≤ cap
    → ((a p : ℕ) → a ≤ cap → (go a p).available ≤ cap) → (available_over x available padding most go).available ≤ cap
over-most Absent available padding most cap go a m h = a
over-most (Unsound n) available padding most cap go a m h = a
over-most (Padding n) available padding most cap go a m h = counted-most available 32 (align n - 32) most cap go a m h
over-most (Data n) available padding most cap go a m h = counted-most available (align n) padding most cap go a m h

at_most : (fuel : ℕ) (log : List ℕ) (base term at most cap available padding : ℕ) → available ≤ cap → most ≤ cap
    → (available_from fuel log base term at most available padding).available ≤ cap
unfolding available_from
at_most zero log base term at most cap available padding a m = a
at_most (suc fuel) log base term at most cap available padding a m =
    over-most (frame_at (drop (base + (at + available)) log) (term - (at + available))) available padding most cap
    (λ x p. available_from fuel log base term at most x p) a m
    (λ x p h. at_most fuel log base term at most cap x p h m)

-- ---- a scan that passes has a sound record

passes : (good is-sound : Bool) (rest : Result ⊤ Error) → first_rows good is-sound rest ≡ Ok tt → is-sound ≡ true
passes true true rest h = refl
passes true false rest h = absurd (let z : ◌≡◌ {A = ℕ} 0 1 = cc in omega arith)
passes false is-sound rest h = absurd (let z : ◌≡◌ {A = ℕ} 0 1 = cc in omega arith)

sound-by : (r : LogRecord) (log : List ℕ) (k at : ℕ) → availability_judge r log k at ≡ Ok tt → sound (reading r) (length log) ≡ true
unfolding availability_judge scan_verdict
sound-by r log k at h =
    passes (good_partition k && good_offset at (reading r)) (sound (reading r) (length log))
    (frame_row (is_unsound (frame_at (drop (k * (reading r).term + at) log) ((reading r).term - at))) (unsound_frame_at log (k * (reading r).term) at)) h

-- ---- quotient and remainder

parts : (w : Available) → w.available < 4294967296
    → availability_reply (availability_by w (Ok tt)) ≡ record { code = pos 0; padding = w.padding; available = w.available }
parts w h =
    let p : (w.padding * 4294967296 + w.available) / 4294967296 ≡ w.padding = omega arith in
    let a : (w.padding * 4294967296 + w.available) % 4294967296 ≡ w.available = omega arith in
    cc

pub availability-apart : AvailabilityApart
unfolding availability_of
availability-apart r log partition offset maximum h =
    let s = sound-true (reading r) (length log) (sound-by r log _ _ h) in
    let w = counted_from r log partition offset maximum in
    let m : w.available ≤ (reading r).term = at_most (reading r).term log _ (reading r).term _ _ (reading r).term 0 0 (omega arith) (omega arith) in
    ap (λ (v : Result ⊤ Error). availability_reply (availability_by w v)) h ∙ parts w (omega (arith, m, s.term-high))
