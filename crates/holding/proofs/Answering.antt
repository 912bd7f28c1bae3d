-- The answer by the verdicts, over the numbers that the code has read.
use Rattle.std.specs.Prelude.{Result, Ok, ⊤}
use Rattle.model.specs.declared.Error.{Error}
use mathlib.Core.Path.{◌≡◌, ap, ◌∙◌}
use mathlib.Core.List.{List}
use Prim.Native.Nat.{ℕ, ◌*◌, ◌^◌, ◌≤◌, min}
use native.Mathlib.Omega.{arith}
use lib.ListN.{length}
use lib.IntN.{ℤ}
use mathlib.Core.Bool.{true}
use Rattle.model.specs.declared.LogRecord.{LogRecord}
use Rattle.model.specs.Bytes.{long}
use Rattle.model.specs.LogBufferDescriptor.{reading, sound}
use Rattle.model.proofs.Sound.{sound-true}
use Rattle.tally.specs.Walk.{Stream, stream_of, stream_by, why}
use Rattle.tally.specs.Span.{span_rows, first_frame}
use Rattle.tally.specs.Tally.{tally_verdict}
use Rattle.tally.proofs.Spans.{after, span-after}
use Rattle.holding.specs.declared.walk.Walked.{Walked}
use Rattle.holding.specs.Holding.{answer_of, held_of, holding_with, holding_by, holding_of}
use Rattle.holding.specs.Within.{walk_of}

module _ (r : LogRecord) (log : List ℕ) (find : ℕ) (from to : ℤ) where
  holding-of : (x y : Result ⊤ Error) → x ≡ span_rows r (length log) from to (Ok tt) → y ≡ first_frame (reading r).term log (long from) (long to)
      → holding_by (stream_of r log) find (long from) (long to) (after x y) ≡ holding_of r log find from to
  unfolding holding_of tally_verdict
  holding-of x y hx hy =
      ap (holding_by (stream_of r log) find (long from) (long to)) (span-after r (length log) from to x y hx ∙ ap (span_rows r (length log) from to) hy)

  pub holding-by : (s : Stream) (start end : ℕ) → s ≡ stream_of r log → start ≡ long from → end ≡ long to → (x y : Result ⊤ Error)
      → x ≡ span_rows r (length log) from to (Ok tt) → y ≡ first_frame s.term s.log start end → holding_by s find start end (after x y) ≡ holding_of r log find from to
  unfolding stream_of
  holding-by s start end es ea ee x y hx hy = rw (es, ea, ee) (holding-of x y hx (rw (es, ea, ee) at hy))

-- a walk's answer
pub by-walk : (s : Stream) (find from to : ℕ) (w : Walked) → w ≡ walk_of find s from to
    → holding_with (answer_of w.held.found w.end (why s to w.end)) w.held w.note ≡ holding_by s find from to (Ok tt)
unfolding held_of
by-walk s find from to w e = ap (λ (x : Walked). holding_with (answer_of x.held.found x.end (why s to x.end)) x.held x.note) e

-- the log has three terms
pub three-terms : (r : LogRecord) (log : List ℕ) (bits i : ℕ) → sound (reading r) (length log) ≡ true → stream_by bits i log ≡ stream_of r log → 3 * 2 ^ min bits 30 ≤ length log
unfolding stream_by stream_of
three-terms r log bits i h e = omega (arith, ap (λ (s : Stream). s.term) e, (sound-true (reading r) (length log) h).three)
