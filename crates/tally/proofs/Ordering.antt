-- The tally in partition order is the tally: the same rows, totals and end.
use Rattle.std.specs.Prelude.{Result, Ok, Err, ⊤}
use Rattle.model.specs.declared.Error.{Error}
use Rattle.std.proofs.Common.{◌≡◌, ℕ, ◌+◌, ◌*◌, ◌/◌, ◌≤◌, true, List, length, ℤ, pos, refl, ap, ◌∙◌, ap₂, w64, SFits, leb-true}
use Rattle.model.specs.declared.LogRecord.{LogRecord}
use Rattle.model.specs.Bytes.{long}
use Rattle.model.specs.LogBufferDescriptor.{reading}
use Rattle.tally.specs.declared.Sums.{Sums}
use Rattle.tally.specs.declared.Partitions.{Partitions}
use Rattle.tally.specs.Walk.{Stream, stream_of, between, why}
use Rattle.tally.specs.Span.{first_frame}
use Rattle.tally.specs.Tally.{tally_verdict, tallied_by, tally_of}
use Rattle.tally.specs.Partitions.{all_of, in_three, partition_verdict, partitioned_by, partition_tally_of}
use Rattle.tally.specs.Theorems.{whole, StreamOrder}
use Rattle.tally.proofs.Spans.{span-order}
use Rattle.tally.proofs.Parting.{each_in, end-in, all_in}

-- two walks that pass the same frames
by-sums : (s : Stream) (from to : ℕ) → from ≤ to → to ≤ (from / s.term + 3) * s.term → whole (partitioned_by s from to (Ok tt)) ≡ tallied_by s from to (Ok tt)
by-sums s from to o t =
    ap₂ (λ (x : Sums) (n : ℕ). Ok (record { sums = x; end = pos n; stop = why s to n }))
    (ap (λ (p : Partitions). all_of p) (each_in s from to o t) ∙ all_in s.term (between s from to))
    (end-in s from to o t)

module _ (r : LogRecord) (log : List ℕ) (from to : ℤ) (f : SFits w64 from) (g : SFits w64 to) (h : in_three (reading r).term (long from) (long to) ≡ true) where
  same_rows : partition_verdict r log from to ≡ tally_verdict r log from to
  unfolding partition_verdict tally_verdict
  same_rows = rw h

  order : tally_verdict r log from to ≡ Ok tt → long from ≤ long to
  unfolding tally_verdict
  order q = span-order r (length log) from to (first_frame (reading r).term log (long from) (long to)) f g q

  three : long to ≤ (long from / (stream_of r log).term + 3) * (stream_of r log).term
  unfolding stream_of
  three = leb-true _ _ h

  by-verdict : (x : Result ⊤ Error) → tally_verdict r log from to ≡ x
      → whole (partitioned_by (stream_of r log) (long from) (long to) x) ≡ tallied_by (stream_of r log) (long from) (long to) x
  by-verdict (Err e) q = refl
  by-verdict (Ok _) q = by-sums (stream_of r log) (long from) (long to) (order q) three

pub stream-order : StreamOrder
unfolding partition_tally_of tally_of
stream-order r log from to f g h =
    ap (λ (x : Result ⊤ Error). whole (partitioned_by (stream_of r log) (long from) (long to) x)) (same_rows r log from to f g h)
    ∙ by-verdict r log from to f g h _ refl
