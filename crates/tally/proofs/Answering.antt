-- The answers of both tallies by the verdicts, over the numbers that the code has read.
use Rattle.std.specs.Prelude.{Result, Ok, Err, ⊤}
use Rattle.std.proofs.Common.{◌≡◌, ℕ, ◌^◌, min, Bool, cond, List, length, ℤ, sym, refl, ap, ◌∙◌, arith, w64, SFits}
use Rattle.model.specs.declared.LogRecord.{LogRecord}
use Rattle.model.specs.declared.Error.{Error}
use Rattle.model.specs.declared.Error.TheVariants.{IllegalArgument}
use Rattle.model.specs.Bytes.{word, long}
use Rattle.model.specs.LogBufferDescriptor.{reading, bits_to_shift}
use Rattle.tally.specs.Walk.{Stream, stream_of, stream_by}
use Rattle.tally.specs.Span.{span_rows, first_frame}
use Rattle.tally.specs.Tally.{tallied_by, tally_verdict, tally_of}
use Rattle.tally.specs.Partitions.{in_three, partitioned_by, partition_verdict, partition_tally_of}
use Rattle.tally.specs.Within.{Ordered}
use Rattle.tally.proofs.Spots.{term_is, stream-is}
use Rattle.tally.proofs.Spans.{span-pass, span-after}

module _ (r : LogRecord) (log : List ℕ) (from to : ℤ) where
  abbrev rows : Result ⊤ Error → Result ⊤ Error
  rows rest = span_rows r (length log) from to rest

  abbrev stream : ℕ → Stream
  stream bits = stream_by bits (word r.initial_term_id) log

  -- what was read of a record and two positions that the rows let pass: the bits to shift, and the positions' own bits
  pub record Taken (bits start end : ℕ) : Type 0 where
    pub passed : (Ok tt) ≡ rows (Ok tt)
    pub term : 2 ^ min bits 30 ≡ (reading r).term
    pub stream : stream bits ≡ stream_of r log
    pub start_is : start ≡ long from
    pub end_is : end ≡ long to
    pub ordered : Ordered start end

  pub taken : SFits w64 from → SFits w64 to → Ok tt ≡ rows (Ok tt) → (w bits start end : ℕ) → w ≡ word r.term_length → bits ≡ bits_to_shift w → start ≡ long from → end ≡ long to
      → Taken bits start end
  taken f g h w bits start end ew eb es ee =
      let k = span-pass r (length log) from to f g h in
      let t = term_is r (length log) bits k.sound (eb ∙ ap bits_to_shift ew) in
      record {
        passed = h;
        term = t;
        stream = stream-is r log bits (word r.initial_term_id) t refl;
        start_is = es;
        end_is = ee;
        ordered = (omega (arith, k.order), omega (arith, k.small));
      }

  -- ---- in stream order

  pub tally-refused : (e : Error) → Err e ≡ rows (Ok tt) → Err e ≡ tally_of r log from to
  unfolding tally_of tally_verdict
  tally-refused e h = ap (tallied_by (stream_of r log) (long from) (long to)) (span-after r (length log) from to (Err e) _ h)

  tally-of : (y : Result ⊤ Error) → Ok tt ≡ rows (Ok tt) → y ≡ first_frame (reading r).term log (long from) (long to)
      → tallied_by (stream_of r log) (long from) (long to) y ≡ tally_of r log from to
  unfolding tally_of tally_verdict
  tally-of y h e = ap (tallied_by (stream_of r log) (long from) (long to)) (span-after r (length log) from to (Ok tt) y h ∙ ap rows e)

  pub tally-by : (bits start end : ℕ) → Taken bits start end → (y : Result ⊤ Error) → y ≡ first_frame (2 ^ min bits 30) log start end
      → tallied_by (stream bits) start end y ≡ tally_of r log from to
  tally-by bits start end t y e = rw (t.stream, t.start_is, t.end_is) (tally-of y t.passed (rw (t.term, t.start_is, t.end_is) at e))

  -- ---- in partition order

  pub partition-refused : (e : Error) → Err e ≡ rows (Ok tt) → Err e ≡ partition_tally_of r log from to
  unfolding partition_tally_of partition_verdict
  partition-refused e h = ap (partitioned_by (stream_of r log) (long from) (long to)) (span-after r (length log) from to (Err e) _ h)

  -- the third test, and what follows it
  abbrev then : Bool → Result ⊤ Error → Result ⊤ Error
  then b y = cond b y (Err IllegalArgument)

  partition-of : (y : Result ⊤ Error) → Ok tt ≡ rows (Ok tt) → y ≡ first_frame (reading r).term log (long from) (long to)
      → partitioned_by (stream_of r log) (long from) (long to) (then (in_three (reading r).term (long from) (long to)) y) ≡ partition_tally_of r log from to
  unfolding partition_tally_of partition_verdict
  partition-of y h e =
      let b = in_three (reading r).term (long from) (long to) in
      ap (partitioned_by (stream_of r log) (long from) (long to)) (span-after r (length log) from to (Ok tt) (then b y) h ∙ ap (λ (z : Result ⊤ Error). rows (then b z)) e)

  pub partition-by : (bits start end : ℕ) → Taken bits start end → (b : Bool) (y : Result ⊤ Error) → in_three (2 ^ min bits 30) start end ≡ b
      → y ≡ first_frame (2 ^ min bits 30) log start end → partitioned_by (stream bits) start end (then b y) ≡ partition_tally_of r log from to
  partition-by bits start end t b y h e =
      rw (sym h, t.stream, t.term, t.start_is, t.end_is) (partition-of y t.passed (rw (t.term, t.start_is, t.end_is) at e))
