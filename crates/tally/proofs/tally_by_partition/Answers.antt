-- The rows, the three terms, the first frame, the parts, and why the walk ended: the answer by `partition-by`.
use Rattle.std.specs.Prelude.{Result, Ok, Err}
use Rattle.std.proofs.Common.{◌≡◌, ℕ, ◌+◌, ◌*◌, ◌/◌, ◌^◌, ◌<◌, ◌≤◌, min, true, false, List, ℤ, pos, sym, refl, ap, ◌∙◌, ap₂, arith, w64, to_z, rules, leb-true}
use mir.Facts.{to_z_pos}
use Rattle.model.specs.declared.Error.{Error}
use Rattle.model.specs.declared.LogRecord.{LogRecord}
use Rattle.model.specs.Bytes.{word}
use Rattle.logbuffer.proofs.Signed.{long-by}
use Rattle.tally.specs.declared.step.Stop.{Stop}
use Rattle.tally.specs.declared.Sums.{Sums}
use Rattle.tally.specs.declared.PartitionTallied.{PartitionTallied}
use Rattle.tally.specs.declared.partition.Parted.{Parted}
use Rattle.tally.specs.Walk.{Stream, stream_by, why}
use Rattle.tally.specs.Tally.{total}
use Rattle.tally.specs.Partitions.{in_three, all_of, partitioned_by}
use Rattle.tally.specs.Span.{first_frame}
use Rattle.tally.specs.Within.{Ordered, parted_of}
use Rattle.tally.proofs.Parting.{end_low, total-low}
use Rattle.tally.proofs.Answering.{Taken, taken, partition-refused, partition-by}
use Rattle.tally.proofs.tally_by_partition.Goals as goal
use Rattle.tally.proofs.tally_by_partition.Goals.{After-long-end, Else-not-in_three, After-by_partition-w, After-why}

module _ (bits : ℕ) (r : LogRecord) (log : List ℕ) where
  abbrev stream : Stream
  stream = stream_by bits (word r.initial_term_id) log

  module _ (from to : ℕ) (o : Ordered from to) (p : in_three (2 ^ min bits 30) from to ≡ true) where
    three : to ≤ (from / stream.term + 3) * stream.term
    unfolding stream_by
    three = leb-true _ _ p

    -- the parts' end and their totals are below the second position
    ended : (w : Parted) → w ≡ parted_of stream from to → w.end < 9223372036854775808
    ended w e = omega (arith, ap (λ (x : Parted). x.end) e, end_low stream from to o.0 three, o.1)

    added : (w : Parted) → w ≡ parted_of stream from to → total (all_of w.sums) < 18446744073709551616
    added w e = omega (arith, ap (λ (x : Parted). total (all_of x.sums)) e, total-low stream from to o.0 three, o.1)

    -- what the code answers of the parts
    told : (w : Parted) (x : Stop) (y : Sums) → w ≡ parted_of stream from to → x ≡ why stream to w.end → y ≡ all_of w.sums
        → ◌≡◌ {A = Result PartitionTallied Error} (Ok (record { partitions = w.sums; sums = y; end = to_z w64 w.end; stop = x })) (partitioned_by stream from to (Ok tt))
    told w x y e f g =
        ap (λ (q : Stop). answered w y (to_z w64 w.end) q) f
        ∙ ap (λ (q : Sums). answered w q (to_z w64 w.end) (why stream to w.end)) g
        ∙ ap (λ (n : ℤ). answered w (all_of w.sums) n (why stream to w.end)) (to_z_pos w64 (ended w e))
        ∙ ap (λ (v : Parted). answered v (all_of v.sums) (pos v.end) (why stream to v.end)) e
      where
        answered : Parted → Sums → ℤ → Stop → Result PartitionTallied Error
        answered v t n q = Ok (record { partitions = v.sums; sums = t; end = n; stop = q })

took : (c : After-long-end) → let a = c.args in Taken a.rec a.log.now a.from a.to c.of-stream.result.bits c.long-start.result c.long-end.result
took c =
    let a = c.args in
    let f = c.ranges.from in
    let t = c.ranges.to in
    taken a.rec a.log.now a.from a.to f t (sym c.in_ok-rows.was ∙ c.rows.ensures ∙ search rules) _ _ _ _ refl c.of-stream.ensures.bits (long-by a.from c.long-start.ensures.0 f) (long-by a.to c.long-end.ensures.0 t)

-- where the third test passes
passes : (c : Else-not-in_three) → in_three (2 ^ min c.of-stream.result.bits 30) c.long-start.result c.long-end.result ≡ true
passes c = search rules

parts : (c : After-by_partition-w) → let a = c.args in c.by_partition-w.result ≡ parted_of (stream c.of-stream.result.bits a.rec a.log.now) c.long-start.result c.long-end.result
parts c =
    let r = c.of-stream in
    c.by_partition-w.ensures ∙ ap₂ (λ (z : ℤ) (l : List ℕ). parted_of (stream_by r.result.bits (word z) l) c.long-start.result c.long-end.result) r.ensures.initial r.ensures.log

reason : (c : After-why) → let a = c.args in c.why.result ≡ why (stream c.of-stream.result.bits a.rec a.log.now) c.long-end.result c.by_partition-w.result.end
reason c =
    let r = c.of-stream in
    c.why.ensures ∙ ap₂ (λ (z : ℤ) (l : List ℕ). why (stream_by r.result.bits (word z) l) c.long-end.result c.by_partition-w.result.end) r.ensures.initial r.ensures.log

pub returns-in_err-rows : goal.returns-in_err-rows
returns-in_err-rows c =
    let a = c.args in
    let e : c.from_residual.result ≡ Err c.in_err-rows.field-0.0 = search rules in
    e ∙ partition-refused a.rec a.log.now a.from a.to c.in_err-rows.field-0.0 (sym c.in_err-rows.was ∙ c.rows.ensures ∙ search rules)

pub in_three-requires : goal.in_three-requires
in_three-requires c = let o = (took (goal.at.in_three-requires c).After-long-end).ordered in omega (arith, o.0, o.1)

pub returns-then-not-in_three : goal.returns-then-not-in_three
returns-then-not-in_three c =
    let a = c.args in
    let b : in_three (2 ^ min c.of-stream.result.bits 30) c.long-start.result c.long-end.result ≡ false = search rules in
    partition-by a.rec a.log.now a.from a.to _ _ _ (took (goal.at.returns-then-not-in_three c).After-long-end) false _ b refl

pub returns-in_err-first_frame : goal.returns-in_err-first_frame
returns-in_err-first_frame c =
    let a = c.args in
    let e : c.from_residual-in_err-first_frame.result ≡ Err c.in_err-first_frame.field-0.0 = search rules in
    let at = goal.at.returns-in_err-first_frame c in
    e
    ∙ partition-by a.rec a.log.now a.from a.to _ _ _ (took at.After-long-end) true (Err c.in_err-first_frame.field-0.0) (passes at.Else-not-in_three)
    (sym c.in_err-first_frame.was ∙ c.first_frame.ensures ∙ ap (λ (l : List ℕ). first_frame (2 ^ min c.of-stream.result.bits 30) l c.long-start.result c.long-end.result) c.of-stream.ensures.log)

pub by_partition-w-requires : goal.by_partition-w-requires
by_partition-w-requires c = let at = goal.at.by_partition-w-requires c in ((took at.After-long-end).ordered, passes at.Else-not-in_three)

pub together-requires : goal.together-requires
together-requires c =
    let at = goal.at.together-requires c in
    added _ c.args.rec c.args.log.now _ _ (took at.After-long-end).ordered (passes at.Else-not-in_three) c.by_partition-w.result (parts at.After-by_partition-w)

pub overflow_cast-result : goal.overflow_cast-result
overflow_cast-result c =
    let at = goal.at.overflow_cast-result c in
    record { sfits = ended _ c.args.rec c.args.log.now _ _ (took at.After-long-end).ordered (passes at.Else-not-in_three) c.by_partition-w.result (parts at.After-by_partition-w) }

pub returns : goal.returns
returns c =
    let a = c.args in
    let at = goal.at.returns c in
    let t = took at.After-long-end in
    let p = passes at.Else-not-in_three in
    told _ a.rec a.log.now _ _ t.ordered p c.by_partition-w.result c.why.result c.together.result (parts at.After-by_partition-w) (reason at.After-why) c.together.ensures
    ∙ partition-by a.rec a.log.now a.from a.to _ _ _ t true (Ok tt) p (sym c.in_ok-first_frame.was ∙ c.first_frame.ensures ∙ ap (λ (l : List ℕ). first_frame (2 ^ min c.of-stream.result.bits 30) l c.long-start.result c.long-end.result) c.of-stream.ensures.log)
