-- The rows, the first frame, the walk, and why it ended: the answer by `tally-by`.
use Rattle.std.specs.Prelude.{Result, Ok, Err}
use Rattle.std.proofs.Common.{◌≡◌, ℕ, ◌-◌, ◌^◌, ◌<◌, min, List, ℤ, pos, sym, refl, ap, ◌∙◌, ap₂, arith, w64, to_z, rules}
use mir.Facts.{to_z_pos}
use Rattle.model.specs.declared.Error.{Error}
use Rattle.model.specs.declared.LogRecord.{LogRecord}
use Rattle.model.specs.Bytes.{word}
use Rattle.logbuffer.proofs.Signed.{long-by}
use Rattle.tally.specs.declared.step.Stop.{Stop}
use Rattle.tally.specs.declared.Tallied.{Tallied}
use Rattle.tally.specs.declared.walk.Walked.{Walked}
use Rattle.tally.specs.Walk.{Stream, stream_by, why}
use Rattle.tally.specs.Tally.{tallied_by}
use Rattle.tally.specs.Span.{first_frame}
use Rattle.tally.specs.Within.{Ordered, walk_of}
use Rattle.tally.proofs.Adding.{end-within}
use Rattle.tally.proofs.Answering.{Taken, taken, tally-refused, tally-by}
use Rattle.tally.proofs.tally.Goals as goal
use Rattle.tally.proofs.tally.Goals.{After-long-end, After-between-w, After-why}

-- a walk's end is a position
low : (s : Stream) (from to : ℕ) (w : Walked) → Ordered from to → w ≡ walk_of s from to → w.end < 9223372036854775808
low s from to w o e = omega (arith, end-within (to - from) s to from o.0, ap (λ (x : Walked). x.end) e, o.1)

-- what the code answers of a walk
told : (s : Stream) (from to : ℕ) (w : Walked) (x : Stop) → Ordered from to → w ≡ walk_of s from to → x ≡ why s to w.end
    → ◌≡◌ {A = Result Tallied Error} (Ok (record { sums = w.sums; end = to_z w64 w.end; stop = x })) (tallied_by s from to (Ok tt))
told s from to w x o e f =
    ap₂ (λ (n : ℤ) (y : Stop). answered w n y) (to_z_pos w64 (low s from to w o e)) f ∙ ap (λ (v : Walked). answered v (pos v.end) (why s to v.end)) e
  where
    answered : Walked → ℤ → Stop → Result Tallied Error
    answered v n y = Ok (record { sums = v.sums; end = n; stop = y })

took : (c : After-long-end) → let a = c.args in Taken a.rec a.log.now a.from a.to c.of-stream.result.bits c.long-start.result c.long-end.result
took c =
    let a = c.args in
    let f = c.ranges.from in
    let t = c.ranges.to in
    taken a.rec a.log.now a.from a.to f t (sym c.in_ok-rows.was ∙ c.rows.ensures ∙ search rules) _ _ _ _ refl c.of-stream.ensures.bits (long-by a.from c.long-start.ensures.0 f) (long-by a.to c.long-end.ensures.0 t)

abbrev stream : ℕ → LogRecord → List ℕ → Stream
stream bits r log = stream_by bits (word r.initial_term_id) log

walk : (c : After-between-w) → c.between-w.result ≡ walk_of (stream c.of-stream.result.bits c.args.rec c.args.log.now) c.long-start.result c.long-end.result
walk c =
    let r = c.of-stream in
    c.between-w.ensures ∙ ap₂ (λ (z : ℤ) (l : List ℕ). walk_of (stream_by r.result.bits (word z) l) c.long-start.result c.long-end.result) r.ensures.initial r.ensures.log

reason : (c : After-why) → c.why.result ≡ why (stream c.of-stream.result.bits c.args.rec c.args.log.now) c.long-end.result c.between-w.result.end
reason c =
    let r = c.of-stream in
    c.why.ensures ∙ ap₂ (λ (z : ℤ) (l : List ℕ). why (stream_by r.result.bits (word z) l) c.long-end.result c.between-w.result.end) r.ensures.initial r.ensures.log

pub returns-in_err-rows : goal.returns-in_err-rows
returns-in_err-rows c =
    let a = c.args in
    let e : c.from_residual.result ≡ Err c.in_err-rows.field-0.0 = search rules in
    e ∙ tally-refused a.rec a.log.now a.from a.to c.in_err-rows.field-0.0 (sym c.in_err-rows.was ∙ c.rows.ensures ∙ search rules)

pub returns-in_err-first_frame : goal.returns-in_err-first_frame
returns-in_err-first_frame c =
    let a = c.args in
    let e : c.from_residual-in_err-first_frame.result ≡ Err c.in_err-first_frame.field-0.0 = search rules in
    e ∙ tally-by a.rec a.log.now a.from a.to _ _ _ (took (goal.at.returns-in_err-first_frame c).After-long-end) (Err c.in_err-first_frame.field-0.0) (sym c.in_err-first_frame.was ∙ c.first_frame.ensures ∙ ap (λ (l : List ℕ). first_frame (2 ^ min c.of-stream.result.bits 30) l c.long-start.result c.long-end.result) c.of-stream.ensures.log)

pub overflow_cast-result : goal.overflow_cast-result
overflow_cast-result c = record { sfits = low (stream c.of-stream.result.bits c.args.rec c.args.log.now) c.long-start.result c.long-end.result c.between-w.result (took (goal.at.overflow_cast-result c).After-long-end).ordered (walk (goal.at.overflow_cast-result c).After-between-w) }

pub returns : goal.returns
returns c =
    let a = c.args in
    told (stream c.of-stream.result.bits c.args.rec c.args.log.now) c.long-start.result c.long-end.result c.between-w.result c.why.result (took (goal.at.returns c).After-long-end).ordered (walk (goal.at.returns c).After-between-w) (reason (goal.at.returns c).After-why)
    ∙ tally-by a.rec a.log.now a.from a.to _ _ _ (took (goal.at.returns c).After-long-end) (Ok tt) (sym c.in_ok-first_frame.was ∙ c.first_frame.ensures ∙ ap (λ (l : List ℕ). first_frame (2 ^ min c.of-stream.result.bits 30) l c.long-start.result c.long-end.result) c.of-stream.ensures.log)
