-- The rows, the first frame, the walk, and why it ended: the answer by `holding-by`.
use Rattle.std.specs.Prelude.{Result, Ok, Err, ⊤}
use Rattle.std.proofs.Common.{◌≡◌, ℕ, ◌-◌, ◌^◌, ◌<◌, min, ℤ, ap₂, List, length, sym, refl, ap, ◌∙◌, arith, rules}
use Rattle.model.specs.declared.Error.{Error}
use Rattle.model.specs.declared.LogRecord.{LogRecord}
use Rattle.model.specs.Bytes.{word}
use Rattle.logbuffer.proofs.Signed.{long-by}
use Rattle.tally.specs.declared.step.Stop.{Stop}
use Rattle.tally.specs.Walk.{Stream, stream_of, stream_by, why}
use Rattle.tally.specs.Span.{span_rows, first_frame}
use Rattle.tally.specs.Within.{Ordered}
use Rattle.tally.proofs.Adding.{end-within}
use Rattle.tally.proofs.Answering.{Taken, taken}
use Rattle.tally.proofs.Spans.{span-pass}
use Rattle.holding.specs.declared.walk.Walked.{Walked}
use Rattle.holding.specs.Holding.{answer_of, holding_with, holding_by, holding_of}
use Rattle.holding.specs.Within.{walk_of}
use Rattle.holding.proofs.Answering.{holding-by, by-walk, three-terms}
use Rattle.holding.proofs.card_that_holds.Goals as goal
use Rattle.holding.proofs.card_that_holds.Goals.{After-long-end, After-first_frame, After-between-w}

took : (c : After-long-end) → let a = c.args in Taken a.rec a.log.now a.from a.to c.of-stream.result.bits c.long-start.result c.long-end.result
took c =
    let a = c.args in
    let f = c.ranges.from in
    let t = c.ranges.to in
    taken a.rec a.log.now a.from a.to f t (sym c.in_default.is ∙ c.rows.ensures ∙ search rules) _ _ _ _ refl c.of-stream.ensures.bits (long-by a.from c.long-start.ensures.0 f) (long-by a.to c.long-end.ensures.0 t)

abbrev stream : ℕ → LogRecord → List ℕ → Stream
stream bits r log = stream_by bits (word r.initial_term_id) log

-- the answer behind the rows, by the first frame's verdict
answer : (c : After-first_frame) → let a = c.args in let s = stream c.of-stream.result.bits a.rec a.log.now in
    Taken a.rec a.log.now a.from a.to c.of-stream.result.bits c.long-start.result c.long-end.result → (y : Result ⊤ Error) → c.first_frame.result ≡ y
    → holding_by s a.find c.long-start.result c.long-end.result y ≡ holding_of a.rec a.log.now a.find a.from a.to
unfolding stream_by
answer c t y e =
    let a = c.args in
    holding-by a.rec a.log.now a.find a.from a.to (stream c.of-stream.result.bits a.rec a.log.now) c.long-start.result c.long-end.result t.stream t.start_is t.end_is (Ok tt) y t.passed (sym e ∙ c.first_frame.ensures ∙ ap (λ (l : List ℕ). first_frame (2 ^ min c.of-stream.result.bits 30) l c.long-start.result c.long-end.result) c.of-stream.ensures.log)

walk : (c : After-between-w) → let a = c.args in
    c.between-w.result ≡ walk_of a.find (stream c.of-stream.result.bits a.rec a.log.now) c.long-start.result c.long-end.result
walk c =
    let r = c.of-stream in
    c.between-w.ensures ∙ ap₂ (λ (z : ℤ) (l : List ℕ). walk_of c.args.find (stream_by r.result.bits (word z) l) c.long-start.result c.long-end.result) r.ensures.initial r.ensures.log

-- a walk's end is a position
low : (s : Stream) (find from to : ℕ) (w : Walked) → Ordered from to → w ≡ walk_of find s from to → w.end < 9223372036854775808
low s find from to w o e = omega (arith, end-within (to - from) s to from o.0, ap (λ (x : Walked). x.end) e, o.1)

pub returns-in-Err : goal.returns-in-Err
returns-in-Err c =
    let a = c.args in
    let h : Err c.in-Err.e ≡ span_rows a.rec (length a.log.now) a.from a.to (Ok tt) = sym c.in-Err.is ∙ c.rows.ensures ∙ search rules in
    c.refused.ensures ∙ holding-by a.rec a.log.now a.find a.from a.to (stream_of a.rec a.log.now) _ _ refl refl refl (Err c.in-Err.e) _ h refl

pub returns-in-Err-first_frame : goal.returns-in-Err-first_frame
returns-in-Err-first_frame c =
    let at = goal.at.returns-in-Err-first_frame c in
    c.refused-in-Err-first_frame.ensures ∙ answer at.After-first_frame (took at.After-long-end) (Err c.in-Err-first_frame.e) c.in-Err-first_frame.is

pub between-w-requires : goal.between-w-requires
between-w-requires c =
    let a = c.args in
    let t = took (goal.at.between-w-requires c).After-long-end in
    let k = span-pass a.rec (length a.log.now) a.from a.to c.ranges.from c.ranges.to t.passed in
    rw c.of-stream.ensures.log (three-terms a.rec a.log.now c.of-stream.result.bits _ k.sound t.stream)

pub answered-requires : goal.answered-requires
answered-requires c =
    let at = goal.at.answered-requires c in
    low _ c.args.find c.long-start.result c.long-end.result c.between-w.result (took at.After-long-end).ordered (walk at.After-between-w)

pub returns : goal.returns
returns c =
    let a = c.args in
    let at = goal.at.returns c in
    let s = stream c.of-stream.result.bits a.rec a.log.now in
    let x = c.between-w.result in
    let o = c.of-stream in
    let r : c.why.result ≡ why s c.long-end.result x.end =
    c.why.ensures ∙ ap₂ (λ (z : ℤ) (l : List ℕ). why (stream_by o.result.bits (word z) l) c.long-end.result x.end) o.ensures.initial o.ensures.log in
    c.answered.ensures
    ∙ ap (λ (z : Stop). holding_with (answer_of x.held.found x.end z) x.held x.note) r
    ∙ by-walk s a.find c.long-start.result c.long-end.result x (walk at.After-between-w)
    ∙ answer at.After-first_frame (took at.After-long-end) (Ok tt) c.in_default-first_frame.is
