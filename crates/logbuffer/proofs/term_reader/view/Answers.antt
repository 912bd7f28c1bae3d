-- What is located lies in the log.
use Rattle.std.proofs.Common.{◌≤◌, length, sym, ◌∙◌}
use Rattle.model.specs.TermReader.{view_of}
use Rattle.model.proofs.ViewLaws.{span-in}
use Rattle.logbuffer.proofs.Signs.{passed_on}
use Rattle.logbuffer.proofs.term_reader.view.Goals as goal

inside : (c : goal.After-struct_known-1) → (c.in-Ok.span.start ≤ c.in-Ok.span.end) × (c.in-Ok.span.end ≤ length c.args.log.now)
inside c =
    let a = c.args in
    let located = c.view_span.ensures ∙ passed_on (view_of a.rec a.log.now) a.partition a.offset a.length c.ranges.partition c.ranges.offset c.ranges.length in
    span-in a.rec a.log.now a.partition a.offset a.length _ _ (sym located ∙ c.in-Ok.is)

pub slice_bounds-result-count-2 : goal.slice_bounds-result-count-2
slice_bounds-result-count-2 c = (inside c).0

pub slice_bounds-result-start-2 : goal.slice_bounds-result-start-2
slice_bounds-result-start-2 c = (inside c).0

pub slice_bounds-result-end-2 : goal.slice_bounds-result-end-2
slice_bounds-result-end-2 c = (inside c).1
