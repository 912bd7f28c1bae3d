-- A located body lies within the log.
use Rattle.std.proofs.Common.{◌≤◌, length, sym, ◌∙◌}
use Rattle.model.proofs.BufferClaim.{span-in}
use Rattle.logbuffer.proofs.buffer_claim.body.Goals as goal

inside : (c : goal.After-struct_known-1) → (c.in-Ok.span.start ≤ c.in-Ok.span.end) × (c.in-Ok.span.end ≤ length c.args.log.now)
inside c = (span-in c.args.rec c.args.log.now c.args.claim _ _ (sym c.locate.ensures ∙ c.in-Ok.is)).1

pub slice_bounds-result-count-2 : goal.slice_bounds-result-count-2
slice_bounds-result-count-2 c = (inside c).0

pub slice_bounds-log-start-2 : goal.slice_bounds-log-start-2
slice_bounds-log-start-2 c = (inside c).0

pub slice_bounds-log-end-2 : goal.slice_bounds-log-end-2
slice_bounds-log-end-2 c = (inside c).1
