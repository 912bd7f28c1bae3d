-- The frame at the first position's spot, if it is looked at: an unsound one is refused by its length and its offset in its term.
use Rattle.std.specs.Prelude.{Err}
use Rattle.std.proofs.Common.{◌≡◌, ◌^◌, min, sym, ap, ◌∙◌}
use Rattle.model.specs.FrameDescriptor.{is_unsound, unsound_frame}
use Rattle.tally.specs.declared.step.Spot.{Spot}
use Rattle.tally.specs.Walk.{frame_in}
use Rattle.tally.proofs.Spots.{frames}
use Rattle.tally.proofs.Reasons.{not-unsound, first-none, first-sound, first-unsound}
use Rattle.tally.proofs.step.Stream.first_frame.Goals as goal
use Rattle.tally.proofs.step.Stream.first_frame.Goals.{After-frame_at}

frame : (c : After-frame_at) → let s = c.args.self in c.frame_at.result ≡ frame_in (2 ^ min s.bits 30) s.log.now c.args.from
frame c = let s = c.args.self in c.frame_at.ensures ∙ frames s.bits 0 s.log.now c.args.from c.locate-at.result c.locate-at.ensures

pub returns-then-from-to : goal.returns-then-from-to
returns-then-from-to c = let a = c.args in first-none _ a.self.log.now a.from a.to c.if-from-to.true

pub returns-in_default : goal.returns-in_default
returns-in_default c =
    let a = c.args in
    first-sound _ a.self.log.now a.from a.to c.if-from-to.false (sym (ap is_unsound (frame (goal.at.returns-in_default c).After-frame_at)) ∙ not-unsound c.frame_at.result c.in_default.not-Unsound)

pub returns : goal.returns
returns c =
    let a = c.args in
    let n = c.in-Unsound.n in
    ap Err (c.unsound_frame.ensures ∙ ap (λ (x : Spot). unsound_frame n x.offset) c.locate-at.ensures)
    ∙ first-unsound (2 ^ min a.self.bits 30) a.self.log.now a.from a.to n c.if-from-to.false (sym (frame (goal.at.returns c).After-frame_at) ∙ c.in-Unsound.is)
