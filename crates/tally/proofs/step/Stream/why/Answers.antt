-- What is read at the position's spot, test by test.
use Rattle.std.proofs.Common.{◌≡◌, Bool, true, false, sym, refl, ap, ◌∙◌}
use Rattle.model.specs.declared.FrameLength.{FrameLength}
use Rattle.model.specs.Bytes.{word}
use Rattle.model.specs.FrameDescriptor.{is_unsound}
use Rattle.tally.specs.Walk.{stream_by, seen, own_id, why_by, why}
use Rattle.tally.proofs.Spots.{sees, owns, lengths}
use Rattle.tally.proofs.Reasons.{not-unsound, why-reached, why-by}
use Rattle.tally.proofs.step.Stream.why.Goals as goal
use Rattle.tally.proofs.step.Stream.why.Goals.{After-length_at, After-frame_at-frame, After-is_own}

-- by the length, and two tests
by : (c : After-length_at) (l : FrameLength) (u o : Bool) → c.length_at.result ≡ l → let a = c.args in let s = stream_by a.self.bits (word a.self.initial) a.self.log.now in
    is_unsound (seen s a.p) ≡ u → own_id s a.p ≡ o → why_by l u o ≡ why s a.to a.p
by c l u o e f g =
    let a = c.args in
    let s = a.self in
    why-by (stream_by s.bits (word s.initial) s.log.now) a.to a.p l u o c.if-p-to.false
    (sym (c.length_at.ensures ∙ lengths s.bits (word s.initial) s.log.now a.p c.locate-at.result c.locate-at.ensures) ∙ e) f g

frame : (c : After-frame_at-frame) → let a = c.args in let s = a.self in c.frame_at-frame.result ≡ seen (stream_by s.bits (word s.initial) s.log.now) a.p
frame c = let a = c.args in let s = a.self in c.frame_at-frame.ensures ∙ sees s.bits (word s.initial) s.log.now a.p c.locate-at.result c.locate-at.ensures

own : (c : After-is_own) → let a = c.args in let s = a.self in c.is_own.result ≡ own_id (stream_by s.bits (word s.initial) s.log.now) a.p
own c = let a = c.args in let s = a.self in c.is_own.ensures ∙ owns s.bits (word s.initial) s.log.now a.p c.locate-at.result c.locate-at.ensures

pub returns-then-p-to : goal.returns-then-p-to
returns-then-p-to c = let a = c.args in why-reached (stream_by a.self.bits (word a.self.initial) a.self.log.now) a.to a.p c.if-p-to.true

pub returns-in-Unsound : goal.returns-in-Unsound
returns-in-Unsound c =
    let at = goal.at.returns-in-Unsound c in
    by at.After-length_at _ true _ c.in-Finished.is (sym (ap is_unsound (frame at.After-frame_at-frame)) ∙ ap is_unsound c.in-Unsound.is) refl

pub returns-in-Free : goal.returns-in-Free
returns-in-Free c = by (goal.at.returns-in-Free c).After-length_at _ _ _ c.in-Free.is refl refl

pub returns-in-Writing : goal.returns-in-Writing
returns-in-Writing c = by (goal.at.returns-in-Writing c).After-length_at _ _ _ c.in-Writing.is refl refl

pub returns-then-is_own : goal.returns-then-is_own
returns-then-is_own c =
    let at = goal.at.returns-then-is_own c in
    by at.After-length_at _ false true c.in-Finished.is (sym (ap is_unsound (frame at.After-frame_at-frame)) ∙ not-unsound c.frame_at-frame.result c.in_default.not-Unsound) (sym (own at.After-is_own) ∙ c.if-is_own.true)

pub returns-else-is_own : goal.returns-else-is_own
returns-else-is_own c =
    let at = goal.at.returns-else-is_own c in
    by at.After-length_at _ false false c.in-Finished.is (sym (ap is_unsound (frame at.After-frame_at-frame)) ∙ not-unsound c.frame_at-frame.result c.in_default.not-Unsound) (sym (own at.After-is_own) ∙ c.if-is_own.false)
