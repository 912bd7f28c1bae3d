-- The end first; then the frame and the id seen at the spot.
use Rattle.std.proofs.Common.{◌≡◌, ap, ◌∙◌, arith}
use Rattle.model.specs.declared.Frame.{Frame}
use Rattle.model.specs.Bytes.{word}
use Rattle.tally.specs.declared.step.Met.{Met}
use Rattle.tally.specs.Walk.{stream_by, seen, own_id, size}
use Rattle.tally.proofs.Spots.{sees, owns}
use Rattle.tally.proofs.Steps.{seen-small, met-end, met-left}
use Rattle.tally.proofs.step.Stream.meet_at.Goals as goal

pub returns-then-p-to : goal.returns-then-p-to
returns-then-p-to c = let s = c.args.self in ap (λ (y : Frame). told y) (met-end (stream_by s.bits (word s.initial) s.log.now) c.args.p c.args.to c.if-p-to.true)
  where
    told : Frame → Met
    told y = record { frame = y; size = size y }

pub met_by-requires : goal.met_by-requires
met_by-requires c =
    let s = c.args.self in
    rw (c.frame_at-frame.ensures ∙ sees s.bits (word s.initial) s.log.now c.args.p c.args.at c.requires) (seen-small (stream_by s.bits (word s.initial) s.log.now) c.args.p)

pub returns : goal.returns
returns c =
    let a = c.args in
    let s = a.self in
    let f : c.frame_at-frame.result ≡ seen (stream_by s.bits (word s.initial) s.log.now) a.p =
    c.frame_at-frame.ensures ∙ sees s.bits (word s.initial) s.log.now a.p c.args.at c.requires in
    let o : c.is_own-own.result ≡ own_id (stream_by s.bits (word s.initial) s.log.now) a.p =
    c.is_own-own.ensures ∙ owns s.bits (word s.initial) s.log.now a.p c.args.at c.requires in
    c.met_by.ensures ∙ met-left (stream_by s.bits (word s.initial) s.log.now) a.p a.to (omega arith) _ _ f o
