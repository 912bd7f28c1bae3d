-- One call of `poll_frames`, to the limit position and with no actions; the image takes the position that it came to.
use mathlib.Core.Path.{◌≡◌, refl, sym, ap, ◌∙◌}
use mathlib.Core.List.{[]}
use Prim.Native.Nat.{ℕ}
use mir.Syntax.{w64}
use mir.Val.{to_z, of_z}
use mir.Facts.{to_z-of_z}
use Rattle.model.specs.Bytes.{long}
use Rattle.model.specs.Image.{end_offset}
use Rattle.model.specs.TermReader.{natural}
use Rattle.image.specs.Images.{state_of, poll_reply_of}
use Rattle.image.proofs.Polls.{as-bounded, replied}
use borrow.Author.Rules.{rules}
use Rattle.image.proofs.Image.bounded_poll.Statement.{statement}
use Rattle.image.proofs.Image.bounded_poll.Tie as tie

poll-frames-requires : tie.Need-poll_frames-to-requires
poll-frames-requires c κs = λ h. (sym c.good_entries-good.ensures ∙ h, refl)

returns : tie.Need-returns
returns c =
    let s = c in
    let a = s.args in
    let v = c.read_active-v.result in
    let f = c.poll_frames-to in
    let good = c.good_entries-good.result in
    let limit = c.natural-limit.result in
    let bound : ℕ = c.natural_position-bound.result in
    let z : to_z w64 (of_z w64 f.result.position) ≡ f.result.position = to_z-of_z {w = w64} {z = f.result.position} (search rules) in
    let k = as-bounded a.rec a.log.now (state_of a.self) a.entries.now a.fragment_limit v limit good c.read_active-v.ensures (c.natural-limit.ensures.0 ∙ ap natural (to_z-of_z s.ranges.fragment_limit)) a.limit_position bound c.good_entries-good.ensures (c.natural_position-bound.ensures ∙ ap natural (to_z-of_z s.ranges.limit_position)) in
    let n = replied v a.log.now (state_of a.self) a.entries.now good limit [] (end_offset v (long a.self.position) bound) _ f.result z f.ensures.0 in
    (n ∙ ap poll_reply_of k, f.ensures.1 ∙ ap (λ x. x.slots) k)

pub bounded_poll_spec : {M : Type 1} → statement M
bounded_poll_spec =
    tie.close
    (tie.spec
    (search rules)
    (search rules)
    (search rules)
    (search rules)
    (search rules)
    (search rules)
    (search rules)
    poll-frames-requires
    (search rules)
    returns)
