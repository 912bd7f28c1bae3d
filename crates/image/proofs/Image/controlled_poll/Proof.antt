-- One call of `poll_frames`, with no limit position; the image takes the position that it came to.
use mathlib.Core.Path.{◌≡◌, sym, ap, ◌∙◌}
use lib.ListN.{length}
use Prim.Native.Nat.{ℕ}
use mir.Syntax.{w64}
use mir.Val.{to_z, of_z}
use mir.Facts.{to_z-of_z}
use Rattle.model.specs.Bytes.{long}
use Rattle.model.specs.Image.{end_offset}
use Rattle.model.specs.TermReader.{natural, good_entries}
use Rattle.model.proofs.Both.{and-true}
use Rattle.model.proofs.ReaderLaws.{handled}
use Rattle.image.specs.Images.{state_of, poll_reply_of}
use Rattle.image.proofs.Polls.{as-controlled, replied}
use borrow.Author.Rules.{rules}
use Rattle.image.proofs.Image.controlled_poll.Statement.{statement}
use Rattle.image.proofs.Image.controlled_poll.Tie as tie

poll-frames-requires : tie.Need-poll_frames-to-requires
poll-frames-requires c κs = λ h.
    let g = and-true (good_entries (length c.args.entries.now) c.natural-limit.result) _ (sym c.good_control-good.ensures ∙ h) in
    (g.0, handled _ _ g.1)

returns : tie.Need-returns
returns c =
    let s = c in
    let a = s.args in
    let v = c.read_active-v.result in
    let f = c.poll_frames-to in
    let good = c.good_control-good.result in
    let limit = c.natural-limit.result in
    let bound : ℕ = 9223372036854775807 in
    let z : to_z w64 (of_z w64 f.result.position) ≡ f.result.position = to_z-of_z {w = w64} {z = f.result.position} (search rules) in
    let k = as-controlled a.rec a.log.now (state_of a.self) a.entries.now a.fragment_limit v limit good c.read_active-v.ensures (c.natural-limit.ensures.0 ∙ ap natural (to_z-of_z s.ranges.fragment_limit)) a.actions.now c.good_control-good.ensures in
    let n = replied v a.log.now (state_of a.self) a.entries.now good limit a.actions.now (end_offset v (long a.self.position) bound) _ f.result z f.ensures.0 in
    (n ∙ ap poll_reply_of k, f.ensures.1 ∙ ap (λ x. x.slots) k)

pub controlled_poll_spec : {M : Type 1} → statement M
controlled_poll_spec =
    tie.close
    (tie.spec
    (search rules)
    (search rules)
    (search rules)
    poll-frames-requires
    (search rules)
    returns)
