-- One call of `poll_term`; the image takes the position that it came to.
use mathlib.Core.Path.{◌≡◌, sym, ap, ◌∙◌}
use mathlib.Core.List.{[]}
use mir.Syntax.{w64}
use mir.Val.{SFits, to_z, of_z}
use mir.Facts.{to_z-of_z}
use Rattle.model.specs.TermReader.{natural}
use Rattle.logbuffer.proofs.Signed.{long-by}
use Rattle.image.specs.Images.{state_of, shifted_in, poll_reply_of}
use Rattle.image.proofs.Polls.{as-numbers, replied}
use borrow.Author.Rules.{rules}
use Rattle.image.proofs.Image.poll_on.Statement.{statement}
use Rattle.image.proofs.Image.poll_on.Tie as tie

poll-term-requires : tie.Need-poll_term-to-requires
poll-term-requires c κs =
    let a = c.args in
    let f : SFits w64 a.self.position = search rules in
    ((λ h. sym c.good_entries-good.ensures ∙ h), c.shifted_in-k.ensures.0 ∙ ap (shifted_in a.numbers.term) (long-by a.self.position c.long.ensures.0 f))

returns : tie.Need-returns
returns c =
    let s = c in
    let a = s.args in
    let v = a.numbers in
    let f = c.poll_term-to in
    let good = c.good_entries-good.result in
    let limit = c.natural-limit.result in
    let z : to_z w64 (of_z w64 f.result.position) ≡ f.result.position = to_z-of_z {w = w64} {z = f.result.position} (search rules) in
    let k = as-numbers a.log.now (state_of a.self) a.entries.now a.fragment_limit v limit good (c.natural-limit.ensures.0 ∙ ap natural (to_z-of_z s.ranges.fragment_limit)) c.good_entries-good.ensures in
    let n = replied v a.log.now (state_of a.self) a.entries.now good limit [] v.term _ f.result z f.ensures.0 in
    let h : SFits w64 a.self.position = search rules in
    let e = c.shifted_in-k.ensures in
    (n ∙ ap poll_reply_of k, ((e.0 ∙ ap (shifted_in v.term) (long-by a.self.position c.long.ensures.0 h), e.1), f.ensures.1 ∙ ap (λ x. x.slots) k))

pub poll_on_spec : {M : Type 1} → statement M
poll_on_spec = tie.close (tie.spec (search rules) (search rules) (search rules) (search rules) poll-term-requires (search rules) returns)
