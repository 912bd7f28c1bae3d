-- The poll by the record's numbers, which are those that were read.
use mathlib.Core.Path.{ap, ◌∙◌}
use lib.IntN.{ℤ}
use mir.Facts.{to_z-of_z}
use Rattle.image.specs.Images.{state_of, poll_by, poll_reply_of}
use Rattle.image.proofs.Polls.{as-poll}
use borrow.Author.Rules.{rules}
use Rattle.image.proofs.Image.poll.Statement.{statement}
use Rattle.image.proofs.Image.poll.Tie as tie

returns : tie.Need-returns
returns c =
    let s = c in
    let a = s.args in
    let r = c.read_active in
    let f = c.poll_on-polled in
    let k = ap (λ (y : ℤ). poll_by r.result a.log.now (state_of a.self) a.entries.now y) (to_z-of_z s.ranges.fragment_limit) ∙ as-poll a.log.now (state_of a.self) a.entries.now a.fragment_limit r.result a.rec r.ensures in
    (f.ensures.0 ∙ ap poll_reply_of k, f.ensures.1.1 ∙ ap (λ x. x.slots) k)

pub poll_spec : {M : Type 1} → statement M
poll_spec = tie.close (tie.spec (search rules) (search rules) (search rules) returns)
