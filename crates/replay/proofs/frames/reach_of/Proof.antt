-- Both numbers, of the record as it is read.
use mathlib.Core.Path.{ap, ◌∙◌}
use borrow.Author.Rules.{rules}
use mir.Syntax.{w32}
use mir.Val.{SFits}
use Rattle.model.specs.declared.Reading.{Reading}
use Rattle.image.specs.Images.{state_of as image_state}
use Rattle.replay.specs.InPlace.{stop_at, open_term}
use Rattle.replay.proofs.InPlace.{readings}
use Rattle.replay.proofs.frames.reach_of.Statement.{statement}
use Rattle.replay.proofs.frames.reach_of.Tie as tie

term_fits : (s : tie.Start) → SFits w32 s.args.rec.term_length
term_fits s = search rules

stop-at-requires : tie.Need-stop_at-requires
stop-at-requires c κs = let s = c in readings s.args.rec _ c.read_active-v.ensures (term_fits c.before.before)

returns : tie.Need-returns
returns c =
    let s = c in
    let read = c.read_active-v.ensures in
    (c.open_term.ensures ∙ ap (λ (v : Reading). open_term (image_state s.args.image) v s.args.n s.args.lent) read, c.stop_at.ensures ∙ ap stop_at read)

pub reach_of_spec : {M : Type 1} → statement M
reach_of_spec = tie.close (tie.spec (search rules) (search rules) stop-at-requires returns)
