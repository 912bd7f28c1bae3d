-- The call's promise, in words.
use mathlib.Core.Path.{ap₂, ◌∙◌}
use mir.Facts.{to_z-of_z}
use Rattle.model.specs.Image.{Image as ImageState, new_image}
use Rattle.model.specs.FragmentAssembler.{Sessions}
use Rattle.capi.specs.Words.{image_filled, assembler_to}
use Rattle.capi.proofs.Promised.{of-2}
use borrow.Author.Rules.{rules}
use Rattle.capi.proofs.replays.logbuffer_replay_new.Statement.{statement}
use Rattle.capi.proofs.replays.logbuffer_replay_new.Tie as tie

returns : tie.Need-returns
returns c =
    let s = c in
    let f = c.new.ensures in
    c.replay_filled.ensures ∙ ap₂ (λ (i : ImageState) (n : Sessions). assembler_to (image_filled s.args.replay.now i) 2 n) (of-2 new_image f.0 (to_z-of_z s.ranges.position) (to_z-of_z s.ranges.session_id)) f.1

pub logbuffer_replay_new_spec : {M : Type 1} → statement M
logbuffer_replay_new_spec =
    tie.close (tie.spec (search rules) (search rules) returns)
