-- The position, then the assembler.
use mathlib.Core.Path.{ap, ◌∙◌}
use mathlib.Core.List.{List}
use lib.IntN.{ℤ}
use lib.ListN.{set}
use mir.Syntax.{w64}
use mir.Facts.{to_z-of_z}
use Rattle.logbuffer.specs.Assembler.{sessions_of}
use Rattle.capi.specs.Words.{assembler_to}
use borrow.Author.Rules.{rules}
use Rattle.capi.proofs.words.replay_out.Statement.{statement}
use Rattle.capi.proofs.words.replay_out.Tie as tie

returns : tie.Need-returns
returns c = c.sessions_out.ensures ∙ ap (λ (w : List ℤ). assembler_to w 2 (sessions_of c.args.next.assembler)) (ap (set c.args.w.now 0) (to_z-of_z {w = w64} (search rules)))

pub replay_out_spec : {M : Type 1} → statement M
replay_out_spec =
    tie.close (tie.spec (search rules) (search rules) returns)
