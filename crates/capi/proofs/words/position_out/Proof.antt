-- The words of the assembler, read and written back, are those that are there.
use mathlib.Core.Path.{ap, ◌∙◌}
use lib.IntN.{ℤ}
use lib.ListN.{set}
use mir.Syntax.{w64}
use mir.Facts.{to_z-of_z}
use Rattle.logbuffer.specs.Assembler.{sessions_of}
use Rattle.capi.specs.Words.{assembler_from, assembler_to}
use Rattle.capi.proofs.Passed.{moved-alone}
use borrow.Author.Rules.{rules}
use Rattle.capi.proofs.words.position_out.Statement.{statement}
use Rattle.capi.proofs.words.position_out.Tie as tie

returns : tie.Need-returns
returns c =
    let w = c.args.w.now in
    let z = c.to_i64.result in
    ap (set w 0) (to_z-of_z {w = w64} (search rules)) ∙ moved-alone w z (search rules) c.numbers.ensures
    ∙ ap (λ (x : ℤ). assembler_to (set w 0 x) 2 (sessions_of (assembler_from w 2))) c.to_i64.ensures

pub position_out_spec : {M : Type 1} → statement M
position_out_spec = tie.close (tie.spec (search rules) (search rules) (search rules) returns)
