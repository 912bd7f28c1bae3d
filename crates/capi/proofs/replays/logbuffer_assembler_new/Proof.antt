-- The call's promise, in words.
use mathlib.Core.Path.{ap, ◌∙◌}
use Rattle.capi.specs.Words.{assembler_out}
use borrow.Author.Rules.{rules}
use Rattle.capi.proofs.replays.logbuffer_assembler_new.Statement.{statement}
use Rattle.capi.proofs.replays.logbuffer_assembler_new.Tie as tie

returns : tie.Need-returns
returns c = c.assembler_out.ensures ∙ ap (assembler_out c.args.assembler.now) c.new.ensures

pub logbuffer_assembler_new_spec : {M : Type 1} → statement M
logbuffer_assembler_new_spec =
    tie.close (tie.spec (search rules) (search rules) returns)
