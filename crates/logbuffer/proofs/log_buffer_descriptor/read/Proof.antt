-- The tail that is looked for, handed on.
use Rattle.std.proofs.Common.{ap, ◌∙◌, to_z-of_z, w64, rules}
use Rattle.logbuffer.specs.Reads.{reading_with}
use Rattle.logbuffer.proofs.RawTails.{reading-with}
use Rattle.logbuffer.proofs.log_buffer_descriptor.read.Statement.{statement}
use Rattle.logbuffer.proofs.log_buffer_descriptor.read.Tie as tie

returns : tie.Need-returns
returns c =
    let a = c.args in
    c.read_with.ensures ∙ ap (reading_with a.rec) (to_z-of_z {w = w64} (let h = c.tail.type_inv in search (rules, h)) ∙ c.tail.ensures) ∙ reading-with a.rec a.partition

pub read_spec : {M : Type 1} → statement M
read_spec = tie.close (tie.spec (search rules) (search rules) returns)
