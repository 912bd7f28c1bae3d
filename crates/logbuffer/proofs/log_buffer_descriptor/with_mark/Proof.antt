-- One mark is another.
use Rattle.std.proofs.Common.{refl, rules}
use Rattle.model.specs.LogBufferDescriptor.{noted, with_mark}
use Rattle.logbuffer.proofs.log_buffer_descriptor.with_mark.Statement.{statement}
use Rattle.logbuffer.proofs.log_buffer_descriptor.with_mark.Tie as tie

returns : tie.Need-returns
unfolding with_mark noted
returns c = refl

pub with_mark_spec : {M : Type 1} → statement M
with_mark_spec = tie.close (tie.spec (search rules) returns)
