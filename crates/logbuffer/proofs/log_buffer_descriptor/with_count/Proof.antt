-- One field is another.
use Rattle.std.proofs.Common.{refl, rules}
use Rattle.model.specs.LogBufferDescriptor.{changed, with_count}
use Rattle.logbuffer.proofs.log_buffer_descriptor.with_count.Statement.{statement}
use Rattle.logbuffer.proofs.log_buffer_descriptor.with_count.Tie as tie

returns : tie.Need-returns
unfolding with_count changed
returns c = refl

pub with_count_spec : {M : Type 1} → statement M
with_count_spec = tie.close (tie.spec (search rules) returns)
