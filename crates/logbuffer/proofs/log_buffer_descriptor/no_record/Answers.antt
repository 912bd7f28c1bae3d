-- Field by field.
use Rattle.std.proofs.Common.{refl}
use Rattle.model.specs.Publication.{no_record}
use Rattle.logbuffer.proofs.log_buffer_descriptor.no_record.Goals as goal

pub returns : goal.returns
unfolding no_record
returns c = refl
