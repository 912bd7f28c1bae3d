-- The number that the library reads is the field's.
use Rattle.std.proofs.Common.{◌∙◌}
use Rattle.logbuffer.proofs.LittleEndian.{long-bytes}
use Rattle.logbuffer.proofs.field.long8.Goals as goal

pub returns : goal.returns
returns c = c.from_le_bytes.ensures ∙ long-bytes c.args.log.now c.args.at
