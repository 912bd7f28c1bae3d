-- The number that the library reads is the field's.
use Rattle.std.proofs.Common.{◌∙◌}
use Rattle.metadata.proofs.Fields.{word-bytes}
use Rattle.metadata.proofs.bytes.get_u32.Goals as goal

pub returns : goal.returns
returns c = c.from_le_bytes.ensures ∙ word-bytes c.args.s.now c.args.at
