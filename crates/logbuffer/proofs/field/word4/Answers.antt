-- The number that the library reads is the field's.
use Rattle.std.proofs.Common.{◌∙◌, rules}
use Rattle.logbuffer.proofs.LittleEndian.{word-bytes}
use Rattle.logbuffer.proofs.field.word4.Goals as goal

pub returns : goal.returns
returns c = (c.from_le_bytes.ensures ∙ word-bytes c.args.log.now c.args.at, search rules)
