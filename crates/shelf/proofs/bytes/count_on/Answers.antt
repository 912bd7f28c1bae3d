-- The number that the library reads is the field's.
use Rattle.std.proofs.Common.{◌∙◌, rules}
use Rattle.shelf.proofs.Counts.{four_bytes}
use Rattle.shelf.proofs.bytes.count_on.Goals as goal

pub returns : goal.returns
returns c = (c.from_le_bytes.ensures ∙ four_bytes c.args.shelf.now, search rules)
