-- The number that the library reads is the field's.
use Rattle.std.proofs.Common.{ap, ◌∙◌, rules, w64, to_z}
use Rattle.metadata.proofs.Fields.{kept8, long-bytes}
use Rattle.metadata.proofs.bytes.get_i64.Goals as goal

pub returns : goal.returns
returns c = kept8 (c.from_le_bytes.ensures ∙ ap (to_z w64) (long-bytes c.args.s.now c.args.at)) (search rules)
