-- Each tail is the field at its place.
use Rattle.std.proofs.Common.{rules}
use Rattle.metadata.specs.Metadata.{tails_from}
use Rattle.metadata.proofs.Fields.{kept8}
use Rattle.metadata.proofs.Parts.{three-same}
use Rattle.metadata.proofs.section.tails_from.Goals as goal

pub returns : goal.returns
unfolding tails_from
returns c =
    three-same _ _ _ _ _ _ (kept8 c.get_i64.ensures (search rules)) (kept8 c.get_i64-2.ensures (search rules)) (kept8 c.get_i64-3.ensures (search rules))
