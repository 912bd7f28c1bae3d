-- An array by value is known to hold numbers of its type.
use Rattle.capi.proofs.Passed.{array-fits}
use Rattle.capi.proofs.words.numbers.Goals as goal

pub returns : goal.returns
returns over c = array-fits over.row.N c.args.w _ c.well_formed.0
