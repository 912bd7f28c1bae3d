-- Whether position, limit and window are answered: 2, 5. `numbered` (proofs/Position.antt) is the law that the calls go by it.
use Rattle.std.specs.Prelude.{cond, Result, Ok, Err, ⊤}
use Rattle.model.specs.declared.Error.{Error}
use Rattle.model.specs.declared.Reading.{Reading}
use Rattle.model.specs.declared.Error.TheVariants.{IllegalRecord, PublicationClosed}
use Rattle.model.specs.LogBufferDescriptor.{sound_record}

unfoldable pub number_verdict : Reading → Result ⊤ Error
number_verdict v = cond (sound_record v) (cond v.closed (Err PublicationClosed) (Ok tt)) (Err IllegalRecord)
