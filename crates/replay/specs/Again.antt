-- A replay that is refused stands before what it could not read: the next call refuses the same, and leaves it there.
use Rattle.std.specs.Prelude.{◌≡◌, ℕ, List, Err}
use Rattle.model.specs.declared.LogRecord.{LogRecord}
use Rattle.model.specs.declared.Error.{Error}
use Rattle.model.specs.Replay.{ReplayState, giving, next_of}

unfoldable pub RefusesAgain : Type 0
RefusesAgain =
    (r : LogRecord) (log : List ℕ) (s : ReplayState) (e : Error) → (next_of r log s).answer ≡ Err e
    → next_of r log (next_of r log s).next ≡ giving (next_of r log s).next (Err e)
