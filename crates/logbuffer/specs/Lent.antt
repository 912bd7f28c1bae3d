-- Where a lent part lies: its distance from the beginning of the log. The empty part of a refusal lies at the beginning.
use Rattle.std.specs.Prelude.{ℕ, Result, Ok, Err}
use Rattle.model.specs.declared.Error.{Error}
use Rattle.model.specs.declared.Span.{Span}

abbrev pub start_of : Result Span Error → ℕ
start_of (Ok span) = span.start
start_of (Err e) = 0
