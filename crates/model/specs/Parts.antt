-- A part of a lent log as an answer: the part, or for a refusal the empty part, and the number that its companion call answers
-- ("Answers, by number" in document 01, first paragraph).
use Rattle.std.specs.Prelude.{ℕ, ◌-◌, List, [], take, drop, ℤ, pos, Result, Ok, Err, ⊤}
use Rattle.model.specs.declared.Error.{Error}
use Rattle.model.specs.declared.Span.{Span}
use Rattle.model.specs.Errors.{number_of}

-- the span from the first index to the one after the last
abbrev pub span_at : ℕ → ℕ → Result Span Error
span_at from to = Ok (record { start = from; end = to })

abbrev pub located_by : ℕ → ℕ → Result ⊤ Error → Result Span Error
located_by from to (Ok _) = span_at from to
located_by from to (Err e) = Err e

abbrev pub part_of : List ℕ → Result Span Error → List ℕ
part_of log (Ok span) = take (span.end - span.start) (drop span.start log)
part_of log (Err e) = []

abbrev pub located_number : Result Span Error → ℤ
located_number (Ok span) = pos 0
located_number (Err e) = number_of e
