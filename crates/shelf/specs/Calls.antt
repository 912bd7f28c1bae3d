-- The two calls: their refusals, in order 1, 2, 26, and what the output holds. Read Theorems next.
use Rattle.std.specs.Prelude.{ℕ, ◌+◌, ◌*◌, ◌%◌, Bool, cond, ◌&&◌, List, eqb, leb, length, take, drop, ℤ, pos, Result, Ok, Err, ⊤}
use Rattle.model.specs.declared.LogRecord.{LogRecord}
use Rattle.model.specs.declared.Reading.{Reading}
use Rattle.model.specs.Bytes.{word}
use Rattle.model.specs.LogBufferDescriptor.{reading, sound, sound_record, good_partition}
use Rattle.shelf.specs.declared.ShelfError.{ShelfError}
use Rattle.shelf.specs.declared.ShelfError.TheVariants.{IllegalArgument, IllegalRecord, NotFilled}
use Rattle.shelf.specs.Shelf.{filled, shelf_of, accepted, term_of}

-- ---- the papers' number of each refusal, and of each answer: 0 where it was done

abbrev pub error_number : ShelfError → ℤ
error_number IllegalArgument = pos 1
error_number IllegalRecord = pos 2
error_number NotFilled = pos 26

abbrev pub shelved_number : Result ⊤ ShelfError → ℤ
shelved_number (Ok _) = pos 0
shelved_number (Err e) = error_number e

-- ---- the rows, and the output: the new bytes where it was done, else as it was

abbrev pub rows : Bool → Bool → Bool → Result ⊤ ShelfError
rows good sound fit = cond good (cond sound (cond fit (Ok tt) (Err NotFilled)) (Err IllegalRecord)) (Err IllegalArgument)

abbrev pub output_by : Result ⊤ ShelfError → List ℕ → List ℕ → List ℕ
output_by (Ok _) new out = new
output_by (Err e) new out = out

-- Row 1: a partition, and an output of the term length and 4 more; in the inverse an output of the term length. Exact arithmetic on the number
-- that the record holds, sound or not: one below 0 shows 2^32 higher, and so does 4 less than an output below 4.
abbrev pub good_shelve : Reading → ℕ → ℕ → Bool
good_shelve v partition out = good_partition partition && (leb out 2147483647 && eqb v.term ((out + 4294967292) % 4294967296))

abbrev pub good_unshelve : Reading → ℕ → ℕ → Bool
good_unshelve v shelf out = leb shelf 2147483647 && (leb out 2147483647 && eqb out v.term)

-- ---- the calls

-- the bytes of a partition's term
abbrev pub term_in : List ℕ → ℕ → ℕ → List ℕ
term_in log partition term = take term (drop (partition * term) log)

abbrev pub lent : LogRecord → List ℕ → ℤ → List ℕ
lent rec log partition = term_in log (word partition) (reading rec).term

unfoldable pub shelve_of : LogRecord → List ℕ → ℤ → ℕ → Result ⊤ ShelfError
shelve_of rec log partition out =
    rows (good_shelve (reading rec) (word partition) out) (sound (reading rec) (length log)) (filled (lent rec log partition))

unfoldable pub shelve_bytes : LogRecord → List ℕ → ℤ → List ℕ → List ℕ
shelve_bytes rec log partition out = output_by (shelve_of rec log partition (length out)) (shelf_of (lent rec log partition)) out

-- no log is lent: row 2 asks for the record's own ranges alone
unfoldable pub unshelve_of : LogRecord → List ℕ → ℕ → Result ⊤ ShelfError
unshelve_of rec shelf out = rows (good_unshelve (reading rec) (length shelf) out) (sound_record (reading rec)) (accepted out shelf)

unfoldable pub unshelve_bytes : LogRecord → List ℕ → List ℕ → List ℕ
unshelve_bytes rec shelf out = output_by (unshelve_of rec shelf (length out)) (term_of (length out) shelf) out
