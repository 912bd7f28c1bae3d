-- The two calls: their refusals, in order 1, 25, 2, what is read, and what the output holds. Read Theorems next.
use Rattle.std.specs.Prelude.{ℕ, Bool, cond, List, eqb, leb, length, ℤ, pos, Result, Ok, Err, ⊤}
use Rattle.model.specs.declared.LogRecord.{LogRecord}
use Rattle.model.specs.LogBufferDescriptor.{reading, sound_record}
use Rattle.model.specs.Publication.{no_record}
use Rattle.metadata.specs.declared.Beside.{Beside}
use Rattle.metadata.specs.declared.MetadataError.{MetadataError}
use Rattle.metadata.specs.declared.MetadataError.TheVariants.{IllegalArgument, IllegalRecord, IllegalMetadata}
use Rattle.metadata.specs.declared.MetadataReply.{MetadataReply}
use Rattle.metadata.specs.Metadata.{section, accepted, record_from}

-- ---- the papers' number of each refusal, and of each answer: 0 where it was done

abbrev pub error_number : MetadataError → ℤ
error_number IllegalArgument = pos 1
error_number IllegalRecord = pos 2
error_number IllegalMetadata = pos 25

abbrev pub answer_number : Result ⊤ MetadataError → ℤ
answer_number (Ok _) = pos 0
answer_number (Err e) = error_number e

-- ---- the rows of both calls: a slice of at most 2147483647 bytes, a section, a sound record

abbrev pub rows : Bool → Bool → Bool → Result ⊤ MetadataError
rows good fit sound = cond good (cond fit (cond sound (Ok tt) (Err IllegalRecord)) (Err IllegalMetadata)) (Err IllegalArgument)

-- the output: the new bytes where it was done, else as it was
abbrev pub output_by : Result ⊤ MetadataError → List ℕ → List ℕ → List ℕ
output_by (Ok _) new out = new
output_by (Err e) new out = out

-- what is read: the record where it was done, else one of zeros, as a refused opening answers
abbrev pub read_by : Result ⊤ MetadataError → LogRecord → MetadataReply
read_by (Ok _) r = record { next = r; answer = Ok tt }
read_by (Err e) r = record { next = no_record; answer = Err e }

-- ---- the calls: no log is lent, so row 2 asks for the record's own ranges alone

unfoldable pub write_of : LogRecord → ℕ → Result ⊤ MetadataError
write_of r out = rows (leb out 2147483647) (eqb out 320) (sound_record (reading r))

unfoldable pub write_bytes : LogRecord → List ℕ → List ℕ
write_bytes r out = output_by (write_of r (length out)) (section r) out

unfoldable pub read_of : List ℕ → Beside → MetadataReply
read_of s b = read_by (rows (leb (length s) 2147483647) (accepted s) (sound_record (reading (record_from s b)))) (record_from s b)
