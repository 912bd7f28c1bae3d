-- The words of a record that is read from a metadata section: all of them, or as they were where it was refused. Read Words first.
use Rattle.std.specs.Prelude.{List, ℤ, Result, Ok, Err, ⊤}
use Rattle.metadata.specs.declared.MetadataError.{MetadataError}
use Rattle.model.specs.declared.LogRecord.{LogRecord}
use Rattle.metadata.specs.declared.MetadataReply.{MetadataReply}
use Rattle.capi.specs.Words.{record_filled}

abbrev pub read_by : List ℤ → LogRecord → Result ⊤ MetadataError → List ℤ
read_by w r (Ok _) = record_filled w r
read_by w r (Err e) = w

abbrev pub read_out : List ℤ → MetadataReply → List ℤ
read_out w o = read_by w o.next o.answer
