-- Whether the partition that is due next, by a count that was read, is marked in a record.
use Rattle.std.specs.Prelude.{Bool}
use Rattle.model.specs.declared.LogRecord.{LogRecord}
use Rattle.model.specs.declared.Reading.{Reading}
use Rattle.model.specs.LogBufferDescriptor.{due, is_marked}

abbrev pub next_marked : LogRecord → Reading → Bool
next_marked r v = is_marked r (due v.count)
