-- Where the frames fit they lie inside their partition, and so in the log.
use Rattle.std.proofs.Common.{length, arith, rules}
use Rattle.model.proofs.Append.{base-in}
use Rattle.model.proofs.Cut.{need-small}
use Rattle.logbuffer.proofs.Ways.{append-true, room-true}
use Rattle.logbuffer.proofs.term_appender.append_fragmented_fit.Goals as goal

pub has_room-requires : goal.has_room-requires
has_room-requires c =
    let a = c.args in
    let g = append-true a.numbers a.partition a.payload_limit (length a.message.now) (search rules) in
    omega (arith, need-small a.payload_limit (length a.message.now) g.low g.multiple, g.whole)

pub overflow_mul-partition : goal.overflow_mul-partition
overflow_mul-partition c =
    let a = c.args in
    let g = append-true a.numbers a.partition a.payload_limit (length a.message.now) (search rules) in
    let r = room-true a.numbers (length a.log.now) c.need_of-needed.result (search rules) in
    omega (arith, base-in a.partition a.numbers.term g.part, r.term-high)

pub write_fragments-requires : goal.write_fragments-requires
write_fragments-requires c =
    let a = c.args in
    let g = append-true a.numbers a.partition a.payload_limit (length a.message.now) (search rules) in
    let r = room-true a.numbers (length a.log.now) c.need_of-needed.result (search rules) in
    (omega (arith, base-in a.partition a.numbers.term g.part, r.three), (g.id-in, (omega (arith, g.low), (g.multiple, (omega (arith, r.room), omega (arith, r.term-high))))))

pub overflow_add-result : goal.overflow_add-result
overflow_add-result c =
    let r = room-true c.args.numbers (length c.args.log.now) c.need_of-needed.result (search rules) in
    omega (arith, r.room, r.term-high)
