-- Where the claim's frame fits it lies inside its partition, and so in the log.
use Rattle.std.proofs.Common.{length, arith, rules}
use Rattle.logbuffer.proofs.Ways.{fits-true}
use Rattle.logbuffer.proofs.term_appender.claim_fit.Goals as goal

pub overflow_mul-partition : goal.overflow_mul-partition
overflow_mul-partition c = let f = fits-true c.args.numbers (length c.args.log.now) c.args.partition c.args.body_length (search rules) in omega (arith, f.inside, f.term-high)

pub write_claim-requires : goal.write_claim-requires
write_claim-requires c =
    let f = fits-true c.args.numbers (length c.args.log.now) c.args.partition c.args.body_length (search rules) in
    (omega (arith, f.room, f.inside), (f.id-in, omega (arith, f.room, f.term-high)))

pub overflow_add-result : goal.overflow_add-result
overflow_add-result c = omega (arith, (fits-true c.args.numbers (length c.args.log.now) c.args.partition c.args.body_length (search rules)).whole)

pub overflow_add-result-2 : goal.overflow_add-result-2
overflow_add-result-2 c = omega (arith, (fits-true c.args.numbers (length c.args.log.now) c.args.partition c.args.body_length (search rules)).whole)

pub overflow_mul-result : goal.overflow_mul-result
overflow_mul-result c = omega (arith, (fits-true c.args.numbers (length c.args.log.now) c.args.partition c.args.body_length (search rules)).whole)

pub overflow_add-result-3 : goal.overflow_add-result-3
overflow_add-result-3 c = let f = fits-true c.args.numbers (length c.args.log.now) c.args.partition c.args.body_length (search rules) in omega (arith, f.room, f.term-high)
