-- The arithmetic is the sum over the frames; a quotient is no more than what is divided.
use Rattle.std.proofs.Common.{◌+◌, ◌-◌, sym, div-le_self, arith, rules}
use Rattle.model.proofs.Cut.{need-sum}
use Rattle.logbuffer.proofs.term_appender.fragmented_need.Statement.{statement}
use Rattle.logbuffer.proofs.term_appender.fragmented_need.Tie as tie

mul-result-2 : tie.Need-overflow_mul-result-2
mul-result-2 c = omega (arith, div-le_self (c.args.m + (c.args.payload - 1)) c.args.payload)

add-result-3 : tie.Need-overflow_add-result-3
add-result-3 c = omega (arith, div-le_self (c.args.m + (c.args.payload - 1)) c.args.payload)

returns : tie.Need-returns
returns c = sym (need-sum c.args.payload c.args.m (omega arith) (omega arith) (omega arith))

pub fragmented_need_spec : {M : Type 1} → statement M
fragmented_need_spec =
    tie.close
    (tie.spec
    (search rules)
    (search rules)
    (search rules)
    (search rules)
    (search rules)
    mul-result-2
    add-result-3
    returns)
