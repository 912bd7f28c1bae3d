-- Six words laid one behind the other are the header.
use Rattle.std.proofs.Common.{arith, rules}
use Rattle.logbuffer.proofs.Headers.{header-by}
use Rattle.logbuffer.proofs.header.write_header.Statement.{statement}
use Rattle.logbuffer.proofs.header.write_header.Tie as tie

returns : tie.Need-returns
returns c = let s = c in
    header-by s.args.log.now _ _ _ _ _ _ s.args.at s.args.v s.args.offset s.args.len s.args.flags s.args.kind (omega arith) (omega arith) (omega arith)
    c.put4.ensures c.put4-2.ensures c.put4-3.ensures c.put4-4.ensures c.put4-5.ensures c.put4-6.ensures

pub write_header_spec : {M : Type 1} → statement M
write_header_spec =
    tie.close
    (tie.spec
    (search rules)
    (search rules)
    (search rules)
    (search rules)
    (search rules)
    (search rules)
    (search rules)
    (search rules)
    (search rules)
    (search rules)
    (search rules)
    (search rules)
    (search rules)
    (search rules)
    (search rules)
    returns)
