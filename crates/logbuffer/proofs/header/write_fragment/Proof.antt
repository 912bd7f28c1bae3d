-- Header, reserved value and body, laid one behind the other, and the length over them.
use Rattle.std.proofs.Common.{arith, rules}
use Rattle.logbuffer.proofs.Headers.{fragment-by}
use Rattle.logbuffer.proofs.header.write_fragment.Statement.{statement}
use Rattle.logbuffer.proofs.header.write_fragment.Tie as tie

returns : tie.Need-returns
returns c = let s = c in
    fragment-by s.args.log.now _ _ _ _ s.args.at s.args.v s.args.offset c.negated.result s.args.flags s.args.reserved s.args.body.now (omega (arith, s.requires.0))
    c.write_header.ensures c.put8.ensures c.copy.ensures c.put4.ensures

pub write_fragment_spec : {M : Type 1} → statement M
write_fragment_spec =
    tie.close
    (tie.spec
    (search rules)
    (search rules)
    (search rules)
    (search rules)
    (search rules)
    (search rules)
    (search rules)
    (search rules)
    (search rules)
    (search rules)
    returns)
