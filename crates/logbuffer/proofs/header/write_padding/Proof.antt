-- Where the term has room the header is written over it, its length last, else nothing is.
use Rattle.std.proofs.Common.{◌+◌, ◌-◌, arith, rules, le-ltb, lt-ltb}
use Rattle.model.specs.TermAppender.{padded}
use Rattle.logbuffer.proofs.Headers.{finished-by}
use Rattle.logbuffer.proofs.header.write_padding.Statement.{statement}
use Rattle.logbuffer.proofs.header.write_padding.Tie as tie

write-header-requires : tie.Need-write_header-requires
write-header-requires c κs = let s = c in let h = s.requires.1.1.1 (omega arith) in omega arith

put4-requires : tie.Need-put4-requires
put4-requires c κs = let s = c in let h = s.requires.1.1.1 (omega arith) in omega arith

returns : tie.Need-returns-then-offset-term
unfolding padded
returns c = let s = c in
    simp (lt-ltb _ _ c.if-offset-term.true)
    (finished-by s.args.log.now _ _ (s.args.base + s.args.v.offset) s.args.v s.args.v.offset c.negated.result (s.args.v.term - s.args.v.offset) 192 0 (omega (arith, s.requires.0))
    c.write_header.ensures c.put4.ensures)

returns-2 : tie.Need-returns-else-offset-term
unfolding padded
returns-2 c = simp (le-ltb _ _ c.if-offset-term.false)

pub write_padding_spec : {M : Type 1} → statement M
write_padding_spec =
    tie.close
    (tie.spec
    (search rules)
    (search rules)
    (search rules)
    write-header-requires
    (search rules)
    put4-requires
    (search rules)
    returns
    returns-2)
